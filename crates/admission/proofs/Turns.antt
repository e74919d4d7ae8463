-- The turns of streams, one after another, on a laid-out table.
use Prim.Native.Nat.{ℕ, ◌+◌, ◌-◌, ◌%◌, ◌≤◌, ◌<◌}
use mathlib.Core.Path.{◌≡◌, refl, ap, ◌∙◌}
use mathlib.Core.List.{List, []}
use mathlib.Core.Bool.{true, false}
use native.Mathlib.Omega.{arith}
use native.Mathlib.Numerals.{add-one}
use lib.ListN.{length, get_or, set, drop, length-set}
use lib.Seq.{drop-cons, drop-length}
use borrow.Author.Tests.{le-leb, lt-leb}
use Rattle.model.specs.State.{Settings, Class, Stream, Bridge, result_at}
use Rattle.model.specs.Registrations.{holding}
use Rattle.model.specs.Table.{decode, encode}
use Rattle.model.specs.Laid.{FitStream, Laid}
use Rattle.model.proofs.Lists.{all-at}
use Rattle.model.proofs.Fits.{laid-is, laid-fits}
use Rattle.table.specs.Updates.{resulting, stream_at, with_stream}
use Rattle.table.specs.Places.{StandsOn}
use Rattle.table.proofs.ByPlace.{stands, stream-fits, stream-same, stream-replaced-laid, stream-replaced-read}
use Rattle.columns.specs.Stages.{lacking, with_result}
use Rattle.admission.specs.Sharing.{demand_in, is_heard, used_after, after_turn, used_by, after_turns, turn_at, used_on, turns_on}
use Rattle.admission.specs.Numbers.{Numbered, Turned, TookTurns}
use Rattle.admission.proofs.FitKept.{turn-fits, turn-id}

-- One turn, by the demand d.

module _ (st : Settings) (p : ℕ) (c : Class) (limit used : ℕ) (x : Stream) (d : ℕ) (e : d ≡ demand_in st p c x) where
  lacks : limit - used < d → with_result p (lacking st (result_at x p)) x ≡ after_turn st p c limit used x
  unfolding after_turn
  lacks h = rw (lt-leb (demand_in st p c x) (limit - used) (omega arith))

  lacks-used : limit - used < d → used ≡ used_after st p c limit used x
  unfolding used_after
  lacks-used h = rw (lt-leb (demand_in st p c x) (limit - used) (omega arith))

  module _ (h : d ≤ limit - used) where
    fits : x ≡ after_turn st p c limit used x
    unfolding after_turn
    fits = rw (le-leb (demand_in st p c x) (limit - used) (omega arith))

    fits-heard : is_heard p x ≡ true → used + d ≡ used_after st p c limit used x
    unfolding used_after
    fits-heard g = rw (le-leb (demand_in st p c x) (limit - used) (omega arith), g, e)

    fits-unheard : is_heard p x ≡ false → used ≡ used_after st p c limit used x
    unfolding used_after
    fits-unheard g = rw (le-leb (demand_in st p c x) (limit - used) (omega arith), g)

module _ {t : List ℕ} {k p : ℕ} (s : StandsOn t k p) (c : Class) (limit used : ℕ) (w : used ≤ limit)
    (d : ℕ) (e : d ≡ demand_in (decode t).settings p c (stream_at k (decode t))) where
  abbrev st : Settings
  st = (decode t).settings

  abbrev x : Stream
  x = stream_at k (decode t)

  pub turn-lacks : limit - used < d → (u : List ℕ) → u ≡ encode (with_stream k (resulting (λ l. set l p (lacking st (result_at x p))) x) (decode t))
      → Turned p c limit k used (decode t) u used
  unfolding with_result
  turn-lacks h u q = record {
    table = q ∙ ap (λ (y : Stream). encode (with_stream k y (decode t))) (lacks st p c limit used x d e h);
    used = lacks-used st p c limit used x d e h;
    within = w;
  }

  module _ (h : d ≤ limit - used) where
    as_it_was : t ≡ encode (turn_at p c limit k used (decode t))
    as_it_was = stream-same (stands s) ∙ ap (λ (y : Stream). encode (with_stream k y (decode t))) (fits st p c limit used x d e h)

    pub turn-heard : is_heard p x ≡ true → Turned p c limit k used (decode t) t (used + d)
    turn-heard g = record { table = as_it_was; used = fits-heard st p c limit used x d e h g; within = omega arith }

    pub turn-unheard : is_heard p x ≡ false → Turned p c limit k used (decode t) t used
    turn-unheard g = record { table = as_it_was; used = fits-unheard st p c limit used x d e h g; within = w }

-- Those of the numbers.

module _ (t₀ numbers : List ℕ) (p : ℕ) (c : Class) (limit : ℕ) where
  -- from number i on they are left, so much being used
  pub record Turning (t : List ℕ) (used i : ℕ) : Type 0 where
    pub laid : Laid t
    pub within : used ≤ limit
    pub many : length (decode t).streams ≡ length (decode t₀).streams
    pub total : used_on p c limit (drop i numbers) used (decode t) ≡ used_on p c limit numbers 0 (decode t₀)
    pub whole : turns_on p c limit (drop i numbers) used (decode t) ≡ turns_on p c limit numbers 0 (decode t₀)

  pub turns-start : Laid t₀ → Turning t₀ 0 0
  turns-start l = record { laid = l; within = omega arith; many = refl; total = refl; whole = refl }

  module _ (t : List ℕ) (used i : ℕ) (w : Turning t used i) where
    -- the next
    module _ (q : Numbered t₀ numbers) (port : p < 8) (h : i < length numbers) where
      abbrev k : ℕ
      k = get_or numbers i 0 % 64

      pub next-stands : StandsOn t k p
      next-stands =
          let placed = all-at (λ m. m % 64 < length (decode t₀).streams) numbers q.placed i 0 h in
          record { laid = w.laid; held = omega (arith, w.many, placed); port = port }

      module _ (u : List ℕ) (next : ℕ) (d : Turned p c limit k used (decode t) u next) where
        turn-keeps : FitStream (after_turn (decode t).settings p c limit used (stream_at k (decode t)))
        turn-keeps = turn-fits (decode t).settings p c (laid-fits t w.laid).settings port (stream_at k (decode t)) (stream-fits (stands next-stands)) limit used

        after-turn : decode u ≡ turn_at p c limit k used (decode t)
        after-turn = stream-replaced-read (stands next-stands) _ turn-keeps (turn-id (decode t).settings p c limit used (stream_at k (decode t))) u d.table

        pub turns_next : Turning u next (i + 1)
        unfolding holding used_by after_turns
        turns_next = record {
          laid = stream-replaced-laid (stands next-stands) _ turn-keeps (turn-id (decode t).settings p c limit used (stream_at k (decode t))) u d.table;
          within = d.within;
          many = ap (λ (b : Bridge). length b.streams) after-turn ∙ length-set (decode t).streams k _ ∙ w.many;
          total = rw (d.used, after-turn, add-one) (rw (drop-cons numbers i 0 h) at w.total);
          whole = rw (d.used, after-turn, add-one) (rw (drop-cons numbers i 0 h) at w.whole);
        }

    -- the end
    module _ (e : i ≡ length numbers) where
      none_left : drop i numbers ≡ []
      none_left = rw (e, drop-length numbers)

      pub turns-done : TookTurns p c limit numbers (decode t₀) t used
      unfolding used_by after_turns holding
      turns-done = record {
        used = rw none_left at w.total;
        table = laid-is t w.laid ∙ ap encode (rw none_left at w.whole);
        within = w.within;
      }
