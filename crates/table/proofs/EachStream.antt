-- A loop that changes one stream of a table after another, or one stream by turns, as one cell after another: at each turn the table
-- is laid out, and what the loop has not come to is as it was; a turn; the end. No place of an octet is in it.
use Prim.Native.Nat.{ℕ, zero, suc, ◌+◌, ◌≤◌, ◌<◌}
use native.Mathlib.Omega.{arith}
use native.Mathlib.Numerals.{add-one}
use mathlib.Core.Path.{◌≡◌, refl, sym, ap, ◌∙◌}
use mathlib.Core.List.{List, [], ◌∷◌, map}
use lib.ListN.{length, get_or, set}
use Rattle.model.specs.Lists.{All}
use Rattle.model.specs.State.{Cell, Stream, Bridge, fresh}
use Rattle.model.specs.Registrations.{at, change, holding, ids}
use Rattle.model.specs.Settling.{scene_of, source_of, Inbound, inbounds_of}
use Rattle.model.specs.Table.{encode, decode}
use Rattle.model.specs.Laid.{FitCell, FitStream, FitBridge, Laid}
use Rattle.model.proofs.Fits.{laid-is, laid-fits}
use Rattle.table.specs.Updates.{stream_at, with_stream}
use Rattle.table.specs.Places.{Stands}
use Rattle.table.proofs.Fitting.{holding-fits}
use Rattle.table.proofs.ByPlace.{encoded-laid, encoded-read, stream-same, stream-replaced-stands, stream-replaced-at, stream-replaced-again}

-- The first k of a list changed.

module _ {A : Type 0} (g : A → A) where
  unfoldable pub firsts : ℕ → List A → List A
  firsts zero l = l
  firsts (suc k) [] = []
  firsts (suc k) (x ∷ l) = g x ∷ firsts k l

  pub firsts-length : (k : ℕ) (l : List A) → length (firsts k l) ≡ length l
  unfolding firsts
  firsts-length zero l = refl
  firsts-length (suc k) [] = refl
  firsts-length (suc k) (x ∷ l) = ap suc (firsts-length k l)

  pub firsts-next : (k : ℕ) (l : List A) (d : A) → set (firsts k l) k (g (get_or (firsts k l) k d)) ≡ firsts (suc k) l
  unfolding firsts
  firsts-next zero [] d = refl
  firsts-next zero (x ∷ l) d = refl
  firsts-next (suc k) [] d = refl
  firsts-next (suc k) (x ∷ l) d = ap (λ (r : List A). g x ∷ r) (firsts-next k l d)

  pub firsts_at : (k : ℕ) (l : List A) → at k g (firsts k l) ≡ firsts (suc k) l
  unfolding at firsts
  firsts_at zero [] = refl
  firsts_at zero (x ∷ l) = refl
  firsts_at (suc k) [] = refl
  firsts_at (suc k) (x ∷ l) = ap (λ (r : List A). g x ∷ r) (firsts_at k l)

  pub firsts-before : (k : ℕ) (l : List A) (d : A) (j : ℕ) → j < k → j < length l → get_or (firsts k l) j d ≡ g (get_or l j d)
  unfolding firsts
  firsts-before zero l d j h n = absurd (omega arith)
  firsts-before (suc k) [] d j h n = absurd (omega arith)
  firsts-before (suc k) (x ∷ l) d zero h n = refl
  firsts-before (suc k) (x ∷ l) d (suc j) h n = firsts-before k l d j (omega arith) (omega arith)

  pub firsts-all : (l : List A) → firsts (length l) l ≡ map g l
  unfolding firsts
  firsts-all [] = refl
  firsts-all (x ∷ l) = ap (λ (r : List A). g x ∷ r) (firsts-all l)

  pub firsts-keep : (P : A → Type 0) → ((x : A) → P x → P (g x)) → (k : ℕ) (l : List A) → All P l → All P (firsts k l)
  unfolding firsts
  firsts-keep P keeps zero l a = a
  firsts-keep P keeps (suc k) [] a = tt
  firsts-keep P keeps (suc k) (x ∷ l) a = (keeps x a.0, firsts-keep P keeps k l a.1)

-- One stream after another.

module _ (g : Stream → Stream) where
  -- the bridge of t₀ with its first k streams changed
  unfoldable pub partly : List ℕ → ℕ → Bridge
  partly t₀ k = holding (decode t₀) (firsts g k (decode t₀).streams)

  -- a loop over all n of them, at stream k
  pub record Partly (t₀ : List ℕ) (n : ℕ) (t : List ℕ) (k : ℕ) : Type 0 where
    pub within : k ≤ n
    pub count : n ≡ length (decode t₀).streams
    pub size : length t ≡ length t₀
    pub is : t ≡ encode (partly t₀ k)

  pub none_yet : (t₀ : List ℕ) → Laid t₀ → t₀ ≡ encode (partly t₀ 0)
  unfolding partly firsts holding
  none_yet t₀ l = laid-is t₀ l

  pub all_done : (t₀ t : List ℕ) (k : ℕ) → t ≡ encode (partly t₀ k) → k ≡ length (decode t₀).streams
      → t ≡ encode (holding (decode t₀) (map g (decode t₀).streams))
  unfolding partly
  all_done t₀ t k e h =
      e
      ∙ ap (λ (j : ℕ). encode (holding (decode t₀) (firsts g j (decode t₀).streams))) h
      ∙ ap (λ (s : List Stream). encode (holding (decode t₀) s)) (firsts-all g (decode t₀).streams)

  module _ (keeps : (x : Stream) → FitStream x → FitStream (g x)) (same : (x : Stream) → (g x).id ≡ x.id) where
    firsts-ids : (k : ℕ) (s : List Stream) → ids (firsts g k s) ≡ ids s
    unfolding firsts ids
    firsts-ids zero s = refl
    firsts-ids (suc k) [] = refl
    firsts-ids (suc k) (x ∷ s) = rw (same x, firsts-ids k s)

    firsts-inbound : ((x : Stream) → (g x).cells ≡ x.cells) → (k : ℕ) (s : List Stream) → inbounds_of (firsts g k s) ≡ inbounds_of s
    unfolding firsts inbounds_of source_of
    firsts-inbound c zero s = refl
    firsts-inbound c (suc k) [] = refl
    firsts-inbound c (suc k) (x ∷ s) = rw (same x, c x, firsts-inbound c k s)

    module _ (t₀ : List ℕ) (l : Laid t₀) (k : ℕ) (t : List ℕ) (e : t ≡ encode (partly t₀ k)) where
      partly-fits : FitBridge (partly t₀ k)
      unfolding partly
      partly-fits =
          let w = laid-fits t₀ l in
          let s = (decode t₀).streams in
          holding-fits (decode t₀) w (firsts g k s) (omega (arith, firsts-length g k s, w.at_most_64)) (firsts-keep g FitStream keeps k s w.streams)
          (rw (firsts-ids k s) w.ascending)

      pub partly-laid : Laid t
      partly-laid = encoded-laid (partly t₀ k) partly-fits t e

      pub partly-read : decode t ≡ partly t₀ k
      partly-read = encoded-read (partly t₀ k) partly-fits t e

      pub partly-many : length (decode t).streams ≡ length (decode t₀).streams
      partly-many = ap (λ (b : Bridge). length b.streams) partly-read ∙ unfold partly holding in firsts-length g k (decode t₀).streams

      pub partly-settings : (decode t).settings ≡ (decode t₀).settings
      partly-settings = ap (λ (b : Bridge). b.settings) partly-read ∙ unfold partly holding in refl

      -- where the cells stay
      pub partly-scene : ((x : Stream) → (g x).cells ≡ x.cells) → scene_of (decode t) ≡ scene_of (decode t₀)
      partly-scene c =
          ap scene_of partly-read
          ∙ unfold partly holding in
          ap (λ (i : List Inbound). record { settings = (decode t₀).settings; owns = (decode t₀).owns; inbound = i }) (firsts-inbound c k (decode t₀).streams)

      -- a stream that is done
      pub partly-before : (j : ℕ) → j < k → k ≤ length (decode t₀).streams → stream_at j (decode t) ≡ g (stream_at j (decode t₀))
      partly-before j h n =
          ap (stream_at j) partly-read ∙ unfold partly holding in firsts-before g k (decode t₀).streams (fresh 0) j h (omega arith)

      pub partly-stands : k < length (decode t₀).streams → Stands t k
      partly-stands h = record { laid = partly-laid; held = omega (arith, partly-many) }

      pub one_more : (y : List ℕ) → y ≡ encode (with_stream k (g (stream_at k (decode t))) (decode t)) → y ≡ encode (partly t₀ (k + 1))
      one_more y q =
          q
          ∙ ap (λ (b : Bridge). encode (with_stream k (g (stream_at k b)) b)) partly-read
          ∙ unfold partly holding in rw (add-one) (ap (λ (s : List Stream). encode (holding (decode t₀) s)) (firsts-next g k (decode t₀).streams (fresh 0)))

-- One stream by turns: h p is the stream after p turns, of what it was.

module _ (h : ℕ → Stream → Stream) where
  -- the bridge of t₀ with stream k after p turns
  unfoldable pub partly_at : List ℕ → ℕ → ℕ → Bridge
  partly_at t₀ k p = with_stream k (h p (stream_at k (decode t₀))) (decode t₀)

  module _ {t₀ : List ℕ} {k : ℕ} (s : Stands t₀ k) where
    pub no-turn-yet : h 0 (stream_at k (decode t₀)) ≡ stream_at k (decode t₀) → t₀ ≡ encode (partly_at t₀ k 0)
    unfolding partly_at
    no-turn-yet q = stream-same s ∙ ap (λ (x : Stream). encode (with_stream k x (decode t₀))) (sym q)

    module _ (p : ℕ) (t : List ℕ) (e : t ≡ encode (partly_at t₀ k p)) where
      pub all-turns : (z : Stream) → h p (stream_at k (decode t₀)) ≡ z → t ≡ encode (with_stream k z (decode t₀))
      unfolding partly_at
      all-turns z q = e ∙ ap (λ (x : Stream). encode (with_stream k x (decode t₀))) q

      module _ (w : FitStream (h p (stream_at k (decode t₀)))) (i : (h p (stream_at k (decode t₀))).id ≡ (stream_at k (decode t₀)).id) where
        pub partly_at-stands : Stands t k
        unfolding partly_at
        partly_at-stands = stream-replaced-stands s (h p (stream_at k (decode t₀))) w i t e

        pub partly_at-here : stream_at k (decode t) ≡ h p (stream_at k (decode t₀))
        unfolding partly_at
        partly_at-here = stream-replaced-at s (h p (stream_at k (decode t₀))) w i t e

        -- g is what a turn does to the stream as it stands
        pub one-turn-more : (g : Stream → Stream) → g (h p (stream_at k (decode t₀))) ≡ h (p + 1) (stream_at k (decode t₀)) → (y : List ℕ)
            → y ≡ encode (with_stream k (g (stream_at k (decode t))) (decode t)) → y ≡ encode (partly_at t₀ k (p + 1))
        unfolding partly_at
        one-turn-more g n y q =
            stream-replaced-again s (h p (stream_at k (decode t₀))) w i t e (h (p + 1) (stream_at k (decode t₀))) y
            (q ∙ ap (λ (x : Stream). encode (with_stream k x (decode t))) (ap g partly_at-here ∙ n))

-- One cell of a stream after another.

module _ (u : Cell → Cell) where
  -- the first p cells changed
  abbrev pub cells_to : ℕ → Stream → Stream
  cells_to p = change (firsts u p) (λ m. m)

  pub cells-none : (x : Stream) → cells_to 0 x ≡ x
  unfolding change firsts
  cells-none x = refl

  pub cells-next : (p : ℕ) (x : Stream) → change (at p u) (λ m. m) (cells_to p x) ≡ cells_to (p + 1) x
  unfolding change
  cells-next p x = rw (add-one p, firsts_at u p x.cells)

  pub cells-done : (n : ℕ) (x : Stream) → length x.cells ≡ n → cells_to n x ≡ change (map u) (λ m. m) x
  unfolding change
  cells-done n x e = rw (← e, firsts-all u x.cells)

  pub cells-id : (p : ℕ) (x : Stream) → (cells_to p x).id ≡ x.id
  unfolding change
  cells-id p x = refl

  pub cells_fit : ((c : Cell) → FitCell c → FitCell (u c)) → (p : ℕ) (x : Stream) → FitStream x → FitStream (cells_to p x)
  unfolding change
  cells_fit keeps p x w = record {
    name = w.name;
    rank = w.rank;
    eight_cells = firsts-length u p x.cells ∙ w.eight_cells;
    cells = firsts-keep u FitCell keeps p x.cells w.cells;
    eight_results = w.eight_results;
    results = w.results;
    eight_sends = w.eight_sends;
    sends = w.sends;
  }
