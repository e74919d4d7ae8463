-- The machines of a type moved, one stream after another: at each turn the table is laid out, what the loop has not come to is as it was,
-- and how far the moves are; a turn; the end.
use mathlib.Core.Path.{◌≡◌, refl, ◌∙◌, ap, subst}
use mathlib.Core.List.{List, [], ◌∷◌, map}
use mathlib.Core.Bool.{Bool, true, false, cond}
use Prim.Native.Nat.{ℕ, zero, suc, ◌+◌, ◌≤◌, ◌<◌}
use native.Mathlib.Numerals.{add-one}
use native.Mathlib.Omega.{arith}
use lib.ListN.{length, get_or, set}
use lib.Dec.{ltb}
use Rattle.model.specs.Lists.{All, bit}
use Rattle.model.specs.Applicant.{Standing}
use Rattle.model.specs.Machines.{Applicant, no_applicant, applicant, with, applicant_of, moved}
use Rattle.model.specs.State.{Sends, Stream, Bridge, fresh, cell_at, sends_at, stream_at}
use Rattle.model.specs.Registrations.{Kind, advertises, faileds, listeners, change, move_kind, registered_in, holding, ids}
use Rattle.model.specs.Settling.{is_applicant}
use Rattle.model.specs.Writing.{machines, moved_kind}
use Rattle.model.specs.Table.{encode, decode}
use Rattle.model.specs.Laid.{FitApplicant, FitSends, FitStream, FitBridge, Laid}
use Rattle.model.proofs.Fits.{laid-is, laid-fits}
use Rattle.table.specs.Updates.{with_stream}
use Rattle.table.specs.Places.{StandsOn}
use Rattle.table.proofs.Fitting.{changed-sends-fit, holding-fits}
use Rattle.table.proofs.ByPlace.{encoded-laid, encoded-read}
use Rattle.moving.specs.declared.Span.{Span}
use Rattle.moving.specs.declared.Met.{Met}
use Rattle.moving.specs.Moves.{moved_by, met_by, met_sends, stream_moved, met_stream, met_kind, Encodes, Few, MovedStream, MovedKind}

-- octets of a bridge by another name
pub encodes : (b : Bridge) → FitBridge b → (u : List ℕ) → u ≡ encode b → (c : Bridge) → b ≡ c → Encodes c u
encodes b f u q c e = record { fits = subst FitBridge e f; is = q ∙ ap encode e }

-- What is moved fits its fields still.

moved-fits : {D : Type 0} (Fits : D → Type 0) (g : Standing → List Standing) (a : Applicant D) → FitApplicant Fits a → FitApplicant Fits (moved g a)
unfolding moved
moved-fits Fits g no_applicant h = tt
moved-fits Fits g (applicant x) h = go (g x.state)
  where
    go : (m : List Standing) → FitApplicant Fits (applicant_of (map (with x.value) m))
    go [] = unfold applicant_of in tt
    go (q ∷ m) = unfold applicant_of with in h

kind_fits : (j : Kind) (g : Standing → List Standing) (y : Sends) → FitSends y → FitSends (move_kind j g y)
unfolding move_kind
kind_fits advertises g y f = record { advertising = moved-fits _ g y.advertising f.advertising; failing = f.failing }
kind_fits faileds g y f = record { advertising = f.advertising; failing = moved-fits _ g y.failing f.failing }
kind_fits listeners g y f = record { advertising = f.advertising; failing = f.failing }

-- a place has one machine of a type, or none
pub bit-one : (b : Bool) → bit b ≤ 1
unfolding bit
bit-one true = omega arith
bit-one false = omega arith

machines-one : (j : Kind) (y : Sends) → machines j y ≤ 1
unfolding machines
machines-one advertises y = bit-one (is_applicant y.advertising)
machines-one faileds y = bit-one (is_applicant y.failing)
machines-one listeners y = bit-one (is_applicant y.listening)

-- so that a turn adds at most one to each count
pub met-one : (w : Span) (m : Met) (before after : ℕ) → before ≤ 1 → after ≤ 1 → (n : ℕ) → Few m n → Few (met_by w m before after) (suc n)
unfolding met_by
met-one w m before after b a n f = record { count = omega (arith, f.count, b); left = go (ltb m.count w.end) }
  where
    go : (t : Bool) → m.left + cond t after 0 ≤ suc n
    go true = omega (arith, f.left, a)
    go false = omega (arith, f.left)

module _ (w : Span) (j : Kind) (p : ℕ) where
  stream-fits : (i : ℕ) (x : Stream) → FitStream x → FitStream (stream_moved w i j p x)
  unfolding stream_moved
  stream-fits i x =
      let g = moved_by w i (registered_in j (cell_at x p)) in
      changed-sends-fit p (move_kind j g) (kind_fits j g) x

  -- the first k streams, and how far the moves are behind them

  unfoldable pub moved_to : ℕ → Met → List Stream → List Stream
  moved_to zero m s = s
  moved_to (suc k) m [] = []
  moved_to (suc k) m (x ∷ s) = stream_moved w m.count j p x ∷ moved_to k (met_stream w m j p x) s

  unfoldable pub met_to : ℕ → Met → List Stream → Met
  met_to zero m s = m
  met_to (suc k) m [] = m
  met_to (suc k) m (x ∷ s) = met_to k (met_stream w m j p x) s

  to-length : (k : ℕ) (m : Met) (s : List Stream) → length (moved_to k m s) ≡ length s
  unfolding moved_to
  to-length zero m s = refl
  to-length (suc k) m [] = refl
  to-length (suc k) m (x ∷ s) = ap suc (to-length k (met_stream w m j p x) s)

  to-ids : (k : ℕ) (m : Met) (s : List Stream) → ids (moved_to k m s) ≡ ids s
  unfolding moved_to ids stream_moved change
  to-ids zero m s = refl
  to-ids (suc k) m [] = refl
  to-ids (suc k) m (x ∷ s) = ap (λ (l : List ℕ). x.id ∷ l) (to-ids k (met_stream w m j p x) s)

  to-fit : (k : ℕ) (m : Met) (s : List Stream) → All FitStream s → All FitStream (moved_to k m s)
  unfolding moved_to
  to-fit zero m s a = a
  to-fit (suc k) m [] a = tt
  to-fit (suc k) m (x ∷ s) a = (stream-fits m.count x a.0, to-fit k (met_stream w m j p x) s a.1)

  to-next : (k : ℕ) (m : Met) (s : List Stream) (d : Stream)
      → set (moved_to k m s) k (stream_moved w (met_to k m s).count j p (get_or (moved_to k m s) k d)) ≡ moved_to (suc k) m s
  unfolding moved_to met_to
  to-next zero m [] d = refl
  to-next zero m (x ∷ s) d = refl
  to-next (suc k) m [] d = refl
  to-next (suc k) m (x ∷ s) d = ap (λ (l : List Stream). stream_moved w m.count j p x ∷ l) (to-next k (met_stream w m j p x) s d)

  met_next : (k : ℕ) (m : Met) (s : List Stream) (d : Stream) → k < length s → met_stream w (met_to k m s) j p (get_or (moved_to k m s) k d) ≡ met_to (suc k) m s
  unfolding moved_to met_to
  met_next k m [] d h = absurd (omega arith)
  met_next zero m (x ∷ s) d h = refl
  met_next (suc k) m (x ∷ s) d h = met_next k (met_stream w m j p x) s d (omega arith)

  to-all : (m : Met) (s : List Stream) → moved_to (length s) m s ≡ moved_kind (moved_by w) j p m.count s
  unfolding moved_to moved_kind stream_moved met_stream met_sends met_by
  to-all m [] = refl
  to-all m (x ∷ s) = ap (λ (l : List Stream). stream_moved w m.count j p x ∷ l) (to-all (met_stream w m j p x) s)

  met_all : (m : Met) (s : List Stream) → met_to (length s) m s ≡ met_kind w m j p s
  unfolding met_to met_kind
  met_all m [] = refl
  met_all m (x ∷ s) = met_all (met_stream w m j p x) s

  met-few : (k : ℕ) (m : Met) (s : List Stream) (n : ℕ) → Few m n → Few (met_to k m s) (n + k)
  unfolding met_to
  met-few zero m s n f = record { count = omega (arith, f.count); left = omega (arith, f.left) }
  met-few (suc k) m [] n f = record { count = omega (arith, f.count); left = omega (arith, f.left) }
  met-few (suc k) m (x ∷ s) n f =
      let y = move_kind j (moved_by w m.count (registered_in j (cell_at x p))) (sends_at x p) in
      let one : Few (met_stream w m j p x) (suc n) =
      unfold met_stream met_sends in met-one w m (machines j (sends_at x p)) (machines j y) (machines-one j (sends_at x p)) (machines-one j y) n f in
      let g = met-few k (met_stream w m j p x) s (suc n) one in
      record { count = omega (arith, g.count); left = omega (arith, g.left) }

  -- all of them
  pub kind-few : (m : Met) (s : List Stream) (n : ℕ) → Few m n → length s ≤ 64 → Few (met_kind w m j p s) (n + 64)
  kind-few m s n f h =
      let g = met-few (length s) m s n f in
      let e = met_all m s in
      record { count = omega (arith, g.count, ap (λ (r : Met). r.count) e, h); left = omega (arith, g.left, ap (λ (r : Met). r.left) e, h) }

  -- a loop over all n streams of t₀, at stream k
  module _ (m₀ : Met) (t₀ : List ℕ) where
    abbrev before : List Stream
    before = (decode t₀).streams

    unfoldable pub bridge_to : ℕ → Bridge
    bridge_to k = holding (decode t₀) (moved_to k m₀ before)

    pub record MovingTo (n : ℕ) (t : List ℕ) (m : Met) (k : ℕ) : Type 0 where
      pub within : k ≤ n
      pub count : n ≡ length before
      pub size : length t ≡ length t₀
      pub is : t ≡ encode (bridge_to k)
      pub met : m ≡ met_to k m₀ before

    module _ (l : Laid t₀) where
      pub none-moved-yet : t₀ ≡ encode (bridge_to 0)
      unfolding bridge_to moved_to holding
      none-moved-yet = laid-is t₀ l

      to-bridge-fits : (k : ℕ) → FitBridge (bridge_to k)
      unfolding bridge_to
      to-bridge-fits k =
          let f = laid-fits t₀ l in
          holding-fits (decode t₀) f (moved_to k m₀ before) (omega (arith, to-length k m₀ before, f.at_most_64)) (to-fit k m₀ before f.streams)
          (rw (to-ids k m₀ before) f.ascending)

      module _ (n : ℕ) (t : List ℕ) (m : Met) (k : ℕ) (v : MovingTo n t m k) where
        to_read : decode t ≡ bridge_to k
        to_read = encoded-read (bridge_to k) (to-bridge-fits k) t v.is

        to-many : length (decode t).streams ≡ length before
        to-many = ap (λ (b : Bridge). length b.streams) to_read ∙ unfold bridge_to holding in to-length k m₀ before

        pub next-stands : p < 8 → k < n → StandsOn t k p
        next-stands h g = record {
          laid = encoded-laid (bridge_to k) (to-bridge-fits k) t v.is;
          held = omega (arith, g, to-many, v.count);
          port = h;
        }

        pub next-few : Few m₀ 128 → Few m 256
        next-few f =
            let few = met-few k m₀ before 128 f in
            let h = (laid-fits t₀ l).at_most_64 in
            record {
              count = omega (arith, few.count, ap (λ (r : Met). r.count) v.met, h, v.within, v.count);
              left = omega (arith, few.left, ap (λ (r : Met). r.left) v.met, h, v.within, v.count);
            }

        pub next-moved : k < n → (r : Met) (u : List ℕ) → length u ≡ length t → MovedStream w m j k p t r u → MovingTo n u r (k + 1)
        next-moved g r u z q = record {
          within = omega (arith, g);
          count = v.count;
          size = z ∙ v.size;
          is =
              q.table
              ∙ ap (λ (i : Met). encode (with_stream k (stream_moved w i.count j p (stream_at k (decode t))) (decode t))) v.met
              ∙ ap (λ (b : Bridge). encode (with_stream k (stream_moved w (met_to k m₀ before).count j p (stream_at k b)) b)) to_read
              ∙ unfold bridge_to holding in rw (add-one k) (ap (λ (s : List Stream). encode (holding (decode t₀) s)) (to-next k m₀ before (fresh 0)));
          met =
              q.met
              ∙ ap (λ (i : Met). met_stream w i j p (stream_at k (decode t))) v.met
              ∙ ap (λ (b : Bridge). met_stream w (met_to k m₀ before) j p (stream_at k b)) to_read
              ∙ unfold bridge_to holding in rw (add-one k) (met_next k m₀ before (fresh 0) (omega (arith, g, v.count)));
        }

        all-bridge : k ≡ length before → bridge_to k ≡ holding (decode t₀) (moved_kind (moved_by w) j p m₀.count before)
        unfolding bridge_to
        all-bridge e = rw e (ap (λ (s : List Stream). holding (decode t₀) s) (to-all m₀ before))

        pub all_moved : n ≤ k → MovedKind w m₀ j p t₀ m t
        all_moved h =
            let e : k ≡ length before = omega (arith, h, v.within, v.count) in
            record {
              table = encodes (bridge_to k) (to-bridge-fits k) t v.is (holding (decode t₀) (moved_kind (moved_by w) j p m₀.count before)) (all-bridge e);
              met = v.met ∙ rw e (met_all m₀ before);
            }
