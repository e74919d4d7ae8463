-- What is done about one stream, by the place where its StreamID was found or is missing.
use Prim.Native.Nat.{ℕ, suc, ◌+◌, ◌≤◌, ◌<◌}
use native.Mathlib.Omega.{arith}
use mathlib.Core.Path.{◌≡◌, sym, ap, ◌∙◌}
use mathlib.Core.Bool.{Bool, true, false}
use mathlib.Core.List.{List, [], ◌∷◌, ◌++◌}
use lib.ListN.{length, get_or, set, take, drop, length-append, length-drop, take-append-drop}
use lib.Seq.{length-take-le, get_or_at, set-get_or}
use Rattle.model.specs.State.{Stream, fresh}
use Rattle.model.specs.Registrations.{begun, touch, ids}
use Rattle.model.proofs.Commute.{Change, Tri, less, same, more, tri, touch-nil, touch-before, touch-here, touch-past}
use Rattle.std.specs.Prelude.{Result, Ok, Err}
use Rattle.table.specs.Find.{found_at}
use Rattle.table.proofs.Finding.{found_before, found_here, found-past}

-- the search for i in streams of which the first stands at place n: what it finds, and what is done about i
data Search (i n : ℕ) (s : List Stream) : Type 0 where
  there : (k : ℕ) → found_at i n (ids s) ≡ Ok (n + k) → k < length s → (get_or s k (fresh 0)).id ≡ i
      → ((b : Bool) (u : Change) → touch b i u s ≡ set s k (u (get_or s k (fresh 0)))) → Search i n s
  missing : (k : ℕ) → found_at i n (ids s) ≡ Err (n + k) → k ≤ length s
      → ((b : Bool) (u : Change) → touch b i u s ≡ take k s ++ begun b i u (drop k s)) → Search i n s

search-for : (i n : ℕ) (s : List Stream) → Search i n s
unfolding ids
search-for i n [] = missing 0 (unfold found_at in ap Err (omega arith)) (omega arith) (λ b u. touch-nil b i u)
search-for i n (x ∷ s) = go (tri i x.id) (search-for i (suc n) s)
  where
    go : Tri i x.id → Search i (suc n) s → Search i n (x ∷ s)
    go (less h) r = missing 0 (found_before i n x.id (ids s) h ∙ ap Err (omega arith)) (omega arith) (λ b u. touch-before b i u x s h)
    go (same h) r = there 0 (found_here i n x.id (ids s) h ∙ ap Ok (omega arith)) (omega arith) (sym h) (λ b u. touch-here b i u x s h)
    go (more h) (there k f l e t) =
        there (suc k) (found-past i n x.id (ids s) h ∙ f ∙ ap Ok (omega arith)) (omega arith) e
        (λ b u. touch-past b i u x s h ∙ ap (λ (z : List Stream). x ∷ z) (t b u))
    go (more h) (missing k f l t) =
        missing (suc k) (found-past i n x.id (ids s) h ∙ f ∙ ap Err (omega arith)) (omega arith)
        (λ b u. touch-past b i u x s h ∙ ap (λ (z : List Stream). x ∷ z) (t b u))

-- What was searched is found or missing, not both.
pub not-both : {r : Result ℕ ℕ} {j k : ℕ} → r ≡ Ok j → r ≡ Err k → ⊥
not-both f g = let z : ◌≡◌ {A = ℕ} 0 1 = cc in omega arith

-- Found.

pub record AtPlace (i k : ℕ) (s : List Stream) : Type 0 where
  pub within : k < length s
  pub is : (get_or s k (fresh 0)).id ≡ i
  pub touched : (b : Bool) (u : Change) → touch b i u s ≡ set s k (u (get_or s k (fresh 0)))

pub at_place : (i k : ℕ) (s : List Stream) → found_at i 0 (ids s) ≡ Ok k → AtPlace i k s
at_place i k s f = go (search-for i 0 s)
  where
    go : Search i 0 s → AtPlace i k s
    go (there j g l e t) =
        let p : k ≡ 0 + j = cc in
        let q : j ≡ k = omega arith in
        rw (← q) record { within = l; is = e; touched = t }
    go (missing j g l t) = absurd (not-both f g)

-- Not found: a join makes the stream there, and anything else does nothing.

pub record AtGap (i k : ℕ) (s : List Stream) : Type 0 where
  pub within : k ≤ length s
  pub joined : (u : Change) → touch true i u s ≡ take k s ++ (u (fresh i) ∷ drop k s)
  pub untouched : (u : Change) → touch false i u s ≡ s

pub at_gap : (i k : ℕ) (s : List Stream) → found_at i 0 (ids s) ≡ Err k → AtGap i k s
unfolding begun
at_gap i k s f = go (search-for i 0 s)
  where
    go : Search i 0 s → AtGap i k s
    go (there j g l e t) = absurd (not-both g f)
    go (missing j g l t) =
        let p : k ≡ 0 + j = cc in
        let q : j ≡ k = omega arith in
        rw (← q) record { within = l; joined = t true; untouched = λ u. t false u ∙ take-append-drop j s }

-- A stream that was put in is there.

module _ (i k : ℕ) (s : List Stream) (h : k ≤ length s) where
  pub get_or-put-in : get_or (take k s ++ (fresh i ∷ drop k s)) k (fresh 0) ≡ fresh i
  get_or-put-in = get_or_at (take k s) (fresh i) (drop k s) (fresh 0) k (length-take-le k s h)

  pub length-put-in : length (take k s ++ (fresh i ∷ drop k s)) ≡ length s + 1
  length-put-in = length-append (take k s) (fresh i ∷ drop k s) ∙ omega (arith, length-take-le k s h, length-drop k s)

-- a join that changes nothing puts the stream in where it is missing, and leaves the streams where it is held
pub room_at : (i k : ℕ) (s : List Stream) → found_at i 0 (ids s) ≡ Ok k → touch true i (λ x. x) s ≡ s
room_at i k s f = (at_place i k s f).touched true (λ x. x) ∙ set-get_or s k (fresh 0)

pub room-gap : (i k : ℕ) (s : List Stream) → found_at i 0 (ids s) ≡ Err k → touch true i (λ x. x) s ≡ take k s ++ (fresh i ∷ drop k s)
room-gap i k s f = (at_gap i k s f).joined (λ x. x)
