-- One of many things of n octets each, among other octets: read, or replaced.
use Prim.Native.Nat.{ℕ, zero, suc, ◌+◌, ◌*◌, ◌≤◌, ◌<◌}
use native.Mathlib.Omega.{arith}
use mathlib.Core.Path.{◌≡◌, refl, sym, ap, ◌∙◌}
use mathlib.Core.List.{List, [], ◌∷◌, ◌++◌, append_assoc, append-nil}
use lib.ListN.{length, get_or, set, take, drop, length-append}
use lib.Seq.{drop-length, split_at, set_split, length-take-le}
use Rattle.octets.specs.Parts.{part, patch}
use Rattle.octets.specs.Fields.{flat}
use Rattle.octets.proofs.Fields.{flat_append}
pub use Rattle.octets.proofs.Patches.{lent-patch, patch-between}
use Rattle.model.specs.Lists.{All}
use Rattle.model.specs.Registrations.{at}
use Rattle.model.proofs.Lists.{all_take}
pub use Rattle.model.proofs.Lists.{all-at, all_get_or}
use Rattle.model.proofs.Parts.{Sized, part-between, length-flat-sized}

-- one of a list changed, as what is read there is replaced
pub at_set : {A : Type 0} (p : ℕ) (u : A → A) (l : List A) (d : A) → p < length l → set l p (u (get_or l p d)) ≡ at p u l
unfolding at
at_set p u [] d h = absurd (omega arith)
at_set zero u (c ∷ l) d h = refl
at_set {A = A} (suc p) u (c ∷ l) d h = ap (λ (m : List A). c ∷ m) (at_set p u l d (omega arith))

-- all octets replaced
pub patch-whole : (n : ℕ) (y s : List ℕ) → length s ≡ n → patch 0 n y s ≡ y
unfolding patch
patch-whole n y s e = rw (← e, drop-length s, append-nil y)

-- things of n octets each after m octets, with others behind
module _ {A : Type 0} (n : ℕ) (to : A → List ℕ) (m : ℕ) (before after : List ℕ) (size : length before ≡ m) where
  around : (l r : List A) (x : A) → before ++ (flat to (l ++ x ∷ r) ++ after) ≡ (before ++ flat to l) ++ (to x ++ (flat to r ++ after))
  unfolding flat
  around l r x = simp (flat_append to, append_assoc)

  module _ (l : List A) (sized : All (Sized n to) l) where
    place : (k a : ℕ) → k ≤ length l → a ≡ m + k * n → length (before ++ flat to (take k l)) ≡ a
    place k a h e =
        let b = flat to (take k l) in
        let c : length (take k l) * n ≡ k * n = ap (λ (i : ℕ). i * n) (length-take-le k l h) in
        omega (arith, length-append before b, length-flat-sized n to (take k l) (all_take (Sized n to) k l sized))

    module _ (k a : ℕ) (h : k < length l) (e : a ≡ m + k * n) where
      pub part-one : (d : A) → part a n (before ++ (flat to l ++ after)) ≡ to (get_or l k d)
      part-one d =
          let f = take k l in
          let r = drop (suc k) l in
          ap (λ (s : List A). part a n (before ++ (flat to s ++ after))) (split_at l k d h)
          ∙ ap (part a n) (around f r (get_or l k d))
          ∙ part-between (before ++ flat to f) (to (get_or l k d)) (flat to r ++ after) a n (place k a (omega arith) e) (all-at (Sized n to) l sized k d h)

      pub patch-one : (x : A) → patch a n (to x) (before ++ (flat to l ++ after)) ≡ before ++ (flat to (set l k x) ++ after)
      patch-one x =
          let f = take k l in
          let r = drop (suc k) l in
          let y = get_or l k x in
          ap (λ (s : List A). patch a n (to x) (before ++ (flat to s ++ after))) (split_at l k x h)
          ∙ ap (patch a n (to x)) (around f r y)
          ∙ patch-between (before ++ flat to f) (to y) (flat to r ++ after) (to x) a n (place k a (omega arith) e) (all-at (Sized n to) l sized k x h)
          ∙ sym (ap (λ (s : List A). before ++ (flat to s ++ after)) (set_split l k x h) ∙ around f r x)
