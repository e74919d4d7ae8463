-- The order of cuttings by weight: weight first, then the lengths. Its laws, and that it is the order of octets, vectors and lengths.
use mathlib.Core.Path.{◌≡◌, refl, ap}
use mathlib.Core.Bool.{Bool, true, false, cond}
use mathlib.Core.List.{List, [], ◌∷◌}
use Prim.Native.Nat.{ℕ, ◌+◌, ◌*◌, ◌≤◌, ◌<◌}
use native.Mathlib.Omega.{arith}
use lib.ListN.{length, length-append}
use lib.Dec.{ltb}
use borrow.Author.Tests.{ltb-true, ltb-false}
use Rattle.model.specs.Lists.{All}
use Rattle.model.specs.Cutting.{concat, Cutting, octets, Wider, NotAfter, Part}
use Rattle.model.specs.Best.{price, weight, lighter}

-- c weighs less than d, or as much and is d or has the longer vector where they first differ
abbrev pub Under : List (List ℕ) → List (List ℕ) → Type 0
Under c d = (weight c ≤ weight d) × (weight c ≡ weight d → Wider length c d)

-- the order is one of any size of a vector
module _ (size : List ℕ → ℕ) where
  pub wider-self : (c : List (List ℕ)) → Wider size c c
  wider-self [] = tt
  wider-self (g ∷ c) = (omega arith, λ e. wider-self c)

  pub wider-trans : (b c d : List (List ℕ)) → Wider size b c → Wider size c d → Wider size b d
  wider-trans [] [] [] p q = tt
  wider-trans [] [] (h ∷ d) p q = q
  wider-trans [] (g ∷ c) d p q = absurd p
  wider-trans (f ∷ b) c [] p q = tt
  wider-trans (f ∷ b) [] (h ∷ d) p q = absurd q
  wider-trans (f ∷ b) (g ∷ c) (h ∷ d) p q = (omega arith, λ e. wider-trans b c d (p.1 (omega arith)) (q.1 (omega arith)))

pub under-self : (c : List (List ℕ)) → Under c c
under-self c = (omega arith, λ e. wider-self length c)

pub under-trans : (b c d : List (List ℕ)) → Under b c → Under c d → Under b d
under-trans b c d p q = (omega arith, λ e. wider-trans length b c d (p.1 (omega arith)) (q.1 (omega arith)))

-- behind the same first vector, the rests decide
pub under-cons : (g : List ℕ) (c d : List (List ℕ)) → Under c d → Under (g ∷ c) (g ∷ d)
under-cons g c d p = (omega arith, λ e. (omega arith, λ f. p.1 (omega arith)))

-- a cutting that begins with at most n declarations
abbrev pub Begins : ℕ → List (List ℕ) → Type 0
Begins n [] = ⊥
Begins n (g ∷ c) = length g ≤ n

-- of two, where the second begins with the longer vector, `lighter` takes one that is under both: only weights are compared
module _ (n : ℕ) (c : List (List ℕ)) (b : Begins n c) (h : List ℕ) (d : List (List ℕ)) (l : n < length h) where
  pub lighter-first : Under (lighter c (h ∷ d)) c
  unfolding lighter
  lighter-first = go (ltb (weight c) (weight (h ∷ d))) refl
    where
      wide : (c : List (List ℕ)) → Begins n c → Wider length (h ∷ d) c
      wide [] b = tt
      wide (g ∷ c) b = (omega arith, λ e. absurd (omega arith))

      go : (t : Bool) → ltb (weight c) (weight (h ∷ d)) ≡ t → Under (cond t c (h ∷ d)) c
      go true e = under-self c
      go false e = (ltb-false _ _ e, λ f. wide c b)

  pub lighter-second : Under (lighter c (h ∷ d)) (h ∷ d)
  unfolding lighter
  lighter-second = go (ltb (weight c) (weight (h ∷ d))) refl
    where
      go : (t : Bool) → ltb (weight c) (weight (h ∷ d)) ≡ t → Under (cond t c (h ∷ d)) (h ∷ d)
      go true e = let m : weight c < weight (h ∷ d) = ltb-true _ _ e in (omega arith, λ f. absurd (omega arith))
      go false e = under-self (h ∷ d)

pub lighter-keeps : (P : List (List ℕ) → Type 0) (c d : List (List ℕ)) → P c → P d → P (lighter c d)
unfolding lighter
lighter-keeps P c d p q = go (ltb (weight c) (weight d))
  where
    go : (t : Bool) → P (cond t c d)
    go true = p
    go false = q

-- weight is octets and vectors
pub weight_is : (c : List (List ℕ)) → weight c ≡ octets c * 65 + length c
unfolding price
weight_is [] = refl
weight_is (g ∷ c) = omega (arith, weight_is c)

-- a cutting has no more vectors than the list has declarations
pub vectors-few : (c : List (List ℕ)) → All Part c → length c ≤ length (concat c)
vectors-few [] v = omega arith
vectors-few ([] ∷ c) v = absurd v.0
vectors-few ((x ∷ g) ∷ c) v = omega (arith, length-append g (concat c), vectors-few c v.1)

-- so for cuttings of at most 64 declarations the order by weight is the order of octets, vectors and lengths
module _ (l : List ℕ) (few : length l ≤ 64) (c d : List (List ℕ)) (p : Cutting l c) (q : Cutting l d) where
  small : (c : List (List ℕ)) → Cutting l c → length c ≤ 64
  small c p = omega (arith, vectors-few c p.1, ap length p.0)

  pub under-order : Under c d → NotAfter length c d
  under-order u =
      let s : length c ≤ 64 = small c p in
      let t : length d ≤ 64 = small d q in
      let m : weight c ≡ octets c * 65 + length c = weight_is c in
      let n : weight d ≡ octets d * 65 + length d = weight_is d in
      (omega arith, λ e. (omega arith, λ f. u.1 (omega arith)))
