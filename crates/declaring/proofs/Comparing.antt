-- Values compared octet by octet: a turn, and the end; they are the same exactly where all octets are.
use mathlib.Core.Path.{◌≡◌, refl, sym, ◌∙◌, ap, ap₂}
use mathlib.Core.List.{List, [], ◌∷◌}
use mathlib.Core.Bool.{Bool, true, false, ◌&&◌, false≢true, and_assoc}
use Prim.Native.Nat.{ℕ, ◌+◌, ◌≤◌, ◌<◌}
use native.Mathlib.Numerals.{add-one}
use native.Mathlib.Omega.{arith}
use lib.ListN.{length, get_or, drop}
use lib.Seq.{drop-cons, drop-length}
use lib.Dec.{eqb}
use borrow.Author.Tests.{eq-eqb, eqb-true}
use Rattle.model.proofs.Lists.{and_left, and_right, and-true}
use Rattle.declaring.specs.Octets.{same_octets}

-- a loop that tests one octet after another: what is left to test, from place i on
abbrev pub Comparing : List ℕ → List ℕ → Bool → ℕ → Type 0
Comparing v w same i = (i ≤ length v) × ((same && same_octets (drop i v) (drop i w)) ≡ same_octets v w)

module _ (v w : List ℕ) (e : length w ≡ length v) (same : Bool) (i : ℕ) (c : Comparing v w same i) where
  pub same_next : i < length v → Comparing v w (same && eqb (get_or v i 0) (get_or w i 0)) (i + 1)
  unfolding same_octets
  same_next h =
      let k : i < length w = omega arith in (
        omega arith,
        and_assoc same (eqb (get_or v i 0) (get_or w i 0)) (same_octets (drop (i + 1) v) (drop (i + 1) w))
            ∙ rw (add-one i) (rw (drop-cons v i 0 h, drop-cons w i 0 k) at c.1),
      )

  pub same_done : length v ≤ i → same ≡ same_octets v w
  unfolding same_octets
  same_done h =
      let all : i ≡ length v = omega (arith, c.0) in
      let none : same_octets (drop i v) (drop i w) ≡ true = rw (all, drop-length v, ← e, drop-length w) in
      sym (and-true same) ∙ (rw none at c.1)

pub same_self : (s : List ℕ) → same_octets s s ≡ true
unfolding same_octets
same_self [] = refl
same_self (x ∷ s) = rw (eq-eqb x x refl) (same_self s)

pub same-all : (s t : List ℕ) → same_octets s t ≡ true → s ≡ t
unfolding same_octets
same-all [] [] e = refl
same-all [] (y ∷ t) e = absurd (false≢true e)
same-all (x ∷ s) [] e = absurd (false≢true e)
same-all (x ∷ s) (y ∷ t) e =
    ap₂ (λ (n : ℕ) (r : List ℕ). n ∷ r) (eqb-true x y (and_left (eqb x y) (same_octets s t) e)) (same-all s t (and_right (eqb x y) (same_octets s t) e))

-- two tests that hold together
both_ways : (a b : Bool) → (a ≡ true → b ≡ true) → (b ≡ true → a ≡ true) → a ≡ b
both_ways true b p q = sym (p refl)
both_ways false true p q = q refl
both_ways false false p q = refl

-- a test of things that are read back from their octets: it holds of a thing with itself, and where it does the octets are the same
module _ {A : Type 0} (to : A → List ℕ) (from : List ℕ → A) (Good : A → Type 0) (same : A → A → Bool)
    (back : (a : A) → Good a → from (to a) ≡ a) (self : (a : A) → same a a ≡ true) (octets : (a b : A) → same a b ≡ true → to a ≡ to b) where
  pub same-octets : (a b : A) → Good a → Good b → same_octets (to a) (to b) ≡ same a b
  same-octets a b f g = both_ways (same_octets (to a) (to b)) (same a b) forth (λ e. ap (same_octets (to a)) (sym (octets a b e)) ∙ same_self (to a))
    where
      forth : same_octets (to a) (to b) ≡ true → same a b ≡ true
      forth e = ap (same a) (sym (back b g) ∙ ap from (sym (same-all (to a) (to b) e)) ∙ back a f) ∙ self a
