-- Laws of tests: those that code takes together by `&` are a list of rules, and `|` asks for a test only where another holds.
use mathlib.Core.Path.{◌≡◌, refl, sym, ◌∙◌}
use mathlib.Core.Bool.{Bool, true, false, not, ◌&&◌, ◌||◌, and_assoc, and-true, and-false}
use mathlib.Core.List.{List, [], ◌∷◌}
use Prim.Native.Nat.{ℕ, zero, suc}
use native.Mathlib.Omega.{arith}
use borrow.Author.Rules.{rules}
use borrow.Author.Tests.{ne_eqb, le-leb, lt-leb, lt-ltb, le-ltb}
use lib.ListN.{take, drop}
use Rattle.model.specs.Lists.{all_true, implies}

pub or-implies : (a b : Bool) → (not a || b) ≡ implies a b
or-implies true b = refl
or-implies false b = refl

-- the tests a, b, .. as `a & b & ..` takes them together
abbrev pub together : Bool → List Bool → Bool
together a [] = a
together a (b ∷ l) = together (a && b) l

pub all-together : (a : Bool) (l : List Bool) → together a l ≡ all_true (a ∷ l)
unfolding all_true
all-together a [] = sym (and-true a)
all-together a (b ∷ l) = all-together (a && b) l ∙ and_assoc a b (all_true l)

-- the first n rules, and the others
pub all-true-split : (n : ℕ) (l : List Bool) → (all_true (take n l) && all_true (drop n l)) ≡ all_true l
unfolding all_true
all-true-split zero l = refl
all-true-split (suc n) [] = refl
all-true-split (suc n) (b ∷ l) = rw (and_assoc, all-true-split n l)

-- what decides tests of orders and of equality
pub ruleset orders = (rules, arith, ne_eqb, le-leb, lt-leb, lt-ltb, le-ltb, and-true, and-false)
