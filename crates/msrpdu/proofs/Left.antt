-- A loop that reads on from place to place: what is left to give, from here, is the answer. Assumes nothing.
use Prim.Native.Nat.{ℕ, suc, ◌+◌, ◌-◌, ◌≤◌, ◌<◌}
use mathlib.Core.Path.{◌≡◌, sym, ap, ◌∙◌}
use Rattle.std.specs.Prelude.{Result, Ok}
use native.Mathlib.Omega.{arith}

-- rest f at is what f turns give from a place on
pub record Left {A : Type 0} (rest : ℕ → ℕ → A) (size : ℕ) (answer : A) (at : ℕ) : Type 0 where
  pub within : at ≤ size
  pub turns : ℕ
  pub enough : size ≤ at + turns
  pub gives : rest (suc turns) at ≡ answer

-- a turn gives it
pub left-given : {A : Type 0} {rest : ℕ → ℕ → A} {size : ℕ} {answer : A} {at : ℕ} → Left rest size answer at → (n : A) → ((f : ℕ) → rest (suc f) at ≡ n) → n ≡ answer
left-given l n e = sym (e l.turns) ∙ l.gives

-- or leaves it to a later place
pub left-on : {A : Type 0} {rest : ℕ → ℕ → A} {size : ℕ} {answer : A} {at : ℕ} → Left rest size answer at → (next : ℕ) → at < next → next ≤ size
    → ((f : ℕ) → rest (suc f) at ≡ rest f next) → Left rest size answer next
left-on l next up inside e =
    let t : l.turns ≡ suc (l.turns - 1) = omega (arith, l.enough) in
    record { within = inside; turns = l.turns - 1; enough = omega (arith, l.enough); gives = rw (← t) (sym (e l.turns) ∙ l.gives) }

-- what an accepted answer holds
pub ok-is : {A E : Type 0} {r : Result A E} {x y : A} → r ≡ Ok x → x ≡ y → r ≡ Ok y
ok-is p q = p ∙ ap Ok q
