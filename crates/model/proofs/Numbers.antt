-- Each refusal has a number above 0, and the refusal of a number has that number. Assumes nothing.
use mathlib.Core.Path.{◌≡◌, refl}
use mathlib.Core.Bool.{Bool, true, false, cond}
use Prim.Native.Nat.{ℕ, ◌≤◌}
use native.Mathlib.Omega.{arith}
use lib.Dec.{eqb}
use borrow.Author.Tests.{eqb-true, eqb-false}
use Rattle.model.specs.Numbers.{refusal_number, refusal_of}
use Rattle.model.specs.declared.refusal.Refusal.{Refusal}
use Rattle.model.specs.declared.refusal.Refusal.TheVariants as refusal

pub refusal-some : (r : Refusal) → 1 ≤ refusal_number r
refusal-some refusal.Port = omega arith
refusal-some refusal.PduLength = omega arith
refusal-some refusal.PastEnd = omega arith
refusal-some refusal.AttributeType = omega arith
refusal-some refusal.AttributeLength = omega arith
refusal-some refusal.Event = omega arith
refusal-some refusal.Value = omega arith
refusal-some refusal.Streams = omega arith
refusal-some refusal.Time = omega arith
refusal-some refusal.Buffer = omega arith
refusal-some refusal.Settings = omega arith
refusal-some refusal.Table = omega arith
refusal-some refusal.Place = omega arith
refusal-some refusal.Addresses = omega arith
refusal-some refusal.Stream = omega arith

-- by whether the number is k
either : (n k : ℕ) (x y : Refusal) → refusal_number x ≡ k → ((n ≡ k → ⊥) → refusal_number y ≡ n) → refusal_number (cond (eqb n k) x y) ≡ n
either n k x y p q = go (eqb n k) (λ e. eqb-true n k e) (λ e. eqb-false n k e)
  where
    go : (b : Bool) → (b ≡ true → n ≡ k) → (b ≡ false → n ≡ k → ⊥) → refusal_number (cond b x y) ≡ n
    go true t f = omega (arith, t refl)
    go false t f = q (f refl)

pub refusal-numbered : (n : ℕ) → 1 ≤ n → n ≤ 15 → refusal_number (refusal_of n) ≡ n
unfolding refusal_of
refusal-numbered n p q =
    either n 1 _ _ refl (λ a. either n 2 _ _ refl (λ b. either n 3 _ _ refl (λ c. either n 4 _ _ refl (λ d. either n 5 _ _ refl
    (λ e. either n 6 _ _ refl (λ f. either n 7 _ _ refl (λ g. either n 8 _ _ refl (λ h. either n 9 _ _ refl (λ i. either n 10 _ _ refl
    (λ j. either n 11 _ _ refl (λ k. either n 12 _ _ refl (λ l. either n 13 _ _ refl (λ m. either n 14 _ _ refl (λ o. omega arith))))))))))))))
