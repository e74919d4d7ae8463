-- Bandwidth shared out on one port after another, on the octets of a table.
use mathlib.Core.Path.{◌≡◌, refl, sym, ◌∙◌, ap}
use mathlib.Core.List.{List}
use Prim.Native.Nat.{ℕ, zero, suc, ◌+◌, ◌-◌, ◌≤◌, ◌<◌}
use native.Mathlib.Omega.{arith}
use native.Mathlib.Numerals.{add-one}
use Rattle.model.specs.State.{Bridge, Class, class_a, class_b}
use Rattle.model.specs.Table.{encode, decode}
use Rattle.model.specs.Laid.{FitBridge, Laid}
use Rattle.model.proofs.Fits.{bridge-read, laid-is, laid-fits}
use Rattle.columns.specs.Stages.{admission, admissions}
use Rattle.admission.proofs.FitKept.{admission-fits}

-- What is left to do, from place p on.

pub record Sharing (n : ℕ) (t₀ t : List ℕ) (p : ℕ) : Type 0 where
  pub laid : Laid t
  pub left : admissions (n - p) p (decode t) ≡ admissions n 0 (decode t₀)

no-port : (p : ℕ) (b : Bridge) → admissions 0 p b ≡ b
unfolding admissions
no-port p b = refl

module _ (n : ℕ) (t₀ : List ℕ) where
  pub sharing-start : Laid t₀ → Sharing n t₀ t₀ 0
  sharing-start l =
      let e : n - 0 ≡ n = omega arith in
      record { laid = l; left = rw e }

  pub sharing-done : (t : List ℕ) (p : ℕ) → Sharing n t₀ t p → p ≡ n → t ≡ encode (admissions n 0 (decode t₀))
  sharing-done t p s e =
      let z : n - p ≡ 0 = omega arith in
      laid-is t s.laid ∙ ap encode (sym (no-port p (decode t)) ∙ (rw z at s.left))

-- one class
module _ (t : List ℕ) (l : Laid t) (p : ℕ) (h : p < 8) (c : Class) (t₁ : List ℕ) (e : t₁ ≡ encode (admission p c (decode t))) where
  kept : FitBridge (admission p c (decode t))
  kept = admission-fits (decode t) (laid-fits t l) p h c

  pub shared-laid : Laid t₁
  shared-laid = record { thing = admission p c (decode t); fits = kept; is = e }

  shared-read : decode t₁ ≡ admission p c (decode t)
  shared-read = ap decode e ∙ bridge-read (admission p c (decode t)) kept

one-port : (m p : ℕ) (b : Bridge) → admissions (suc m) p b ≡ admissions m (suc p) (admission p class_b (admission p class_a b))
unfolding admissions
one-port m p b = refl

-- one port: class A, then class B
pub sharing-turn : (n : ℕ) (t₀ t t₁ t₂ : List ℕ) (p : ℕ) → Sharing n t₀ t p → p < n → p < 8
    → t₁ ≡ encode (admission p class_a (decode t)) → t₂ ≡ encode (admission p class_b (decode t₁)) → Sharing n t₀ t₂ (p + 1)
sharing-turn n t₀ t t₁ t₂ p s few h e₁ e₂ =
    let l₁ = shared-laid t s.laid p h class_a t₁ e₁ in
    let m : n - p ≡ suc (n - (p + 1)) = omega arith in
    let d : decode t₂ ≡ admission p class_b (admission p class_a (decode t)) =
    shared-read t₁ l₁ p h class_b t₂ e₂ ∙ ap (admission p class_b) (shared-read t s.laid p h class_a t₁ e₁) in
    let turn : admissions (n - (p + 1)) (p + 1) (decode t₂) ≡ admissions (n - p) p (decode t) =
    rw (d, m, one-port (n - (p + 1)) p (decode t)) (ap (λ (q : ℕ). admissions (n - (p + 1)) q (admission p class_b (admission p class_a (decode t)))) (add-one p)) in
    record { laid = shared-laid t₁ l₁ p h class_b t₂ e₂; left = turn ∙ s.left }

-- every number still fits its field
pub admissions-fit : (n p : ℕ) (b : Bridge) → p + n ≤ 8 → FitBridge b → FitBridge (admissions n p b)
unfolding admissions
admissions-fit zero p b h w = w
admissions-fit (suc n) p b h w =
    let c = admission p class_a b in
    admissions-fit n (suc p) (admission p class_b c) (omega arith)
    (admission-fits c (admission-fits b w p (omega arith) class_a) p (omega arith) class_b)
