-- The octets that the stages of settling leave, one after another: at last those of the bridge that advance has decided.
use mathlib.Core.Path.{◌≡◌, ◌∙◌, ap, subst}
use mathlib.Core.List.{List}
use Prim.Native.Nat.{ℕ, ◌^◌, ◌<◌}
use native.Mathlib.Omega.{arith}
use lib.ListN.{length}
use Rattle.model.specs.State.{Bridge}
use Rattle.model.specs.Registrations.{holding, owning}
use Rattle.model.specs.Settling.{deciding}
use Rattle.model.specs.Table.{encode, decode}
use Rattle.model.specs.Laid.{FitBridge, Laid}
use Rattle.model.proofs.Fits.{bridge-read, laid-fits}
use Rattle.table.proofs.Fitting.{map-fits}
use Rattle.columns.specs.Stages.{early_all, admissions, merging}
use Rattle.columns.proofs.EarlyTables.{early-all-fits}
use Rattle.settling.specs.Removed.{removed}
use Rattle.settling.proofs.Removal.{removed-fits}
use Rattle.settling.proofs.Sharing.{admissions-fit}
use Rattle.settling.proofs.Stages.{merging-all, stages-decide}
use Rattle.settling.proofs.Merging.{merging-fits, merging-id}

module _ (t : List ℕ) (l : Laid t) (time : ℕ) (small : time < 2 ^ 32) (t₁ : List ℕ) (e₁ : t₁ ≡ encode (removed time (decode t))) where
  abbrev b : Bridge
  b = decode t

  abbrev b₁ : Bridge
  b₁ = removed time b

  w₁ : FitBridge b₁
  w₁ = removed-fits time small b (laid-fits t l)

  pub removed-laid : Laid t₁
  removed-laid = record { thing = b₁; fits = w₁; is = e₁ }

  module _ (t₂ : List ℕ) (e₂ : t₂ ≡ encode (early_all time (decode t₁))) where
    abbrev b₂ : Bridge
    b₂ = early_all time b₁

    w₂ : FitBridge b₂
    w₂ = early-all-fits b₁ w₁ time small

    early-is : t₂ ≡ encode b₂
    early-is = e₂ ∙ ap (λ (d : Bridge). encode (early_all time d)) (ap decode e₁ ∙ bridge-read b₁ w₁)

    pub early-laid : Laid t₂
    early-laid = record { thing = b₂; fits = w₂; is = early-is }

    module _ (t₃ : List ℕ) (e₃ : t₃ ≡ encode (admissions (length (decode t₂).settings.ports) 0 (decode t₂))) where
      abbrev b₃ : Bridge
      b₃ = admissions (length b.settings.ports) 0 b₂

      w₃ : FitBridge b₃
      w₃ = admissions-fit (length b.settings.ports) 0 b₂ (omega (arith, (laid-fits t l).settings.eight_ports)) w₂

      shared-is : t₃ ≡ encode b₃
      unfolding early_all holding owning
      shared-is =
          e₃
          ∙ ap (λ (d : Bridge). encode (admissions (length d.settings.ports) 0 d)) (ap decode early-is ∙ bridge-read b₂ w₂)

      pub all-shared-laid : Laid t₃
      all-shared-laid = record { thing = b₃; fits = w₃; is = shared-is }

      pub decided-octets : (t₄ : List ℕ) → t₄ ≡ encode (merging-all (decode t₃)) → t₄ ≡ encode (deciding time b)
      decided-octets t₄ e₄ =
          e₄
          ∙ ap (λ (d : Bridge). encode (merging-all d)) (ap decode shared-is ∙ bridge-read b₃ w₃)
          ∙ ap encode (stages-decide time b (laid-fits t l).settings.eight_ports)

-- what is decided fits its fields
pub deciding-fits : (b : Bridge) → FitBridge b → (time : ℕ) → time < 2 ^ 32 → FitBridge (deciding time b)
unfolding early_all holding owning
deciding-fits b w time small =
    let b₂ = early_all time (removed time b) in
    let n = length b.settings.ports in
    let w₂ : FitBridge b₂ = early-all-fits (removed time b) (removed-fits time small b w) time small in
    let w₃ = admissions-fit n 0 b₂ (omega (arith, w.settings.eight_ports)) w₂ in
    subst FitBridge (stages-decide time b w.settings.eight_ports) (map-fits (admissions n 0 b₂) w₃ merging merging-fits merging-id)
