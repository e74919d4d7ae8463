-- What is sent after a decision: the octets that the steps leave, one after another; and the whole of an advance.
use mathlib.Core.Path.{◌≡◌, refl, sym, ◌∙◌, ap}
use mathlib.Core.List.{List, map}
use Prim.Native.Nat.{ℕ, ◌^◌, ◌<◌}
use Rattle.model.specs.Lists.{tabulate}
use Rattle.model.specs.State.{Bridge}
use Rattle.model.specs.Registrations.{holding, sending}
use Rattle.model.specs.Settling.{drop_unheld, declare, time_sender, deciding, declaring, settle}
use Rattle.model.specs.Table.{encode, decode}
use Rattle.model.specs.Laid.{FitBridge, Laid}
use Rattle.model.proofs.Fits.{laid-fits}
use Rattle.table.proofs.Fitting.{map-fits, held_fits}
use Rattle.table.proofs.ByPlace.{encoded-laid, encoded-read}
use Rattle.settling.proofs.Settled.{deciding-fits}
use Rattle.settling.proofs.Declared.{declare-fits, declare-id}

abbrev declared_all : Bridge → Bridge
declared_all b = holding b (map declare b.streams)

abbrev dropped_all : Bridge → Bridge
dropped_all b = holding b (drop_unheld b.streams)

abbrev timed_all : ℕ → Bridge → Bridge
timed_all now b = sending b (tabulate 8 0 (time_sender b.settings now b.senders))

-- the steps are those of the definition, at the held clock
in-steps : (b : Bridge) (now : ℕ) → now ≡ b.clock → timed_all now (dropped_all (declared_all b)) ≡ declaring b
unfolding declaring holding sending
in-steps b now e = rw e

module _ (t : List ℕ) (l : Laid t) (t₁ : List ℕ) (e₁ : t₁ ≡ encode (declared_all (decode t))) where
  w₁ : FitBridge (declared_all (decode t))
  w₁ = map-fits (decode t) (laid-fits t l) declare declare-fits declare-id

  pub declared-laid : Laid t₁
  declared-laid = encoded-laid (declared_all (decode t)) w₁ t₁ e₁

  module _ (t₂ : List ℕ) (e₂ : t₂ ≡ encode (dropped_all (decode t₁))) where
    dropped-is : t₂ ≡ encode (dropped_all (declared_all (decode t)))
    dropped-is = e₂ ∙ ap (λ (b : Bridge). encode (dropped_all b)) (encoded-read (declared_all (decode t)) w₁ t₁ e₁)

    w₂ : FitBridge (dropped_all (declared_all (decode t)))
    w₂ = held_fits (declared_all (decode t)) w₁

    pub dropped-laid : Laid t₂
    dropped-laid = encoded-laid (dropped_all (declared_all (decode t))) w₂ t₂ dropped-is

    pub sent-octets : (now : ℕ) → now ≡ (decode t).clock → (t₃ : List ℕ) → t₃ ≡ encode (timed_all now (decode t₂)) → t₃ ≡ encode (declaring (decode t))
    sent-octets now c t₃ e₃ =
        e₃
        ∙ ap (λ (b : Bridge). encode (timed_all now b)) (encoded-read (dropped_all (declared_all (decode t))) w₂ t₂ dropped-is)
        ∙ ap encode (in-steps (decode t) now c)

-- An advance: decided, then sent.
module _ (t : List ℕ) (l : Laid t) (now : ℕ) (small : now < 2 ^ 32) (t₁ : List ℕ) (e₁ : t₁ ≡ encode (deciding now (decode t))) where
  w : FitBridge (deciding now (decode t))
  w = deciding-fits (decode t) (laid-fits t l) now small

  pub decided-laid : Laid t₁
  decided-laid = encoded-laid (deciding now (decode t)) w t₁ e₁

  pub decided-clock : now ≡ (decode t₁).clock
  decided-clock = sym (ap (λ (b : Bridge). b.clock) (encoded-read (deciding now (decode t)) w t₁ e₁) ∙ unfold deciding in refl)

  pub settled-octets : (t₂ : List ℕ) → t₂ ≡ encode (declaring (decode t₁)) → t₂ ≡ encode (settle now (decode t))
  unfolding settle
  settled-octets t₂ e₂ = e₂ ∙ ap (λ (b : Bridge). encode (declaring b)) (encoded-read (deciding now (decode t)) w t₁ e₁)
