-- A Domain act whose values are within their fields leaves what fits its fields.
use Prim.Native.Nat.{ℕ, ◌^◌, ◌<◌}
use mathlib.Core.Path.{◌≡◌, refl, ◌∙◌}
use mathlib.Core.List.{List}
use lib.ListN.{length}
use Rattle.model.specs.Lists.{All}
use Rattle.model.specs.State.{stays, Domain, domain, Own}
use Rattle.model.specs.Registrations.{Act, leave_all, leave, talk, listen, hear_all, hear, of_domain, DomainAct, leave_all_domains, leave_domain, join_domain, hear_all_domains, hear_domain, quit_domain, does_domain, change_domains, apply_own}
use Rattle.model.specs.Laid.{FitOwn}
use Rattle.model.proofs.Lists.{length_at, all_changed}
use Rattle.model.proofs.FoundVectors.{Fits, FitsDomain}
use Rattle.model.proofs.AdvanceKeepsForm.{all-mapped}
use Rattle.model.proofs.ReceiveKeepsForm.{domains-slotted}
use Rattle.domains.proofs.Keeps.{FitDomain, quit-domain-fits, join-domain-fits}

module _ (clock : ℕ) (small : clock < 2 ^ 32) where
  domains-fit : (a : DomainAct) → FitsDomain a → (ds : List Domain) → All FitDomain ds → All FitDomain (does_domain clock a ds)
  unfolding does_domain
  domains-fit leave_all_domains f ds w = all-mapped FitDomain FitDomain (quit_domain clock) (quit-domain-fits clock small) ds w
  domains-fit (leave_domain i) f ds w = all_changed FitDomain i (quit_domain clock) ds (quit-domain-fits clock small) w
  domains-fit (join_domain i v) f ds w = all_changed FitDomain i (λ d. domain v stays) ds (λ d h. join-domain-fits v f.1) w
  domains-fit hear_all_domains f ds w = w
  domains-fit (hear_domain i h) f ds w = w

  own-fits : (a : DomainAct) → FitsDomain a → (o : Own) → FitOwn o → FitOwn (change_domains (does_domain clock a) o)
  unfolding change_domains
  own-fits a f o w = record {
    slotted = domains-slotted clock a o.domains ∙ w.slotted;
    domains = domains-fit a f o.domains w.domains;
    addresses = w.addresses;
  }

  -- what eight ports hold, after an act
  pub owns-fit : (p : ℕ) (a : Act) → Fits a → (o : List Own) → All FitOwn o → All FitOwn (apply_own clock p a o)
  unfolding apply_own
  owns-fit p (leave_all k) f o w = w
  owns-fit p (leave k i) f o w = w
  owns-fit p (talk i g v) f o w = w
  owns-fit p (listen i r) f o w = w
  owns-fit p (hear_all k) f o w = w
  owns-fit p (hear k i h) f o w = w
  owns-fit p (of_domain d) f o w = all_changed FitOwn p (change_domains (does_domain clock d)) o (own-fits d f) w

pub owns-length : (clock p : ℕ) (a : Act) (o : List Own) → length (apply_own clock p a o) ≡ length o
unfolding apply_own
owns-length clock p (leave_all k) o = refl
owns-length clock p (leave k i) o = refl
owns-length clock p (talk i g v) o = refl
owns-length clock p (listen i r) o = refl
owns-length clock p (hear_all k) o = refl
owns-length clock p (hear k i h) o = refl
owns-length clock p (of_domain d) o = length_at p (change_domains (does_domain clock d)) o
