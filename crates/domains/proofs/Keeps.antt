-- Events, expiry and the decision of the flags leave numbers that fit their fields.
use mathlib.Core.Bool.{Bool, true, false, cond}
use Prim.Native.Nat.{ℕ, ◌^◌, ◌<◌}
use native.Mathlib.Omega.{arith}
use Rattle.octets.specs.Fields.{Fit}
use Rattle.octets.proofs.Fields.{fit-zeros}
use Rattle.model.specs.Layout.{slot_widths}
use Rattle.model.specs.State.{Settings, Leaving, stays, since, Domain, no_domain, domain}
use Rattle.model.specs.Registrations.{begin, quit_domain}
use Rattle.model.specs.Settling.{expired, expire_domain}
use Rattle.model.specs.Table.{since_number, domain_numbers}
use Rattle.model.proofs.Parts.{◌also◌}
use Rattle.model.proofs.Cells.{leaving-few}

abbrev pub FitDomain : Domain → Type 0
FitDomain d = Fit slot_widths (domain_numbers d)

-- a time that fits, of leaving begun at the clock, or of none
begun-fits : (clock : ℕ) → clock < 2 ^ 32 → (l : Leaving) → since_number l < 2 ^ 32 → since_number (begin clock l) < 2 ^ 32
unfolding begin since_number
begun-fits clock small stays h = small
begun-fits clock small (since t) h = h

stays-fits : since_number stays < 2 ^ 32
unfolding since_number
stays-fits = omega arith

module _ (v : ℕ) where
  vlan-fits : (l : Leaving) → FitDomain (domain v l) → v < 65536
  unfolding Fit domain_numbers
  vlan-fits l f = f.1.1.1.0

  since-fits : (l : Leaving) → FitDomain (domain v l) → since_number l < 2 ^ 32
  unfolding Fit domain_numbers
  since-fits l f = f.1.1.0

  domain-fits : (l : Leaving) → v < 65536 → since_number l < 2 ^ 32 → FitDomain (domain v l)
  unfolding Fit domain_numbers
  domain-fits l h k = omega arith also leaving-few l also k also h also tt

pub no-domain-fits : FitDomain no_domain
unfolding domain_numbers
no-domain-fits = fit-zeros slot_widths

pub quit-domain-fits : (clock : ℕ) → clock < 2 ^ 32 → (d : Domain) → FitDomain d → FitDomain (quit_domain clock d)
unfolding quit_domain
quit-domain-fits clock small no_domain f = f
quit-domain-fits clock small (domain v l) f = domain-fits v (begin clock l) (vlan-fits v l f) (begun-fits clock small l (since-fits v l f))

pub join-domain-fits : (v : ℕ) → v < 65536 → FitDomain (domain v stays)
join-domain-fits v h = domain-fits v stays h stays-fits

pub expire-domain-fits : (st : Settings) (time : ℕ) (d : Domain) → FitDomain d → FitDomain (expire_domain st time d)
unfolding expire_domain
expire-domain-fits st time no_domain f = f
expire-domain-fits st time (domain v l) f = go (expired st time l)
  where
    go : (t : Bool) → FitDomain (cond t no_domain (domain v l))
    go true = no-domain-fits
    go false = f
