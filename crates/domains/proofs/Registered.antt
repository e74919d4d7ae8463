-- Whether a Domain value is registered and not leaving, read from its octets.
use mathlib.Core.Path.{◌≡◌, refl}
use mathlib.Core.List.{List}
use mathlib.Core.Bool.{Bool, true, false, cond}
use Prim.Native.Nat.{ℕ, ◌+◌}
use lib.ListN.{get_or}
use lib.Dec.{eqb}
use Rattle.octets.specs.Be.{be_at}
use Rattle.octets.specs.Fields.{fields}
use Rattle.octets.proofs.Fields.{be_at-one}
use Rattle.model.specs.Layout.{in_slot, slot_index}
use Rattle.model.specs.State.{stays, since, no_domain, domain}
use Rattle.model.specs.Registrations.{is_staying, domain_stays}
use Rattle.model.specs.Table.{to_leaving, domain_from, to_domain}

domain-read : (v t : ℕ) (none staying : Bool) → domain_stays (cond none no_domain (domain v (cond staying stays (since t)))) ≡ cond none false staying
unfolding domain_stays is_staying
domain-read v t true staying = refl
domain-read v t false true = refl
domain-read v t false false = refl

pub domain-registered : (s : List ℕ) → domain_stays (to_domain s) ≡ cond (eqb (get_or s slot_index.registered 0) 0) false (eqb (get_or s in_slot.leaves 0) 0)
unfolding to_domain domain_from to_leaving fields
domain-registered s = rw (be_at-one s slot_index.registered, be_at-one s in_slot.leaves) (domain-read (be_at 2 s in_slot.vlan) (be_at 4 s (in_slot.leaves + 1)) (eqb (be_at 1 s slot_index.registered) 0) (eqb (be_at 1 s in_slot.leaves) 0))
