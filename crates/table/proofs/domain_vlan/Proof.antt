-- `table::domain_vlan` meets its contract. Assumes nothing.
use mathlib.Core.Path.{ap, ◌∙◌}
use Prim.Native.Nat.{ℕ, ◌%◌}
use native.Mathlib.Omega.{arith}
use Rattle.model.specs.Layout.{pruning_unit}
use Rattle.table.proofs.Header.{laid-length, laid-domain-vlan}
use Rattle.table.proofs.domain_vlan.Statement.{statement}
use Rattle.table.proofs.domain_vlan.Tie as tie

get-requires : tie.Need-get-requires
get-requires c κs = omega (arith, laid-length _ c.requires)

returns : tie.Need-returns
returns c = ap (λ (n : ℕ). n % pruning_unit) c.get.ensures.0 ∙ laid-domain-vlan _ c.requires

pub domain_vlan_spec : {M : Type 1} → statement M
domain_vlan_spec = tie.close (tie.spec get-requires returns)
