-- `table::bridge_id` meets its contract. Assumes nothing.
use mathlib.Core.Path.{◌∙◌}
use native.Mathlib.Omega.{arith}
use Rattle.table.proofs.Header.{laid-length, laid-bridge-id}
use Rattle.table.proofs.bridge_id.Statement.{statement}
use Rattle.table.proofs.bridge_id.Tie as tie

get-requires : tie.Need-get-requires
get-requires c κs = omega (arith, laid-length _ c.requires)

returns : tie.Need-returns
returns c = c.get.ensures.0 ∙ laid-bridge-id _ c.requires

pub bridge_id_spec : {M : Type 1} → statement M
bridge_id_spec = tie.close (tie.spec get-requires returns)
