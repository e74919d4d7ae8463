-- `table::fan_in` meets its contract. Assumes nothing.
use mathlib.Core.Path.{◌∙◌}
use native.Mathlib.Omega.{arith}
use Rattle.table.proofs.Header.{laid-length, laid-fan-in}
use Rattle.table.proofs.fan_in.Statement.{statement}
use Rattle.table.proofs.fan_in.Tie as tie

get-requires : tie.Need-get-requires
get-requires c κs = omega (arith, laid-length _ c.requires)

returns : tie.Need-returns
returns c = c.get.ensures.0 ∙ laid-fan-in _ c.requires

pub fan_in_spec : {M : Type 1} → statement M
fan_in_spec = tie.close (tie.spec get-requires returns)
