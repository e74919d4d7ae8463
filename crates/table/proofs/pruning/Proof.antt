-- `table::pruning` meets its contract. Assumes nothing.
use native.Mathlib.Omega.{arith}
use Rattle.model.proofs.Cells.{bit-back}
use Rattle.model.specs.Lists.{is_one}
use Rattle.table.proofs.Header.{laid-length, laid-pruning}
use Rattle.table.proofs.pruning.Statement.{statement}
use Rattle.table.proofs.pruning.Tie as tie

get-requires : tie.Need-get-requires
get-requires c κs = omega (arith, laid-length _ c.requires)

returns : tie.Need-returns
unfolding is_one
returns c = rw (c.get.ensures.0, laid-pruning _ c.requires) (bit-back _)

pub pruning_spec : {M : Type 1} → statement M
pruning_spec = tie.close (tie.spec get-requires returns)
