-- `table::count` meets its contract. Assumes nothing.
use native.Mathlib.Omega.{arith}
use Rattle.table.proofs.Header.{laid-length, laid-count, laid-few}
use Rattle.table.proofs.count.Statement.{statement}
use Rattle.table.proofs.count.Tie as tie
use Rattle.model.specs.Layout.{in_table}

shared-slice-read-result : tie.Need-bounds-table-194
shared-slice-read-result c = omega (arith, laid-length _ c.requires)

cast-result : tie.Need-overflow_cast-result
cast-result c = omega (arith, c.shared_slice_known-1.given in_table.count)

returns : tie.Need-returns
returns c = (laid-count _ c.requires, omega (arith, laid-count _ c.requires, laid-few _ c.requires))

pub count_spec : {M : Type 1} → statement M
count_spec = tie.close (tie.spec shared-slice-read-result cast-result returns)
