-- `table::record_in` meets its contract. Assumes nothing.
use native.Mathlib.Omega.{arith}
use borrow.Author.Rules.{rules}
use Rattle.table.proofs.Header.{laid-length}
use Rattle.table.proofs.ByPlace.{few-before}
use Rattle.table.proofs.record_in.Statement.{statement}
use Rattle.table.proofs.record_in.Tie as tie

mul-result : tie.Need-overflow_mul-result
mul-result c = let f = few-before c.requires in search rules

add-result : tie.Need-overflow_add-result
add-result c = let f = few-before c.requires in search rules

returns : tie.Need-returns
returns c = let f = few-before c.requires in omega (arith, laid-length _ c.requires.laid)

pub record_in_spec : {M : Type 1} → statement M
record_in_spec = tie.close (tie.spec mul-result add-result returns)
