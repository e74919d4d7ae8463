-- `table::own_in` meets its contract. Assumes nothing.
use native.Mathlib.Omega.{arith}
use borrow.Author.Rules.{rules}
use Rattle.table.proofs.Header.{laid-length}
use Rattle.table.proofs.own_in.Statement.{statement}
use Rattle.table.proofs.own_in.Tie as tie

returns : tie.Need-returns
returns c = omega (arith, laid-length _ c.requires.laid)

pub own_in_spec : {M : Type 1} → statement M
own_in_spec = tie.close (tie.spec (λ c. search rules) (λ c. search rules) returns)
