-- `table::limit_b` meets its contract. Assumes nothing.
use native.Mathlib.Omega.{arith}
use borrow.Author.Rules.{rules}
use Rattle.model.specs.State.{in_force}
use Rattle.table.proofs.limit_b.Statement.{statement}
use Rattle.table.proofs.limit_b.Tie as tie

returns : tie.Need-returns-then-both-used
unfolding in_force
returns c =
    let both = c.both_limits-both.ensures in
    let few = c.if-both-used.true in
    (rw (← both.0) (omega arith), omega arith)

returns-2 : tie.Need-returns
unfolding in_force
returns-2 c =
    let both = c.both_limits-both.ensures in
    (rw (← both.0), omega (arith, both.1))

pub limit_b_spec : {M : Type 1} → statement M
limit_b_spec = tie.close (tie.spec (λ c κs. search rules) returns returns-2)
