-- `table::both_limits` meets its contract. Assumes nothing.
use native.Mathlib.Omega.{arith}
use native.Mathlib.Nat.{zero-add}
use borrow.Author.Rules.{rules}
use borrow.Author.Tests.{eq-eqb, ne_eqb}
use Rattle.octets.specs.Fields.{fields}
use Rattle.model.specs.State.{both_limits}
use Rattle.model.specs.Lists.{is_one}
use Rattle.model.specs.Table.{to_port, port_from}
use Rattle.table.proofs.both_limits.Statement.{statement}
use Rattle.table.proofs.both_limits.Tie as tie

returns : tie.Need-returns-then-flags-eq1
unfolding both_limits to_port port_from is_one fields
returns c =
    let limit-a = c.get.ensures in
    let flags = c.get-flags.ensures.0 in
    let limit-b = c.get-limit_b.ensures in
    (rw (← flags, eq-eqb _ 1 c.if-flags-eq1.true, limit-a.0, limit-b.0), omega (arith, limit-a.1, limit-b.1))

returns-2 : tie.Need-returns
unfolding both_limits to_port port_from is_one fields
returns-2 c =
    let flags = c.get-flags.ensures.0 in
    let limit-b = c.get-limit_b.ensures in
    (rw (← flags, ne_eqb _ 1 c.if-flags-eq1.false, zero-add, limit-b.0), omega (arith, limit-b.1))

pub both_limits_spec : {M : Type 1} → statement M
both_limits_spec =
    tie.close
    (tie.spec (λ c κs. search rules) (λ c κs. search rules) (λ c κs. search rules) (λ c. search rules) returns returns-2)
