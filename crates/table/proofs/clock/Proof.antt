-- `table::clock` meets its contract. Assumes nothing.
use mathlib.Core.Path.{◌∙◌}
use native.Mathlib.Omega.{arith}
use Rattle.table.proofs.Header.{laid-length, laid-clock}
use Rattle.table.proofs.clock.Statement.{statement}
use Rattle.table.proofs.clock.Tie as tie
use borrow.Author.Rules.{rules}

get-requires : tie.Need-get-requires
get-requires c κs = omega (arith, laid-length _ c.requires)

returns : tie.Need-returns
returns c = c.get.ensures.0 ∙ laid-clock _ c.requires

pub clock_spec : {M : Type 1} → statement M
clock_spec = tie.close (tie.spec get-requires (λ c. search rules) returns)
