-- `table::set_clock` meets its contract. Assumes nothing.
use mathlib.Core.Path.{ap, ◌∙◌}
use native.Mathlib.Omega.{arith}
use borrow.Author.Rules.{rules}
use Rattle.octets.specs.Be.{be}
use Rattle.octets.specs.Parts.{patch}
use Rattle.model.specs.Layout.{in_table}
use Rattle.model.proofs.Fits.{laid-is, laid-fits}
use Rattle.table.proofs.Header.{laid-length, clock-patch}
use Rattle.table.proofs.set_clock.Statement.{statement}
use Rattle.table.proofs.set_clock.Tie as tie

put-requires : tie.Need-put-requires
put-requires c κs = omega (arith, laid-length _ c.requires)

returns : tie.Need-returns
returns c =
    let first = c.before.before.before.before.before in
    c.put.ensures
    ∙ ap (patch in_table.clock 4 (be 4 first.args.time)) (laid-is _ first.requires)
    ∙ clock-patch _ (laid-fits _ first.requires) first.args.time

pub set_clock_spec : {M : Type 1} → statement M
set_clock_spec = tie.close (tie.spec put-requires (λ c. search rules) returns)
