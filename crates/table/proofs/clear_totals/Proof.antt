-- `table::clear_totals` meets its contract. Assumes nothing.
use mathlib.Core.Path.{ap, ◌∙◌}
use native.Mathlib.Omega.{arith}
use borrow.Author.Rules.{rules}
use Rattle.octets.specs.Parts.{patch, zeros}
use Rattle.model.specs.Layout.{in_table, totals_size}
use Rattle.model.proofs.Fits.{laid-is, laid-fits}
use Rattle.table.proofs.Header.{laid-length, totals-cleared}
use Rattle.table.proofs.clear_totals.Statement.{statement}
use Rattle.table.proofs.clear_totals.Tie as tie

clear-requires : tie.Need-clear-requires
clear-requires c κs = omega (arith, laid-length _ c.requires)

returns : tie.Need-returns
returns c =
    let l = c.requires in
    c.clear.ensures ∙ ap (patch in_table.totals totals_size (zeros totals_size)) (laid-is _ l) ∙ totals-cleared _ (laid-fits _ l)

pub clear_totals_spec : {M : Type 1} → statement M
clear_totals_spec = tie.close (tie.spec (λ c. search rules) clear-requires (λ c. search rules) returns)
