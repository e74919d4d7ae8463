use Rattle.std.proofs.Common.{◌∙◌, arith}
use Rattle.octets.proofs.Patches.{copied_within}
use Rattle.model.specs.Layout.{fixed_size}
use Rattle.columns.proofs.EarlyTables.{values-copied}
use Rattle.columns.proofs.copy_fixed.Goals as goal

pub returns : goal.returns
returns c =
    let to = c.settled_in-to in
    let from = c.cell_in-from in
    c.copy_within.ensures.after
    ∙ copied_within _ _ to.result fixed_size c.args.table.now (omega arith)
    ∙ rw to.ensures.0 (values-copied c.requires (rw from.ensures.0 at from.ensures.1) _ (omega (arith, from.ensures.0)))
