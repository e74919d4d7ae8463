use Rattle.std.proofs.Common.{sym, ◌∙◌, rules}
use Rattle.model.specs.Attributes.{kind_of}
use Rattle.table.proofs.Places.{at_place}
use Rattle.registrar.proofs.Touched.{left-unheld, left-held}
use Rattle.registrar.proofs.withdraw.Goals as goal

pub returns-in_default : goal.returns-in_default
returns-in_default c =
    let a = c.args in
    left-unheld a.p (kind_of a.attribute) a.table.now c.requires.laid a.id (search rules) c.in_default.field-0
    (sym c.find.ensures ∙ c.in_default.is)

pub quit_cell-requires : goal.quit_cell-requires
quit_cell-requires c =
    let e = sym c.find.ensures ∙ c.in-Ok.is in
    record { laid = c.requires.laid; held = (at_place c.args.id _ _ e).within; port = c.requires.port }

pub returns : goal.returns
returns c =
    let a = c.args in
    left-held a.p (kind_of a.attribute) a.table.now c.requires.laid a.id (search rules) _ _ (sym c.find.ensures ∙ c.in-Ok.is) c.clock-now.ensures _ c.quit_cell.ensures
