use Rattle.std.proofs.Common.{sym, ◌∙◌, rules}
use Rattle.model.specs.Attributes.{kind_of}
use Rattle.table.proofs.Places.{at_place}
use Rattle.hearing.specs.Hears.{meant}
use Rattle.registrar.proofs.Touched.{heard-unheld, heard-held}
use Rattle.registrar.proofs.hear_stream.Goals as goal

pub returns-in_default : goal.returns-in_default
returns-in_default c =
    let a = c.args in
    heard-unheld a.p (kind_of a.attribute) a.table.now c.requires.laid a.id (search rules) (meant a.heard) c.in_default.field-0
    (sym c.find.ensures ∙ c.in_default.is)

pub hear_sends-requires : goal.hear_sends-requires
hear_sends-requires c =
    let e = sym c.find.ensures ∙ c.in-Ok.is in
    record { laid = c.requires.laid; held = (at_place c.args.id _ _ e).within; port = c.requires.port }

pub returns : goal.returns
returns c =
    let a = c.args in
    heard-held a.p (kind_of a.attribute) a.table.now c.requires.laid a.id (search rules) (meant a.heard) _ (sym c.find.ensures ∙ c.in-Ok.is) _ c.hear_sends.ensures
