use Rattle.model.specs.Attributes.{kind_of}
use Rattle.registrar.proofs.Touched.{streams-heard, all-heard}
use Rattle.registrar.proofs.hear_all.Goals as goal

pub restart-requires : goal.restart-requires
restart-requires c =
    let a = c.args in
    record { laid = streams-heard a.p (kind_of a.attribute) a.table.now _ c.requires.laid c.hear_streams.ensures; port = c.requires.port }

pub returns : goal.returns
returns c =
    let a = c.args in
    all-heard a.p (kind_of a.attribute) a.table.now _ c.requires.laid c.hear_streams.ensures _ c.restart.ensures
