use Rattle.std.proofs.Common.{◌∙◌, ap}
use Rattle.model.specs.Attributes.{kind_of}
use Rattle.model.specs.Registrations.{registered_in}
use Rattle.table.proofs.ByPlace.{lent-sends-at}
use Rattle.moving.proofs.OfTable.{stream-moves}
use Rattle.moving.proofs.move_stream.Goals as goal

pub is_registered-registered-requires : goal.is_registered-registered-requires
is_registered-registered-requires c = let reads = c.cell_at.ensures in record { laid = reads.laid; size = reads.size }

pub move_sent-requires : goal.move_sent-requires
move_sent-requires c =
    let reads = lent-sends-at c.requires.stands _ c.sends_in-a.ensures.0 in
    record { laid = reads.laid; size = reads.size; few = c.requires.few }

pub returns : goal.returns
returns c =
    let a = c.args in
    let j = kind_of a.attribute in
    stream-moves a.span a.from a.table.now _ _ _ _ j a.k a.p c.requires.stands c.sends_in-a.ensures.0
    (c.is_registered-registered.ensures ∙ ap (registered_in j) c.cell_at.ensures.is) c.move_sent.ensures
