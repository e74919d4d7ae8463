use mathlib.Core.Path.{sym, ◌∙◌, ap}
use Rattle.model.specs.Attributes.{kind_of}
use Rattle.model.specs.Registrations.{registered_in, domain_stays}
use Rattle.table.proofs.OwnParts.{lent-slot-at}
use Rattle.declarations.specs.Passes.{registered_by}
use Rattle.declarations.proofs.Places.{stream, slot, stream_type, domain-type}
use Rattle.declarations.proofs.is_registered.Goals as goal

pub cell_at-requires : goal.cell_at-requires
cell_at-requires c = stream (rw (stream_type c.args.attribute c.in-Some.stream (sym c.of_stream.ensures ∙ c.in-Some.is)) at c.requires)

pub returns-in-Some : goal.returns-in-Some
unfolding registered_by
returns-in-Some c =
    let s = c.in-Some.stream in
    let is = stream_type c.args.attribute s (sym c.of_stream.ensures ∙ c.in-Some.is) in
    rw is (c.is_registered.ensures ∙ ap (registered_in (kind_of s)) c.cell_at.ensures.is)

pub slot_in-a-requires : goal.slot_in-a-requires
slot_in-a-requires c = slot (rw (domain-type c.args.attribute (sym c.of_stream.ensures ∙ c.in-None.is)) at c.requires)

pub returns-in-None : goal.returns-in-None
unfolding registered_by
returns-in-None c =
    let is = domain-type c.args.attribute (sym c.of_stream.ensures ∙ c.in-None.is) in
    let reads = lent-slot-at (slot (rw is at c.requires)) _ c.slot_in-a.ensures.0 in
    rw is (c.is_registered-in-None.ensures ∙ ap domain_stays reads.is)
