use Rattle.std.proofs.Common.{true, sym, ◌∙◌}
use Rattle.model.specs.Attributes.{type_of, kind_of}
use Rattle.model.specs.Frames.{registers, domain_type}
use Rattle.model.proofs.Attributes.{stream_type, no_stream_type}
use Rattle.registrar.specs.Acts.{acts_heard}
use Rattle.registrar.proofs.ValueActs.{hears-overheard, stream-hears, value-id-is, not-past}
use Rattle.registrar.proofs.DomainValues.{slot-below, slot-hears, dropped-hears}
use Rattle.registrar.proofs.Walks.{walked_none}
use Rattle.registrar.proofs.hear_value.Goals as goal

pub returns-in_default : goal.returns-in_default
unfolding acts_heard
returns-in_default c =
    let a = c.args in
    rw (hears-overheard (type_of a.walk.attribute) a.first.now a.event a.n _ (sym c.overhear.ensures ∙ c.in_default.is))
    (walked_none true a.walk.p a.table.now c.requires.walk.laid)

-- A Domain value.

pub returns-in_default-domain_slot : goal.returns-in_default-domain_slot
returns-in_default-domain_slot c =
    let a = c.args in
    rw (
      no_stream_type a.walk.attribute (sym c.of_stream.ensures ∙ c.in_default-of_stream.is),
      hears-overheard domain_type a.first.now a.event a.n _ (sym c.overhear.ensures ∙ c.in-Some.is),
      dropped-hears a.first.now a.n (sym c.domain_slot.ensures ∙ c.in_default-domain_slot.is) _,
    )
    (walked_none true a.walk.p a.table.now c.requires.walk.laid)

pub hear_slot-requires : goal.hear_slot-requires
hear_slot-requires c = record {
  laid = c.requires.walk.laid;
  port = c.requires.walk.port;
  slot = slot-below c.args.first.now c.args.n _ (sym c.domain_slot.ensures ∙ c.in-Some-domain_slot.is);
}

pub returns-in_default-of_stream : goal.returns-in_default-of_stream
returns-in_default-of_stream c =
    let a = c.args in
    rw (
      no_stream_type a.walk.attribute (sym c.of_stream.ensures ∙ c.in_default-of_stream.is),
      hears-overheard domain_type a.first.now a.event a.n _ (sym c.overhear.ensures ∙ c.in-Some.is),
      slot-hears a.first.now a.n _ (sym c.domain_slot.ensures ∙ c.in-Some-domain_slot.is) _,
    )
    c.hear_slot.ensures

-- A value of a stream.

pub returns-in_default-stream_id : goal.returns-in_default-stream_id
returns-in_default-stream_id c =
    let a = c.args in
    let v = rw (stream_type a.walk.attribute c.in-Some-of_stream.attribute (sym c.of_stream.ensures ∙ c.in-Some-of_stream.is)) at c.requires.value in
    absurd (not-past (kind_of c.in-Some-of_stream.attribute) a.first.now a.n v (sym c.stream_id.ensures ∙ c.in_default-stream_id.is))

pub returns : goal.returns
returns c =
    let a = c.args in
    let k = kind_of c.in-Some-of_stream.attribute in
    let t = stream_type a.walk.attribute c.in-Some-of_stream.attribute (sym c.of_stream.ensures ∙ c.in-Some-of_stream.is) in
    let v = rw t at c.requires.value in
    let i = value-id-is k a.first.now a.n v _ (sym c.stream_id.ensures ∙ c.in-Some-stream_id.is) in
    rw (t, hears-overheard (registers k) a.first.now a.event a.n _ (sym c.overhear.ensures ∙ c.in-Some.is), stream-hears k a.first.now a.n _, ← i)
    c.hear_stream.ensures
