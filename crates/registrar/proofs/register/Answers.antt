use Rattle.std.proofs.Common.{Some, sym, ap, ◌∙◌, rules}
use Rattle.model.specs.Attributes.{kind_of}
use Rattle.model.proofs.Attributes.{stream_type, no_stream_type}
use Rattle.registrar.specs.Acts.{acts_asked, register_acts}
use Rattle.registrar.proofs.ValueActs.{stream-asks, value-id-is, not-past}
use Rattle.registrar.proofs.DomainValues.{register-room}
use Rattle.registrar.proofs.Walks.{walked_none}
use Rattle.registrar.proofs.Touched.{left-room}
use Rattle.registrar.proofs.register.Goals as goal

-- A Domain value.

pub register_domain-requires : goal.register_domain-requires
register_domain-requires c =
    let p = c.requires in
    record {
      laid = p.walk.laid;
      port = p.walk.port;
      value = rw (no_stream_type c.args.walk.attribute (sym c.of_stream.ensures ∙ c.in_default.is)) at p.value;
    }

pub returns-then-applying : goal.returns-then-applying
unfolding register_acts
returns-then-applying c =
    rw (no_stream_type c.args.walk.attribute (sym c.of_stream.ensures ∙ c.in_default.is), c.if-applying.true) c.register_domain.ensures

pub returns-else-applying : goal.returns-else-applying
returns-else-applying c =
    let a = c.args in
    rw (no_stream_type a.walk.attribute (sym c.of_stream.ensures ∙ c.in_default.is), c.if-applying.false)
    (register-room a.first.now a.n a.walk.p a.table.now c.requires.walk.laid (λ i. (c.type_inv.first i).fits) a.event a.four)

-- A value that registers a stream.

pub returns-in_default-stream_id : goal.returns-in_default-stream_id
returns-in_default-stream_id c =
    let a = c.args in
    let v = rw (stream_type a.walk.attribute c.in-Some.attribute (sym c.of_stream.ensures ∙ c.in-Some.is)) at c.requires.value in
    absurd (not-past (kind_of c.in-Some.attribute) a.first.now a.n v (sym c.stream_id.ensures ∙ c.in_default-stream_id.is))

pub join-requires : goal.join-requires
join-requires c =
    let a = c.args in
    let p = c.requires in
    let t = stream_type a.walk.attribute c.in-Some.attribute (sym c.of_stream.ensures ∙ c.in-Some.is) in
    let v = rw t at p.value in
    record {
      walk = p.walk;
      value = v;
      id = value-id-is (kind_of c.in-Some.attribute) a.first.now a.n v _ (sym c.stream_id.ensures ∙ c.in-Some-stream_id.is);
      four = rw t at p.four;
    }

pub returns-in-None : goal.returns-in-None
unfolding acts_asked
returns-in-None c =
    let a = c.args in
    rw (
      stream_type a.walk.attribute c.in-Some.attribute (sym c.of_stream.ensures ∙ c.in-Some.is),
      stream-asks (kind_of c.in-Some.attribute) a.first.now a.event a.four a.n _ (sym c.asked.ensures ∙ c.in-None.is),
    )
    (walked_none a.walk.applying a.walk.p a.table.now c.requires.walk.laid)

pub returns-in-Some-Join : goal.returns-in-Some-Join
unfolding acts_asked
returns-in-Some-Join c =
    let a = c.args in
    rw (
      stream_type a.walk.attribute c.in-Some.attribute (sym c.of_stream.ensures ∙ c.in-Some.is),
      stream-asks (kind_of c.in-Some.attribute) a.first.now a.event a.four a.n _ (sym c.asked.ensures ∙ (c.in-Some-Join.is ∙ ap Some c.in-Some-Join.field-0-is)),
    )
    c.join.ensures

pub returns-then-applying-2 : goal.returns-then-applying-2
unfolding acts_asked
returns-then-applying-2 c =
    let a = c.args in
    let k = kind_of c.in-Some.attribute in
    let t = stream_type a.walk.attribute c.in-Some.attribute (sym c.of_stream.ensures ∙ c.in-Some.is) in
    let v = rw t at c.requires.value in
    let i = value-id-is k a.first.now a.n v _ (sym c.stream_id.ensures ∙ c.in-Some-stream_id.is) in
    rw (t, stream-asks k a.first.now a.event a.four a.n _ (sym c.asked.ensures ∙ (c.in-Some-Leave.is ∙ ap Some c.in-Some-Leave.field-0-is)), c.if-applying-2.true, ← i) c.withdraw.ensures

pub returns-else-applying-2 : goal.returns-else-applying-2
unfolding acts_asked
returns-else-applying-2 c =
    let a = c.args in
    let k = kind_of c.in-Some.attribute in
    let t = stream_type a.walk.attribute c.in-Some.attribute (sym c.of_stream.ensures ∙ c.in-Some.is) in
    let v = rw t at c.requires.value in
    let i = value-id-is k a.first.now a.n v _ (sym c.stream_id.ensures ∙ c.in-Some-stream_id.is) in
    rw (t, stream-asks k a.first.now a.event a.four a.n _ (sym c.asked.ensures ∙ (c.in-Some-Leave.is ∙ ap Some c.in-Some-Leave.field-0-is)), c.if-applying-2.false, ← i)
    (left-room a.walk.p k a.table.now c.requires.walk.laid c.in-Some-stream_id.id (search rules))
