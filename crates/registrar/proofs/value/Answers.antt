use Rattle.std.proofs.Common.{true, false, sym, ◌∙◌}
use Rattle.model.specs.Attributes.{type_of}
use Rattle.registrar.proofs.ValueActs.{declared}
use Rattle.registrar.proofs.DomainValues.{acts-without, events-acts, hear-room}
use Rattle.registrar.proofs.Walks.{walked-laid, walked_none, first-stopped, second-done}
use Rattle.registrar.proofs.value.Goals as goal

pub returns-in_default : goal.returns-in_default
returns-in_default c =
    let a = c.args in
    rw (acts-without a.first.now a.events.now a.fours.now a.n c.requires.event (type_of a.walk.attribute) c.requires.value (sym c.event_for.ensures ∙ c.in_default.is))
    (walked_none a.walk.applying a.walk.p a.table.now c.requires.walk.laid)

pub register-requires : goal.register-requires
register-requires c =
    let a = c.args in
    record {
      walk = c.requires.walk;
      value = c.requires.value;
      four = rw c.four_of-four.ensures (declared (type_of a.walk.attribute) a.events.now a.fours.now (λ i. (c.type_inv.fours i).fits) a.n c.in-Some.event (sym c.event_for.ensures ∙ c.in-Some.is));
    }

pub returns-then-not-register : goal.returns-then-not-register
returns-then-not-register c =
    let a = c.args in
    let acts = events-acts a.first.now a.events.now a.fours.now a.n c.requires.event (type_of a.walk.attribute) c.requires.value c.in-Some.event c.four_of-four.result (sym c.event_for.ensures ∙ c.in-Some.is) c.four_of-four.ensures in
    first-stopped a.walk.applying a.walk.p _ _ _ acts a.table.now _ _ c.if-not-register.true c.register.ensures

pub hear_value-requires : goal.hear_value-requires
hear_value-requires c = record { walk = record { laid = walked-laid c.register.ensures; port = c.requires.walk.port }; value = c.requires.value }

pub returns-then-walk : goal.returns-then-walk
returns-then-walk c =
    let a = c.args in
    let acts = events-acts a.first.now a.events.now a.fours.now a.n c.requires.event (type_of a.walk.attribute) c.requires.value c.in-Some.event c.four_of-four.result (sym c.event_for.ensures ∙ c.in-Some.is) c.four_of-four.ensures in
    second-done a.walk.applying a.walk.p _ _ _ acts a.table.now _ _ c.if-not-register.false c.register.ensures
    true c.if-walk.true _ c.hear_value.ensures

pub returns-else-walk : goal.returns-else-walk
returns-else-walk c =
    let a = c.args in
    let acts = events-acts a.first.now a.events.now a.fours.now a.n c.requires.event (type_of a.walk.attribute) c.requires.value c.in-Some.event c.four_of-four.result (sym c.event_for.ensures ∙ c.in-Some.is) c.four_of-four.ensures in
    second-done a.walk.applying a.walk.p _ _ _ acts a.table.now _ _ c.if-not-register.false c.register.ensures
    false c.if-walk.false _
    (hear-room a.first.now a.n a.walk.p _ (walked-laid c.register.ensures) (λ i. (c.type_inv.first i).fits) (type_of a.walk.attribute) c.requires.value c.in-Some.event)
