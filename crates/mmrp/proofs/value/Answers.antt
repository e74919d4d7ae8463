use Rattle.std.proofs.Common.{None, Some, rules, arith, sym, ap, ◌∙◌}
use Rattle.model.specs.Registrations.{leave_address}
use Rattle.model.specs.AddressFrames.{address_of}
use Rattle.mmrp.proofs.Walks.{laid-size, walked_none, room-leave, leaving-room, one_left}
use Rattle.mmrp.proofs.Reading.{value-is, acts-nothing, acts-join, acts-leave}
use Rattle.mmrp.proofs.value.Goals as goal

pub leave-requires : goal.leave-requires
leave-requires c = (c.requires.laid, laid-size c.args.own.now c.requires.laid)

pub returns-in-None : goal.returns-in-None
returns-in-None c =
    rw (acts-nothing _ _ (sym c.ask.ensures ∙ c.in-None.is)) (walked_none c.args.walk.applying c.args.walk.clock c.args.own.now c.requires.laid)

pub returns-in-Some-Join : goal.returns-in-Some-Join
returns-in-Some-Join c =
    let m = value-is _ _ (sym c.in-Some.is ∙ (c.address.ensures ∙ c.requires.value.read)) in
    rw (acts-join _ _ (sym c.ask.ensures ∙ (c.in-Some-Join.is ∙ ap Some c.in-Some-Join.field-0-is)), ← m) c.join.ensures

pub returns-then-walk : goal.returns-then-walk
returns-then-walk c =
    let m = value-is _ _ (sym c.in-Some.is ∙ (c.address.ensures ∙ c.requires.value.read)) in
    rw (c.if-walk.true, acts-leave _ _ (sym c.ask.ensures ∙ (c.in-Some-Leave.is ∙ ap Some c.in-Some-Leave.field-0-is)), ← m)
    (one_left c.args.walk.clock c.args.own.now c.requires.laid (search rules) _ _ c.leave.ensures)

pub returns-else-walk : goal.returns-else-walk
returns-else-walk c =
    rw (acts-leave _ _ (sym c.ask.ensures ∙ (c.in-Some-Leave.is ∙ ap Some c.in-Some-Leave.field-0-is)))
    (leaving-room c.args.walk.clock c.args.own.now c.requires.laid c.args.walk.applying (leave_address (address_of c.args.first.now c.args.n)) c.if-walk.false
    (room-leave _ _))
