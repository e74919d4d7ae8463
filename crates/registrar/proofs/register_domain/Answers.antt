use Rattle.std.proofs.Common.{None, Some, true, arith, sym, ap, ◌∙◌}
use Rattle.model.specs.declared.event.Asked.TheVariants.{Join, Leave}
use Rattle.registrar.specs.Acts.{slot_asked}
use Rattle.registrar.proofs.Walks.{walked_none}
use Rattle.registrar.proofs.DomainValues.{slot-below, vlan-within, slot-asked, register-dropped, slot-left, slot-joined}
use Rattle.registrar.proofs.register_domain.Goals as goal

pub returns-in_default : goal.returns-in_default
returns-in_default c =
    let a = c.args in
    rw (register-dropped a.first.now a.n a.event 0 (sym c.domain_slot.ensures ∙ c.in_default.is)) (walked_none true a.p a.table.now c.requires.laid)

pub get-vlan-requires : goal.get-vlan-requires
get-vlan-requires c = (vlan-within c.args.first.now c.args.n c.requires.value, omega arith)

pub join_slot-requires : goal.join_slot-requires
join_slot-requires c =
    let i = slot-below c.args.first.now c.args.n _ (sym c.domain_slot.ensures ∙ c.in-Some.is) in
    (record { laid = c.requires.laid; port = c.requires.port; slot = i }, omega (arith, c.get-vlan.ensures.1))

pub quit_slot-requires : goal.quit_slot-requires
quit_slot-requires c =
    record { laid = c.requires.laid; port = c.requires.port; slot = slot-below c.args.first.now c.args.n _ (sym c.domain_slot.ensures ∙ c.in-Some.is) }

pub returns-in-None : goal.returns-in-None
unfolding slot_asked
returns-in-None c =
    let a = c.args in
    rw (slot-asked a.first.now a.n a.event 0 _ None (sym c.domain_slot.ensures ∙ c.in-Some.is) (sym c.asked.ensures ∙ c.in-None.is)) (walked_none true a.p a.table.now c.requires.laid)

pub returns-in-Some-Join : goal.returns-in-Some-Join
unfolding slot_asked
returns-in-Some-Join c =
    let a = c.args in
    let d = sym c.domain_slot.ensures ∙ c.in-Some.is in
    let vlan = c.get-vlan in
    rw (slot-asked a.first.now a.n a.event 0 _ (Some Join) d (sym c.asked.ensures ∙ (c.in-Some-Join.is ∙ ap Some c.in-Some-Join.field-0-is)), ← vlan.ensures.0)
    (slot-joined a.p _ a.table.now _ c.requires.laid (slot-below a.first.now a.n _ d) vlan.result (omega (arith, vlan.ensures.1)) c.join_slot.ensures)

pub returns-in-Some-Leave : goal.returns-in-Some-Leave
unfolding slot_asked
returns-in-Some-Leave c =
    let a = c.args in
    let d = sym c.domain_slot.ensures ∙ c.in-Some.is in
    rw (slot-asked a.first.now a.n a.event 0 _ (Some Leave) d (sym c.asked.ensures ∙ (c.in-Some-Leave.is ∙ ap Some c.in-Some-Leave.field-0-is)))
    (slot-left a.p _ a.table.now _ c.requires.laid (slot-below a.first.now a.n _ d) _ c.clock-now.ensures c.quit_slot.ensures)
