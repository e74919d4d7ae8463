-- `moving::move_domain` meets its contract. Assumes nothing.
use mathlib.Core.Path.{◌∙◌, ap}
use borrow.Author.Rules.{rules}
use Rattle.model.specs.Registrations.{domain_stays}
use Rattle.table.proofs.OwnParts.{port-of-slot, lent-slot-at}
use Rattle.table.proofs.SenderParts.{lent-sender-at}
use Rattle.moving.proofs.OfTable.{slot-moves-in}
use Rattle.moving.proofs.move_domain.Statement.{statement}
use Rattle.moving.proofs.move_domain.Tie as tie

is-registered-requires : tie.Need-is_registered-registered-requires
is-registered-requires c κs =
    let s = c.before.before.before in
    let reads = lent-slot-at s.requires.slot _ c.slot_in-value.ensures.0 in
    reads.size

sender-in-requires : tie.Need-sender_in-a-requires
sender-in-requires c κs = port-of-slot c.requires.slot

move-slot-requires : tie.Need-move_slot-requires
move-slot-requires c κs =
    let s = c.before.before.before.before.before.before in
    let reads = lent-sender-at (port-of-slot s.requires.slot) _ c.sender_in-a.ensures.0 in
    record { laid = reads.laid; size = reads.size; slot = s.requires.slot.slot; few = s.requires.few }

returns : tie.Need-returns
returns c =
    let s = c.before.before.before.before.before.before.before.before.before in
    let a = s.args in
    let value = c.slot_in-value in
    slot-moves-in a.span a.from a.table.now _ _ _ _ a.p a.slot (port-of-slot s.requires.slot) c.sender_in-a.ensures.0
    (c.is_registered-registered.ensures ∙ ap domain_stays (lent-slot-at s.requires.slot _ value.ensures.0).is)
    c.move_slot.ensures

pub move_domain_spec : {M : Type 1} → statement M
move_domain_spec =
    tie.close
    (tie.spec (λ c κs. search rules) (λ c. search rules) (λ c. search rules) (λ c. search rules) (λ c. search rules) is-registered-requires
    sender-in-requires (λ c. search rules) (λ c. search rules) (λ c. search rules) (λ c. search rules) move-slot-requires (λ c. search rules) returns)
