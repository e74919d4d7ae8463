-- `registrar::join_slot` meets its contract. Assumes nothing.
use borrow.Author.Rules.{rules}
use Rattle.model.specs.State.{stays, domain}
use Rattle.table.proofs.OwnParts.{lent-slot-at, left-slot-at}
use Rattle.registrar.proofs.join_slot.Statement.{statement}
use Rattle.registrar.proofs.join_slot.Tie as tie

slot-in-requires : tie.Need-slot_in-a-requires
slot-in-requires c κs = c.requires.0

join-requires : tie.Need-join-requires
join-requires c κs =
    let p = c.requires in
    ((lent-slot-at p.0 _ c.slot_in-a.ensures.0).size, p.1)

returns : tie.Need-returns
returns c =
    let a = c.before.before.before.before.before.before in
    left-slot-at a.requires.0 _ c.slot_in-a.ensures.0 (λ d. domain a.args.vlan stays) _
    c.join.ensures

pub join_slot_spec : {M : Type 1} → statement M
join_slot_spec =
    tie.close
    (tie.spec slot-in-requires (λ c. search rules) (λ c. search rules) (λ c. search rules) (λ c. search rules) join-requires (λ c. search rules) returns)
