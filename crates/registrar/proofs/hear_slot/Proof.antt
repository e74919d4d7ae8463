-- `registrar::hear_slot` meets its contract. Assumes nothing.
use borrow.Author.Rules.{rules}
use Rattle.table.proofs.OwnParts.{port-of-slot}
use Rattle.table.proofs.SenderParts.{lent-sender-at, left-sender-at}
use Rattle.model.specs.Table.{decode}
use Rattle.model.specs.Registrations.{hear_domain}
use Rattle.hearing.specs.Hears.{meant}
use Rattle.registrar.proofs.Walks.{domain-heard}
use Rattle.registrar.proofs.hear_slot.Statement.{statement}
use Rattle.registrar.proofs.hear_slot.Tie as tie

sender-in-requires : tie.Need-sender_in-a-requires
sender-in-requires c κs = port-of-slot c.requires

hear-domain-requires : tie.Need-hear_domain-requires
hear-domain-requires c κs =
    let p = c.requires in
    let r = lent-sender-at (port-of-slot p) _ c.sender_in-a.ensures.0 in
    (r.laid, r.size, p.slot)

returns : tie.Need-returns
returns c =
    let s = c.before.before.before.before.before.before in
    let a = s.args in
    domain-heard a.p (hear_domain a.slot (meant a.heard)) a.table.now s.requires.laid s.requires.slot tt _
    (left-sender-at (port-of-slot s.requires) _ c.sender_in-a.ensures.0 _ _ (c.hear_domain.ensures (decode a.table.now).clock))

pub hear_slot_spec : {M : Type 1} → statement M
hear_slot_spec =
    tie.close
    (tie.spec sender-in-requires (λ c. search rules) (λ c. search rules) (λ c. search rules) (λ c. search rules) hear-domain-requires (λ c. search rules) returns)
