-- `registrar::quit_slot` meets its contract. Assumes nothing.
use borrow.Author.Rules.{rules}
use Rattle.table.proofs.OwnParts.{lent-slot-at, left-slot-at}
use Rattle.registrar.proofs.quit_slot.Statement.{statement}
use Rattle.registrar.proofs.quit_slot.Tie as tie

slot-in-requires : tie.Need-slot_in-a-requires
slot-in-requires c κs = c.requires

quit-requires : tie.Need-quit-requires
quit-requires c κs =
    let r = lent-slot-at c.requires _ c.slot_in-a.ensures.0 in
    (r.laid, r.size)

returns : tie.Need-returns
returns c =
    left-slot-at c.requires _ c.slot_in-a.ensures.0 _ _
    c.quit.ensures

pub quit_slot_spec : {M : Type 1} → statement M
quit_slot_spec =
    tie.close
    (tie.spec slot-in-requires (λ c. search rules) (λ c. search rules) (λ c. search rules) (λ c. search rules) quit-requires (λ c. search rules) returns)
