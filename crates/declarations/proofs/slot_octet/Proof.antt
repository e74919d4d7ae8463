-- `declarations::slot_octet` meets its contract. Assumes nothing.
use borrow.Author.Rules.{rules}
use Rattle.declarations.proofs.Senders.{slot_state}
use Rattle.declarations.proofs.slot_octet.Statement.{statement}
use Rattle.declarations.proofs.slot_octet.Tie as tie

returns : tie.Need-returns
returns c = slot_state _ _ _ c.sender_at-sender.ensures c.requires.slot

pub slot_octet_spec : {M : Type 1} → statement M
slot_octet_spec = tie.close (tie.spec (λ c κs. search rules) (λ c. search rules) (λ c. search rules) returns)
