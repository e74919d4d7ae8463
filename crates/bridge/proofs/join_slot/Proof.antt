-- `bridge::join_slot` meets its contract. Assumes nothing.
use borrow.Author.Rules.{rules}
use Rattle.bridge.proofs.Joining.{slot-joined}
use Rattle.bridge.proofs.join_slot.Statement.{statement}
use Rattle.bridge.proofs.join_slot.Tie as tie

returns : tie.Need-returns
returns c = let s = c in slot-joined s.args.sender.now s.requires.0 s.args.slot s.requires.2

pub join_slot_spec : {M : Type 1} → statement M
join_slot_spec = tie.close (tie.spec (λ c. search rules) (λ c. search rules) returns)
