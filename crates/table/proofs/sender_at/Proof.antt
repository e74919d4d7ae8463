-- `table::sender_at` meets its contract. Assumes nothing.
use borrow.Author.Rules.{rules}
use Rattle.table.proofs.SenderParts.{lent-sender-at}
use Rattle.table.proofs.sender_at.Statement.{statement}
use Rattle.table.proofs.sender_at.Tie as tie

returns : tie.Need-returns
returns c = lent-sender-at c.requires _ c.sender_in-a.ensures.0

pub sender_at_spec : {M : Type 1} → statement M
sender_at_spec =
    tie.close (tie.spec (λ c κs. search rules) (λ c. search rules) (λ c. search rules) (λ c. search rules) (λ c. search rules) returns)
