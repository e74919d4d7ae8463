-- `declarations::leaves_all` meets its contract. Assumes nothing.
use borrow.Author.Rules.{rules}
use Rattle.declarations.proofs.Senders.{active-octet}
use Rattle.declarations.proofs.leaves_all.Statement.{statement}
use Rattle.declarations.proofs.leaves_all.Tie as tie

returns : tie.Need-returns
returns c = active-octet _ _ c.sender_at-sender.ensures

pub leaves_all_spec : {M : Type 1} → statement M
leaves_all_spec = tie.close (tie.spec (λ c κs. search rules) (λ c. search rules) returns)
