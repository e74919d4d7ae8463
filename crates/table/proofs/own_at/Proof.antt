-- `table::own_at` meets its contract. Assumes nothing.
use borrow.Author.Rules.{rules}
use Rattle.table.proofs.OwnParts.{lent-own-at}
use Rattle.table.proofs.own_at.Statement.{statement}
use Rattle.table.proofs.own_at.Tie as tie

returns : tie.Need-returns
returns c = lent-own-at c.requires _ c.own_in-a.ensures.0

pub own_at_spec : {M : Type 1} → statement M
own_at_spec =
    tie.close (tie.spec (λ c κs. search rules) (λ c. search rules) (λ c. search rules) (λ c. search rules) (λ c. search rules) returns)
