-- `table::settled_at` meets its contract. Assumes nothing.
use borrow.Author.Rules.{rules}
use Rattle.table.proofs.ByPlace.{lent-settled-at}
use Rattle.table.proofs.settled_at.Statement.{statement}
use Rattle.table.proofs.settled_at.Tie as tie

returns : tie.Need-returns
returns c = lent-settled-at c.requires _ c.settled_in-a.ensures.0

pub settled_at_spec : {M : Type 1} → statement M
settled_at_spec =
    tie.close (tie.spec (λ c κs. search rules) (λ c. search rules) (λ c. search rules) (λ c. search rules) (λ c. search rules) returns)
