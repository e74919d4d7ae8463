-- `table::result_at` meets its contract. Assumes nothing.
use borrow.Author.Rules.{rules}
use Rattle.table.proofs.ByPlace.{lent-result-at}
use Rattle.table.proofs.result_at.Statement.{statement}
use Rattle.table.proofs.result_at.Tie as tie

returns : tie.Need-returns
returns c = lent-result-at c.requires _ c.result_in-a.ensures.0

pub result_at_spec : {M : Type 1} → statement M
result_at_spec =
    tie.close (tie.spec (λ c κs. search rules) (λ c. search rules) (λ c. search rules) (λ c. search rules) (λ c. search rules) returns)
