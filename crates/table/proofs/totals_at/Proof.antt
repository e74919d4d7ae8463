-- `table::totals_at` meets its contract. Assumes nothing.
use borrow.Author.Rules.{rules}
use Rattle.table.proofs.ByPlace.{lent-totals-at}
use Rattle.table.proofs.totals_at.Statement.{statement}
use Rattle.table.proofs.totals_at.Tie as tie

returns : tie.Need-returns
returns c = lent-totals-at c.requires _ c.totals_in-a.ensures.0

pub totals_at_spec : {M : Type 1} → statement M
totals_at_spec =
    tie.close (tie.spec (λ c κs. search rules) (λ c. search rules) (λ c. search rules) (λ c. search rules) (λ c. search rules) returns)
