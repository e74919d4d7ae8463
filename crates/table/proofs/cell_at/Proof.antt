-- `table::cell_at` meets its contract. Assumes nothing.
use borrow.Author.Rules.{rules}
use Rattle.table.proofs.ByPlace.{lent-cell-at}
use Rattle.table.proofs.cell_at.Statement.{statement}
use Rattle.table.proofs.cell_at.Tie as tie

returns : tie.Need-returns
returns c = lent-cell-at c.requires _ c.cell_in-a.ensures.0

pub cell_at_spec : {M : Type 1} → statement M
cell_at_spec =
    tie.close (tie.spec (λ c κs. search rules) (λ c. search rules) (λ c. search rules) (λ c. search rules) (λ c. search rules) returns)
