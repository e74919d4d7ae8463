-- `table::sends_at` meets its contract. Assumes nothing.
use borrow.Author.Rules.{rules}
use Rattle.table.proofs.ByPlace.{lent-sends-at}
use Rattle.table.proofs.sends_at.Statement.{statement}
use Rattle.table.proofs.sends_at.Tie as tie

returns : tie.Need-returns
returns c = lent-sends-at c.requires _ c.sends_in-a.ensures.0

pub sends_at_spec : {M : Type 1} → statement M
sends_at_spec =
    tie.close (tie.spec (λ c κs. search rules) (λ c. search rules) (λ c. search rules) (λ c. search rules) (λ c. search rules) returns)
