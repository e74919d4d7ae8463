-- `table::id_at` meets its contract. Assumes nothing.
use mathlib.Core.Path.{◌∙◌}
use borrow.Author.Rules.{rules}
use Rattle.table.proofs.Finding.{stream-id}
use Rattle.table.proofs.id_at.Statement.{statement}
use Rattle.table.proofs.id_at.Tie as tie

returns : tie.Need-returns
returns c =
    let s = c.requires in
    c.get.ensures.0 ∙ stream-id _ s.laid _ _ s.held c.record_in.ensures.0

pub id_at_spec : {M : Type 1} → statement M
id_at_spec = tie.close (tie.spec (λ c κs. search rules) (λ c κs. search rules) returns)
