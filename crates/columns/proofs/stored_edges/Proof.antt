-- `columns::stored_edges` meets its contract. Assumes nothing.
use mathlib.Core.Path.{refl}
use borrow.Author.Rules.{rules}
use Rattle.model.specs.Lists.{is_one}
use Rattle.model.specs.Table.{to_own}
use Rattle.columns.proofs.stored_edges.Statement.{statement}
use Rattle.columns.proofs.stored_edges.Tie as tie

returns : tie.Need-returns
unfolding to_own is_one
returns c = rw (← c.own_at-own.ensures.is) record { in_a = refl; in_b = refl }

pub stored_edges_spec : {M : Type 1} → statement M
stored_edges_spec = tie.close (tie.spec (λ c κs. search rules) (λ c. search rules) (λ c. search rules) returns)
