-- `columns::is_pruned` meets its contract. Assumes nothing.
use borrow.Author.Rules.{rules}
use Rattle.model.specs.Settling.{is_pruned}
use Rattle.columns.proofs.Talkers.{destination-read}
use Rattle.columns.proofs.is_pruned.Statement.{statement}
use Rattle.columns.proofs.is_pruned.Tie as tie

returns : tie.Need-returns-then-pruning
unfolding is_pruned
returns c =
    rw (
      c.holds.ensures,
      c.own_at.ensures.is,
      c.get-destination.ensures.0,
      destination-read _ _ c.requires.0.is _ c.cell_at-said.ensures,
      ← c.pruning.ensures,
      c.if-pruning.true,
    )

returns-2 : tie.Need-returns
unfolding is_pruned
returns-2 c = rw (← c.pruning.ensures, c.if-pruning.false)

pub is_pruned_spec : {M : Type 1} → statement M
is_pruned_spec =
    tie.close
    (tie.spec (λ c κs. search rules) (λ c κs. search rules) (λ c κs. search rules) (λ c κs. search rules) (λ c κs. search rules) returns returns-2)
