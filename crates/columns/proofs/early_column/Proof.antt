-- `columns::early_column` meets its contract. Assumes nothing.
use mathlib.Core.Path.{refl, sym, ◌∙◌}
use borrow.Author.Rules.{rules}
use Rattle.model.specs.Settling.{scene_of, outcome_column}
use Rattle.model.specs.Table.{decode}
use Rattle.model.specs.Why.{column_by}
use Rattle.model.proofs.Why.{steps-named}
use Rattle.columns.specs.Stages.{early_column}
use Rattle.columns.specs.Places.{SceneOn}
use Rattle.columns.proofs.Talkers.{source-read}
use Rattle.columns.proofs.early_column.Statement.{statement}
use Rattle.columns.proofs.early_column.Tie as tie

-- the scene of the bridge as it stands, in which the port has the flags that were read
scene : (c : tie.After-is_pruned) → let a = c.args in let b = decode a.table.now in
    SceneOn b a.p c.stored_edges.result (scene_of b)
scene c = record { settings = refl; inbound = refl; edges = c.stored_edges.ensures; addresses = refl }

early-step-requires : tie.Need-early_step-step-requires
early-step-requires c κs = let w = c.requires in (w.0, w.1, c.is_pruned.ensures)

returns : tie.Need-returns
unfolding early_column column_by outcome_column
returns c =
    let a = c.args in
    let sc = scene_of (decode a.table.now) in
    c.column_of.ensures a.t
    ∙ rw (
      c.early_step-step.ensures sc (scene c.before.before.before),
      source-read _ _ c.requires.0.talker.is _ c.cell_at.ensures,
    )
    (sym (steps-named sc _ _ _ _ refl))

pub early_column_spec : {M : Type 1} → statement M
early_column_spec =
    tie.close
    (tie.spec (λ c κs. search rules) (λ c κs. search rules) early-step-requires (λ c κs. search rules) (λ c κs. search rules) returns)
