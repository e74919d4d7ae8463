use Rattle.std.proofs.Common.{◌∙◌, ap, refl, rules, arith}
use mathlib.Core.Path.{ap₂}
use Rattle.model.specs.Lists.{all_zero}
use Rattle.form.specs.Asks.{all_pairs, within}
use Rattle.form.proofs.Tables.{totals-tests}
use Rattle.form.proofs.totals_formed.Goals as goal

pub returns : goal.returns
returns c =
    let a = c.args in
    let totals = c.split_parts.ensures in
    let ports = c.split_parts-2.ensures in
    let beside = c.every_pair.ensures (within c.any_registered-some.result) (λ x y r h. search rules) in
    totals-tests a.table.now a.head c.requires (omega arith) _ _ refl refl _ _ _ c.any_registered-some.ensures
    (beside ∙ ap₂ (all_pairs (within c.any_registered-some.result)) totals.parts ports.parts)
    (c.is_zero.ensures ∙ ap all_zero totals.behind)
