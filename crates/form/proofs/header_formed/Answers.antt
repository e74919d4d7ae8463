use Rattle.std.proofs.Common.{◌≤◌, ◌/◌, ◌∙◌, sym, ap, refl, arith, rules}
use Rattle.model.specs.Layout.{ports_unit}
use Rattle.model.specs.Lists.{all_zero}
use Rattle.form.proofs.Tables.{header-fails, header-tests, few-ports}
use Rattle.form.proofs.header_formed.Goals as goal

pub returns-then-not-settings_rules : goal.returns-then-not-settings_rules
returns-then-not-settings_rules c = header-fails _ (sym c.settings_rules.ensures ∙ c.if-not-settings_rules.true)

pub split_parts-requires : goal.split_parts-requires
split_parts-requires c =
    let few : c.get.result / ports_unit ≤ 8 = few-ports _ _ c.get.ensures.0 (sym c.settings_rules.ensures ∙ c.if-not-settings_rules.false) in
    search (rules, arith)

pub returns : goal.returns
returns c =
    c.is_zero.ensures
    ∙ ap all_zero c.split_parts.ensures.behind
    ∙ header-tests _ _ c.get.ensures.0 (sym c.settings_rules.ensures ∙ c.if-not-settings_rules.false) _ refl
