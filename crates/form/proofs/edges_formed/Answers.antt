use Rattle.std.proofs.Common.{◌∙◌, ap, refl, rules, arith}
use Rattle.std.specs.List.{list_all}
use Rattle.model.specs.Lists.{all_zero}
use Rattle.model.specs.Table.{own_formed}
use Rattle.form.proofs.Tables.{edges-tests}
use Rattle.form.proofs.edges_formed.Goals as goal

pub returns : goal.returns
returns c =
    let a = c.args in
    let owns = c.split_parts.ensures in
    let rule = own_formed a.head.times.clock a.head.times.leave in
    edges-tests a.table.now a.head c.requires (omega arith) _ refl _ _
    (c.every.ensures rule (λ x r h. search rules) ∙ ap (list_all rule) owns.parts)
    (c.is_zero.ensures ∙ ap all_zero owns.behind)
