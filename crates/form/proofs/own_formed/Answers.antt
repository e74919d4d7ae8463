use Rattle.std.proofs.Common.{◌∙◌, ap, rules}
use Rattle.std.specs.List.{list_all}
use Rattle.model.specs.Table.{domain_formed}
use Rattle.form.proofs.Edges.{own-rules}
use Rattle.form.proofs.own_formed.Goals as goal

pub returns : goal.returns
returns c =
    let a = c.args in
    let rule = domain_formed a.times.clock a.times.leave in
    own-rules a.times.clock a.times.leave a.own.now _ _ (c.every.ensures rule (λ x r h. search rules) ∙ ap (list_all rule) c.split_parts.ensures.parts) c.held_formed.ensures
