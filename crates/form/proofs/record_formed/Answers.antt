use Rattle.std.proofs.Common.{◌∙◌, ap, refl, rules, count_by}
use Rattle.std.specs.List.{list_all}
use Rattle.model.specs.Table.{cell_formed}
use Rattle.form.specs.Asks.{talks, sent_beside}
use Rattle.form.proofs.Tables.{record-tests}
use Rattle.form.proofs.record_formed.Goals as goal

pub returns : goal.returns
returns c =
    let a = c.args in
    let cells = c.split_parts.ensures in
    let results = c.split_parts-2.ensures in
    let sent = c.split_parts-3.ensures in
    let counted = c.count-talkers.ensures talks (λ x r h. search rules) in
    let each = c.every.ensures (cell_formed a.times.clock a.times.leave) (λ x r h. search rules) in
    let beside = c.every_pair.ensures sent_beside (λ x y r h. search rules) in
    record-tests a.ports a.times.clock a.times.leave a.rec.now c.requires _ _ _ refl refl refl _ (counted ∙ ap (count_by talks) cells.parts) _ _ _ _ _ _ _ _
    c.settled_formed.ensures
    (each ∙ ap (list_all (cell_formed a.times.clock a.times.leave)) cells.parts)
    (cc (c.is_held.ensures, cells.parts, sent.parts))
    (cc (c.is_zero.ensures, cells.behind))
    (cc (c.results_formed.ensures, cells.parts, results.parts))
    (cc (c.is_zero-2.ensures, results.behind))
    (cc (beside, results.parts, sent.parts))
    (cc (c.is_zero-3.ensures, sent.behind))
