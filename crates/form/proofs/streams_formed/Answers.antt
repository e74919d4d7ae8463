use Rattle.std.proofs.Common.{◌∙◌, ap, refl, rules, arith, ltb, List, ℕ}
use Rattle.std.specs.List.{list_all}
use Rattle.std.proofs.lemmas.List.Sorted.{answers_always}
use Rattle.model.specs.Lists.{all_zero}
use Rattle.model.specs.Layout.{record_size}
use Rattle.model.specs.Table.{stream_formed, id_of, count_field}
use Rattle.form.proofs.Rising.{sorted-parts}
use Rattle.form.proofs.Tables.{streams-tests}
use Rattle.form.proofs.streams_formed.Goals as goal

pub returns : goal.returns
unfolding id_of count_field
returns c =
    let a = c.args in
    let records = c.split_parts.ensures in
    let rule = stream_formed a.head.ports a.head.times.clock a.head.times.leave in
    streams-tests a.table.now a.head c.requires (omega arith) _ refl _ _ _
    (c.every.ensures rule (λ x r h. search rules) ∙ ap (list_all rule) records.parts)
    (sorted-parts id_of record_size _ _ _ (rw records.parts at (c.is_sorted_by.ensures.cases (λ (x y : List ℕ). ltb (id_of x) (id_of y)) (answers_always _ _ _ (λ f a r g h. search rules)))))
    (c.is_zero.ensures ∙ ap all_zero records.behind)
