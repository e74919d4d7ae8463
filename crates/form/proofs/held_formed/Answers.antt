use Rattle.std.proofs.Common.{◌∙◌, ap, refl, rules, arith, ltb, List, ℕ}
use Rattle.std.specs.List.{list_all}
use Rattle.std.proofs.lemmas.List.Sorted.{answers_always}
use Rattle.model.specs.Lists.{all_zero}
use Rattle.model.specs.Layout.{address_size}
use Rattle.model.specs.Table.{address_formed, mac_of}
use Rattle.form.proofs.Rising.{sorted-parts}
use Rattle.form.proofs.Edges.{too-many-addresses, held-tests}
use Rattle.form.proofs.held_formed.Goals as goal

pub returns-then-count-gt-MOST_ADDRESSES : goal.returns-then-count-gt-MOST_ADDRESSES
returns-then-count-gt-MOST_ADDRESSES c = too-many-addresses _ _ _ c.if-count-gt-MOST_ADDRESSES.true

pub returns : goal.returns
unfolding mac_of
returns c =
    let a = c.args in
    let held = c.split_parts.ensures in
    let rule = address_formed a.times.clock a.times.leave in
    held-tests a.times.clock a.times.leave a.own.now (omega arith) c.if-count-gt-MOST_ADDRESSES.false _ refl _ _ _
    (c.every.ensures rule (λ x r h. search rules) ∙ ap (list_all rule) held.parts)
    (sorted-parts mac_of address_size _ _ _ (rw held.parts at (c.is_sorted_by.ensures.cases (λ (x y : List ℕ). ltb (mac_of x) (mac_of y)) (answers_always _ _ _ (λ f a r g h. search rules)))))
    (c.is_zero.ensures ∙ ap all_zero held.behind)
