use Rattle.std.proofs.Common.{Ok, length, rules, arith, sym, ap, ◌∙◌}
use Rattle.model.specs.Attributes.{type_of}
use Rattle.msrpdu.proofs.Reading.{typed-refused, end-within, typed-end, typed-early, first-octets, few-values, typed-none, typed-past, typed-within, typed-over}
use Rattle.msrpdu.proofs.attribute_vector.Goals as goal

pub returns-in_err-read : goal.returns-in_err-read
returns-in_err-read c =
    let y = rw (c.first_length-first.ensures, c.has_four_packed.ensures) at c.vector.ensures in
    let h = (typed-refused c.args.version (type_of c.args.attribute) c.args.list.now c.args.at _ (sym y ∙ c.in_err-read.was)) in
    search rules

pub overflow_sub-list : goal.overflow_sub-list
overflow_sub-list c =
    let y = rw (c.first_length-first.ensures, c.has_four_packed.ensures) at c.vector.ensures in
    omega (arith, end-within _ (type_of c.args.attribute) _ _ (sym y ∙ (c.in_ok-read.was ∙ ap Ok c.in-EndMark.is)))

pub returns-then-list-at-ne2 : goal.returns-then-list-at-ne2
returns-then-list-at-ne2 c =
    let y = rw (c.first_length-first.ensures, c.has_four_packed.ensures) at c.vector.ensures in
    (sym (typed-early _ (type_of c.args.attribute) _ _ (sym y ∙ (c.in_ok-read.was ∙ ap Ok c.in-EndMark.is)) (λ e. omega (arith, c.if-list-at-ne2.true))))

pub returns-else-list-at-ne2 : goal.returns-else-list-at-ne2
returns-else-list-at-ne2 c =
    let y = rw (c.first_length-first.ensures, c.has_four_packed.ensures) at c.vector.ensures in
    let a = sym y ∙ (c.in_ok-read.was ∙ ap Ok c.in-EndMark.is) in
    (ap Ok c.in-EndMark.is ∙ sym (typed-end _ (type_of c.args.attribute) _ _ a (omega (arith, end-within _ (type_of c.args.attribute) _ _ a))))

pub runs_past-requires : goal.runs_past-requires
runs_past-requires c =
    let y = rw (c.first_length-first.ensures, c.has_four_packed.ensures) at c.vector.ensures in
    let a = sym y ∙ (c.in_ok-read.was ∙ ap Ok c.in-Vector.is) in
    let e = ap length c.first_value_at-first.ensures ∙ first-octets _ (type_of c.args.attribute) _ _ _ a in
    (omega (arith, few-values _ (type_of c.args.attribute) _ _ _ a), e)

pub returns-then-runs_past : goal.returns-then-runs_past
returns-then-runs_past c =
    let y = rw (c.first_length-first.ensures, c.has_four_packed.ensures) at c.vector.ensures in
    let z = rw c.first_value_at-first.ensures at c.runs_past.ensures in
    (sym (typed-past _ (type_of c.args.attribute) _ _ _ (sym y ∙ (c.in_ok-read.was ∙ ap Ok c.in-Vector.is)) c.if-head-gt0.true _ z c.if-runs_past.true))

pub returns-else-runs_past : goal.returns-else-runs_past
returns-else-runs_past c =
    let y = rw (c.first_length-first.ensures, c.has_four_packed.ensures) at c.vector.ensures in
    let z = rw c.first_value_at-first.ensures at c.runs_past.ensures in
    (sym (typed-within _ (type_of c.args.attribute) _ _ _ (sym y ∙ (c.in_ok-read.was ∙ ap Ok c.in-Vector.is)) c.if-head-gt0.true _ z c.if-runs_past.false))

pub returns-else-head-gt0 : goal.returns-else-head-gt0
returns-else-head-gt0 c =
    let y = rw (c.first_length-first.ensures, c.has_four_packed.ensures) at c.vector.ensures in
    (sym (typed-none _ (type_of c.args.attribute) _ _ _ (sym y ∙ (c.in_ok-read.was ∙ ap Ok c.in-Vector.is)) (omega arith)))

pub returns-in-PassedOver : goal.returns-in-PassedOver
returns-in-PassedOver c =
    let y = rw (c.first_length-first.ensures, c.has_four_packed.ensures) at c.vector.ensures in
    (ap Ok c.in-PassedOver.is ∙ sym (typed-over _ (type_of c.args.attribute) _ _ _ (sym y ∙ (c.in_ok-read.was ∙ ap Ok c.in-PassedOver.is))))
