use Rattle.std.proofs.Common.{Ok, Err, refl, arith, sym, ◌∙◌}
use Rattle.msrpdu.proofs.Left.{left-given, left-on, ok-is}
use Rattle.msrpdu.proofs.Reading.{within, over-within}
use Rattle.msrpdu.proofs.Walking.{ahead-skipped, ahead-list, list-in, list-refused, list-end, list-next, list-passed, pdu-refused, pdu-end, pdu-skipped, pdu-list-refused, pdu-list, walk-empty, walk-long, walk-in, walk-number}
use Rattle.msrpdu.proofs.check.Goals as goal

pub returns-then-n-eq0 : goal.returns-then-n-eq0
returns-then-n-eq0 c = walk-number _ _ (sym (walk-empty _ c.if-n-eq0.true))

pub returns-then-n-gt-LONGEST : goal.returns-then-n-gt-LONGEST
returns-then-n-gt-LONGEST c = walk-number _ _ (sym (walk-long _ c.if-n-eq0.false c.if-n-gt-LONGEST.true))

pub messages-init : goal.messages-init
messages-init c = walk-in _ c.if-n-eq0.false c.if-n-gt-LONGEST.false

-- a Message that is refused, skipped, or the end

pub returns-in-Err : goal.returns-in-Err
returns-in-Err c =
    walk-number _ (Err c.in-Err.refusal) (left-given c.messages.invariant _ (λ f. pdu-refused f _ _ _ _ (sym c.message.ensures ∙ c.in-Err.is)))

pub returns-in-Ok-End : goal.returns-in-Ok-End
returns-in-Ok-End c =
    walk-number _ (Ok tt) (left-given c.messages.invariant _ (λ f. pdu-end f _ _ _ (ok-is (sym c.message.ensures ∙ c.in-Ok-End.is) c.in-Ok-End.field-0-is)))

pub messages-smaller-in-Ok-Skipped : goal.messages-smaller-in-Ok-Skipped
messages-smaller-in-Ok-Skipped c =
    let a = ahead-skipped _ _ _ _ (ok-is (sym c.message.ensures ∙ c.in-Ok-Skipped.is) c.in-Ok-Skipped.field-0-is) in
    omega (arith, a.0, a.1)

pub messages-preserved-in-Ok-Skipped : goal.messages-preserved-in-Ok-Skipped
messages-preserved-in-Ok-Skipped c =
    let e = ok-is (sym c.message.ensures ∙ c.in-Ok-Skipped.is) c.in-Ok-Skipped.field-0-is in
    let a = ahead-skipped _ _ _ _ e in
    left-on c.messages.invariant _ (omega (arith, a.0)) a.1 (λ f. pdu-skipped f _ _ _ _ e)

-- one whose list is read: the list is the part that is lent

pub slice_bounds-list-count : goal.slice_bounds-list-count
slice_bounds-list-count c =
    omega (arith, (ahead-list _ _ _ _ (ok-is (sym c.message.ensures ∙ c.in-Ok-List.is) c.in-Ok-List.field-0-is)).ends)

pub slice_bounds-list-start : goal.slice_bounds-list-start
slice_bounds-list-start c =
    omega (arith, (ahead-list _ _ _ _ (ok-is (sym c.message.ensures ∙ c.in-Ok-List.is) c.in-Ok-List.field-0-is)).ends)

pub slice_bounds-list-end : goal.slice_bounds-list-end
slice_bounds-list-end c =
    omega (arith, (ahead-list _ _ _ _ (ok-is (sym c.message.ensures ∙ c.in-Ok-List.is) c.in-Ok-List.field-0-is)).within)

pub loop-refusal-init : goal.loop-refusal-init
loop-refusal-init c = list-in _ _ _

-- a vector of it that is refused, read or passed over

pub returns-in-Err-attribute_vector : goal.returns-in-Err-attribute_vector
returns-in-Err-attribute_vector c =
    let e = ok-is (sym c.message.ensures ∙ c.in-Ok-List.is) c.in-Ok-List.field-0-is in
    let l = left-given c.loop-refusal.invariant _ (λ f. list-refused f _ _ _ _ _ (sym c.attribute_vector.ensures ∙ c.in-Err-attribute_vector.is)) in
    walk-number _ (Err c.in-Err-attribute_vector.refusal) (left-given c.messages.invariant _ (λ f. pdu-list-refused f _ _ _ _ e _ l _ refl))

pub loop-refusal-smaller-in-Ok-Vector : goal.loop-refusal-smaller-in-Ok-Vector
loop-refusal-smaller-in-Ok-Vector c =
    let w = within _ _ _ _ _ (ok-is (sym c.attribute_vector.ensures ∙ c.in-Ok-Vector.is) c.in-Ok-Vector.field-0-is) in
    omega arith

pub loop-refusal-preserved-in-Ok-Vector : goal.loop-refusal-preserved-in-Ok-Vector
loop-refusal-preserved-in-Ok-Vector c =
    let a = ok-is (sym c.attribute_vector.ensures ∙ c.in-Ok-Vector.is) c.in-Ok-Vector.field-0-is in
    let w = within _ _ _ _ _ a in
    left-on c.loop-refusal.invariant _ (omega arith) w.list (λ f. list-next f _ _ _ _ _ a)

pub loop-refusal-smaller : goal.loop-refusal-smaller
loop-refusal-smaller c =
    let w = over-within _ _ _ _ _ (ok-is (sym c.attribute_vector.ensures ∙ c.in-Ok-PassedOver.is) c.in-Ok-PassedOver.field-0-is) in
    omega (arith, w.0, w.1)

pub loop-refusal-preserved : goal.loop-refusal-preserved
loop-refusal-preserved c =
    let a = ok-is (sym c.attribute_vector.ensures ∙ c.in-Ok-PassedOver.is) c.in-Ok-PassedOver.field-0-is in
    let w = over-within _ _ _ _ _ a in
    left-on c.loop-refusal.invariant _ (omega (arith, w.0)) w.1 (λ f. list-passed f _ _ _ _ _ a)

-- its EndMark

pub messages-smaller : goal.messages-smaller
messages-smaller c =
    let a = ahead-list _ _ _ _ (ok-is (sym c.message.ensures ∙ c.in-Ok-List.is) c.in-Ok-List.field-0-is) in
    omega (arith, a.list, a.ends, a.within)

pub messages-preserved : goal.messages-preserved
messages-preserved c =
    let e = ok-is (sym c.message.ensures ∙ c.in-Ok-List.is) c.in-Ok-List.field-0-is in
    let a = ahead-list _ _ _ _ e in
    let l = left-given c.loop-refusal.invariant _ (λ f. list-end f _ _ _ _ (ok-is (sym c.attribute_vector.ensures ∙ c.in-Ok-EndMark.is) c.in-Ok-EndMark.field-0-is)) in
    left-on c.messages.invariant _ (omega (arith, a.list, a.ends)) a.within (λ f. pdu-list f _ _ _ _ e _ l refl)
