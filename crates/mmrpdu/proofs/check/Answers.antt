use Rattle.std.proofs.Common.{Ok, Err, refl, arith, sym, ◌∙◌}
use Rattle.msrpdu.proofs.Left.{left-given, left-on, ok-is}
use Rattle.mmrpdu.proofs.Walking.{within, over-within, end-within, ahead-list, list-in, list-refused, list-end, list-next, list-passed, pdu-refused, pdu-end, pdu-list-refused, pdu-list, walk-empty, walk-long, walk-in, walk-number}
use Rattle.mmrpdu.proofs.Applying.{list-ahead}
use Rattle.mmrpdu.proofs.check.Goals as goal

pub returns-then-n-eq0 : goal.returns-then-n-eq0
returns-then-n-eq0 c = walk-number _ _ (sym (walk-empty _ c.if-n-eq0.true))

pub returns-then-n-gt-LONGEST : goal.returns-then-n-gt-LONGEST
returns-then-n-gt-LONGEST c = walk-number _ _ (sym (walk-long _ c.if-n-eq0.false c.if-n-gt-LONGEST.true))

pub messages-init : goal.messages-init
messages-init c = walk-in _ c.if-n-eq0.false c.if-n-gt-LONGEST.false

-- a Message that is refused, and the end

pub returns-in-Err : goal.returns-in-Err
returns-in-Err c =
    walk-number _ (Err c.in-Err.refusal) (left-given c.messages.invariant _ (λ f. pdu-refused f _ _ _ _ (sym c.message.ensures ∙ c.in-Err.is)))

pub returns-in-Ok-None : goal.returns-in-Ok-None
returns-in-Ok-None c =
    walk-number _ (Ok tt) (left-given c.messages.invariant _ (λ f. pdu-end f _ _ _ (ok-is (sym c.message.ensures ∙ c.in-Ok-None.is) c.in-Ok-None.field-0-is)))

-- one that is there: its list begins behind its header

pub loop-refusal-init : goal.loop-refusal-init
loop-refusal-init c =
    list-in _ _ _ _ (ahead-list _ _ _ _ (ok-is (sym c.message.ensures ∙ c.in-Ok-Some.is) c.in-Ok-Some.field-0-is)).1

-- a vector of it that is refused, read or passed over

pub returns-in-Err-typed_vector : goal.returns-in-Err-typed_vector
returns-in-Err-typed_vector c =
    let e = ok-is (sym c.message.ensures ∙ c.in-Ok-Some.is) c.in-Ok-Some.field-0-is in
    let l = left-given c.loop-refusal.invariant _ (λ f. list-refused f _ _ _ _ _ (sym c.typed_vector.ensures ∙ c.in-Err-typed_vector.is)) in
    walk-number _ (Err c.in-Err-typed_vector.refusal) (left-given c.messages.invariant _ (λ f. pdu-list-refused f _ _ _ _ e _ l _ refl))

pub loop-refusal-smaller-in-Ok-Vector : goal.loop-refusal-smaller-in-Ok-Vector
loop-refusal-smaller-in-Ok-Vector c =
    let w = within _ _ _ _ _ (ok-is (sym c.typed_vector.ensures ∙ c.in-Ok-Vector.is) c.in-Ok-Vector.field-0-is) in
    omega arith

pub loop-refusal-preserved-in-Ok-Vector : goal.loop-refusal-preserved-in-Ok-Vector
loop-refusal-preserved-in-Ok-Vector c =
    let a = ok-is (sym c.typed_vector.ensures ∙ c.in-Ok-Vector.is) c.in-Ok-Vector.field-0-is in
    let w = within _ _ _ _ _ a in
    left-on c.loop-refusal.invariant _ (omega arith) w.pdu (λ f. list-next f _ _ _ _ _ a)

pub loop-refusal-smaller : goal.loop-refusal-smaller
loop-refusal-smaller c =
    let w = over-within _ _ _ _ _ (ok-is (sym c.typed_vector.ensures ∙ c.in-Ok-PassedOver.is) c.in-Ok-PassedOver.field-0-is) in
    omega (arith, w.0, w.1)

pub loop-refusal-preserved : goal.loop-refusal-preserved
loop-refusal-preserved c =
    let a = ok-is (sym c.typed_vector.ensures ∙ c.in-Ok-PassedOver.is) c.in-Ok-PassedOver.field-0-is in
    let w = over-within _ _ _ _ _ a in
    left-on c.loop-refusal.invariant _ (omega (arith, w.0)) w.1 (λ f. list-passed f _ _ _ _ _ a)

-- its EndMark

pub overflow_add-at : goal.overflow_add-at
overflow_add-at c =
    omega (arith, end-within _ _ _ _ (ok-is (sym c.typed_vector.ensures ∙ c.in-Ok-EndMark.is) c.in-Ok-EndMark.field-0-is))

pub messages-smaller : goal.messages-smaller
messages-smaller c =
    let a = ahead-list _ _ _ _ (ok-is (sym c.message.ensures ∙ c.in-Ok-Some.is) c.in-Ok-Some.field-0-is) in
    let l = left-given c.loop-refusal.invariant _ (λ f. list-end f _ _ _ _ (ok-is (sym c.typed_vector.ensures ∙ c.in-Ok-EndMark.is) c.in-Ok-EndMark.field-0-is)) in
    let b = list-ahead _ _ _ _ _ _ (sym l) in
    omega (arith, a.0, b.0, b.1)

pub messages-preserved : goal.messages-preserved
messages-preserved c =
    let e = ok-is (sym c.message.ensures ∙ c.in-Ok-Some.is) c.in-Ok-Some.field-0-is in
    let a = ahead-list _ _ _ _ e in
    let l = left-given c.loop-refusal.invariant _ (λ f. list-end f _ _ _ _ (ok-is (sym c.typed_vector.ensures ∙ c.in-Ok-EndMark.is) c.in-Ok-EndMark.field-0-is)) in
    let b = list-ahead _ _ _ _ _ _ (sym l) in
    left-on c.messages.invariant _ (omega (arith, a.0, b.0)) b.1 (λ f. pdu-list f _ _ _ _ e _ l _ refl)
