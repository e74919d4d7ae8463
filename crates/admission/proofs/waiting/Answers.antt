use Rattle.std.proofs.Common.{◌∙◌}
use Rattle.admission.proofs.Laws.{same-class, waits_in, waits-out}
use Rattle.admission.proofs.waiting.Goals as goal

pub returns-then-result-eq1 : goal.returns-then-result-eq1
returns-then-result-eq1 c =
    c.eq.ensures
    ∙ same-class _ _
    ∙ waits_in _ _ _ c.result_at-result.ensures.is _ c.settled_at-settled.ensures.is _ c.get-priority.ensures.0 _ _ _ c.class_of.ensures c.if-result-eq1.true

pub returns : goal.returns
returns c = waits-out _ _ _ c.result_at-result.ensures.is _ _ c.if-result-eq1.false
