-- The answer's parts, or zeros and none.
use Rattle.std.proofs.Common.{refl}
use Rattle.model.specs.Calls.{refused_why}
use Rattle.why.specs.Shown.{why_shown, why_answered}
use Rattle.answers.proofs.parts_of.Goals as goal

pub returns-in-Ok : goal.returns-in-Ok
unfolding why_answered why_shown
returns-in-Ok c buffer = rw c.in-Ok.is refl

pub returns-in-Err : goal.returns-in-Err
unfolding why_answered refused_why
returns-in-Err c buffer = let d = c.default.ensures in rw (c.in-Err.is, d.0, d.1.0, d.1.1.0, d.1.1.1) refl
