-- The parts are those of the answer, or zeros.
use Rattle.std.proofs.Common.{refl}
use Rattle.model.specs.Numbers.{refusal_number}
use Rattle.model.specs.Calls.{refused_why}
use Rattle.model.specs.Why.{letter}
use Rattle.why.specs.Shown.{why_shown, why_answered}
use Rattle.embed.specs.Boundary.{why_parts}
use Rattle.embed.proofs.srp_why.Goals as goal

pub returns-in-Ok : goal.returns-in-Ok
unfolding why_answered why_shown why_parts
returns-in-Ok c = record {
  answer = why_shown c.in-Ok.why c.why.new.buffer;
  explains = c.in-Ok.ensures;
  number_is = refl;
  parts_are = rw c.letter.ensures;
  buffer_is = refl;
}

pub returns-in-Err : goal.returns-in-Err
unfolding why_answered refused_why why_parts letter
returns-in-Err c = record {
  answer = refused_why (refusal_number c.in-Err.refusal) c.why.new.buffer;
  explains = c.in-Err.ensures;
  number_is = c.into.ensures;
  parts_are = refl;
  buffer_is = refl;
}
