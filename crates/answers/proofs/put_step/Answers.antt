-- The word is the one of the case.
use borrow.Author.Tests.{eq-eqb, ne_eqb}
use Rattle.octets.specs.Pick.{pick}
use Rattle.answers.specs.Lines.{step_text}
use Rattle.answers.proofs.put_step.Goals as goal

pub returns-then-letter-eq0 : goal.returns-then-letter-eq0
unfolding step_text pick
returns-then-letter-eq0 c = rw (eq-eqb _ _ c.if-letter-eq0.true) c.put_numbers.ensures

pub returns : goal.returns
unfolding step_text pick
returns c = rw (ne_eqb _ _ c.if-letter-eq0.false) c.put_numbers-2.ensures
