-- The word is the one of the case.
use Rattle.octets.specs.Pick.{pick}
use Rattle.answers.specs.Lines.{kept_text}
use Rattle.answers.proofs.put_kept.Goals as goal

pub returns-then-kept : goal.returns-then-kept
unfolding kept_text pick
returns-then-kept c = rw c.if-kept.true c.put.ensures

pub returns-else-kept : goal.returns-else-kept
unfolding kept_text pick
returns-else-kept c = rw c.if-kept.false c.put-else-kept.ensures
