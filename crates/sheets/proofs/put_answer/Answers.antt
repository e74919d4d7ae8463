-- The line of a refusal, or nothing.
use borrow.Author.Tests.{eq-eqb, ne_eqb}
use Rattle.octets.specs.Pick.{pick}
use Rattle.console.proofs.Texts.{puts-none}
use Rattle.sheets.specs.Records.{answer_text}
use Rattle.sheets.proofs.put_answer.Goals as goal

pub returns-then-number-ne0 : goal.returns-then-number-ne0
unfolding answer_text pick
returns-then-number-ne0 c = rw (ne_eqb _ _ c.if-number-ne0.true) c.put_refused.ensures

pub returns-else-number-ne0 : goal.returns-else-number-ne0
unfolding answer_text pick
returns-else-number-ne0 c = rw (eq-eqb _ _ c.if-number-ne0.false) (puts-none _)
