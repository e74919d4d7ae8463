use Rattle.columns.specs.Answers.{column_shown}
use Rattle.columns.proofs.Talkers.{no-failure, a-failure}
use Rattle.columns.proofs.failure_in.Goals as goal

pub returns-then-said-lt2 : goal.returns-then-said-lt2
unfolding column_shown
returns-then-said-lt2 c = λ t. no-failure _ t c.if-said-lt2.true

pub returns : goal.returns
unfolding column_shown
returns c = λ t. rw c.get.ensures.0 (a-failure _ t c.if-said-lt2.false)
