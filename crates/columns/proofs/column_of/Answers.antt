use Rattle.std.proofs.Common.{◌∙◌}
use Rattle.model.specs.Settling.{outcome_column}
use Rattle.columns.specs.Answers.{column_shown}
use Rattle.columns.specs.Steps.{outcome_shown}
use Rattle.columns.proofs.Steps.{told-column}
use Rattle.columns.proofs.column_of.Goals as goal

pub returns-in-Nothing : goal.returns-in-Nothing
unfolding outcome_shown outcome_column column_shown
returns-in-Nothing c = λ t. told-column _ _ _ _ _ c.outcome.ensures c.in-Nothing.is

pub returns-in-Registered : goal.returns-in-Registered
unfolding outcome_shown outcome_column
returns-in-Registered c = λ t. c.failure_in.ensures t ∙ told-column _ _ _ _ _ c.outcome.ensures c.in-Registered.is

pub returns-in-Admitted : goal.returns-in-Admitted
unfolding outcome_shown outcome_column column_shown
returns-in-Admitted c = λ t. told-column _ _ _ _ _ c.outcome.ensures c.in-Admitted.is

pub returns-in-Failure : goal.returns-in-Failure
unfolding outcome_shown outcome_column
returns-in-Failure c = λ t. c.own_failure.ensures ∙ told-column _ _ _ _ _ c.outcome.ensures c.in-Failure.is
