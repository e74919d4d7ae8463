use Rattle.columns.specs.Steps.{step_shown}
use Rattle.columns.proofs.Steps.{too_large, no_step}
use Rattle.columns.proofs.last_step.Goals as goal

pub returns-then-get : goal.returns-then-get
unfolding step_shown
returns-then-get c =
    rw c.in-None.is (too_large _ _ c.args.said.now c.port_at-port.ensures.is _ _ c.get.ensures.0 c.get-in-None.ensures.0 c.if-get.true)

pub returns-else-get : goal.returns-else-get
unfolding step_shown
returns-else-get c =
    rw c.in-None.is (no_step _ _ c.args.said.now c.port_at-port.ensures.is _ _ c.get.ensures.0 c.get-in-None.ensures.0 c.if-get.false)
