use Rattle.std.proofs.Common.{◌∙◌}
use Rattle.admission.proofs.Laws.{rate-of}
use Rattle.admission.proofs.demand_in.Goals as goal

pub returns : goal.returns
returns c = (c.rate.ensures.0 ∙ rate-of _ _ _ _ _ c.port_at.ensures.is c.settled_at.ensures.is _ c.demand-demand.ensures.0 _, c.rate.ensures.1)
