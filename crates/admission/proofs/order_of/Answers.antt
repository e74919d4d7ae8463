use native.Mathlib.Omega.{arith}
use Rattle.table.proofs.ByPlace.{stands, few-before}
use Rattle.admission.proofs.Laws.{order-read}
use Rattle.admission.proofs.order_of.Goals as goal

pub overflow_add-result-2 : goal.overflow_add-result-2
overflow_add-result-2 c = omega (arith, few-before (stands c.requires))

pub returns : goal.returns
returns c = order-read _ _ _ c.result_at.ensures.is _ c.settled_at.ensures.is _ c.get.ensures.0 _ _ c.get-age.ensures.0
