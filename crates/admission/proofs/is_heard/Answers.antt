use Rattle.admission.specs.Sharing.{is_heard}
use Rattle.admission.proofs.Laws.{heard-read}
use Rattle.admission.proofs.is_heard.Goals as goal

pub returns : goal.returns
unfolding is_heard
returns c = rw (← c.cell_at.ensures.is) (heard-read _)
