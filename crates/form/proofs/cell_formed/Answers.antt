use Rattle.model.specs.Table.{cell_formed}
use Rattle.form.proofs.Tests.{all-true-split}
use Rattle.form.proofs.cell_formed.Goals as goal

pub returns : goal.returns
unfolding cell_formed
returns c = rw (c.talker_formed.ensures, c.listener_formed.ensures) (all-true-split 6 _)
