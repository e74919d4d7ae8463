-- The parts of the answer, or zeros and none.
use Rattle.answers.proofs.put_explained.Goals as goal

pub returns : goal.returns
returns c = rw (← c.parts_of.ensures _, ← c.number_of-number.ensures) c.put_why.ensures
