-- The word, and the four octets of the sum behind it.
use Rattle.answers.specs.Lines.{sum_text}
use Rattle.answers.proofs.put_sum.Goals as goal

pub returns : goal.returns
unfolding sum_text
returns c = rw (← c.adler.ensures, ← c.to_be_bytes.ensures) c.put_octets.ensures
