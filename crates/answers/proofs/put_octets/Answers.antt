-- The word, and the octets behind it.
use Rattle.console.proofs.Texts.{puts-append}
use Rattle.answers.proofs.put_octets.Goals as goal

pub returns : goal.returns
returns c = puts-append c.put.ensures c.put_some.ensures
