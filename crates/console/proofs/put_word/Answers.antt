-- The space, and the word behind it.
use Rattle.console.proofs.Texts.{puts-append}
use Rattle.console.proofs.put_word.Goals as goal

pub returns : goal.returns
returns g c = rw c.word.ensures at (puts-append c.put.ensures c.put-2.ensures)
