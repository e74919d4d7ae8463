-- The space, and the number behind it.
use Rattle.console.proofs.Texts.{puts-append}
use Rattle.console.proofs.text.Text.put_number.Goals as goal

pub returns : goal.returns
returns c = puts-append c.put.ensures c.put_decimal.ensures
