-- The word, and the number behind it.
use Rattle.console.proofs.Texts.{puts-append}
use Rattle.sheets.specs.Lines.{port_text}
use Rattle.sheets.proofs.put_port_number.Goals as goal

pub returns : goal.returns
unfolding port_text
returns c = puts-append c.put.ensures c.put_number.ensures
