-- The name, and behind it both numbers.
use Rattle.console.proofs.Texts.{puts-append}
use Rattle.sheets.specs.Lines.{class_text}
use Rattle.sheets.proofs.put_class.Goals as goal

pub returns : goal.returns
unfolding class_text
returns c = puts-append c.put.ensures (puts-append c.put_decimal.ensures (puts-append c.put-2.ensures c.put_decimal-2.ensures))
