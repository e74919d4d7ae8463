-- Both classes, and the end.
use Rattle.console.proofs.Texts.{puts-append}
use Rattle.sheets.specs.Lines.{classes_text}
use Rattle.sheets.proofs.put_classes.Goals as goal

pub returns : goal.returns
unfolding classes_text
returns c = puts-append c.put_class.ensures (puts-append c.put_class-2.ensures c.put.ensures)
