-- The word, the number and the end.
use Rattle.console.proofs.Texts.{puts-append}
use Rattle.sheets.specs.Lines.{refused_line}
use Rattle.sheets.proofs.put_refused.Goals as goal

pub returns : goal.returns
unfolding refused_line
returns c = puts-append c.put.ensures (puts-append c.put_number.ensures c.put-2.ensures)
