-- The StreamID, and the number behind it.
use Rattle.console.proofs.Texts.{puts-append}
use Rattle.sheets.specs.Lines.{stream_text}
use Rattle.sheets.proofs.put_stream_number.Goals as goal

pub returns : goal.returns
unfolding stream_text
returns c = puts-append c.put_id.ensures c.put_number.ensures
