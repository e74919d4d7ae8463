-- The numbers, and behind them the buffer.
use Rattle.console.proofs.Texts.{puts-append}
use Rattle.answers.specs.Lines.{write_text}
use Rattle.answers.proofs.put_write.Goals as goal

pub returns : goal.returns
unfolding write_text
returns c = puts-append c.put_numbers.ensures c.put_buffer.ensures
