-- The numbers, the step, and behind them the list.
use Rattle.console.proofs.Texts.{puts-append}
use Rattle.answers.specs.Lines.{explained_text}
use Rattle.answers.proofs.put_why.Goals as goal

pub returns : goal.returns
unfolding explained_text
returns c =
    let step = rw c.letter.ensures at c.put_step.ensures in
    let list = rw c.min.ensures at c.put_buffer.ensures in
    puts-append (puts-append c.put_numbers.ensures step) list
