-- The four words, one behind the other.
use Rattle.console.specs.Words.{shown_text}
use Rattle.console.proofs.Texts.{puts-append}
use Rattle.console.proofs.put_shown.Goals as goal

pub returns : goal.returns
unfolding shown_text
returns c =
    puts-append (puts-append (puts-append c.put_word.ensures c.put_number.ensures) c.put_word-2.ensures) c.put_word-3.ensures
