-- Whether the rest is kept, and behind it the octets before.
use Rattle.console.proofs.Texts.{puts-append}
use Rattle.answers.specs.Lines.{buffer_text}
use Rattle.answers.proofs.put_buffer.Goals as goal

pub returns : goal.returns
unfolding buffer_text
returns c =
    let s = c.split_at.ensures in
    rw (← c.min.ensures, ← s.front, ← s.back, ← c.is_kept.ensures) (puts-append c.put_kept.ensures c.put_some.ensures)
