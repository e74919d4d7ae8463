-- The parts of the answer, or zeros.
use Rattle.answers.specs.Lines.{written_text}
use Rattle.answers.proofs.Laws.{wrote-parts}
use Rattle.answers.proofs.put_written.Goals as goal

pub returns : goal.returns
unfolding written_text
returns c =
    let parts = wrote-parts _ c.args.answer _ (λ w d. d) c.unwrap_or_default.ensures in
    rw (← parts.0, ← parts.1, ← c.number_of-number.ensures) c.put_write.ensures
