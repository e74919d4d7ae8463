-- One number more, and at the end all.
use Rattle.std.proofs.Common.{arith, take_all}
use Rattle.octets.specs.Fields.{flat}
use Rattle.console.specs.Text.{spaced}
use Rattle.console.proofs.Laws.{flat-more}
use Rattle.console.proofs.Texts.{puts-none, puts-append}
use Rattle.answers.specs.Lines.{numbers_text}
use Rattle.answers.proofs.put_numbers.Goals as goal

pub loop-number-init : goal.loop-number-init
unfolding flat
loop-number-init c = puts-none _

pub loop-number-preserved : goal.loop-number-preserved
loop-number-preserved c =
    let l = c.loop-number in
    rw (← (flat-more spaced c.args.numbers.now l.number-index c.loop-number-test.true)) (puts-append l.invariant c.put_number.ensures)

pub returns : goal.returns
unfolding numbers_text
returns c =
    puts-append c.put.ensures (rw (take_all c.loop-number.number-index c.args.numbers.now (omega arith)) at c.loop-number.invariant)
