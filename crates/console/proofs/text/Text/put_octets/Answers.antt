-- One octet more, and at the end all.
use Rattle.std.proofs.Common.{arith, take_all}
use Rattle.octets.specs.Fields.{flat}
use Rattle.io.specs.Digits.{last_digits}
use Rattle.console.proofs.Laws.{flat-more}
use Rattle.console.proofs.Texts.{puts-none, puts-append}
use Rattle.console.proofs.text.Text.put_octets.Goals as goal

pub loop-octet-init : goal.loop-octet-init
unfolding flat
loop-octet-init c = puts-none _

pub loop-octet-preserved : goal.loop-octet-preserved
loop-octet-preserved c =
    let l = c.loop-octet in
    rw (← (flat-more (last_digits 16 2) c.args.octets.now l.octet-index c.loop-octet-test.true)) (puts-append l.invariant c.put_hex.ensures)

pub returns : goal.returns
returns c = rw (take_all c.loop-octet.octet-index c.args.octets.now (omega arith)) at c.loop-octet.invariant
