-- One line more, and at the end all.
use Rattle.std.proofs.Common.{◌≡◌, arith}
use Rattle.console.proofs.Texts.{puts-none, puts-append}
use Rattle.sheets.specs.Sheet.{lines, stream_on_ports}
use Rattle.sheets.proofs.Counting.{lines_more}
use Rattle.sheets.proofs.put_stream_on_ports.Goals as goal

pub loop-p-init : goal.loop-p-init
unfolding lines stream_on_ports
loop-p-init c = puts-none _

pub loop-p-preserved : goal.loop-p-preserved
unfolding stream_on_ports
loop-p-preserved c = rw lines_more (puts-append c.loop-p.invariant c.put_stream.ensures)

pub returns : goal.returns
returns c =
    let all : c.loop-p.p ≡ c.args.ports = omega arith in
    rw all at c.loop-p.invariant
