-- One line more, and at the end all.
use Rattle.std.proofs.Common.{◌≡◌, arith}
use Rattle.console.proofs.Texts.{puts-none, puts-append}
use Rattle.sheets.specs.Sheet.{lines, stream_lines}
use Rattle.sheets.proofs.Counting.{lines_more}
use Rattle.sheets.proofs.put_streams.Goals as goal

pub loop-place-init : goal.loop-place-init
unfolding lines
loop-place-init c = puts-none _

pub loop-place-preserved : goal.loop-place-preserved
unfolding lines
loop-place-preserved c = rw lines_more (puts-append c.loop-place.invariant c.put_stream_on_ports.ensures)

pub returns : goal.returns
unfolding stream_lines
returns c =
    let all : c.loop-place.place ≡ c.stream_count-place-end.result = omega arith in
    rw (all, c.stream_count-place-end.ensures) at c.loop-place.invariant
