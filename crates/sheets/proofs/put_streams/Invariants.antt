-- The lines so far are put.
use Rattle.console.specs.Texts.{Puts}
use Rattle.sheets.specs.Sheet.{lines, stream_on_ports}
use Rattle.sheets.proofs.put_streams.Given as goal

abbrev pub invariant-loop-place : goal.invariant-loop-place
invariant-loop-place l = Puts l.initial.text (lines (stream_on_ports l.table l.ports) l.place) l.text
