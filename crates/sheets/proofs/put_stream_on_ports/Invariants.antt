-- The lines so far are put.
use Rattle.console.specs.Texts.{Puts}
use Rattle.sheets.specs.Sheet.{stream_on_ports}
use Rattle.sheets.proofs.put_stream_on_ports.Given as goal

abbrev pub invariant-loop-p : goal.invariant-loop-p
invariant-loop-p l = Puts l.initial.text (stream_on_ports l.table l.p l.place) l.text
