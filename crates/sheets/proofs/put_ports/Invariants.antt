-- The lines so far are put.
use Rattle.console.specs.Texts.{Puts}
use Rattle.sheets.specs.Sheet.{port_lines}
use Rattle.sheets.proofs.put_ports.Given as goal

abbrev pub invariant-loop-p : goal.invariant-loop-p
invariant-loop-p l = Puts l.initial.text (port_lines l.table l.p) l.text
