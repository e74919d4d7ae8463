-- The streams before the loop's place are changed.
use Rattle.std.proofs.Common.{◌≡◌}
use Rattle.model.specs.Attributes.{kind_of}
use Rattle.model.specs.Table.{encode}
use Rattle.table.proofs.EachStream.{partly}
use Rattle.registrar.proofs.Touched.{leaving}
use Rattle.registrar.proofs.leave_all.Given as goal

abbrev pub invariant-loop-k : goal.invariant-loop-k
invariant-loop-k l = l.table ≡ encode (partly (leaving l.p l.now (kind_of l.attribute)) l.initial.table l.k)
