-- The streams before the loop's place are changed.
use Rattle.std.proofs.Common.{◌≡◌}
use Rattle.model.specs.Attributes.{kind_of}
use Rattle.model.specs.Table.{encode}
use Rattle.table.proofs.EachStream.{partly}
use Rattle.registrar.specs.Acts.{leave_heard}
use Rattle.registrar.proofs.hear_streams.Given as goal

abbrev pub invariant-loop-k : goal.invariant-loop-k
invariant-loop-k l = l.table ≡ encode (partly (leave_heard l.p (kind_of l.attribute)) l.initial.table l.k)
