use Rattle.std.proofs.Common.{◌≡◌}
use Rattle.model.specs.State.{stream_at}
use Rattle.model.specs.Table.{encode, decode}
use Rattle.table.proofs.EachStream.{partly_at}
use Rattle.table.proofs.EachPort.{sends_to}
use Rattle.settling.proofs.Declared.{declared_at}
use Rattle.settling.proofs.declare_stream.Given as goal

abbrev pub invariant-loop-p : goal.invariant-loop-p
invariant-loop-p l =
    l.table ≡ encode (partly_at (sends_to (declared_at (stream_at l.k (decode l.initial.table)))) l.initial.table l.k l.p)
