use Rattle.std.proofs.Common.{◌≡◌}
use Rattle.model.specs.Table.{encode}
use Rattle.table.proofs.EachStream.{partly_at, cells_to}
use Rattle.settling.proofs.Removal.{lapses}
use Rattle.settling.proofs.expire_stream.Given as goal

abbrev pub invariant-loop-p : goal.invariant-loop-p
invariant-loop-p l = l.table ≡ encode (partly_at (cells_to (lapses l.initial.table l.time)) l.initial.table l.k l.p)
