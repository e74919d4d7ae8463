use Rattle.std.proofs.Common.{◌≡◌}
use Rattle.model.specs.Settling.{expire}
use Rattle.model.specs.Table.{encode, decode}
use Rattle.table.proofs.EachStream.{partly}
use Rattle.settling.proofs.expire_all.Given as goal

abbrev pub invariant-loop-k : goal.invariant-loop-k
invariant-loop-k l = l.table ≡ encode (partly (expire (decode l.initial.table).settings l.time) l.initial.table l.k)
