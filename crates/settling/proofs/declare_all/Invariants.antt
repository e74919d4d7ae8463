use Rattle.std.proofs.Common.{◌≡◌}
use Rattle.model.specs.Table.{encode}
use Rattle.table.proofs.EachStream.{partly}
use Rattle.model.specs.Settling.{declare}
use Rattle.settling.proofs.declare_all.Given as goal

abbrev pub invariant-loop-k : goal.invariant-loop-k
invariant-loop-k l = l.table ≡ encode (partly declare l.initial.table l.k)
