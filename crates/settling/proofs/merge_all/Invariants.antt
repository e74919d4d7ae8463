use Rattle.std.proofs.Common.{◌≡◌}
use Rattle.model.specs.Table.{encode}
use Rattle.table.proofs.EachStream.{partly}
use Rattle.columns.specs.Stages.{merging}
use Rattle.settling.proofs.merge_all.Given as goal

abbrev pub invariant-loop-k : goal.invariant-loop-k
invariant-loop-k l = l.table ≡ encode (partly merging l.initial.table l.k)
