use Rattle.std.proofs.Common.{◌≡◌}
use Rattle.model.specs.Settling.{scene_of}
use Rattle.model.specs.Table.{encode, decode}
use Rattle.table.proofs.EachStream.{partly}
use Rattle.columns.specs.Stages.{early}
use Rattle.columns.proofs.early_all.Given as goal

-- the streams before k are done
abbrev pub invariant-loop-k : goal.invariant-loop-k
invariant-loop-k l = l.table ≡ encode (partly (early (scene_of (decode l.initial.table)) l.time) l.initial.table l.k)
