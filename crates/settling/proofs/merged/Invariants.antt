use Rattle.std.proofs.Common.{◌≡◌}
use Rattle.model.specs.State.{stream_at}
use Rattle.model.specs.Listeners.{declared_of}
use Rattle.model.specs.Table.{decode}
use Rattle.settling.proofs.Merging.{merged_from}
use Rattle.settling.proofs.merged.Given as goal

abbrev pub invariant-loop-p : goal.invariant-loop-p
invariant-loop-p l = declared_of l.sum ≡ merged_from (stream_at l.k (decode l.table)) l.p
