use Rattle.std.proofs.Common.{length}
use Rattle.model.specs.Table.{decode}
use Rattle.settling.proofs.Sharing.{Sharing}
use Rattle.settling.proofs.admit_all.Given as goal

abbrev pub invariant-loop-p : goal.invariant-loop-p
invariant-loop-p l = Sharing (length (decode l.initial.table).settings.ports) l.initial.table l.table l.p
