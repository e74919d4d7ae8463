use Rattle.std.proofs.Common.{◌≡◌}
use Rattle.model.specs.Table.{encode}
use Rattle.table.proofs.EachPort.{owns_to}
use Rattle.settling.proofs.Edges.{decision}
use Rattle.settling.proofs.decide_owns.Given as goal

abbrev pub invariant-loop-p : goal.invariant-loop-p
invariant-loop-p l = l.table ≡ encode (owns_to (decision l.initial.table l.time) l.initial.table l.p)
