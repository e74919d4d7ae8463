use Rattle.std.proofs.Common.{◌≡◌}
use Rattle.model.specs.Table.{encode, decode}
use Rattle.columns.specs.Places.{changed_at, early_to}
use Rattle.columns.proofs.early_ports.Given as goal

-- the results before p are decided, each from what the stream was at entry
abbrev pub invariant-loop-p : goal.invariant-loop-p
invariant-loop-p l = l.table ≡ encode (changed_at l.k (early_to l.p l.time) (decode l.initial.table))
