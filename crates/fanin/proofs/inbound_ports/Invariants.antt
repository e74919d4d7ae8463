use Rattle.std.proofs.Common.{◌≡◌}
use Rattle.model.specs.Table.{decode}
use Rattle.fanin.specs.Sets.{set_to}
use Rattle.fanin.proofs.Sets.{first}
use Rattle.fanin.proofs.inbound_ports.Given as goal

-- the Talker ports of the streams before k are in the set
abbrev pub invariant-loop-k : goal.invariant-loop-k
invariant-loop-k l = l.set ≡ set_to (first (decode l.table).streams l.k) 8
