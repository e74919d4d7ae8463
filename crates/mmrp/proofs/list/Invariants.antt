use Rattle.std.proofs.Common.{◌≡◌, ◌-◌, length}
use Rattle.mmrp.proofs.Reading.{ListGoing}
use Rattle.mmrp.proofs.list.Given as goal

-- the acts of the vectors from the place on are left
abbrev pub invariant-loop-read : goal.invariant-loop-read
invariant-loop-read l = (length l.own ≡ length l.initial.own) × ListGoing l.pdu l.version l.head l.walk.applying l.walk.clock l.initial.own l.at l.own

abbrev pub decreases-loop-read : goal.decreases-loop-read
decreases-loop-read l = length l.pdu - l.at
