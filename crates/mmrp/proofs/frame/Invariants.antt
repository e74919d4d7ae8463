use Rattle.std.proofs.Common.{◌≡◌, ◌-◌, length}
use Rattle.mmrp.proofs.Reading.{FrameGoing}
use Rattle.mmrp.proofs.frame.Given as goal

-- the acts of the Messages from the place on are left
abbrev pub invariant-loop-read : goal.invariant-loop-read
invariant-loop-read l = (length l.own ≡ length l.initial.own) × FrameGoing l.pdu l.walk.applying l.walk.clock l.initial.own l.at l.own

abbrev pub decreases-loop-read : goal.decreases-loop-read
decreases-loop-read l = length l.pdu - l.at
