use Rattle.addresses.specs.Room.{lapse_address}
use Rattle.addresses.proofs.Loops.{Turned}
use Rattle.addresses.proofs.lapse_all.Given as goal

-- the addresses before the place k are lapsed
abbrev pub invariant-loop-k : goal.invariant-loop-k
invariant-loop-k l = Turned (lapse_address l.leave l.time) l.initial.own l.own l.k-end l.k
