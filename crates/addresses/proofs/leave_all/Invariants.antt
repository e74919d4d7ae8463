use Rattle.model.specs.Registrations.{quit_address}
use Rattle.addresses.proofs.Loops.{Turned}
use Rattle.addresses.proofs.leave_all.Given as goal

-- the addresses before the place k have begun to leave
abbrev pub invariant-loop-k : goal.invariant-loop-k
invariant-loop-k l = Turned (quit_address l.clock) l.initial.own l.own l.k-end l.k
