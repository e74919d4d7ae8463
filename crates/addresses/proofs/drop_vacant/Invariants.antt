use Rattle.addresses.proofs.Loops.{Dropping}
use Rattle.addresses.proofs.drop_vacant.Given as goal

-- with the vacant ones before the place k taken out, all are
abbrev pub invariant-loop-k : goal.invariant-loop-k
invariant-loop-k l = Dropping l.initial.own l.own l.k
