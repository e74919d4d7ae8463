-- The records that are left give the rest.
use Rattle.std.proofs.Common.{length}
use Rattle.sheets.proofs.Reading.{Calling}
use Rattle.sheets.proofs.call_all.Given as goal

abbrev pub invariant-loop-rest : goal.invariant-loop-rest
invariant-loop-rest l = Calling l.initial.table l.records l.initial.text l.table l.text l.rest

abbrev pub decreases-loop-rest : goal.decreases-loop-rest
decreases-loop-rest l = length l.rest
