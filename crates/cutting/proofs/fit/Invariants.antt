-- to go on from here gives the longest run, the costs up to here are known, and those behind stay
use Rattle.std.proofs.Common.{◌≡◌, ◌-◌, length}
use Rattle.model.specs.Best.{run}
use Rattle.cutting.specs.Named.{ids_of}
use Rattle.cutting.specs.Plan.{Costed, Kept}
use Rattle.cutting.proofs.Loops.{run_from}
use Rattle.cutting.proofs.fit.Given as goal

abbrev pub invariant-loop-k : goal.invariant-loop-k
invariant-loop-k l = record {
  costed : Costed (ids_of l.table l.places) l.k l.costs;
  runs : run_from l.room (ids_of l.table l.places) l.k (length (ids_of l.table l.places) - l.k) ≡ run l.room (ids_of l.table l.places);
  kept : Kept l.k l.fn.costs l.costs;
}
