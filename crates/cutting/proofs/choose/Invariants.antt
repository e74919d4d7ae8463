-- to go on trying from here gives the entry
use Rattle.std.proofs.Common.{◌≡◌, get_or}
use Rattle.cutting.specs.Named.{ids_of}
use Rattle.cutting.specs.Plan.{none, entries}
use Rattle.cutting.proofs.Loops.{seek}
use Rattle.cutting.proofs.choose.Given as goal

abbrev pub invariant-loop-k : goal.invariant-loop-k
invariant-loop-k l = seek (ids_of l.table l.places) l.at l.k l.best ≡ get_or (entries (ids_of l.table l.places)) l.at none
