-- to go on back from here gives the least
use Rattle.std.proofs.Common.{◌≡◌, ◌+◌, get_or, take}
use Rattle.model.specs.Best.{least}
use Rattle.cutting.specs.Named.{ids_of}
use Rattle.cutting.specs.Plan.{back}
use Rattle.cutting.proofs.least_to.Given as goal

abbrev pub invariant-loop-j : goal.invariant-loop-j
invariant-loop-j l =
    back (λ i. get_or (ids_of l.table l.places) i 0) (λ i. least (take i (ids_of l.table l.places))) l.y l.j l.least
    ≡ least (take (l.k + 1) (ids_of l.table l.places))
