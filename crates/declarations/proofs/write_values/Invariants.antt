-- the packed events of the Listeners so far
use Rattle.std.proofs.Common.{◌≡◌, take}
use Rattle.declarations.specs.Packed.{listeners_at, events_by}
use Rattle.declarations.proofs.write_values.Given as goal

abbrev pub invariant-loop-i : goal.invariant-loop-i
invariant-loop-i l = l.out ≡ events_by (listeners_at l.p l.table l.places) (take l.i (listeners_at l.p l.table l.places))
