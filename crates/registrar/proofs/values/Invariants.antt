-- The acts of the values from n on are left.
use Rattle.std.proofs.Common.{◌-◌, false}
use Rattle.model.specs.Attributes.{type_of}
use Rattle.model.specs.Frames.{values_acts}
use Rattle.registrar.specs.Acts.{vector_of}
use Rattle.registrar.proofs.Walks.{Going}
use Rattle.registrar.proofs.values.Given as goal

abbrev pub invariant-loop-n : goal.invariant-loop-n
invariant-loop-n l =
    let v = vector_of (type_of l.walk.attribute) false 0 l.first l.events l.fours in
    Going l.n l.count l.walk.applying l.walk.p (values_acts v 0 l.count) l.initial.table (values_acts v l.n (l.count - l.n)) l.table
