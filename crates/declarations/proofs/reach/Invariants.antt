-- those passed, and those still reached of the declarers to come
use Rattle.std.proofs.Common.{◌≡◌, ◌+◌}
use Rattle.model.specs.Attributes.{type_of}
use Rattle.model.specs.Table.{decode}
use Rattle.declarations.proofs.Declared.{far}
use Rattle.declarations.proofs.reach.Given as goal

abbrev pub invariant-loop-k : goal.invariant-loop-k
invariant-loop-k l =
    l.past + far (type_of l.attribute) l.p (decode l.table) l.left l.k ≡ far (type_of l.attribute) l.p (decode l.table) l.n l.first
