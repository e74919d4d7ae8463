-- those left to pass over of the declarers to come, and that those passed are as many
use Rattle.std.proofs.Common.{◌≡◌, ◌+◌, length, drop}
use Rattle.model.specs.Attributes.{type_of}
use Rattle.model.specs.Table.{decode}
use Rattle.declarations.specs.Passes.{machines_from}
use Rattle.declarations.proofs.seek.Given as goal

abbrev pub invariant-loop-k : goal.invariant-loop-k
invariant-loop-k l = record {
  rest :
      drop l.before (machines_from (type_of l.attribute) l.p (decode l.table) l.k)
      ≡ drop l.skip (machines_from (type_of l.attribute) l.p (decode l.table) 0);
  left :
      l.before + length (machines_from (type_of l.attribute) l.p (decode l.table) 0)
      ≡ l.skip + length (machines_from (type_of l.attribute) l.p (decode l.table) l.k);
}
