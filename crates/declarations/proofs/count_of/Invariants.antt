-- those counted, and those of the declarers to come
use Rattle.std.proofs.Common.{◌≡◌, ◌+◌, length}
use Rattle.model.specs.Attributes.{type_of}
use Rattle.model.specs.Table.{decode}
use Rattle.declarations.specs.Passes.{machines_from}
use Rattle.declarations.proofs.count_of.Given as goal

abbrev pub invariant-loop-k : goal.invariant-loop-k
invariant-loop-k l = l.n + length (machines_from (type_of l.attribute) l.p (decode l.table) l.k) ≡ length (machines_from (type_of l.attribute) l.p (decode l.table) 0)
