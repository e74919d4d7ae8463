-- what is written, with what is left to write of the declarers to come, is the whole
use Rattle.std.proofs.Common.{take}
use Rattle.model.specs.Attributes.{type_of}
use Rattle.model.specs.Table.{decode}
use Rattle.declarations.specs.Passes.{said_from}
use Rattle.declarations.proofs.Walk.{Left}
use Rattle.declarations.proofs.write_vectors.Given as goal

abbrev pub invariant-loop-k : goal.invariant-loop-k
invariant-loop-k l =
    Left (type_of l.attribute) l.p (decode l.table) l.size
    (take l.fn.run.count (said_from (type_of l.attribute) l.p (decode l.table) l.fn.run.first)) l.out l.left l.at l.k
