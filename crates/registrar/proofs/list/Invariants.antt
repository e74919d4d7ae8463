-- The acts of the vectors from the place on are left.
use Rattle.std.proofs.Common.{suc, ◌-◌, length}
use Rattle.model.specs.Attributes.{type_of}
use Rattle.model.specs.Frames.{vectors}
use Rattle.registrar.specs.Acts.{acts_of}
use Rattle.registrar.proofs.Walks.{Walking}
use Rattle.registrar.proofs.list.Given as goal

abbrev pub invariant-loop-read : goal.invariant-loop-read
invariant-loop-read l =
    let k = type_of l.walk.attribute in
    Walking l.at (length l.list) (λ f. vectors (suc f) l.walk.version k l.list l.at) l.walk.applying l.walk.p
    (acts_of (vectors (suc (length l.list)) l.walk.version k l.list 0)) l.initial.table l.table

abbrev pub decreases-loop-read : goal.decreases-loop-read
decreases-loop-read l = length l.list - l.at
