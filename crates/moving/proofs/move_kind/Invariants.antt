-- The machines of the streams before the loop's place are moved.
use Rattle.model.specs.Attributes.{kind_of}
use Rattle.moving.proofs.EachType.{MovingTo}
use Rattle.moving.proofs.move_kind.Given as goal

abbrev pub invariant-loop-k : goal.invariant-loop-k
invariant-loop-k l = MovingTo l.span (kind_of l.attribute) l.p l.initial.so_far l.initial.table l.k-end l.table l.so_far l.k
