-- The machines of the slots before the loop's place are moved.
use Rattle.moving.proofs.EachSlot.{SlotsMoving}
use Rattle.moving.proofs.move_domains.Given as goal

abbrev pub invariant-loop-slot : goal.invariant-loop-slot
invariant-loop-slot l = SlotsMoving l.span l.initial.so_far l.p l.initial.table l.table l.so_far l.slot
