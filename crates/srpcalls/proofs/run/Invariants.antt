-- No more of the room is lent than there is.
use Rattle.std.proofs.Common.{length, ◌≤◌}
use Rattle.srpcalls.proofs.run.Given as goal

abbrev pub invariant-loop : goal.invariant-loop
invariant-loop l = l.lent ≤ length l.room
