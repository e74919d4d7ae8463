-- The acts of the Messages from the place on are left.
use Rattle.std.proofs.Common.{suc, ◌-◌, length}
use Rattle.model.specs.Frames.{messages, walk}
use Rattle.registrar.specs.Acts.{acts_of}
use Rattle.registrar.proofs.Walks.{Walking}
use Rattle.registrar.proofs.frame.Given as goal

abbrev pub invariant-loop-read : goal.invariant-loop-read
invariant-loop-read l =
    Walking l.at (length l.pdu) (λ f. messages (suc f) l.version l.pdu l.at) l.applying l.p (acts_of (walk l.pdu)) l.initial.table l.table

abbrev pub decreases-loop-read : goal.decreases-loop-read
decreases-loop-read l = length l.pdu - l.at
