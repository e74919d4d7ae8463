use Rattle.std.proofs.Common.{◌-◌, length}
use Rattle.model.specs.Attributes.{type_of}
use Rattle.model.specs.Frames.{known}
use Rattle.msrpdu.proofs.Walking.{PduLeft, ListLeft}
use Rattle.msrpdu.proofs.check.Given as goal

-- the answer of what is left of the list is that of the list
abbrev pub invariant-loop-refusal : goal.invariant-loop-refusal
invariant-loop-refusal l = ListLeft l.list l.version (known (type_of l.head.attribute)) l.reached

abbrev pub decreases-loop-refusal : goal.decreases-loop-refusal
decreases-loop-refusal l = length l.list - l.reached

-- the answer of what is left of the PDU is that of the PDU
abbrev pub invariant-messages : goal.invariant-messages
invariant-messages l = PduLeft l.pdu l.version l.at

abbrev pub decreases-messages : goal.decreases-messages
decreases-messages l = length l.pdu - l.at
