use Rattle.std.proofs.Common.{◌-◌, length}
use Rattle.mmrpdu.specs.Reader.{list_named}
use Rattle.mmrpdu.proofs.Walking.{PduLeft, ListLeft}
use Rattle.mmrpdu.proofs.check.Given as goal

-- the answer of what is left of the list is that of the list
abbrev pub invariant-loop-refusal : goal.invariant-loop-refusal
invariant-loop-refusal l = ListLeft l.pdu l.version (list_named l.head.kind l.head.octets) l.head.list l.reached

abbrev pub decreases-loop-refusal : goal.decreases-loop-refusal
decreases-loop-refusal l = length l.pdu - l.reached

-- the answer of what is left of the PDU is that of the PDU
abbrev pub invariant-messages : goal.invariant-messages
invariant-messages l = PduLeft l.pdu l.version l.at

abbrev pub decreases-messages : goal.decreases-messages
decreases-messages l = length l.pdu - l.at
