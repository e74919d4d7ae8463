use native.Mathlib.Omega.{arith}
use Rattle.declarations.proofs.Places.{stream, slot}
use Rattle.declarations.proofs.applicant_of.Goals as goal

pub sent_octet-requires : goal.sent_octet-requires
sent_octet-requires c = (stream (rw c.in-Advertise.is at c.requires), omega arith)

pub sent_octet-requires-in-Failed : goal.sent_octet-requires-in-Failed
sent_octet-requires-in-Failed c = (stream (rw c.in-Failed.is at c.requires), omega arith)

pub sent_octet-requires-in-Listener : goal.sent_octet-requires-in-Listener
sent_octet-requires-in-Listener c = (stream (rw c.in-Listener.is at c.requires), omega arith)

pub slot_octet-requires : goal.slot_octet-requires
slot_octet-requires c = slot (rw c.in-Domain.is at c.requires)
