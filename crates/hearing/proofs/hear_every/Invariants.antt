-- The Applicants before the loop's slot have heard it.
use Rattle.std.proofs.Common.{◌≡◌, length}
use Rattle.model.specs.Layout.{sender_size}
use Rattle.model.specs.Sending.{sender_octets, to_sender}
use Rattle.hearing.proofs.OfPort.{heard_to}
use Rattle.hearing.proofs.hear_every.Given as goal

abbrev pub invariant-loop-slot : goal.invariant-loop-slot
invariant-loop-slot l = (length l.sender ≡ sender_size) × (l.sender ≡ sender_octets (heard_to l.slot (to_sender l.initial.sender)))
