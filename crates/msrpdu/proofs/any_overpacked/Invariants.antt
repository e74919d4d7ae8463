-- What is left of the octets gives the answer.
use Rattle.std.proofs.Common.{◌≡◌, drop}
use Rattle.model.specs.Frames.{overpacked}
use Rattle.msrpdu.proofs.any_overpacked.Given as goal

abbrev pub invariant-loop-octet : goal.invariant-loop-octet
invariant-loop-octet l = overpacked (drop l.octet-index l.events) ≡ overpacked l.events
