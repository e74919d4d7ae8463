use Rattle.std.proofs.Common.{◌≡◌, ◌<◌, ◌^◌}
use Rattle.octets.specs.Be.{be_at}
use Rattle.octets.proofs.get.Given as goal

-- the number of the octets so far
abbrev pub invariant-loop-octet : goal.invariant-loop-octet
invariant-loop-octet l = (l.number ≡ be_at l.octet-index l.s l.at) × (l.number < 256 ^ l.octet-index)
