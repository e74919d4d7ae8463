-- The digits of the octets so far are put.
use Rattle.std.proofs.Common.{take}
use Rattle.octets.specs.Fields.{flat}
use Rattle.io.specs.Digits.{last_digits}
use Rattle.console.specs.Texts.{Puts}
use Rattle.console.proofs.text.Text.put_octets.Given as goal

abbrev pub invariant-loop-octet : goal.invariant-loop-octet
invariant-loop-octet l = Puts l.initial.self (flat (last_digits 16 2) (take l.octet-index l.octets)) l.self
