-- The numbers so far are put behind the word.
use Rattle.std.proofs.Common.{take}
use Rattle.octets.specs.Fields.{flat}
use Rattle.console.specs.Text.{spaced}
use Rattle.console.specs.Texts.{Puts}
use Rattle.answers.proofs.put_numbers.Given as goal

abbrev pub invariant-loop-number : goal.invariant-loop-number
invariant-loop-number l = Puts l.initial.text (flat spaced (take l.number-index l.numbers)) l.text
