use Rattle.streams.specs.Answers.{named}
use Rattle.admission.proofs.Turns.{Turning}
use Rattle.admission.proofs.take_turns.Given as goal

abbrev pub invariant-loop-number : goal.invariant-loop-number
invariant-loop-number l = Turning l.initial.table l.numbers l.p (named l.class) l.limit l.table l.used l.number-index
