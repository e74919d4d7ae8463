use Rattle.form.specs.Asks.{is_either}
use Rattle.form.proofs.Senders.{SlotsLeft}
use Rattle.form.proofs.applicants_formed.Given as goal

abbrev pub invariant-loop-slot : goal.invariant-loop-slot
invariant-loop-slot l = SlotsLeft (is_either l.a l.b) l.applicants l.ok l.slot
