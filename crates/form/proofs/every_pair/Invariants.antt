use Rattle.std.proofs.Common.{◌≡◌, Bool, length, take}
use Rattle.form.specs.Asks.{TestsPairs, all_pairs}
use Rattle.form.proofs.every_pair.Given as goal

abbrev pub invariant-loop-part : goal.invariant-loop-part
invariant-loop-part g l = (test : g.row.A.Denot → g.row.B.Denot → Bool) → TestsPairs g.F.Fn l.rule test → l.ok ≡ all_pairs test (take (length l.yielded) l.parts) (take (length l.yielded) l.others)
