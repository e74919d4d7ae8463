use Rattle.std.proofs.Common.{◌≡◌, ◌≤◌, Bool, take, count_by}
use Rattle.form.specs.Asks.{Tests}
use Rattle.form.proofs.count.Given as goal

abbrev pub invariant-loop-part : goal.invariant-loop-part
invariant-loop-part g l = (l.n ≤ l.part-index) × ((t : g.row.T.Denot → Bool) → Tests g.F.Fn l.test t → l.n ≡ count_by t (take l.part-index l.parts))
