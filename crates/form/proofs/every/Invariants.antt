use Rattle.std.proofs.Common.{◌≡◌, Bool, take}
use Rattle.std.specs.List.{list_all}
use Rattle.form.specs.Asks.{Tests}
use Rattle.form.proofs.every.Given as goal

abbrev pub invariant-loop-part : goal.invariant-loop-part
invariant-loop-part g l = (test : g.row.T.Denot → Bool) → Tests g.F.Fn l.rule test → l.ok ≡ list_all test (take l.part-index l.parts)
