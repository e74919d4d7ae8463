use Rattle.declaring.proofs.Comparing.{Comparing}
use Rattle.declaring.proofs.is_same.Given as goal

abbrev pub invariant-loop-i : goal.invariant-loop-i
invariant-loop-i l = Comparing l.values l.last l.same l.i
