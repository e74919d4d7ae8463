-- the places from i on have their entries, and those behind the last stay
use Rattle.std.proofs.Common.{length}
use Rattle.cutting.specs.Named.{ids_of}
use Rattle.cutting.specs.Plan.{Weighed, Counted, Kept}
use Rattle.cutting.proofs.plan.Given as goal

abbrev pub invariant-loop-i : goal.invariant-loop-i
invariant-loop-i l = record {
  weighed : Weighed (ids_of l.table l.places) l.i l.weighs;
  counted : Counted (ids_of l.table l.places) l.i l.firsts;
  weighs_kept : Kept (length l.places) l.fn.weighs l.weighs;
  firsts_kept : Kept (length l.places) l.fn.firsts l.firsts;
}
