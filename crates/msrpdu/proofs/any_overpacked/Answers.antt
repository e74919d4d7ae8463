-- One octet after another, and at the end none is left. What holds of a test is found and not named, since an edit changes its words.
use Rattle.std.proofs.Common.{arith, sym, ◌∙◌, refl}
use Rattle.msrpdu.proofs.Laws.{over_none, over-next}
use Rattle.msrpdu.proofs.any_overpacked.Goals as goal

pub loop-octet-init : goal.loop-octet-init
loop-octet-init c = refl

pub loop-octet-preserved : goal.loop-octet-preserved
loop-octet-preserved c = sym (over-next _ _ c.loop-octet-test.true (omega arith)) ∙ c.loop-octet.invariant

pub returns : goal.returns
returns c = sym (over_none _ _ c.loop-octet-test.false) ∙ c.loop-octet.invariant
