-- One octet more, and at the end none is left.
use Rattle.std.proofs.Common.{arith, sym, ◌∙◌, refl}
use Rattle.answers.proofs.Laws.{adler-more, adler-none}
use Rattle.answers.proofs.adler.Goals as goal

pub loop-octet-init : goal.loop-octet-init
loop-octet-init c = record { low = omega arith; high = omega arith; left = refl }

pub loop-octet-preserved : goal.loop-octet-preserved
loop-octet-preserved c =
    let l = c.loop-octet in
    record { low = omega arith; high = omega arith; left = sym (adler-more l.a l.b l.octet-index _ c.loop-octet-test.true) ∙ l.invariant.left }

pub returns : goal.returns
returns c = sym (adler-none _ _ _ _ c.loop-octet-test.false) ∙ c.loop-octet.invariant.left
