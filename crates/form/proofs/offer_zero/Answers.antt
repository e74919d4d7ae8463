use Rattle.std.proofs.Common.{arith}
use Rattle.form.proofs.Zeros.{not-zero, zero-behind}
use Rattle.form.proofs.offer_zero.Goals as goal

pub returns-then-get-ne0 : goal.returns-then-get-ne0
returns-then-get-ne0 c = not-zero 1 8 9 c.args.offer.now (omega (arith, c.requires)) _ c.get.ensures.0 c.if-get-ne0.true

pub returns : goal.returns
returns c = zero-behind 1 8 9 c.args.offer.now (omega (arith, c.requires)) _ c.get.ensures.0 c.if-get-ne0.false _ c.nine_zero.ensures
