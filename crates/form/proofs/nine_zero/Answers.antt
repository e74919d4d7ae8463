use Rattle.std.proofs.Common.{◌+◌, arith}
use Rattle.form.proofs.Zeros.{not-zero, zero-behind, zero-octet}
use Rattle.form.proofs.nine_zero.Goals as goal

pub returns-then-get-ne0 : goal.returns-then-get-ne0
returns-then-get-ne0 c =
    let a = c.args in
    not-zero a.at 8 1 a.s.now (omega (arith, c.requires)) _ c.get.ensures.0 c.if-get-ne0.true

pub returns : goal.returns
returns c =
    let a = c.args in
    let h = c.requires in
    zero-behind a.at 8 1 a.s.now (omega (arith, h)) _ c.get.ensures.0 c.if-get-ne0.false _ (zero-octet (a.at + 8) a.s.now (omega (arith, h)))
