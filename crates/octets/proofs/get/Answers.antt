use Rattle.std.proofs.Common.{arith}
use Rattle.octets.proofs.Be.{get-fits, get-more}
use Rattle.octets.proofs.get.Goals as goal

pub overflow_mul-number : goal.overflow_mul-number
overflow_mul-number c =
    let a = c.args in
    let l = c.loop-octet in
    omega (arith, get-fits a.s.now c.type_inv.s a.at a.n l.octet-index l.number c.requires.1 c.loop-octet-test.true l.invariant)

pub overflow_add-number : goal.overflow_add-number
overflow_add-number c =
    let a = c.args in
    let l = c.loop-octet in
    omega (arith, get-fits a.s.now c.type_inv.s a.at a.n l.octet-index l.number c.requires.1 c.loop-octet-test.true l.invariant)

pub loop-octet-preserved : goal.loop-octet-preserved
loop-octet-preserved c =
    let a = c.args in
    let l = c.loop-octet in
    get-more a.s.now c.type_inv.s a.at a.n l.octet-index l.number c.requires.1 c.loop-octet-test.true l.invariant
