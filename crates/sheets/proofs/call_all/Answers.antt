-- Each record, and the end.
use Rattle.std.proofs.Common.{◌<◌, refl, sym, length, arith}
use borrow.Author.Tests.{eqb-true, eqb-false}
use Rattle.sheets.proofs.Reading.{calling-none, calling-end, calling-stop, calling-more, rest-whole}
use Rattle.sheets.proofs.call_all.Goals as goal

pub loop-rest-init : goal.loop-rest-init
loop-rest-init c = calling-none _ _ _

pub returns-in_default : goal.returns-in_default
returns-in_default c =
    let l = c.loop-rest in
    let some : 0 < length l.rest.now = omega (arith, eqb-false _ 0 (sym c.loop-rest-test.ensures)) in
    calling-stop l.invariant some c.in_default.ensures refl c.put_stop.ensures

pub loop-rest-preserved : goal.loop-rest-preserved
loop-rest-preserved c =
    let l = c.loop-rest in
    let some : 0 < length l.rest.now = omega (arith, eqb-false _ 0 (sym c.loop-rest-test.ensures)) in
    let took = c.in-Some.ensures in
    rw (rest-whole l.rest.now c.in-Some.done.size) (calling-more l.invariant some took.0 (omega (arith, took.1)) (rw c.number.ensures at c.put_answer.ensures))

pub returns : goal.returns
returns c = calling-end c.loop-rest.invariant (eqb-true _ 0 (sym c.loop-rest-test.ensures))
