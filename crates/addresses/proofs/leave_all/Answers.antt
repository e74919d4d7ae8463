use Rattle.std.proofs.Common.{refl, rules, arith}
use Rattle.model.specs.Registrations.{quit_address}
use Rattle.addresses.proofs.Loops.{quitting, turned_none, turned-lent, turned_more, turned-all}
use Rattle.addresses.proofs.leave_all.Goals as goal

pub loop-k-init : goal.loop-k-init
loop-k-init c =
    let a = c.args in
    turned_none (quit_address a.clock) (quitting a.clock (search rules)) a.own.now c.requires.0 _ c.requires.1
    c.count-k-end.ensures.0 c.count-k-end.ensures.1

pub quit-requires : goal.quit-requires
quit-requires c =
    let a = c.args in
    let l = c.loop-k in
    let r = turned-lent (quit_address a.clock) (quitting a.clock (search rules)) a.own.now c.requires.0 l.own _ l.k l.invariant (omega arith) in
    (r.laid, r.size)

pub loop-k-preserved : goal.loop-k-preserved
loop-k-preserved c =
    let a = c.args in
    let l = c.loop-k in
    turned_more (quit_address a.clock) (quitting a.clock (search rules)) a.own.now c.requires.0 l.own _ l.k l.invariant (omega arith) _ _
    c.quit.ensures refl (omega arith)

pub returns : goal.returns
returns c =
    let a = c.args in
    let l = c.loop-k in
    turned-all (quit_address a.clock) (quitting a.clock (search rules)) a.own.now c.requires.0 l.own _ l.k l.invariant (omega arith)
