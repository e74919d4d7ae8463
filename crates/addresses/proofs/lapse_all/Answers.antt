use Rattle.std.proofs.Common.{refl, ◌∙◌, arith}
use Rattle.addresses.specs.Room.{lapse_address}
use Rattle.addresses.proofs.Values.{lapses}
use Rattle.addresses.proofs.Loops.{lapsing, turned_none, turned-lent, turned_more, turned-all}
use Rattle.addresses.proofs.lapse_all.Goals as goal

pub loop-k-init : goal.loop-k-init
loop-k-init c =
    let a = c.args in
    turned_none (lapse_address a.leave a.time) (lapsing a.leave a.time) a.own.now c.requires.0 _ c.requires.1
    c.count-k-end.ensures.0 c.count-k-end.ensures.1

pub loop-k-preserved : goal.loop-k-preserved
loop-k-preserved c =
    let a = c.args in
    let l = c.loop-k in
    let r = turned-lent (lapse_address a.leave a.time) (lapsing a.leave a.time) a.own.now c.requires.0 l.own _ l.k l.invariant (omega arith) in
    turned_more (lapse_address a.leave a.time) (lapsing a.leave a.time) a.own.now c.requires.0 l.own _ l.k l.invariant (omega arith) _ _
    (c.lapse.ensures ∙ lapses a.leave a.time _ r.laid) refl (omega arith)

pub returns : goal.returns
returns c =
    let a = c.args in
    let l = c.loop-k in
    turned-all (lapse_address a.leave a.time) (lapsing a.leave a.time) a.own.now c.requires.0 l.own _ l.k l.invariant (omega arith)
