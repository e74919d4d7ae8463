use Rattle.std.proofs.Common.{◌≡◌, ◌-◌, arith}
use Rattle.addresses.proofs.Loops.{dropping-start, dropping-keep, dropping-out, dropping-end}
use Rattle.addresses.proofs.drop_vacant.Goals as goal

pub loop-k-init : goal.loop-k-init
loop-k-init c = dropping-start c.args.own.now c.requires.0 c.requires.1 _ c.count-k.ensures.0

pub remove-requires : goal.remove-requires
remove-requires c =
    let l = c.loop-k in
    record { laid = l.invariant.laid; size = l.invariant.size; held = omega (arith, l.invariant.within) }

pub loop-k-preserved-then-own-k-eq0 : goal.loop-k-preserved-then-own-k-eq0
loop-k-preserved-then-own-k-eq0 c =
    let l = c.loop-k in
    dropping-out _ l.own l.k (l.k - 1) (omega arith) l.invariant c.if-own-k-eq0.true _ c.remove.ensures

pub loop-k-preserved : goal.loop-k-preserved
loop-k-preserved c =
    let l = c.loop-k in
    dropping-keep _ l.own l.k (l.k - 1) (omega arith) l.invariant c.if-own-k-eq0.false

pub returns : goal.returns
returns c =
    let l = c.loop-k in
    let e : l.k ≡ 0 = omega arith in
    dropping-end _ l.own (rw e at l.invariant)
