use Rattle.std.proofs.Common.{◌≡◌, refl, rules, arith}
use native.Mathlib.Nat.{sub-zero}
use Rattle.mmrp.specs.Walked.{vector_of}
use Rattle.mmrp.proofs.Walks.{going_start, going_on, going-stopped, going_end}
use Rattle.mmrp.proofs.Reading.{values-next, values-done}
use Rattle.mmrp.proofs.values.Goals as goal

pub loop-n-init : goal.loop-n-init
loop-n-init c = (refl, rw sub-zero (going_start c.args.walk.applying c.args.walk.clock _ c.args.own.now c.requires.laid))

pub value-went-requires : goal.value-went-requires
value-went-requires c =
    let e = c.requires.events in
    record { laid = c.loop-n.invariant.1.laid; event = omega arith; value = c.requires.values c.loop-n.n c.loop-n-test.true }

pub returns-then-not-went : goal.returns-then-not-went
unfolding vector_of
returns-then-not-went c =
    let a = c.args in
    let l = c.loop-n in
    going-stopped a.walk.applying a.walk.clock _ a.own.now _ l.own l.invariant.1 _ _ _ (values-next (vector_of a.first.now a.events.now) l.n a.count c.loop-n-test.true)
    (rw c.if-not-went.true at c.value-went.ensures)

pub loop-n-preserved : goal.loop-n-preserved
unfolding vector_of
loop-n-preserved c =
    let a = c.args in
    let l = c.loop-n in (
      search rules,
      going_on a.walk.applying a.walk.clock _ a.own.now _ l.own l.invariant.1 _ _ _
          (values-next (vector_of a.first.now a.events.now) l.n a.count c.loop-n-test.true)
          (rw c.if-not-went.false at c.value-went.ensures),
    )

pub returns : goal.returns
returns c =
    let a = c.args in
    let l = c.loop-n in
    let e : l.n ≡ a.count = omega arith in
    going_end a.walk.applying a.walk.clock _ a.own.now _ l.own l.invariant.1 (values-done _ l.n a.count e)
