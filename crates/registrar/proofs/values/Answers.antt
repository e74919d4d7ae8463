use Rattle.std.proofs.Common.{refl, false, arith, rules}
use native.Mathlib.Nat.{sub-zero}
use Rattle.model.specs.Attributes.{type_of}
use Rattle.registrar.specs.Acts.{vector_of}
use Rattle.registrar.proofs.Walks.{walked-laid, leads-start, leads-on, leads-stopped, leads-end}
use Rattle.registrar.proofs.VectorActs.{values-next, values-done}
use Rattle.registrar.proofs.values.Goals as goal

pub loop-n-init : goal.loop-n-init
loop-n-init c =
    let a = c.args in
    record {
      within = omega arith;
      size = refl;
      laid = c.requires.walk.laid;
      leads = rw sub-zero (leads-start a.walk.applying a.walk.p _ a.table.now);
    }

pub value-requires : goal.value-requires
value-requires c =
    let p = c.requires in
    record {
      walk = record { laid = c.loop-n.invariant.laid; port = p.walk.port };
      event = let e = p.events in omega arith;
      value = p.values c.loop-n.n (omega arith);
    }

pub returns-then-not-value : goal.returns-then-not-value
returns-then-not-value c =
    let a = c.args in
    leads-stopped a.walk.applying a.walk.p _ _ _ _ c.loop-n.invariant.leads _ _ _
    (values-next (vector_of (type_of a.walk.attribute) false 0 a.first.now a.events.now a.fours.now) c.loop-n.n a.count (omega arith))
    (rw c.if-not-value.true at c.value.ensures)

pub loop-n-preserved : goal.loop-n-preserved
loop-n-preserved c =
    let a = c.args in
    let w = rw c.if-not-value.false at c.value.ensures in
    record {
      within = omega arith;
      size = search rules;
      laid = walked-laid w;
      leads =
          leads-on a.walk.applying a.walk.p _ _ _ _ c.loop-n.invariant.leads _ _ _
          (values-next (vector_of (type_of a.walk.attribute) false 0 a.first.now a.events.now a.fours.now) c.loop-n.n a.count (omega arith)) w;
    }

pub returns : goal.returns
returns c =
    let a = c.args in
    leads-end a.walk.applying a.walk.p _ _ _ _ c.loop-n.invariant.leads (values-done _ c.loop-n.n a.count (omega arith)) c.loop-n.invariant.laid
