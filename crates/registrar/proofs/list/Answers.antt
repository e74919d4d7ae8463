use Rattle.std.proofs.Common.{refl, sym, ◌∙◌, ◌-◌, length, arith, rules}
use Rattle.model.specs.Attributes.{type_of}
use Rattle.model.specs.Frames.{frame_acts}
use Rattle.msrpdu.proofs.Reading.{within, over-within}
use Rattle.msrpdu.proofs.Left.{ok-is}
use Rattle.registrar.proofs.Walks.{walked-laid, leads-start, leads-on, leads-stopped, leads-end}
use Rattle.registrar.proofs.FrameWalk.{finds, next-vector, passed-vector, last-vector, no-fault-here}
use Rattle.registrar.proofs.list.Goals as goal

pub loop-read-init : goal.loop-read-init
loop-read-init c =
    let a = c.args in
    let n = finds _ c.requires.found in
    record {
      turns = length a.list.now;
      left = n.all;
      finds = n.is;
      going = record {
        within = omega arith;
        size = refl;
        laid = c.requires.walk.laid;
        leads = rw n.acts (leads-start a.walk.applying a.walk.p (frame_acts n.all) a.table.now);
      };
    }

-- a well-formed list is not refused
pub returns-in_default : goal.returns-in_default
returns-in_default c =
    let l = c.loop-read in
    absurd (no-fault-here l.invariant.turns _ _ _ l.at l.invariant.left l.invariant.finds _ (sym c.attribute_vector.ensures ∙ c.in_default.is))

-- at the EndMark no vector is left
pub returns-in-EndMark : goal.returns-in-EndMark
returns-in-EndMark c =
    let a = c.args in
    let l = c.loop-read in
    leads-end a.walk.applying a.walk.p _ _ _ _ l.invariant.going.leads
    (last-vector l.invariant.turns _ _ _ l.at l.invariant.left l.invariant.finds (ok-is (sym c.attribute_vector.ensures ∙ c.in-Ok.is) c.in-EndMark.is)) l.invariant.going.laid

pub vector-went-requires : goal.vector-went-requires
vector-went-requires c =
    record { walk = record { laid = c.loop-read.invariant.going.laid; port = c.requires.walk.port }; at = c.loop-read.at; read = ok-is (sym c.attribute_vector.ensures ∙ c.in-Ok.is) c.in-Vector.is }

-- the vector that is read is the first of those left
pub returns-then-not-went : goal.returns-then-not-went
returns-then-not-went c =
    let a = c.args in
    let l = c.loop-read in
    let n = next-vector l.invariant.turns a.walk.version (type_of a.walk.attribute) a.list.now l.at l.invariant.left l.invariant.finds c.in-Vector.head (ok-is (sym c.attribute_vector.ensures ∙ c.in-Ok.is) c.in-Vector.is) in
    leads-stopped a.walk.applying a.walk.p _ _ _ _ l.invariant.going.leads _ _ _ n.acts (rw c.if-not-went.true at c.vector-went.ensures)

pub loop-read-smaller-in-Vector : goal.loop-read-smaller-in-Vector
loop-read-smaller-in-Vector c =
    let p = within _ _ _ _ _ (ok-is (sym c.attribute_vector.ensures ∙ c.in-Ok.is) c.in-Vector.is) in
    omega arith

pub loop-read-preserved-in-Vector : goal.loop-read-preserved-in-Vector
loop-read-preserved-in-Vector c =
    let a = c.args in
    let l = c.loop-read in
    let n = next-vector l.invariant.turns a.walk.version (type_of a.walk.attribute) a.list.now l.at l.invariant.left l.invariant.finds c.in-Vector.head (ok-is (sym c.attribute_vector.ensures ∙ c.in-Ok.is) c.in-Vector.is) in
    let w = rw c.if-not-went.false at c.vector-went.ensures in
    record {
      turns = l.invariant.turns - 1;
      left = n.rest;
      finds = n.left;
      going = record {
        within = (within _ _ _ _ _ (ok-is (sym c.attribute_vector.ensures ∙ c.in-Ok.is) c.in-Vector.is)).list;
        size = search rules;
        laid = walked-laid w;
        leads = leads-on a.walk.applying a.walk.p _ _ _ _ l.invariant.going.leads _ _ _ n.acts w;
      };
    }

-- the acts that are left behind a vector that is passed over are those that were left before it
pub loop-read-smaller : goal.loop-read-smaller
loop-read-smaller c =
    let h = over-within _ _ _ _ _ (ok-is (sym c.attribute_vector.ensures ∙ c.in-Ok.is) c.in-PassedOver.is) in
    omega arith

pub loop-read-preserved : goal.loop-read-preserved
loop-read-preserved c =
    let l = c.loop-read in
    let g = l.invariant.going in
    record {
      turns = l.invariant.turns - 1;
      left = l.invariant.left;
      finds = passed-vector l.invariant.turns _ _ _ l.at l.invariant.left l.invariant.finds _ (ok-is (sym c.attribute_vector.ensures ∙ c.in-Ok.is) c.in-PassedOver.is);
      going = record { within = (over-within _ _ _ _ _ (ok-is (sym c.attribute_vector.ensures ∙ c.in-Ok.is) c.in-PassedOver.is)).1; size = g.size; laid = g.laid; leads = g.leads };
    }
