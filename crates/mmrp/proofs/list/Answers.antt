use Rattle.std.proofs.Common.{refl, rules, arith, sym, ◌∙◌}
use Rattle.msrpdu.proofs.Left.{ok-is}
use Rattle.mmrpdu.proofs.Walking.{within, over-within}
use Rattle.mmrpdu.proofs.Applying.{macs-named}
use Rattle.mmrp.proofs.Reading.{list-start, list-refused, list-end, list_over, list-macs, list-macs-full, list-dropped}
use Rattle.mmrp.proofs.list.Goals as goal

pub loop-read-init : goal.loop-read-init
loop-read-init c =
    let a = c.args in
    let p = c.requires in
    (refl, list-start a.pdu.now a.version a.head a.walk.applying a.walk.clock a.own.now p.acts p.end p.found p.within p.laid)

-- a well-formed list is not refused
pub returns-in_default : goal.returns-in_default
returns-in_default c =
    let a = c.args in
    let l = c.loop-read in
    absurd (list-refused a.pdu.now a.version a.head a.walk.applying a.walk.clock a.own.now l.at l.own l.invariant.1 _ (sym c.typed_vector.ensures ∙ c.in_default.is))

pub overflow_add-result : goal.overflow_add-result
overflow_add-result c = omega (arith, c.loop-read.invariant.1.within, c.requires.short)

pub returns-in-EndMark : goal.returns-in-EndMark
returns-in-EndMark c =
    let a = c.args in
    let l = c.loop-read in
    list-end a.pdu.now a.version a.head a.walk.applying a.walk.clock a.own.now l.at l.own l.invariant.1 (ok-is (sym c.typed_vector.ensures ∙ c.in-Ok.is) c.in-EndMark.is)

pub vector-went-requires : goal.vector-went-requires
vector-went-requires c =
    let a = c.args in
    let l = c.loop-read in
    record {
      laid = l.invariant.1.going.laid;
      version = a.version;
      at = l.at;
      read = rw (macs-named a.head.kind a.head.octets c.if-head-eq2.true) at (ok-is (sym c.typed_vector.ensures ∙ c.in-Ok.is) c.in-Vector.is);
    }

pub returns-then-not-went : goal.returns-then-not-went
returns-then-not-went c =
    let a = c.args in
    let l = c.loop-read in
    list-macs-full a.pdu.now a.version a.head a.walk.applying a.walk.clock a.own.now l.at l.own l.invariant.1 _ (ok-is (sym c.typed_vector.ensures ∙ c.in-Ok.is) c.in-Vector.is) c.if-head-eq2.true _ (rw c.if-not-went.true at c.vector-went.ensures)

pub loop-read-smaller-else-not-went : goal.loop-read-smaller-else-not-went
loop-read-smaller-else-not-went c = let w = within _ _ _ _ _ (ok-is (sym c.typed_vector.ensures ∙ c.in-Ok.is) c.in-Vector.is) in omega (arith, c.loop-read.invariant.1.within)

pub loop-read-preserved-else-not-went : goal.loop-read-preserved-else-not-went
loop-read-preserved-else-not-went c =
    let a = c.args in
    let l = c.loop-read in (
      search rules,
      list-macs a.pdu.now a.version a.head a.walk.applying a.walk.clock a.own.now l.at l.own l.invariant.1 _ (ok-is (sym c.typed_vector.ensures ∙ c.in-Ok.is) c.in-Vector.is) c.if-head-eq2.true _
          (rw c.if-not-went.false at c.vector-went.ensures),
    )

pub loop-read-smaller-else-head-eq2 : goal.loop-read-smaller-else-head-eq2
loop-read-smaller-else-head-eq2 c = let w = within _ _ _ _ _ (ok-is (sym c.typed_vector.ensures ∙ c.in-Ok.is) c.in-Vector.is) in omega (arith, c.loop-read.invariant.1.within)

pub loop-read-preserved-else-head-eq2 : goal.loop-read-preserved-else-head-eq2
loop-read-preserved-else-head-eq2 c =
    let a = c.args in
    let l = c.loop-read in
    (l.invariant.0, list-dropped a.pdu.now a.version a.head a.walk.applying a.walk.clock a.own.now l.at l.own l.invariant.1 _ (ok-is (sym c.typed_vector.ensures ∙ c.in-Ok.is) c.in-Vector.is) c.if-head-eq2.false)

pub loop-read-smaller : goal.loop-read-smaller
loop-read-smaller c = let h = over-within _ _ _ _ _ (ok-is (sym c.typed_vector.ensures ∙ c.in-Ok.is) c.in-PassedOver.is) in omega (arith, h.0, h.1, c.loop-read.invariant.1.within)

pub loop-read-preserved : goal.loop-read-preserved
loop-read-preserved c =
    let a = c.args in
    let l = c.loop-read in
    (l.invariant.0, list_over a.pdu.now a.version a.head a.walk.applying a.walk.clock a.own.now l.at l.own l.invariant.1 _ (ok-is (sym c.typed_vector.ensures ∙ c.in-Ok.is) c.in-PassedOver.is))
