use Rattle.std.proofs.Common.{refl, rules, arith, sym, ◌∙◌}
use Rattle.msrpdu.proofs.Left.{ok-is}
use Rattle.mmrpdu.proofs.Walking.{ahead-list}
use Rattle.mmrpdu.proofs.Applying.{accepted-length}
use Rattle.mmrp.proofs.Reading.{frame-start, frame_refused, frame-end, next-list, list-is, end-ahead, end-inside, frame-list, frame-full}
use Rattle.mmrp.proofs.frame.Goals as goal

pub bounds-pdu-0 : goal.bounds-pdu-0
bounds-pdu-0 c = let h = (accepted-length c.args.pdu.now c.requires.acts c.requires.found).0 in search rules

pub loop-read-init : goal.loop-read-init
loop-read-init c =
    let a = c.args in
    let p = c.requires in
    (refl, frame-start a.pdu.now a.walk.applying a.walk.clock a.own.now p.acts p.found p.laid)

-- a well-formed frame is not refused
pub returns-in_default : goal.returns-in_default
returns-in_default c =
    let a = c.args in
    let l = c.loop-read in
    absurd (frame_refused a.pdu.now a.walk.applying a.walk.clock a.own.now l.at l.own l.invariant.1 _ (sym c.message.ensures ∙ c.in_default.is))

pub returns-in_default-read : goal.returns-in_default-read
returns-in_default-read c =
    let a = c.args in
    let l = c.loop-read in
    frame-end a.pdu.now a.walk.applying a.walk.clock a.own.now l.at l.own l.invariant.1 (ok-is (sym c.message.ensures ∙ c.in-Ok.is) c.in_default-read.is)

pub list-requires : goal.list-requires
list-requires c =
    let a = c.args in
    let l = c.loop-read in
    let n = next-list a.pdu.now a.walk.applying a.walk.clock a.own.now l.at l.own l.invariant.1 _ (ok-is (sym c.message.ensures ∙ c.in-Ok.is) c.in-Some.is) in
    record {
      laid = l.invariant.1.going.laid;
      within = (ahead-list _ _ _ _ (ok-is (sym c.message.ensures ∙ c.in-Ok.is) c.in-Some.is)).1;
      short = (accepted-length a.pdu.now c.requires.acts c.requires.found).1;
      acts = n.own;
      end = n.end;
      found = list-is a.pdu.now a.walk.applying a.walk.clock a.own.now l.at l.own l.invariant.1 _ (ok-is (sym c.message.ensures ∙ c.in-Ok.is) c.in-Some.is);
    }

pub returns-in_default-list : goal.returns-in_default-list
returns-in_default-list c =
    let a = c.args in
    let l = c.loop-read in
    frame-full a.pdu.now a.walk.applying a.walk.clock a.own.now l.at l.own l.invariant.1 _ (ok-is (sym c.message.ensures ∙ c.in-Ok.is) c.in-Some.is) _ (rw c.in_default-list.is at c.list.ensures)

pub loop-read-smaller : goal.loop-read-smaller
loop-read-smaller c =
    let a = c.args in
    let l = c.loop-read in
    let x = rw c.in-Some-list.is at c.list.ensures in
    omega (
      arith,
      end-ahead a.pdu.now a.walk.applying a.walk.clock a.own.now l.at l.own l.invariant.1 _ (ok-is (sym c.message.ensures ∙ c.in-Ok.is) c.in-Some.is) _ x.0,
      end-inside a.pdu.now a.walk.applying a.walk.clock a.own.now l.at l.own l.invariant.1 _ (ok-is (sym c.message.ensures ∙ c.in-Ok.is) c.in-Some.is) _ x.0,
    )

pub loop-read-preserved : goal.loop-read-preserved
loop-read-preserved c =
    let a = c.args in
    let l = c.loop-read in
    let x = rw c.in-Some-list.is at c.list.ensures in (
      search rules,
      frame-list a.pdu.now a.walk.applying a.walk.clock a.own.now l.at l.own l.invariant.1 _ (ok-is (sym c.message.ensures ∙ c.in-Ok.is) c.in-Some.is) _ _ x.0 x.1,
    )
