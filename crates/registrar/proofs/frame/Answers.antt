use Rattle.std.proofs.Common.{refl, sym, ◌∙◌, ◌-◌, length, arith, rules}
use Rattle.model.specs.Frames.{walk, frame_acts}
use Rattle.msrpdu.proofs.Walking.{ahead-skipped, ahead-list}
use Rattle.msrpdu.proofs.Applying.{accepted-length, accepted-messages}
use Rattle.msrpdu.proofs.Left.{ok-is}
use Rattle.registrar.proofs.Walks.{walked-laid, leads-start, leads-on, leads-stopped, leads-end}
use Rattle.registrar.proofs.FrameWalk.{finds, skipped-list, last-list, no-refusal, next-message}
use Rattle.registrar.proofs.frame.Goals as goal

pub bounds-pdu-0 : goal.bounds-pdu-0
bounds-pdu-0 c =
    let n = finds (walk c.args.pdu.now) c.requires.found in
    let h = accepted-length c.args.pdu.now n.all n.is in
    omega arith

pub loop-read-init : goal.loop-read-init
loop-read-init c =
    let a = c.args in
    let n = finds (walk a.pdu.now) c.requires.found in
    record {
      turns = length a.pdu.now;
      left = n.all;
      finds = accepted-messages a.pdu.now n.all n.is;
      going = record {
        within = (accepted-length a.pdu.now n.all n.is).0;
        size = refl;
        laid = c.requires.laid;
        leads = rw n.acts (leads-start a.applying a.p (frame_acts n.all) a.table.now);
      };
    }

-- a well-formed frame is not refused
pub returns-in_default : goal.returns-in_default
returns-in_default c =
    let l = c.loop-read in
    absurd (no-refusal l.invariant.turns _ _ l.at l.invariant.left l.invariant.finds _ (sym c.message.ensures ∙ c.in_default.is))

pub returns-in-End : goal.returns-in-End
returns-in-End c =
    let l = c.loop-read in
    leads-end c.args.applying c.args.p _ _ _ _ l.invariant.going.leads
    (last-list l.invariant.turns _ _ l.at l.invariant.left l.invariant.finds (ok-is (sym c.message.ensures ∙ c.in-Ok.is) c.in-End.is)) l.invariant.going.laid

-- a Message that is skipped
pub loop-read-smaller-in-Skipped : goal.loop-read-smaller-in-Skipped
loop-read-smaller-in-Skipped c = let h = ahead-skipped _ _ _ _ (ok-is (sym c.message.ensures ∙ c.in-Ok.is) c.in-Skipped.is) in omega arith

pub loop-read-preserved-in-Skipped : goal.loop-read-preserved-in-Skipped
loop-read-preserved-in-Skipped c =
    let l = c.loop-read in
    let g = l.invariant.going in
    let r = ok-is (sym c.message.ensures ∙ c.in-Ok.is) c.in-Skipped.is in
    record {
      turns = l.invariant.turns - 1;
      left = l.invariant.left;
      finds = skipped-list l.invariant.turns _ _ l.at l.invariant.left l.invariant.finds _ r;
      going = record { within = (ahead-skipped _ _ _ _ r).1; size = g.size; laid = g.laid; leads = g.leads };
    }

-- a Message whose list is read: its acts are the first of those left
pub slice_bounds-list-count : goal.slice_bounds-list-count
slice_bounds-list-count c = let h = ahead-list _ _ _ _ (ok-is (sym c.message.ensures ∙ c.in-Ok.is) c.in-List.is) in search rules

pub slice_bounds-list-start : goal.slice_bounds-list-start
slice_bounds-list-start c = let h = ahead-list _ _ _ _ (ok-is (sym c.message.ensures ∙ c.in-Ok.is) c.in-List.is) in search rules

pub slice_bounds-list-end : goal.slice_bounds-list-end
slice_bounds-list-end c = let h = ahead-list _ _ _ _ (ok-is (sym c.message.ensures ∙ c.in-Ok.is) c.in-List.is) in search rules

pub list-went-requires : goal.list-went-requires
list-went-requires c =
    let l = c.loop-read in
    let n = next-message l.invariant.turns _ _ l.at l.invariant.left l.invariant.finds c.in-List.head (ok-is (sym c.message.ensures ∙ c.in-Ok.is) c.in-List.is) in
    record {
      walk = record { laid = l.invariant.going.laid; port = c.requires.port };
      found = n.there;
    }

pub returns-then-not-went : goal.returns-then-not-went
returns-then-not-went c =
    let l = c.loop-read in
    let n = next-message l.invariant.turns _ _ l.at l.invariant.left l.invariant.finds c.in-List.head (ok-is (sym c.message.ensures ∙ c.in-Ok.is) c.in-List.is) in
    leads-stopped c.args.applying c.args.p _ _ _ _ l.invariant.going.leads _ _ _
    n.acts (rw c.if-not-went.true at c.list-went.ensures)

pub loop-read-smaller : goal.loop-read-smaller
loop-read-smaller c = let h = ahead-list _ _ _ _ (ok-is (sym c.message.ensures ∙ c.in-Ok.is) c.in-List.is) in omega arith

pub loop-read-preserved : goal.loop-read-preserved
loop-read-preserved c =
    let l = c.loop-read in
    let read = ok-is (sym c.message.ensures ∙ c.in-Ok.is) c.in-List.is in
    let n = next-message l.invariant.turns _ _ l.at l.invariant.left l.invariant.finds c.in-List.head read in
    let w = rw c.if-not-went.false at c.list-went.ensures in
    record {
      turns = l.invariant.turns - 1;
      left = n.rest;
      finds = n.left;
      going = record {
        within = (ahead-list _ _ _ _ read).within;
        size = search rules;
        laid = walked-laid w;
        leads =
            leads-on c.args.applying c.args.p _ _ _ _ l.invariant.going.leads _ _ _
            n.acts w;
      };
    }
