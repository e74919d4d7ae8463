use Rattle.std.proofs.Common.{arith}
use Rattle.form.specs.Asks.{is_either}
use Rattle.form.proofs.Senders.{all_slots, slots-more, no-slots}
use Rattle.form.proofs.applicants_formed.Goals as goal

pub loop-slot-init : goal.loop-slot-init
loop-slot-init c = all_slots (is_either c.args.a c.args.b) _

pub loop-slot-preserved : goal.loop-slot-preserved
unfolding is_either
loop-slot-preserved c =
    let a = c.args in
    let l = c.loop-slot in
    slots-more (is_either a.a a.b) a.applicants.now l.ok l.slot (omega arith) c.applicant_formed-ok.result c.applicant_formed-ok.ensures l.invariant

pub returns : goal.returns
returns c =
    let a = c.args in
    let l = c.loop-slot in
    no-slots (is_either a.a a.b) a.applicants.now l.ok l.slot (omega arith) l.invariant
