use Rattle.std.proofs.Common.{◌≡◌, refl, length, arith, rules}
use Rattle.moving.proofs.EachSlot.{met_slots_to, none-moved-yet, next-in, next-few, next-moved, all_moved}
use Rattle.moving.proofs.move_domains.Goals as goal

pub loop-slot-init : goal.loop-slot-init
unfolding met_slots_to
loop-slot-init c =
    let a = c.args in
    record { within = omega arith; size = refl; is = none-moved-yet a.span a.from a.p a.table.now c.requires.port; met = refl }

pub move_domain-so_far-requires : goal.move_domain-so_far-requires
move_domain-so_far-requires c =
    let l = c.loop-slot in
    let a = c.args in
    record {
      slot = next-in a.span a.from a.p a.table.now c.requires.port _ _ _ l.invariant (omega arith);
      few = next-few a.span a.from a.p a.table.now c.requires.port _ _ _ l.invariant c.requires.few;
    }

pub loop-slot-preserved : goal.loop-slot-preserved
loop-slot-preserved c =
    let l = c.loop-slot in
    let a = c.args in
    let call = c.move_domain-so_far in
    let z : length call.new.table ≡ length l.table = search rules in
    next-moved a.span a.from a.p a.table.now c.requires.port _ _ _ l.invariant (omega arith) _ _ z call.ensures

pub returns : goal.returns
returns c =
    let a = c.args in
    all_moved a.span a.from a.p a.table.now c.requires.port _ _ _ c.loop-slot.invariant (omega arith)
