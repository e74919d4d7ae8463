use Rattle.std.proofs.Common.{◌≡◌, arith, rules}
use Rattle.model.specs.Layout.{slots}
use Rattle.registrar.proofs.DomainsLeft.{none_left, slot-stands, one_left, slots-left}
use Rattle.registrar.proofs.leave_domains.Goals as goal

pub loop-slot-init : goal.loop-slot-init
loop-slot-init c = none_left _ _ _ c.requires.laid

pub quit_slot-requires : goal.quit_slot-requires
quit_slot-requires c =
    slot-stands c.args.p c.clock-now.result _ c.requires.laid (search rules) c.loop-slot.slot _ c.loop-slot.invariant c.requires.port (omega arith)

pub loop-slot-preserved : goal.loop-slot-preserved
loop-slot-preserved c =
    one_left c.args.p c.clock-now.result _ c.requires.laid (search rules) c.loop-slot.slot _ c.loop-slot.invariant _ c.quit_slot.ensures

pub returns : goal.returns
returns c =
    let e : c.loop-slot.slot ≡ slots = omega arith in
    slots-left c.args.p c.args.table.now c.loop-slot.table c.requires.laid (rw (e, c.clock-now.ensures) at c.loop-slot.invariant)
