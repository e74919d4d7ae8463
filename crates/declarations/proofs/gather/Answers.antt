use mathlib.Core.Path.{refl, sym, ap, ◌∙◌}
use Prim.Native.Nat.{◌≤◌, ◌<◌}
use native.Mathlib.Omega.{arith}
use lib.ListN.{length}
use Rattle.model.specs.Frames.{registers}
use Rattle.model.specs.Registrations.{listeners}
use Rattle.model.specs.Table.{decode}
use Rattle.declarations.specs.Passes.{declarers}
use Rattle.declarations.proofs.Declared.{said-end}
use Rattle.declarations.proofs.Packed.{gathers-none, gathers-one, gathered-all, gathering-none}
use Rattle.declarations.proofs.gather.Goals as goal
use Rattle.declarations.proofs.gather.Goals.{then-says, else-says}

pub loop-k-init : goal.loop-k-init
loop-k-init c =
    let a = c.args in
    gathering-none a.table.now a.p _ a.places.now a.first c.requires.enough refl

pub returns-then-n-places : goal.returns-then-n-places
returns-then-n-places c =
    let l = c.loop-k in
    let pre = c.requires in
    let done : length l.places ≤ l.n = omega (arith, c.if-n-places.true) in
    let all = gathered-all _ _ _ l.invariant pre.port.laid done pre.port.port (omega (arith, l.auto.places, pre.few)) in
    record { telling = all.0; are = rw l.auto.places all.1 }

pub bounds-places-n : goal.bounds-places-n
bounds-places-n c = omega (arith, c.loop-k.invariant.within, c.if-n-places.false)

pub overflow_add-n : goal.overflow_add-n
overflow_add-n c = omega (arith, c.loop-k.invariant.within, c.loop-k.auto.places, c.requires.few)

pub loop-k-preserved : goal.loop-k-preserved
loop-k-preserved c =
    let l = c.loop-k in
    let some : l.n < length l.places = omega (arith, l.invariant.within, c.if-n-places.false) in
    elim c.if-says.branch [
      | then-says w ↦ rw (w.places-is, w.n-is) (gathers-one _ _ _ l.invariant some c.requires.port.laid (sym c.says.ensures ∙ w.if-says.true))
      | else-says w ↦ rw (w.places-is, w.n-is) (gathers-none _ _ _ l.invariant some (sym c.says.ensures ∙ w.if-says.false))
    ]

pub returns : goal.returns
returns c =
    let l = c.loop-k in
    let pre = c.requires in
    let b = decode c.args.table.now in
    let last : declarers (registers listeners) c.args.p b ≤ l.k = omega (arith, c.declarers-k-end.ensures.0) in
    let none = ap length (said-end (registers listeners) c.args.p b l.k last) in
    let done : length l.places ≤ l.n = omega (arith, l.invariant.enough, none) in
    let all = gathered-all _ _ _ l.invariant pre.port.laid done pre.port.port (omega (arith, l.auto.places, pre.few)) in
    record { telling = all.0; are = rw l.auto.places all.1 }
