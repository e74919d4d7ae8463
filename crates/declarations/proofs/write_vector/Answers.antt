use mathlib.Core.Path.{◌≡◌, ◌∙◌}
use Prim.Native.Nat.{◌-◌}
use native.Mathlib.Omega.{arith}
use lib.ListN.{length}
use Rattle.model.specs.Declarations.{vector_size}
use Rattle.declarations.proofs.Places.{stream, slot}
use Rattle.declarations.proofs.Vectors.{advertise-said, failed-said, domain-said}
use Rattle.declarations.proofs.write_vector.Goals as goal

pub write_talker-requires : goal.write_talker-requires
unfolding vector_size
write_talker-requires c =
    let pre = c.requires in
    let told = c.in-Advertise.is in
    let room = rw told at pre.room in
    record { places = stream (rw told at pre.says.places); within = omega (arith, room); room = omega (arith, room) }

pub write_talker-requires-in-Failed : goal.write_talker-requires-in-Failed
unfolding vector_size
write_talker-requires-in-Failed c =
    let pre = c.requires in
    let told = c.in-Failed.is in
    let room = rw told at pre.room in
    record { places = stream (rw told at pre.says.places); within = omega (arith, room); room = omega (arith, room) }

pub write_domain-requires : goal.write_domain-requires
unfolding vector_size
write_domain-requires c =
    let pre = c.requires in
    let told = c.in-Domain.is in
    let s = slot (rw told at pre.says.places) in
    (s.laid, s.slot, rw told at pre.room)

pub returns-in-Advertise : goal.returns-in-Advertise
unfolding vector_size
returns-in-Advertise c =
    let pre = c.requires in
    let told = c.in-Advertise.is in
    let room = rw told at pre.room in
    let e : length c.args.out.now - 11 ≡ 17 = omega (arith, room) in
    rw told ((rw (e, rw told at c.event_of-event.ensures) at c.write_talker.ensures) ∙ advertise-said _ _ _ (rw told at pre.says.one))

pub returns-in-Failed : goal.returns-in-Failed
unfolding vector_size
returns-in-Failed c =
    let pre = c.requires in
    let told = c.in-Failed.is in
    let room = rw told at pre.room in
    let e : length c.args.out.now - 11 ≡ 26 = omega (arith, room) in
    rw told ((rw (e, rw told at c.event_of-event.ensures) at c.write_talker-in-Failed.ensures) ∙ failed-said _ _ _ (rw told at pre.says.one))

pub returns-in-Listener : goal.returns-in-Listener
returns-in-Listener c = absurd (rw c.in-Listener.is at c.requires.single)

pub returns-in-Domain : goal.returns-in-Domain
returns-in-Domain c =
    let pre = c.requires in
    let told = c.in-Domain.is in
    rw told ((rw (rw told at c.event_of-event.ensures) at c.write_domain.ensures) ∙ domain-said _ _ _ (rw told at pre.says.one))
