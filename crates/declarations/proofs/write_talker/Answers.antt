use mathlib.Core.Path.{◌≡◌, ap, ◌∙◌}
use Prim.Native.Nat.{ℕ, ◌+◌, ◌-◌, ◌*◌, ◌≤◌, ◌<◌}
use native.Mathlib.Omega.{arith}
use mathlib.Core.List.{List}
use lib.ListN.{length, take, drop}
use Rattle.octets.specs.Parts.{part}
use Rattle.octets.proofs.Parts.{lent-part, length_part}
use Rattle.model.specs.FrameLayout.{in_first_value}
use Rattle.model.specs.State.{sends_at, stream_at}
use Rattle.model.specs.Sending.{sends_octets}
use Rattle.model.specs.Table.{decode}
use Rattle.model.proofs.SendsOctets.{sends-length}
use Rattle.table.proofs.ByPlace.{stands}
use Rattle.declarations.specs.Vectors.{talker_vector, first_event}
use Rattle.model.specs.Numbers.{event_number}
use Rattle.declarations.proofs.Vectors.{event_few, as_event}
use Rattle.declarations.proofs.Written.{holding-lent, holding-put, holding-all, be-one}
use Rattle.declarations.proofs.write_talker.Goals as goal

-- the octets of the values
abbrev size : List ℕ → ℕ
size out = length out - (3 + in_first_value.destination)

pub id_at-requires : goal.id_at-requires
id_at-requires c = stands c.requires.places

pub begin_vector-requires : goal.begin_vector-requires
begin_vector-requires c = omega (arith, c.requires.room)

pub copy_offer-requires : goal.copy_offer-requires
copy_offer-requires c =
    let a = c.args in
    let pre = c.requires in
    let now = c.begin_vector.new.out in
    let n : ℕ = size a.out.now in
    let long : length (part 10 n now) ≡ n = length_part 10 n now (omega (arith, pre.room)) in
    (pre.places, omega (arith, pre.within, ap length (lent-part 10 n now), long))

pub returns : goal.returns
unfolding talker_vector first_event
returns c =
    let a = c.args in
    let pre = c.requires in
    let n : ℕ = size a.out.now in
    let sent = sends_octets (sends_at (stream_at a.k (decode a.table.now)) a.p) in
    let now = c.begin_vector.new.out in
    let lent : length (take (10 + n - 10) (drop 10 now)) ≡ n = ap length (lent-part 10 n now) ∙ length_part 10 n now (omega (arith, pre.room)) in
    let enough : a.from + n ≤ length sent = omega (arith, sends-length (sends_at (stream_at a.k (decode a.table.now)) a.p), pre.within) in
    let seen = c.copy_offer.ensures ∙ ap (λ (m : ℕ). part a.from m sent) lent in
    let copied = holding-lent c.begin_vector.ensures n seen (length_part a.from n sent enough) in
    let e = event_number a.event in
    let small : e * 36 < 256 = omega (arith, event_few a.event) in
    holding-all (holding-put copied 1 (e * 36) (rw as_event at c.put.ensures)) (omega (arith, pre.room))
    ∙ rw (be-one (e * 36) small, c.id_at.ensures)
