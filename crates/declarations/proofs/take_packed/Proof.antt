-- `declarations::take_packed` meets its contract. Assumes nothing.
use mathlib.Core.Path.{◌≡◌, sym, ap, ◌∙◌}
use Prim.Native.Nat.{ℕ, ◌+◌, ◌-◌, ◌/◌, ◌≤◌, ◌<◌}
use native.Mathlib.Omega.{arith}
use lib.ListN.{length, get_or}
use lib.Seq.{length-take-le}
use Rattle.octets.proofs.Parts.{lent-part, length_part}
use Rattle.model.specs.FrameLayout.{longest_pdu}
use Rattle.model.specs.Registrations.{listeners}
use Rattle.model.specs.Frames.{registers}
use Rattle.model.specs.Writing.{leaves_all}
use Rattle.model.specs.Table.{decode}
use Rattle.cutting.specs.Named.{ids_of}
use Rattle.cutting.specs.Plan.{Packed}
use Rattle.declarations.specs.Passes.{later, message}
use Rattle.declarations.specs.Packed.{listeners_at}
use Rattle.declarations.proofs.Packed.{listeners-own, listeners-take}
use Rattle.declarations.proofs.Listeners.{packed-number, planned-within, planned-room, planned-some, planned-message, planned-cut}
use Rattle.declarations.proofs.Written.{none-fits, some_fit}
use borrow.Author.Rules.{rules}
use Rattle.declarations.proofs.take_packed.Statement.{statement}
use Rattle.declarations.proofs.take_packed.Tie as tie

-- the room of the vectors, and the plan
later-is : (c : tie.After-later_sizes-later) → c.later_sizes-later.result ≡ later (leaves_all (decode c.args.table.now) c.args.p) (registers listeners)
later-is c = rw (← c.leaves_all.ensures) c.later_sizes-later.ensures.0

made : (c : tie.After-pack-n) → Packed (longest_pdu - (c.args.at + 8 + later (leaves_all (decode c.args.table.now) c.args.p) (registers listeners))) (ids_of c.args.table.now c.args.places.now) c.pack-n.result c.pack-n.new.weighs c.pack-n.new.firsts
made c = rw (← later-is c.before.before.before) c.pack-n.ensures.0

write-none-requires : tie.Need-write_none-requires
write-none-requires c κs = c.requires.message

returns : tie.Need-returns-then-n-eq0
returns c =
    let a = c.args in
    let pre = c.requires in
    let b = decode a.table.now in
    let n = packed-number a.table.now a.p a.places.now a.at a.buffer.now pre _ (made c.before.before.before.before.before.before.before).number in
    none-fits (leaves_all b a.p) (registers listeners) (listeners_at a.p a.table.now a.places.now) a.at (sym n ∙ c.if-n-eq0.true) c.write_none.ensures

-- the Message has room
room : (c : tie.Else-n-eq0) → c.args.at + 8 + c.later_sizes-later.result + get_or c.pack-n.new.weighs 0 0 / 65 ≤ longest_pdu
room c =
    let a = c.args in
    omega (arith, later-is c.before.before.before.before.before.before, planned-room a.table.now a.p a.places.now a.at a.buffer.now c.requires _ _ _ (made c.before.before.before))

within : (c : tie.Else-n-eq0) → c.pack-n.result ≤ length c.args.places.now
within c = let a = c.args in planned-within a.table.now a.p a.places.now a.at a.buffer.now c.requires _ _ _ (made c.before.before.before)

slice-aggregate-write-listeners : tie.Need-slice_bounds-write_listeners-end
slice-aggregate-write-listeners c = sym (length-take-le c.pack-n.result c.args.places.now (within c))

write-listeners-requires : tie.Need-write_listeners-requires
write-listeners-requires c κs =
    let a = c.args in
    let pre = c.requires in
    let b = a.buffer.now in
    let n : ℕ = c.pack-n.result in
    let long : ℕ = 6 + get_or c.pack-n.new.weighs 0 0 / 65 in
    let inside : a.at + long ≤ length b = omega (arith, room c.before.before, pre.message.buffer) in
    let lent = ap length (lent-part a.at long b) ∙ length_part a.at long b inside in
    let some : 0 < n = omega arith in
    record {
      port = pre.message.port;
      short = omega (arith, lent, room c.before.before);
      some = omega (arith, lent, planned-some a.table.now a.p a.places.now a.at b pre n _ _ (made c.before.before.before.before.before) some);
      any = omega (arith, length-take-le n a.places.now (within c.before.before));
      cut = λ m e. planned-cut a.table.now a.p a.places.now a.at b pre n _ _ (made c.before.before.before.before.before) m (omega arith) (omega (arith, lent, e));
    }

returns-2 : tie.Need-returns
returns-2 c =
    let a = c.args in
    let pre = c.requires in
    let b = decode a.table.now in
    let all = leaves_all b a.p in
    let k = registers listeners in
    let l = listeners_at a.p a.table.now a.places.now in
    let n : ℕ = c.pack-n.result in
    let some : 0 < n = omega arith in
    let number = packed-number a.table.now a.p a.places.now a.at a.buffer.now pre n (made c.before.before.before.before.before.before.before.before).number in
    let size = planned-message a.table.now a.p a.places.now a.at a.buffer.now pre n _ _ (made c.before.before.before.before.before.before.before.before) some in
    let written = c.write_listeners.ensures ∙ ap (message all k) (listeners-take a.table.now a.p n a.places.now) in
    some_fit all k l (listeners-own a.table.now a.p a.places.now) a.at n _ a.buffer.now _ number size written pre.message.after (omega (arith, room c.before.before.before.before.before, later-is c.before.before.before.before.before.before.before.before.before.before.before))

pub take_packed_spec : {M : Type 1} → statement M
take_packed_spec = tie.close (tie.spec (λ c κs. c.requires.message.port) (λ c κs. search rules) (λ c. omega (arith, c.requires.message.room)) (λ c. omega (arith, later-is c, c.requires.room)) (λ c. omega (arith, later-is c, c.requires.room)) (λ c. search rules) (λ c. search rules) (λ c κs. (c.requires.telling.named, omega arith, omega arith)) write-none-requires (λ c. search rules) returns (λ c. search rules) (λ c. omega (arith, room c)) (λ c. omega (arith, room c)) slice-aggregate-write-listeners (λ c. search rules) (λ c. omega (arith, room c.before)) (λ c. search rules) (λ c. search rules) (λ c. omega (arith, room c.before, c.requires.message.buffer)) write-listeners-requires (λ c. omega (arith, room c.before.before.before.before.before)) (λ c. search rules) returns-2)
