use mathlib.Core.Path.{◌≡◌, ◌∙◌}
use Prim.Native.Nat.{ℕ, ◌+◌, ◌≤◌}
use native.Mathlib.Omega.{arith}
use lib.ListN.{get_or}
use Rattle.applicants.specs.Octets.{octet}
use Rattle.applicants.proofs.Octets.{none_read, octet_read, as_octet}
use Rattle.moving.specs.Moves.{octet_by}
use Rattle.moving.proofs.OfPort.{slot_few, slot-moves, no-slot-met, slot-met}
use Rattle.moving.proofs.move_slot.Goals as goal

pub returns-then-is_none : goal.returns-then-is_none
returns-then-is_none c =
    let a = c.args in
    let n : ℕ = get_or a.sender.now (0 + a.slot) 0 in
    let z : n ≡ 0 = grind (arith, none_read) in
    no-slot-met a.span a.from a.registered a.sender.now c.requires.laid a.slot c.requires.slot (0 + a.slot) (omega arith) z

pub returns : goal.returns
returns c =
    let a = c.args in
    let at : ℕ = 0 + a.slot in
    let same : at ≡ a.slot = omega arith in
    let n : ℕ = get_or a.sender.now at 0 in
    let few : n ≤ 6 = slot_few a.span a.from a.registered a.sender.now c.requires.laid a.slot c.requires.slot at same in
    let m : ℕ = octet c.after-next.result in
    let moved : m ≡ octet_by a.span a.from.count a.registered n = grind (arith, octet_read) in
    record {
      octets = rw (as_octet c.after-next.result) (slot-moves a.span a.from.count a.registered a.sender.now c.requires.laid a.slot c.requires.slot at m same moved);
      met =
          c.counted.ensures
          ∙ slot-met a.span a.from a.registered a.sender.now c.requires.laid a.slot c.requires.slot at same
          (λ z. grind (arith, none_read)) m moved;
    }
