use mathlib.Core.Path.{◌≡◌, ◌∙◌}
use Prim.Native.Nat.{ℕ, ◌≤◌}
use native.Mathlib.Omega.{arith}
use lib.ListN.{get_or}
use Rattle.applicants.specs.Octets.{octet}
use Rattle.applicants.proofs.Octets.{none_read, octet_read}
use Rattle.model.specs.Attributes.{kind_of}
use Rattle.moving.specs.Moves.{octet_by}
use Rattle.moving.proofs.OfStream.{kind-within, sends_few, sends-moved, no-sends-met, sends-met}
use Rattle.moving.proofs.move_sent.Goals as goal

pub returns-then-is_none : goal.returns-then-is_none
returns-then-is_none c =
    let a = c.args in
    let n : ℕ = get_or a.sends.now c.place_of-at.result 0 in
    let z : n ≡ 0 = grind (arith, none_read) in
    no-sends-met a.span a.from a.registered a.sends.now c.requires.laid (kind_of a.attribute) _ c.place_of-at.ensures.0 z

pub put_state-requires : goal.put_state-requires
put_state-requires c = omega (arith, kind-within (kind_of c.args.attribute), c.requires.size, c.values_of.ensures, c.place_of-at.ensures.0)

pub returns : goal.returns
returns c =
    let a = c.args in
    let j = kind_of a.attribute in
    let place = c.place_of-at in
    let n : ℕ = get_or a.sends.now place.result 0 in
    let few : n ≤ 6 = sends_few a.span a.from a.registered a.sends.now c.requires.laid j _ place.ensures.0 in
    let m : ℕ = octet c.after-next.result in
    let moved : m ≡ octet_by a.span a.from.count a.registered n = grind (arith, octet_read) in
    record {
      octets = sends-moved a.span a.from.count a.registered a.sends.now c.requires.laid j _ _ m place.ensures.0 c.values_of.ensures moved _ c.put_state.ensures;
      met =
          c.counted.ensures
          ∙ sends-met a.span a.from a.registered a.sends.now c.requires.laid j _ place.ensures.0 (λ z. grind (arith, none_read)) m moved;
    }
