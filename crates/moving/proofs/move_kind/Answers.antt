use Rattle.std.proofs.Common.{◌≡◌, refl, length, arith, rules}
use Rattle.model.specs.Attributes.{kind_of}
use Rattle.moving.proofs.EachType.{met_to, none-moved-yet, next-stands, next-few, next-moved, all_moved}
use Rattle.moving.proofs.move_kind.Goals as goal

pub loop-k-init : goal.loop-k-init
unfolding met_to
loop-k-init c =
    let a = c.args in
    record {
      within = omega arith;
      count = c.count-k-end.ensures.0;
      size = refl;
      is = none-moved-yet a.span (kind_of a.attribute) a.p a.from a.table.now c.requires.port.laid;
      met = refl;
    }

pub move_stream-so_far-requires : goal.move_stream-so_far-requires
move_stream-so_far-requires c =
    let l = c.loop-k in
    let a = c.args in
    let j = kind_of a.attribute in
    let laid = c.requires.port.laid in
    record {
      stands = next-stands a.span j a.p a.from a.table.now laid _ _ _ _ l.invariant c.requires.port.port (omega arith);
      few = next-few a.span j a.p a.from a.table.now laid _ _ _ _ l.invariant c.requires.few;
    }

pub loop-k-preserved : goal.loop-k-preserved
loop-k-preserved c =
    let l = c.loop-k in
    let a = c.args in
    let call = c.move_stream-so_far in
    let z : length call.new.table ≡ length l.table = search rules in
    next-moved a.span (kind_of a.attribute) a.p a.from a.table.now c.requires.port.laid _ _ _ _ l.invariant (omega arith) _ _ z call.ensures

pub returns : goal.returns
returns c =
    let a = c.args in
    all_moved a.span (kind_of a.attribute) a.p a.from a.table.now c.requires.port.laid _ _ _ _ c.loop-k.invariant (omega arith)
