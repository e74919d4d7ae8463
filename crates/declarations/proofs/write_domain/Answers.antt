use mathlib.Core.Path.{◌∙◌}
use Prim.Native.Nat.{◌+◌, ◌*◌, ◌<◌}
use native.Mathlib.Omega.{arith}
use Prim.Native.Nat.{◌/◌, ◌%◌}
use Rattle.declarations.specs.Vectors.{domain_vector, first_event}
use Rattle.model.specs.Numbers.{event_number}
use Rattle.declarations.proofs.Vectors.{event_few, as_event}
use Rattle.declarations.proofs.Written.{holding-none, holding-put, holding-all, be-one}
use Rattle.declarations.proofs.write_domain.Goals as goal

pub returns : goal.returns
unfolding domain_vector first_event
returns c =
    let a = c.args in
    let b = a.out.now in
    let vlan = c.domain_vlan in
    let headed = holding-put (holding-none b) 2 1 c.put.ensures in
    let class = holding-put headed 1 (5 + a.k / 8) c.put-2.ensures in
    let valued = holding-put class 1 (a.k % 8) c.put-3.ensures in
    let whole = holding-put valued 2 vlan.result c.put-4.ensures in
    let e = event_number a.event in
    let small : e * 36 < 256 = omega (arith, event_few a.event) in
    holding-all (holding-put whole 1 (e * 36) (rw as_event at c.put-5.ensures)) (omega (arith, c.requires.2))
    ∙ rw (be-one (e * 36) small, vlan.ensures)
