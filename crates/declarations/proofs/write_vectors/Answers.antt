use mathlib.Core.Path.{◌≡◌, refl, sym, ap, ◌∙◌}
use Prim.Native.Nat.{ℕ, ◌*◌, ◌≤◌, ◌<◌}
use native.Mathlib.Omega.{arith}
use lib.ListN.{length}
use Rattle.model.specs.Attributes.{type_of}
use Rattle.model.specs.Table.{decode}
use Rattle.octets.proofs.Parts.{lent-part, length_part}
use Rattle.declarations.specs.Passes.{declarers}
use Rattle.declarations.proofs.Declared.{said-end}
use Rattle.declarations.proofs.Walk.{one-fits, left-done, left-none, left-take}
use Rattle.declarations.proofs.write_vectors.Goals as goal
use Rattle.declarations.proofs.write_vectors.Goals.{then-says, else-says}

pub loop-k-init : goal.loop-k-init
loop-k-init c =
    let e = ap (λ (m : ℕ). c.args.run.count * m) c.vector_size-size.ensures.0 in
    record { room = omega (arith, e, c.requires.1); enough = c.requires.0.enough; is = refl }

pub returns-then-left-eq0 : goal.returns-then-left-eq0
returns-then-left-eq0 c = left-done _ _ _ _ _ c.loop-k.invariant c.if-left-eq0.true

pub overflow_add-at : goal.overflow_add-at
overflow_add-at c =
    let l = c.loop-k in
    let some : 0 < l.left = omega (arith, c.if-left-eq0.false) in
    omega (arith, one-fits _ _ _ _ _ l.invariant some)

pub slice_bounds-write_vector-end : goal.slice_bounds-write_vector-end
slice_bounds-write_vector-end c =
    let l = c.loop-k in
    let some : 0 < l.left = omega (arith, c.if-left-eq0.false) in
    one-fits _ _ _ _ _ l.invariant some

pub loop-k-preserved : goal.loop-k-preserved
loop-k-preserved c =
    let l = c.loop-k in
    let some : 0 < l.left = omega (arith, c.if-left-eq0.false) in
    let size = c.vector_size-size.result in
    let fits = one-fits _ _ _ _ _ l.invariant some in
    let lent = ap length (lent-part l.at size l.out) ∙ length_part l.at size l.out fits in
    elim c.if-says.branch [
      | then-says w ↦
          let y = w.write_vector.new.out in
          let long : length y ≡ size = omega (arith, lent) in
          rw (w.out-is, w.left-is, w.at-is)
          (left-take _ _ _ _ _ l.invariant some (sym c.says.ensures ∙ w.if-says.true) y long w.write_vector.ensures)
      | else-says w ↦ rw (w.out-is, w.left-is, w.at-is) (left-none _ _ _ _ _ l.invariant some (sym c.says.ensures ∙ w.if-says.false))
    ]

pub returns : goal.returns
returns c =
    let l = c.loop-k in
    let j = type_of c.args.run.attribute in
    let b = decode c.args.table.now in
    let last : declarers j c.args.p b ≤ l.k = omega (arith, c.declarers-k-end.ensures.0) in
    let none = ap length (said-end j c.args.p b l.k last) in
    left-done _ _ _ _ _ l.invariant (omega (arith, l.invariant.enough, none))
