use Prim.Native.Nat.{ℕ, suc, ◌+◌, ◌-◌}
use mathlib.Core.Path.{◌≡◌, sym, ap, ap₂, ◌∙◌}
use native.Mathlib.Omega.{arith}
use lib.ListN.{get_or, take}
use Rattle.model.specs.Best.{least}
use Rattle.cutting.specs.Named.{ids_of}
use Rattle.cutting.specs.Plan.{back}
use Rattle.cutting.proofs.Named.{ids-length}
use Rattle.cutting.proofs.Prefix.{back-least}
use Rattle.table.proofs.Finding.{ascending-less}
use Rattle.cutting.proofs.Loops.{back-stops, back-goes, back-ends}
use Rattle.cutting.proofs.least_to.Goals as goal

pub loop-j-init : goal.loop-j-init
loop-j-init c =
    let a = c.args in
    let p = c.requires in
    let long = ids-length a.table.now a.places.now in
    rw (c.id_of-y.ensures, p.3 a.k (omega arith)) (back-least (ids_of a.table.now a.places.now) a.k (omega (arith, long, p.0.few)) (omega (arith, long)))

pub returns-then-x-y : goal.returns-then-x-y
returns-then-x-y c =
    let l = c.loop-j in
    let s : l.j ≡ suc (l.j - 1) = omega arith in
    sym (back-stops _ _ _ l.j (l.j - 1) l.least _ s c.id_of-x.ensures c.if-x-y.true) ∙ l.invariant

pub overflow_sub-y : goal.overflow_sub-y
overflow_sub-y c =
    let a = c.args in
    omega (
      arith,
      c.id_of-x.ensures,
      c.id_of-y.ensures,
      ascending-less (ids_of a.table.now a.places.now) c.requires.0.ascending (c.loop-j.j - 1) a.k (omega arith)
          (omega (arith, ids-length a.table.now a.places.now)),
    )

pub loop-j-preserved : goal.loop-j-preserved
loop-j-preserved c =
    let a = c.args in
    let l = c.loop-j in
    let s : l.j ≡ suc (l.j - 1) = omega arith in
    let tried = ap₂ (λ (u v : ℕ). u + v) (c.requires.3 (l.j - 1) (omega arith)) c.octets_for.ensures.0 in
    ap (back (λ i. get_or (ids_of a.table.now a.places.now) i 0) (λ i. least (take i (ids_of a.table.now a.places.now))) c.id_of-y.result (l.j - 1)) c.min-least.ensures ∙ sym (back-goes _ _ _ l.j (l.j - 1) l.least _ s c.id_of-x.ensures c.if-x-y.false _ tried) ∙ l.invariant

pub returns : goal.returns
returns c =
    let l = c.loop-j in
    sym (back-ends _ _ _ l.j l.least (omega arith)) ∙ l.invariant
