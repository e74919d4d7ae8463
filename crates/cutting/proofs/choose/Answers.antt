use Prim.Native.Nat.{ℕ, ◌+◌, ◌<◌}
use mathlib.Core.Path.{sym, ap, ◌∙◌}
use mathlib.Core.List.{List}
use native.Mathlib.Omega.{arith}
use lib.ListN.{length}
use Rattle.cutting.specs.Named.{ids_of}
use Rattle.cutting.proofs.Named.{ids-length}
use Rattle.table.proofs.Finding.{ascending-less}
use Rattle.cutting.proofs.Loops.{seek, seek-starts, seek-ends, seek-stops, seek-next}
use Rattle.cutting.proofs.choose.Goals as goal

pub loop-k-init : goal.loop-k-init
loop-k-init c =
    let a = c.args in
    let l : List ℕ = ids_of a.table.now a.places.now in
    let long = ids-length a.table.now a.places.now in
    seek-starts l a.at _ (omega (arith, long)) (c.requires.3 (a.at + 1) (omega arith) (omega (arith, long)))

pub returns-then-y-x : goal.returns-then-y-x
returns-then-y-x c =
    let a = c.args in
    let l : List ℕ = ids_of a.table.now a.places.now in
    let met : a.at + c.loop-k.k < length l = omega (arith, ids-length a.table.now a.places.now) in
    sym (seek-stops l a.at c.loop-k.k _ _ met c.id_of-x.ensures c.id_of-y.ensures _ c.if-y-x.true) ∙ c.loop-k.invariant

pub overflow_sub-y : goal.overflow_sub-y
overflow_sub-y c =
    let a = c.args in
    let l : List ℕ = ids_of a.table.now a.places.now in
    let k : ℕ = c.loop-k.k in
    let met : a.at + k < length l = omega (arith, ids-length a.table.now a.places.now) in
    omega (arith, c.id_of-x.ensures, c.id_of-y.ensures, ascending-less l c.requires.0.ascending a.at (a.at + k) (omega arith) met)

pub loop-k-preserved : goal.loop-k-preserved
loop-k-preserved c =
    let a = c.args in
    let l : List ℕ = ids_of a.table.now a.places.now in
    let k : ℕ = c.loop-k.k in
    let met : a.at + k < length l = omega (arith, ids-length a.table.now a.places.now) in
    ap (seek l a.at (k + 1)) c.lower-best.ensures
    ∙ sym (seek-next l a.at k _ _ met c.id_of-x.ensures c.id_of-y.ensures _ _ _ _ c.if-y-x.false
    (c.requires.3 (a.at + k + 1) (omega arith) (omega (arith, met))) c.price_of.ensures.0)
    ∙ c.loop-k.invariant

pub returns : goal.returns
returns c =
    let a = c.args in
    sym (seek-ends (ids_of a.table.now a.places.now) a.at c.loop-k.k _ (omega (arith, ids-length a.table.now a.places.now))) ∙ c.loop-k.invariant
