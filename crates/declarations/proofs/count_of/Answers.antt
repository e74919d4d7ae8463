use mathlib.Core.Path.{◌≡◌, sym, ap, ◌∙◌}
use Prim.Native.Nat.{◌≤◌, ◌<◌}
use native.Mathlib.Omega.{arith}
use lib.ListN.{length}
use Rattle.model.specs.Attributes.{type_of}
use Rattle.model.specs.Table.{decode}
use Rattle.declarations.specs.Passes.{declarers, machines_from}
use Rattle.declarations.proofs.Declared.{no-machine, machine-counted, machines-few, machines-end, machines-first}
use Rattle.declarations.proofs.count_of.Goals as goal
use Rattle.declarations.proofs.count_of.Goals.{then-declares, else-declares}

pub overflow_add-n : goal.overflow_add-n
overflow_add-n c =
    let l = c.loop-k in
    let a = c.args in
    let j = type_of a.attribute in
    let b = decode a.table.now in
    let held : l.k < declarers j a.p b = omega (arith, c.declarers-count.ensures.0) in
    omega (arith, machine-counted j a.p b l.k held (sym c.declares.ensures ∙ c.if-declares.true), l.invariant, machines-few j a.p b 0, c.declarers-count.ensures.0, c.declarers-count.ensures.1)

pub loop-k-preserved : goal.loop-k-preserved
loop-k-preserved c =
    let l = c.loop-k in
    let a = c.args in
    let j = type_of a.attribute in
    let b = decode a.table.now in
    let held : l.k < declarers j a.p b = omega (arith, c.declarers-count.ensures.0) in
    elim c.if-declares.branch [
      | then-declares w ↦ omega (arith, w.n-is, machine-counted j a.p b l.k held (sym c.declares.ensures ∙ w.if-declares.true), l.invariant)
      | else-declares w ↦ omega (arith, w.n-is, ap length (no-machine j a.p b l.k held (sym c.declares.ensures ∙ w.if-declares.false)), l.invariant)
    ]

pub returns : goal.returns
returns c =
    let l = c.loop-k in
    let a = c.args in
    let j = type_of a.attribute in
    let b = decode a.table.now in
    let done : declarers j a.p b ≤ l.k = omega (arith, c.declarers-count.ensures.0) in
    let all : l.n ≡ length (machines_from j a.p b 0) = omega (arith, ap length (machines-end j a.p b l.k done), l.invariant) in
    (all ∙ ap length (machines-first j a.p b), omega (arith, all, machines-few j a.p b 0, c.declarers-count.ensures.0, c.declarers-count.ensures.1))
