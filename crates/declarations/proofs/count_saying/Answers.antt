use mathlib.Core.Path.{◌≡◌, sym, ap, ◌∙◌}
use Prim.Native.Nat.{◌≤◌, ◌<◌}
use native.Mathlib.Omega.{arith}
use lib.ListN.{length}
use Rattle.model.specs.Attributes.{type_of}
use Rattle.model.specs.Table.{decode}
use Rattle.declarations.specs.Passes.{declarers, said_from}
use Rattle.declarations.proofs.Declared.{nothing_said, said-counted, said-few, said-end}
use Rattle.declarations.proofs.count_saying.Goals as goal
use Rattle.declarations.proofs.count_saying.Goals.{then-says, else-says}

pub overflow_add-n : goal.overflow_add-n
overflow_add-n c =
    let l = c.loop-k in
    let a = c.args in
    let j = type_of a.attribute in
    let b = decode a.table.now in
    let held : l.k < declarers j a.p b = omega (arith, c.declarers-count.ensures.0) in
    omega (arith, said-counted j a.p b l.k held (sym c.says.ensures ∙ c.if-says.true), l.invariant, said-few j a.p b a.first, c.declarers-count.ensures.0, c.declarers-count.ensures.1)

pub loop-k-preserved : goal.loop-k-preserved
loop-k-preserved c =
    let l = c.loop-k in
    let a = c.args in
    let j = type_of a.attribute in
    let b = decode a.table.now in
    let held : l.k < declarers j a.p b = omega (arith, c.declarers-count.ensures.0) in
    elim c.if-says.branch [
      | then-says w ↦ omega (arith, w.n-is, said-counted j a.p b l.k held (sym c.says.ensures ∙ w.if-says.true), l.invariant)
      | else-says w ↦ omega (arith, w.n-is, ap length (nothing_said j a.p b l.k held (sym c.says.ensures ∙ w.if-says.false)), l.invariant)
    ]

pub returns : goal.returns
returns c =
    let l = c.loop-k in
    let a = c.args in
    let j = type_of a.attribute in
    let b = decode a.table.now in
    let done : declarers j a.p b ≤ l.k = omega (arith, c.declarers-count.ensures.0) in
    let all : l.n ≡ length (said_from j a.p b a.first) = omega (arith, ap length (said-end j a.p b l.k done), l.invariant) in
    (all, omega (arith, all, said-few j a.p b a.first, c.declarers-count.ensures.0, c.declarers-count.ensures.1))
