use mathlib.Core.Path.{◌≡◌, sym, ◌∙◌}
use Prim.Native.Nat.{◌≤◌, ◌<◌}
use native.Mathlib.Omega.{arith}
use Rattle.model.specs.Attributes.{type_of}
use Rattle.model.specs.Table.{decode}
use Rattle.declarations.specs.Passes.{declarers}
use Rattle.declarations.proofs.Declared.{far, far-few, far-end, far-skips, far-quiet, far-said, far-stops}
use Rattle.declarations.proofs.reach.Goals as goal
use Rattle.declarations.proofs.reach.Goals.{then-says+else-left-eq0, else-says}

pub loop-k-init : goal.loop-k-init
loop-k-init c = omega arith

pub loop-k-preserved-then-not-declares : goal.loop-k-preserved-then-not-declares
loop-k-preserved-then-not-declares c =
    let l = c.loop-k in
    let a = c.args in
    let j = type_of a.attribute in
    let b = decode a.table.now in
    let held : l.k < declarers j a.p b = omega (arith, c.declarers-count.ensures.0) in
    omega (arith, l.invariant, far-skips j a.p b l.k held (sym c.declares.ensures ∙ c.if-not-declares.true) l.left)

pub returns-then-left-eq0 : goal.returns-then-left-eq0
returns-then-left-eq0 c =
    let l = c.loop-k in
    let a = c.args in
    let j = type_of a.attribute in
    let b = decode a.table.now in
    let held : l.k < declarers j a.p b = omega (arith, c.declarers-count.ensures.0) in
    let one = sym c.declares.ensures ∙ c.if-not-declares.false in
    let says = sym c.says.ensures ∙ c.if-says.true in
    let none : far j a.p b l.left l.k ≡ 0 = rw c.if-left-eq0.true (far-stops j a.p b l.k held one says) in
    let all : l.past ≡ far j a.p b a.n a.first = omega (arith, l.invariant, none) in
    (all, omega (arith, all, far-few j a.p b a.n a.first, c.declarers-count.ensures.0, c.declarers-count.ensures.1))

-- a declaration that is passed
pub overflow_add-past : goal.overflow_add-past
overflow_add-past c =
    let l = c.loop-k in
    let a = c.args in
    let j = type_of a.attribute in
    let b = decode a.table.now in
    let held : l.k < declarers j a.p b = omega (arith, c.declarers-count.ensures.0) in
    let one = sym c.declares.ensures ∙ c.if-not-declares.false in
    elim c.if-says.branch [
      | then-says+else-left-eq0 w ↦
          let says = sym c.says.ensures ∙ w.if-says.true in
          let some : 0 < l.left = omega (arith, w.if-left-eq0.false) in
          omega (arith, w.left-is, l.invariant, far-said j a.p b l.k held one says l.left some, far-few j a.p b a.n a.first, c.declarers-count.ensures.0, c.declarers-count.ensures.1)
      | else-says w ↦ omega (arith, w.left-is, l.invariant, far-quiet j a.p b l.k held one (sym c.says.ensures ∙ w.if-says.false) l.left, far-few j a.p b a.n a.first, c.declarers-count.ensures.0, c.declarers-count.ensures.1)
    ]

pub loop-k-preserved : goal.loop-k-preserved
loop-k-preserved c =
    let l = c.loop-k in
    let a = c.args in
    let j = type_of a.attribute in
    let b = decode a.table.now in
    let held : l.k < declarers j a.p b = omega (arith, c.declarers-count.ensures.0) in
    let one = sym c.declares.ensures ∙ c.if-not-declares.false in
    elim c.if-says.branch [
      | then-says+else-left-eq0 w ↦
          let says = sym c.says.ensures ∙ w.if-says.true in
          let some : 0 < l.left = omega (arith, w.if-left-eq0.false) in
          rw w.left-is (omega (arith, l.invariant, far-said j a.p b l.k held one says l.left some))
      | else-says w ↦ rw w.left-is (omega (arith, l.invariant, far-quiet j a.p b l.k held one (sym c.says.ensures ∙ w.if-says.false) l.left))
    ]

pub returns : goal.returns
returns c =
    let l = c.loop-k in
    let a = c.args in
    let j = type_of a.attribute in
    let b = decode a.table.now in
    let done : declarers j a.p b ≤ l.k = omega (arith, c.declarers-count.ensures.0) in
    let all : l.past ≡ far j a.p b a.n a.first = omega (arith, l.invariant, far-end j a.p b l.left l.k done) in
    (all, omega (arith, all, far-few j a.p b a.n a.first, c.declarers-count.ensures.0, c.declarers-count.ensures.1))
