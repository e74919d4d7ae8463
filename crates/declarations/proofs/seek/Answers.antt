use mathlib.Core.Path.{◌≡◌, refl, sym, ap, ◌∙◌}
use mathlib.Core.List.{[]}
use Prim.Native.Nat.{◌≤◌, ◌<◌}
use native.Mathlib.Omega.{arith}
use lib.ListN.{length, drop}
use Rattle.model.specs.Attributes.{type_of}
use Rattle.model.specs.Table.{decode}
use lib.Seq.{drop-nil}
use Rattle.declarations.specs.Passes.{declarers, machines_from}
use Rattle.declarations.proofs.Declared.{machines-first, machines-end, no-machine, machine-counted, machine-passed}
use Rattle.declarations.proofs.seek.Goals as goal
use Rattle.declarations.proofs.seek.Goals.{then-declares, else-declares}

pub loop-k-init : goal.loop-k-init
loop-k-init c = record { rest = refl; left = refl }

pub returns-then-before-eq0 : goal.returns-then-before-eq0
returns-then-before-eq0 c =
    let l = c.loop-k in
    let a = c.args in
    let all = machines-first (type_of a.attribute) a.p (decode a.table.now) in
    let none : l.before ≡ 0 = c.if-before-eq0.true in
    record {
      within = omega (arith, c.declarers-count.ensures.0);
      rest = (rw none at l.invariant.rest) ∙ ap (drop a.skip) all;
      left = omega (arith, l.invariant.left, none, ap length all);
    }

pub loop-k-preserved : goal.loop-k-preserved
loop-k-preserved c =
    let l = c.loop-k in
    let a = c.args in
    let j = type_of a.attribute in
    let b = decode a.table.now in
    let held : l.k < declarers j a.p b = omega (arith, c.declarers-count.ensures.0) in
    let some : 0 < l.before = omega (arith, c.if-before-eq0.false) in
    elim c.if-declares.branch [
      | then-declares w ↦
          let q = sym c.declares.ensures ∙ w.if-declares.true in
          rw w.before-is record {
            rest = sym (machine-passed j a.p b l.k held q l.before some) ∙ l.invariant.rest;
            left = omega (arith, l.invariant.left, machine-counted j a.p b l.k held q);
          }
      | else-declares w ↦
          let e = no-machine j a.p b l.k held (sym c.declares.ensures ∙ w.if-declares.false) in
          rw w.before-is record { rest = rw e at l.invariant.rest; left = omega (arith, l.invariant.left, ap length e) }
    ]

pub returns : goal.returns
returns c =
    let l = c.loop-k in
    let a = c.args in
    let j = type_of a.attribute in
    let b = decode a.table.now in
    let all = machines-first j a.p b in
    let done : declarers j a.p b ≤ l.k = omega (arith, c.declarers-count.ensures.0) in
    let none : machines_from j a.p b l.k ≡ [] = machines-end j a.p b l.k done in
    let end : c.declarers-count.result ≡ l.k = omega (arith, l.auto) in
    rw end record {
      within = omega (arith, c.declarers-count.ensures.0, end);
      rest = none ∙ sym (drop-nil l.before) ∙ ap (drop l.before) (sym none) ∙ l.invariant.rest ∙ ap (drop a.skip) all;
      left = omega (arith, l.invariant.left, ap length none, ap length all);
    }
