use Prim.Native.Nat.{ℕ, suc, ◌+◌, ◌-◌, ◌≤◌}
use mathlib.Core.Path.{◌≡◌, refl, sym, ◌∙◌}
use mathlib.Core.List.{List}
use native.Mathlib.Omega.{arith}
use native.Mathlib.Nat.{sub-zero}
use lib.ListN.{length, take, length-set}
use Rattle.model.specs.Best.{least, run}
use Rattle.model.proofs.Ascents.{ascending-rising}
use Rattle.model.proofs.Gaps.{run-whole}
use Rattle.cutting.specs.Named.{ids_of}
use Rattle.cutting.proofs.Named.{ids-length}
use Rattle.cutting.proofs.Loops.{run-stops, run-goes, run_ends, least-small, filled-up, least-none, kept_set, kept_more}
use Rattle.cutting.proofs.fit.Goals as goal

pub returns-then-n-room : goal.returns-then-n-room
returns-then-n-room c =
    let a = c.args in
    let p = c.requires in
    let long = ids-length a.table.now a.places.now in
    let whole = run-whole a.room (ids_of a.table.now a.places.now) (omega (arith, long, p.0.few)) (ascending-rising (ids_of a.table.now a.places.now) p.0.ascending) (omega (arith, long)) in
    (omega (arith, whole, long), omega arith, refl)

pub loop-k-init : goal.loop-k-init
unfolding run
loop-k-init c =
    let a = c.args in
    record {
      costed = filled-up (λ i. least (take i (ids_of a.table.now a.places.now))) a.costs.now 0 0 (omega arith) (least-none (ids_of a.table.now a.places.now)) (λ i p. absurd (omega arith));
      runs = rw sub-zero;
      kept = kept_set 0 0 0 a.costs.now a.costs.now (omega arith) refl;
    }

pub least_to-least-requires : goal.least_to-least-requires
least_to-least-requires c = (c.requires.0, omega arith, c.loop-k.auto.costs ∙ simp length-set c.requires.1, c.loop-k.invariant.costed)

pub returns-then-room-least : goal.returns-then-room-least
returns-then-room-least c =
    let a = c.args in
    let l = c.loop-k in
    let ids : List ℕ = ids_of a.table.now a.places.now in
    let s : length ids - l.k ≡ suc (length ids - (l.k + 1)) = omega (arith, ids-length a.table.now a.places.now) in
    (sym (run-stops _ ids l.k _ _ _ c.least_to-least.ensures s c.if-room-least.true) ∙ l.invariant.runs, omega arith, l.invariant.kept)

pub overflow_cast-costs : goal.overflow_cast-costs
overflow_cast-costs c =
    let a = c.args in
    omega (arith, c.least_to-least.ensures, least-small (ids_of a.table.now a.places.now) (c.loop-k.k + 1) (omega (arith, ids-length a.table.now a.places.now, c.requires.0.few)))

pub loop-k-preserved : goal.loop-k-preserved
loop-k-preserved c =
    let a = c.args in
    let l = c.loop-k in
    let ids : List ℕ = ids_of a.table.now a.places.now in
    let s : length ids - l.k ≡ suc (length ids - (l.k + 1)) = omega (arith, ids-length a.table.now a.places.now) in
    let few : l.k ≤ 63 = omega (arith, c.requires.0.few) in
    let held : length l.costs ≡ 65 = l.auto.costs ∙ simp length-set c.requires.1 in
    record {
      costed = filled-up (λ i. least (take i ids)) l.costs (l.k + 1) _ (omega arith) c.least_to-least.ensures (λ i p. l.invariant.costed i (omega arith));
      runs = sym (run-goes _ ids l.k _ _ _ c.least_to-least.ensures s c.if-room-least.false) ∙ l.invariant.runs;
      kept = kept_more l.k _ _ l.costs l.invariant.kept;
    }

pub returns : goal.returns
returns c =
    let a = c.args in
    let l = c.loop-k in
    let ids : List ℕ = ids_of a.table.now a.places.now in
    let end : l.k ≡ length a.places.now = omega (arith, l.auto) in
    (rw end at (sym (run_ends _ ids l.k _ (omega (arith, ids-length a.table.now a.places.now))) ∙ l.invariant.runs), omega arith, rw end at l.invariant.kept)
