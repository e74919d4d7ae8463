use Prim.Native.Nat.{ℕ, ◌+◌, ◌-◌, ◌≤◌}
use mathlib.Core.List.{List}
use mathlib.Core.Path.{◌≡◌, refl, ap, ◌∙◌}
use native.Mathlib.Omega.{arith}
use lib.ListN.{length, get_or, length-set}
use Rattle.cutting.specs.Named.{ids_of}
use Rattle.cutting.specs.Plan.{none, entries}
use Rattle.cutting.proofs.Named.{ids-length}
use Rattle.cutting.proofs.Loops.{entry-end, entry-fits, filled, kept_set}
use Rattle.cutting.proofs.plan.Goals as goal

pub loop-i-init : goal.loop-i-init
loop-i-init c =
    let a = c.args in
    let few = c.requires.0.few in
    let l : List ℕ = ids_of a.table.now a.places.now in
    let n : ℕ = length a.places.now in
    let long = ids-length a.table.now a.places.now in
    let end = rw long at (entry-end l) in
    record {
      weighed = filled (λ k. (get_or (entries l) k none).weighs) a.weighs.now (length l) (n + 1) n 0 (omega (arith, few)) refl (rw end) (λ k p q. absurd (omega (arith, long)));
      counted = filled (λ k. (get_or (entries l) k none).first) a.firsts.now (length l) (n + 1) n 0 (omega (arith, few)) refl (rw end) (λ k p q. absurd (omega (arith, long)));
      weighs_kept = kept_set n n 0 a.weighs.now a.weighs.now (omega arith) refl;
      firsts_kept = kept_set n n 0 a.firsts.now a.firsts.now (omega arith) refl;
    }

pub choose-e-requires : goal.choose-e-requires
choose-e-requires c =
    let l = c.loop-i in
    (c.requires.0, omega arith, l.auto.weighs ∙ simp length-set c.requires.1, λ k p q. l.invariant.weighed k (omega arith) q)

pub overflow_cast-weighs : goal.overflow_cast-weighs
overflow_cast-weighs c =
    let a = c.args in
    let long = ids-length a.table.now a.places.now in
    omega (arith, ap (λ r. r.weighs) c.choose-e.ensures, (entry-fits (ids_of a.table.now a.places.now) (c.loop-i.i - 1) (omega (arith, long, c.requires.0.few)) (omega (arith, long))).0)

pub overflow_cast-firsts : goal.overflow_cast-firsts
overflow_cast-firsts c =
    let a = c.args in
    let long = ids-length a.table.now a.places.now in
    omega (arith, ap (λ r. r.first) c.choose-e.ensures, (entry-fits (ids_of a.table.now a.places.now) (c.loop-i.i - 1) (omega (arith, long, c.requires.0.few)) (omega (arith, long))).1)

pub loop-i-preserved : goal.loop-i-preserved
loop-i-preserved c =
    let a = c.args in
    let l = c.loop-i in
    let n : ℕ = length (ids_of a.table.now a.places.now) in
    let s : l.i - 1 + 1 ≡ l.i = omega arith in
    let e = c.choose-e.ensures in
    let few : l.i ≤ 64 = omega (arith, c.requires.0.few, l.auto.i) in
    let held : length l.weighs ≡ 65 = l.auto.weighs ∙ simp length-set c.requires.1 in
    let first_held : length l.firsts ≡ 65 = l.auto.firsts ∙ simp length-set c.requires.2 in
    record {
      weighed = filled (λ k. (get_or (entries (ids_of a.table.now a.places.now)) k none).weighs) l.weighs n l.i (l.i - 1) _ (omega arith) s (ap (λ r. r.weighs) e) l.invariant.weighed;
      counted = filled (λ k. (get_or (entries (ids_of a.table.now a.places.now)) k none).first) l.firsts n l.i (l.i - 1) _ (omega arith) s (ap (λ r. r.first) e) l.invariant.counted;
      weighs_kept = kept_set (length a.places.now) (l.i - 1) _ _ l.weighs (omega arith) l.invariant.weighs_kept;
      firsts_kept = kept_set (length a.places.now) (l.i - 1) _ _ l.firsts (omega arith) l.invariant.firsts_kept;
    }

pub returns : goal.returns
returns c =
    let l = c.loop-i in
    let long = ids-length c.args.table.now c.args.places.now in
    (λ k p q. l.invariant.weighed k (omega arith) q, λ k p q. l.invariant.counted k (omega arith) q, l.invariant.weighs_kept, l.invariant.firsts_kept)
