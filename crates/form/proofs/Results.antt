-- The rules of a result in terms of its octets, by its column.
use mathlib.Core.Path.{◌≡◌, refl}
use mathlib.Core.List.{List}
use mathlib.Core.Bool.{Bool, not, ◌&&◌, ◌||◌, and_assoc, and-true, and-false}
use Prim.Native.Nat.{ℕ, zero, suc, ◌-◌, ◌/◌, ◌≤◌}
use native.Mathlib.Omega.{arith}
use lib.ListN.{length, get_or, take, drop}
use lib.Dec.{leb, eqb}
use borrow.Author.Tests.{ne_eqb, lt-leb}
use Rattle.octets.specs.Be.{be_at}
use Rattle.octets.specs.Parts.{part}
use Rattle.octets.specs.Fields.{fields, width}
use Rattle.octets.proofs.Fields.{be_at-one}
use Rattle.model.specs.Layout.{in_result, result_index, result_size, result_widths}
use Rattle.model.specs.Lists.{all_true, all_zero, implies}
use Rattle.model.specs.Table.{between, result_rules, result_formed}
use Rattle.form.proofs.Tests.{or-implies}
use Rattle.form.proofs.Zeros.{zero-first, zero-fields}

-- which entries go with a column: what the other rules of an entry come to
entry-alone : (e : ℕ) (y : Bool) → (leb e 2 && (leb e 1 && y)) ≡ (leb e 1 && y)
entry-alone zero y = refl
entry-alone (suc zero) y = refl
entry-alone (suc (suc e)) y = rw (lt-leb (suc (suc e)) 1 (omega arith)) (and-false (leb (suc (suc e)) 2))

entry-some : (e : ℕ) (q y : Bool) → (leb 1 e && (implies (eqb e 0) q && y)) ≡ (leb 1 e && y)
entry-some zero q y = refl
entry-some (suc e) q y = rw (ne_eqb (suc e) 0 (λ x. omega arith))

entry-filters : (e : ℕ) (q y : Bool) → (leb e 2 && (leb 1 e && (leb e 1 && (implies (eqb e 0) q && y)))) ≡ (eqb e 1 && y)
entry-filters zero q y = refl
entry-filters (suc zero) q y = refl
entry-filters (suc (suc e)) q y =
    rw (lt-leb (suc (suc e)) 1 (omega arith), ne_eqb (suc (suc e)) 1 (λ x. omega arith), and-false, and-false) refl

module _ (clock : ℕ) (s : List ℕ) (h : length s ≡ result_size) (second : ℕ) (aged : second ≡ be_at 4 s in_result.age) where
  pub no-column : (z : Bool) → get_or s in_result.column 0 ≡ 0 → z ≡ all_zero (take (in_result.entry - in_result.latency) (drop in_result.latency s))
      → (z && leb (get_or s in_result.entry 0) 1 && (not (eqb (get_or s in_result.entry 0) 0) || eqb second 0) && (leb second (clock / 100) && leb (get_or s in_result.declared 0) 3))
      ≡ result_formed clock s
  unfolding result_formed result_rules fields all_true width part
  no-column z k e =
      rw (
        e,
        ← (zero-fields (between result_index.latency result_index.entry result_widths) in_result.latency s (omega arith)),
        zero-first,
        aged,
        or-implies,
        be_at-one s in_result.entry,
        be_at-one s in_result.declared,
        ← (be_at-one s in_result.column),
        k,
      )
      simp (and_assoc, and-true, entry-alone)

  pub advertised : (z : Bool) → get_or s in_result.column 0 ≡ 1 → z ≡ all_zero (take (in_result.entry - in_result.bridge) (drop in_result.bridge s))
      → (z && leb (get_or s in_result.entry 0) 2 && leb 1 (get_or s in_result.entry 0) && (leb second (clock / 100) && leb (get_or s in_result.declared 0) 3))
      ≡ result_formed clock s
  unfolding result_formed result_rules fields all_true width part
  advertised z k e =
      rw (
        e,
        ← (zero-fields (between result_index.bridge result_index.entry result_widths) in_result.bridge s (omega arith)),
        aged,
        be_at-one s in_result.entry,
        be_at-one s in_result.declared,
        ← (be_at-one s in_result.column),
        k,
      )
      simp (and_assoc, and-true, entry-some)

  pub failed-column : (get_or s in_result.column 0 ≡ 0 → ⊥) → (get_or s in_result.column 0 ≡ 1 → ⊥)
      → (leb (get_or s in_result.column 0) 2 && eqb (get_or s in_result.entry 0) 1 && (leb second (clock / 100) && leb (get_or s in_result.declared 0) 3)) ≡ result_formed clock s
  unfolding result_formed result_rules fields all_true
  failed-column k l =
      let m : 2 ≤ get_or s in_result.column 0 = omega arith in
      rw (
        aged,
        be_at-one s in_result.entry,
        be_at-one s in_result.declared,
        ← (be_at-one s in_result.column),
        ne_eqb (get_or s in_result.column 0) 0 k,
        ne_eqb (get_or s in_result.column 0) 1 l,
        lt-leb (get_or s in_result.column 0) 1 m,
      )
      simp (and_assoc, and-true, entry-filters)
