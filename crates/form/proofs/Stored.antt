-- The rules of a result beside the cell of its port, in terms of their octets, by its column.
use mathlib.Core.Path.{◌≡◌, refl, sym, ap, ◌∙◌}
use mathlib.Core.List.{List}
use mathlib.Core.Bool.{Bool, true, false, cond, not, ◌&&◌, ◌||◌, and_assoc, and-true, and-false}
use Prim.Native.Nat.{ℕ, zero, suc, ◌-◌, ◌/◌}
use native.Mathlib.Omega.{arith}
use lib.ListN.{length, get_or, take, drop}
use lib.Dec.{ltb, leb, eqb}
use borrow.Author.Rules.{rules}
use borrow.Author.Tests.{eqb-true, ne_eqb, lt-leb}
use Rattle.octets.specs.Be.{be_at}
use Rattle.octets.specs.Parts.{part}
use Rattle.octets.specs.Fields.{fields}
use Rattle.octets.proofs.Fields.{be_at-one}
use Rattle.model.specs.Layout.{failure_size, in_result, in_cell, result_size, result_widths}
use Rattle.model.specs.Lists.{all_true, all_zero, implies, bit}
use Rattle.model.specs.State.{Column, none, advertise, failed, nothing, tells}
use Rattle.model.specs.Table.{to_cell, to_column, to_entry, to_declared, result_from, to_result, has_column, declares, for_listener, stored_rules, stored_formed}
use Rattle.model.proofs.Cells.{talking-read, hearing-read}
use Rattle.form.specs.Asks.{result_beside}
use Rattle.form.proofs.Results.{no-column, advertised, failed-column}
use Rattle.model.specs.WrittenFrames.{to_ready}

implies-not : (a b : Bool) → implies (not a) b ≡ (a || b)
implies-not true b = refl
implies-not false b = refl

implies-false : (a : Bool) → implies (not a) false ≡ a
implies-false true = refl
implies-false false = refl

pub as_bit : (b : Bool) → cond b 1 0 ≡ bit b
unfolding bit
as_bit true = refl
as_bit false = refl

-- what a result's numbers say of it
declares-read : (k : ℕ) → declares (to_declared k) ≡ not (eqb k 0)
unfolding declares to_declared
declares-read k = go (eqb k 0)
  where
    go : (t : Bool) → declares (cond t nothing (tells (to_ready k))) ≡ not t
    go true = refl
    go false = refl

pub declared-read : (s : List ℕ) → declares (to_result s).declares ≡ not (eqb (get_or s in_result.declared 0) 0)
unfolding to_result result_from fields
declared-read s = declares-read (be_at 1 s in_result.declared) ∙ ap (λ (k : ℕ). not (eqb k 0)) (sym (be_at-one s in_result.declared))

entry-some : (e : ℕ) → for_listener none (to_entry e) ≡ not (eqb e 0)
unfolding for_listener to_entry
entry-some zero = refl
entry-some (suc zero) = refl
entry-some (suc (suc e)) = rw (ne_eqb (suc (suc e)) 0 (λ x. omega arith), ne_eqb (suc (suc e)) 1 (λ x. omega arith)) refl

entry-forwards : (e : ℕ) → for_listener advertise (to_entry e) ≡ not (leb e 1)
unfolding for_listener to_entry
entry-forwards zero = refl
entry-forwards (suc zero) = refl
entry-forwards (suc (suc e)) =
    rw (ne_eqb (suc (suc e)) 0 (λ x. omega arith), ne_eqb (suc (suc e)) 1 (λ x. omega arith), lt-leb (suc (suc e)) 1 (omega arith)) refl

entry-filters : (b c : ℕ) → for_listener (failed b c) (to_entry 1) ≡ false
unfolding for_listener to_entry
entry-filters b c = refl

module _ (clock n : ℕ) (c s : List ℕ) (h : length s ≡ result_size) (second : ℕ) (aged : second ≡ be_at 4 s in_result.age) where
  abbrev column : ℕ
  column = get_or s in_result.column 0

  abbrev entry : ℕ
  entry = get_or s in_result.entry 0

  abbrev declared : ℕ
  declared = get_or s in_result.declared 0

  abbrev talks : Bool
  talks = not (eqb (get_or c in_cell.talker 0) 0)

  abbrev hears : Bool
  hears = not (eqb (get_or c in_cell.listener 0) 0)

  abbrev Rest : Bool
  Rest = leb second (clock / 100) && leb declared 3

  abbrev Formed : Bool
  Formed = result_beside clock n c s

  abbrev numbers : List ℕ
  numbers = fields result_widths 0 s

  -- the rules by the octets that they read, at a column
  stored_at : (x : Column) → to_column column (get_or numbers 2 0) (get_or numbers 3 0) ≡ x → stored_formed n (to_cell c) (to_result s)
      ≡ (implies (has_column x) (ltb (bit talks) n) && (implies (not (eqb declared 0)) (not (has_column x) && talks) && implies (for_listener x (to_entry entry)) hears))
  unfolding stored_formed stored_rules all_true to_result result_from fields
  stored_at x e =
      rw (
        talking-read c,
        hearing-read c,
        declares-read (be_at 1 s in_result.declared),
        ← (be_at-one s in_result.column),
        ← (be_at-one s in_result.entry),
        ← (be_at-one s in_result.declared),
        e,
        and-true,
      )

  -- by a column's kind
  stored-none : column ≡ 0 → stored_formed n (to_cell c) (to_result s) ≡ ((eqb declared 0 || talks) && (eqb entry 0 || hears))
  unfolding has_column to_column
  stored-none k = stored_at none (rw k) ∙ rw (entry-some entry, implies-not (eqb declared 0) talks, implies-not (eqb entry 0) hears)

  stored-advertise : column ≡ 1 → stored_formed n (to_cell c) (to_result s) ≡ (ltb (bit talks) n && (eqb declared 0 && (leb entry 1 || hears)))
  unfolding has_column to_column
  stored-advertise k = stored_at advertise (rw k) ∙ rw (entry-forwards entry, implies-false (eqb declared 0), implies-not (leb entry 1) hears)

  stored-failed : (column ≡ 0 → ⊥) → (column ≡ 1 → ⊥) → entry ≡ 1 → stored_formed n (to_cell c) (to_result s) ≡ (ltb (bit talks) n && eqb declared 0)
  unfolding has_column to_column
  stored-failed k l e =
      stored_at (failed (get_or numbers 2 0) (get_or numbers 3 0)) (rw (ne_eqb column 0 k, ne_eqb column 1 l))
      ∙ rw (e, entry-filters, implies-false (eqb declared 0), and-true)

  -- b is what the cell's Talker counts
  pub none_kept : (z : Bool) → column ≡ 0 → z ≡ all_zero (take (in_result.entry - in_result.latency) (drop in_result.latency s))
      → (z && leb entry 1 && (not (eqb entry 0) || eqb second 0) && Rest && (eqb declared 0 || talks) && (eqb entry 0 || hears)) ≡ Formed
  unfolding result_beside
  none_kept z k e = rw (no-column clock s h second aged z k e, stored-none k, and_assoc)

  pub advertise-kept : (z : Bool) → column ≡ 1 → z ≡ all_zero (part in_result.bridge failure_size s) → (b : ℕ) → b ≡ cond talks 1 0
      → (z && leb entry 2 && leb 1 entry && Rest && (ltb b n && eqb declared 0) && (leb entry 1 || hears)) ≡ Formed
  unfolding result_beside part
  advertise-kept z k e b f = rw (advertised clock s h second aged z k e, stored-advertise k, f, as_bit, and_assoc, and_assoc)

  pub failed-kept : (column ≡ 0 → ⊥) → (column ≡ 1 → ⊥) → (b : ℕ) → b ≡ cond talks 1 0
      → (leb column 2 && eqb entry 1 && Rest && (ltb b n && eqb declared 0)) ≡ Formed
  unfolding result_beside
  failed-kept k l b f = rw (← (failed-column clock s h second aged k l), f, as_bit) (go (eqb entry 1) refl)
    where
      go : (t : Bool) → eqb entry 1 ≡ t → (leb column 2 && t && Rest && (ltb (bit talks) n && eqb declared 0)) ≡ (leb column 2 && t && Rest && stored_formed n (to_cell c) (to_result s))
      go true e = rw (stored-failed k l (eqb-true entry 1 e))
      go false e = rw and-false

-- what closes the needs of a result's tests
pub ruleset by_octets = (rules, none_kept, advertise-kept, failed-kept)
