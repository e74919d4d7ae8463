-- The rules of a cell in terms of its octets, by its Talker's kind and for its Listener.
use mathlib.Core.Path.{◌≡◌, refl, sym, ap, ◌∙◌}
use mathlib.Core.List.{List, [], ◌∷◌}
use mathlib.Core.Bool.{Bool, true, false, not, ◌&&◌, and_assoc, and_comm, and-true, and-false}
use Prim.Native.Nat.{ℕ, ◌-◌, ◌%◌}
use native.Mathlib.Omega.{arith}
use lib.ListN.{length, get_or, take, drop}
use lib.Dec.{leb, eqb}
pub use borrow.Author.Rules.{rules}
use borrow.Author.Tests.{ne_eqb}
use Rattle.octets.specs.Be.{be_at}
use Rattle.octets.specs.Parts.{part}
use Rattle.octets.specs.Fields.{fields, width}
use Rattle.octets.proofs.Fields.{be_at-one}
use Rattle.model.specs.Layout.{in_cell, cell_size, cell_widths, cell_index, failure_size, failure_widths}
use Rattle.model.specs.Lists.{all_true, all_zero, implies}
use Rattle.model.specs.Table.{between, leaving_rule, cell_rules}
use Rattle.model.proofs.Parts.{zero-between}
use Rattle.form.proofs.Zeros.{zero-fields}

-- without a Talker: fields that are zero keep the other rules
talker-gone : (clock leave : ℕ) (vs : List ℕ) → get_or vs cell_index.talker 0 ≡ 0
    → all_true (take 6 (cell_rules clock leave vs)) ≡ all_zero (between cell_index.changed cell_index.listener vs)
unfolding cell_rules all_true leaving_rule
talker-gone clock leave vs e = go (all_zero (between cell_index.changed cell_index.listener vs)) refl
  where
    go : (z : Bool) → all_zero (between cell_index.changed cell_index.listener vs) ≡ z → all_true (take 6 (cell_rules clock leave vs)) ≡ z
    go true h =
        let at = zero-between cell_index.changed (cell_index.listener - cell_index.changed) vs h in
        rw (e, h, at 0 (omega arith), at 1 (omega arith), at 2 (omega arith), at (cell_index.priority - cell_index.changed) (omega arith))
    go false h = rw (e, h, and-false, and-false, and-false)

-- a Listener that is not leaving has no time, and one that is leaving is there
listener-stays : (clock leave k t : ℕ) → (leaving_rule clock leave 0 t && implies (eqb k 0) (all_zero (0 ∷ t ∷ []))) ≡ eqb t 0
unfolding leaving_rule all_zero
listener-stays clock leave k t = go (eqb k 0) (eqb t 0)
  where
    go : (a x : Bool) → (x && implies a (x && true)) ≡ x
    go true true = refl
    go false true = refl
    go a false = refl

listener-leaves : (k l t : ℕ) → (l ≡ 0 → ⊥) → implies (eqb k 0) (all_zero (l ∷ t ∷ [])) ≡ not (eqb k 0)
unfolding all_zero
listener-leaves k l t n = rw (ne_eqb l 0 n) (go (eqb k 0))
  where
    go : (a : Bool) → implies a false ≡ not a
    go true = refl
    go false = refl

module _ (clock leave : ℕ) (s : List ℕ) (h : length s ≡ cell_size) where
  abbrev of_cell : List Bool
  of_cell = cell_rules clock leave (fields cell_widths 0 s)

  pub registration-rules : (since : ℕ) → since ≡ be_at 4 s in_cell.talker_since → (t : Bool) → t ≡ leaving_rule clock leave (get_or s in_cell.talker_leaves 0) since
      → (leb (get_or s in_cell.changed 0) 1 && t && eqb (get_or s in_cell.priority 0 % 16) 0) ≡ all_true (take 3 (drop 1 of_cell))
  unfolding cell_rules fields all_true
  registration-rules since g t e =
      rw (e, g, be_at-one s in_cell.changed, be_at-one s in_cell.talker_leaves, be_at-one s in_cell.priority, and-true)
      (and_assoc (leb (be_at 1 s in_cell.changed) 1) _ (eqb (be_at 1 s in_cell.priority % 16) 0))

  pub no-talker : (z : Bool) → get_or s in_cell.talker 0 ≡ 0 → z ≡ all_zero (take (in_cell.listener - in_cell.changed) (drop in_cell.changed s)) → z ≡ all_true (take 6 of_cell)
  unfolding fields width part
  no-talker z k e =
      e
      ∙ sym (zero-fields (between cell_index.changed cell_index.listener cell_widths) in_cell.changed s (omega arith))
      ∙ sym (talker-gone clock leave (fields cell_widths 0 s) (sym (be_at-one s in_cell.talker) ∙ k))

  pub advertise-talker : (z : Bool) → get_or s in_cell.talker 0 ≡ 1 → (t : Bool) → t ≡ all_true (take 3 (drop 1 of_cell))
      → z ≡ all_zero (take failure_size (drop in_cell.bridge s)) → (t && z) ≡ all_true (take 6 of_cell)
  unfolding cell_rules fields all_true width part
  advertise-talker z k t f e =
      rw (f, e, ← (zero-fields failure_widths in_cell.bridge s (omega arith)), ← (be_at-one s in_cell.talker), k) simp (and_assoc, and-true)

  pub failed-talker : (get_or s in_cell.talker 0 ≡ 0 → ⊥) → (get_or s in_cell.talker 0 ≡ 1 → ⊥) → (t : Bool) → t ≡ all_true (take 3 (drop 1 of_cell))
      → (leb (get_or s in_cell.talker 0) 2 && t) ≡ all_true (take 6 of_cell)
  unfolding cell_rules fields all_true
  failed-talker k l t f = rw (f, ← (be_at-one s in_cell.talker), ne_eqb (get_or s in_cell.talker 0) 0 k, ne_eqb (get_or s in_cell.talker 0) 1 l) refl

  pub listener-there : (since : ℕ) → since ≡ be_at 4 s in_cell.listener_since → get_or s in_cell.listener_leaves 0 ≡ 0
      → (leb (get_or s in_cell.listener 0) 3 && eqb since 0) ≡ all_true (drop 6 of_cell)
  unfolding cell_rules fields all_true
  listener-there since g e =
      rw (g, ← (be_at-one s in_cell.listener_leaves), e, and-true, be_at-one s in_cell.listener)
      (ap (λ (b : Bool). leb (be_at 1 s in_cell.listener) 3 && b) (sym (listener-stays clock leave (be_at 1 s in_cell.listener) (be_at 4 s in_cell.listener_since))))

  pub listener-leaving : (since : ℕ) → since ≡ be_at 4 s in_cell.listener_since → (get_or s in_cell.listener_leaves 0 ≡ 0 → ⊥)
      → (t : Bool) → t ≡ leaving_rule clock leave (get_or s in_cell.listener_leaves 0) since
      → (leb (get_or s in_cell.listener 0) 3 && not (eqb (get_or s in_cell.listener 0) 0) && t) ≡ all_true (drop 6 of_cell)
  unfolding cell_rules fields all_true
  listener-leaving since g n t e =
      rw (
        e,
        g,
        ← (be_at-one s in_cell.listener_leaves),
        ← (be_at-one s in_cell.listener),
        listener-leaves (get_or s in_cell.listener 0) (get_or s in_cell.listener_leaves 0) (be_at 4 s in_cell.listener_since) n,
        and-true,
        and_assoc,
      )
      (ap (λ (b : Bool). leb (get_or s in_cell.listener 0) 3 && b) (and_comm (not (eqb (get_or s in_cell.listener 0) 0)) _))

-- what closes the needs of a cell's tests
pub ruleset by_octets = (rules, registration-rules, no-talker, advertise-talker, failed-talker, listener-there, listener-leaving)
