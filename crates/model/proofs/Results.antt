-- A result in its 20 octets: it is read back as it was written, well-formed octets are written back as they were read, and they
-- are well-formed exactly when the result is valid.
use mathlib.Core.Path.{◌≡◌, refl, sym, ap, ◌∙◌}
use mathlib.Core.List.{List, [], ◌∷◌}
use mathlib.Core.Bool.{true, not}
use Prim.Native.Nat.{ℕ, zero, suc, ◌/◌, ◌^◌, ◌≤◌, ◌<◌}
use native.Mathlib.Omega.{arith}
use lib.ListN.{length, get_or}
use lib.Dec.{eqb, leb}
use borrow.Author.Tests.{eqb-true, leb-true, eq-eqb, ne_eqb, le-leb}
use Rattle.octets.specs.Parts.{zeros}
use Rattle.octets.specs.Fields.{fields, Fit, width}
use Rattle.octets.proofs.Fields.{length-packed-any, fields-of-packed, fields_fit, fit_at, packed-zeros}
use Rattle.model.specs.Layout.{result_index, result_size, result_widths}
use Rattle.model.specs.Lists.{All, all_true, implies, tabulate, Octets, all_zero}
use Rattle.model.specs.State.{Column, none, advertise, failed, Entry, no_entry, filters, forwards, Declared, nothing, tells, Result, unsettled}
use Rattle.model.specs.Table.{column_number, column_bridge, column_code, entry_number, declared_number, result_numbers, to_column, to_entry, to_declared, result_from, result_octets, to_result, result_rules, result_formed}
use Rattle.model.proofs.Lists.{all-each, implied, all_true_lem, true-all}
use Rattle.model.proofs.Valid.{ValidColumn, ValidAge, ValidResult}
use Rattle.model.proofs.Parts.{◌also◌, octets-packed, octets-at, two-zero, packed-whole, Sized}
use Rattle.model.proofs.Cells.{ready-back, ready-forth, ready-number, ready-rules}

-- The column, with latency and entry.

column-back : (k : Column) → to_column (column_number k) (column_bridge k) (column_code k) ≡ k
unfolding to_column column_number column_bridge column_code
column-back none = refl
column-back advertise = refl
column-back (failed b c) = refl

column-fit : (k : Column) (y : ℕ) (e : Entry) → ValidColumn k y e → (column_number k < 256) × (column_bridge k < 256 ^ 8) × (column_code k < 256)
unfolding column_number column_bridge column_code
column-fit none y e v = (omega arith, omega arith, omega arith)
column-fit advertise y e v = (omega arith, omega arith, omega arith)
column-fit (failed b c) y no_entry v = absurd v
column-fit (failed b c) y filters v = (omega arith, v.0, v.1)
column-fit (failed b c) y forwards v = absurd v

column-forth : (k b c : ℕ) → k ≤ 2 → (k ≤ 1 → (b ≡ 0) × (c ≡ 0))
    → (column_number (to_column k b c) ≡ k) × (column_bridge (to_column k b c) ≡ b) × (column_code (to_column k b c) ≡ c)
unfolding column_number column_bridge column_code to_column
column-forth zero b c h z = (refl, sym (z (omega arith)).0, sym (z (omega arith)).1)
column-forth (suc zero) b c h z = (refl, sym (z (omega arith)).0, sym (z (omega arith)).1)
column-forth (suc (suc zero)) b c h z = (refl, refl, refl)
column-forth (suc (suc (suc k))) b c h z = absurd (omega arith)

-- which latency and entry a column's number goes with, as tests
column-rules : (k : Column) (y : ℕ) (e : Entry) → ValidColumn k y e
    → (implies (eqb (column_number k) 0) (eqb y 0) ≡ true)
    × (implies (not (eqb (column_number k) 0)) (leb 1 (entry_number e)) ≡ true)
    × (implies (not (eqb (column_number k) 1)) (leb (entry_number e) 1) ≡ true)
unfolding column_number entry_number
column-rules none y no_entry v = (eq-eqb y 0 v, refl, refl)
column-rules none y filters v = (eq-eqb y 0 v, refl, refl)
column-rules none y forwards v = absurd v
column-rules advertise y no_entry v = absurd v
column-rules advertise y filters v = (refl, refl, refl)
column-rules advertise y forwards v = (refl, refl, refl)
column-rules (failed b c) y no_entry v = absurd v
column-rules (failed b c) y filters v = (refl, refl, refl)
column-rules (failed b c) y forwards v = absurd v

failure-rules : (k : Column) → (leb (column_number k) 2 ≡ true)
    × (implies (leb (column_number k) 1) (all_zero (column_bridge k ∷ column_code k ∷ [])) ≡ true)
unfolding column_number column_bridge column_code all_zero
failure-rules none = (refl, refl)
failure-rules advertise = (refl, refl)
failure-rules (failed b c) = (refl, refl)

column-valid : (k y b c e : ℕ) → k ≤ 2 → e ≤ 2 → (k ≡ 0 → y ≡ 0) → ((k ≡ 0 → ⊥) → 1 ≤ e) → ((k ≡ 1 → ⊥) → e ≤ 1)
    → b < 2 ^ 64 → c < 256 → ValidColumn (to_column k b c) y (to_entry e)
unfolding to_column to_entry
column-valid zero y b c zero h l z some few p q = z refl
column-valid zero y b c (suc zero) h l z some few p q = z refl
column-valid zero y b c (suc (suc e)) h l z some few p q = absurd (omega (arith, few (λ x. omega arith)))
column-valid (suc zero) y b c zero h l z some few p q = absurd (omega (arith, some (λ x. omega arith)))
column-valid (suc zero) y b c (suc zero) h l z some few p q = tt
column-valid (suc zero) y b c (suc (suc zero)) h l z some few p q = tt
column-valid (suc zero) y b c (suc (suc (suc e))) h l z some few p q = absurd (omega arith)
column-valid (suc (suc zero)) y b c zero h l z some few p q = absurd (omega (arith, some (λ x. omega arith)))
column-valid (suc (suc zero)) y b c (suc zero) h l z some few p q = (p, q)
column-valid (suc (suc zero)) y b c (suc (suc e)) h l z some few p q = absurd (omega (arith, few (λ x. omega arith)))
column-valid (suc (suc (suc k))) y b c e h l z some few p q = absurd (omega arith)

-- The entry, with its age.

pub entry-back : (e : Entry) → to_entry (entry_number e) ≡ e
unfolding to_entry entry_number
entry-back no_entry = refl
entry-back filters = refl
entry-back forwards = refl

entry-forth : (e : ℕ) → e ≤ 2 → entry_number (to_entry e) ≡ e
unfolding to_entry entry_number
entry-forth zero h = refl
entry-forth (suc zero) h = refl
entry-forth (suc (suc zero)) h = refl
entry-forth (suc (suc (suc e))) h = absurd (omega arith)

entry-few : (e : Entry) → leb (entry_number e) 2 ≡ true
unfolding entry_number
entry-few no_entry = refl
entry-few filters = refl
entry-few forwards = refl

-- whole seconds until the clock
age-within : (clock : ℕ) (e : Entry) (a : ℕ) → ValidAge clock e a → a ≤ clock / 100
age-within clock no_entry a v = omega arith
age-within clock filters a v = v
age-within clock forwards a v = v

age-rule : (clock : ℕ) (e : Entry) (a : ℕ) → ValidAge clock e a → implies (eqb (entry_number e) 0) (eqb a 0) ≡ true
unfolding entry_number
age-rule clock no_entry a v = eq-eqb a 0 v
age-rule clock filters a v = refl
age-rule clock forwards a v = refl

age-valid : (clock e a : ℕ) → (e ≡ 0 → a ≡ 0) → a ≤ clock / 100 → ValidAge clock (to_entry e) a
unfolding to_entry
age-valid clock zero a z h = z refl
age-valid clock (suc zero) a z h = h
age-valid clock (suc (suc e)) a z h = rw (ne_eqb (suc (suc e)) 0 (λ x. omega arith), ne_eqb (suc (suc e)) 1 (λ x. omega arith)) h

-- The Listener declared.

pub declared-back : (d : Declared) → to_declared (declared_number d) ≡ d
unfolding to_declared declared_number
declared-back nothing = refl
declared-back (tells r) = rw ((ready-rules r).1, ready-back r)

declared-forth : (k : ℕ) → k ≤ 3 → declared_number (to_declared k) ≡ k
unfolding to_declared declared_number
declared-forth zero h = refl
declared-forth (suc k) h = rw (ne_eqb (suc k) 0 (λ x. omega arith)) (ready-forth (suc k) (omega arith) h)

pub declared-few : (d : Declared) → declared_number d ≤ 3
unfolding declared_number
declared-few nothing = omega arith
declared-few (tells r) = (ready-number r).1

-- A valid result: its numbers fit and keep the rules; they come back in any case.

pub result-fit : (clock : ℕ) (r : Result) → ValidResult clock r → clock < 2 ^ 32 → Fit result_widths (result_numbers r)
unfolding Fit result_numbers
result-fit clock r v h =
    let (k, b, c) = column-fit r.column r.latency r.entry v.column in
    k
    also v.latency
    also b
    also c
    also omega (arith, leb-true (entry_number r.entry) 2 (entry-few r.entry))
    also omega (arith, age-within clock r.entry r.age v.age)
    also omega (arith, declared-few r.declares)
    also tt

pub numbers-back : (r : Result) → result_from (result_numbers r) ≡ r
unfolding result_from result_numbers
numbers-back r = rw (column-back r.column, entry-back r.entry, declared-back r.declares)

numbers-rules : (clock : ℕ) (r : Result) → ValidResult clock r → all_true (result_rules clock (result_numbers r)) ≡ true
unfolding result_rules result_numbers
numbers-rules clock r v =
    let (few, whole) = failure-rules r.column in
    let (still, some, none-else) = column-rules r.column r.latency r.entry v.column in
    true-all (result_rules clock (result_numbers r))
    (few
    also still
    also whole
    also entry-few r.entry
    also some
    also none-else
    also age-rule clock r.entry r.age v.age
    also le-leb r.age (clock / 100) (age-within clock r.entry r.age v.age)
    also le-leb (declared_number r.declares) 3 (declared-few r.declares)
    also tt)

-- Numbers that keep the rules: what they say is valid, and is written with the same numbers.

record Kept (clock : ℕ) (vs : List ℕ) : Type 0 where
  kind : get_or vs result_index.column 0 ≤ 2
  still : get_or vs result_index.column 0 ≡ 0 → get_or vs result_index.latency 0 ≡ 0
  whole : get_or vs result_index.column 0 ≤ 1 → (get_or vs result_index.bridge 0 ≡ 0) × (get_or vs result_index.code 0 ≡ 0)
  entry : get_or vs result_index.entry 0 ≤ 2
  some : (get_or vs result_index.column 0 ≡ 0 → ⊥) → 1 ≤ get_or vs result_index.entry 0
  few : (get_or vs result_index.column 0 ≡ 1 → ⊥) → get_or vs result_index.entry 0 ≤ 1
  ageless : get_or vs result_index.entry 0 ≡ 0 → get_or vs result_index.age 0 ≡ 0
  age : get_or vs result_index.age 0 ≤ clock / 100
  declared : get_or vs result_index.declared 0 ≤ 3

kept : (clock : ℕ) (vs : List ℕ) → all_true (result_rules clock vs) ≡ true → Kept clock vs
unfolding result_rules
kept clock vs h =
    let at : ℕ → ℕ = λ i. get_or vs i 0 in
    let r = all_true_lem (result_rules clock vs) h in
    record {
      kind = leb-true (at result_index.column) 2 r.0;
      still = λ e. eqb-true (at result_index.latency) 0 (implied (eqb (at result_index.column) 0) (eqb (at result_index.latency) 0) r.1.0 (eq-eqb (at result_index.column) 0 e));
      whole = λ e. two-zero (at result_index.bridge) (at result_index.code) (implied (leb (at result_index.column) 1) _ r.1.1.0 (le-leb (at result_index.column) 1 e));
      entry = leb-true (at result_index.entry) 2 r.1.1.1.0;
      some = λ e. leb-true 1 (at result_index.entry) (implied (not (eqb (at result_index.column) 0)) (leb 1 (at result_index.entry)) r.1.1.1.1.0 (ap not (ne_eqb (at result_index.column) 0 e)));
      few = λ e. leb-true (at result_index.entry) 1 (implied (not (eqb (at result_index.column) 1)) (leb (at result_index.entry) 1) r.1.1.1.1.1.0 (ap not (ne_eqb (at result_index.column) 1 e)));
      ageless = λ e. eqb-true (at result_index.age) 0 (implied (eqb (at result_index.entry) 0) (eqb (at result_index.age) 0) r.1.1.1.1.1.1.0 (eq-eqb (at result_index.entry) 0 e));
      age = leb-true (at result_index.age) (clock / 100) r.1.1.1.1.1.1.1.0;
      declared = leb-true (at result_index.declared) 3 r.1.1.1.1.1.1.1.1.0;
    }

module _ (clock : ℕ) (vs : List ℕ) (k : Kept clock vs) where
  numbers-forth : result_numbers (result_from vs) ≡ tabulate 7 0 (λ i. get_or vs i 0)
  unfolding result_numbers result_from tabulate
  numbers-forth =
      let (kind, bridge, code) = column-forth (get_or vs result_index.column 0) (get_or vs result_index.bridge 0) (get_or vs result_index.code 0) k.kind k.whole in
      rw (kind, bridge, code, entry-forth (get_or vs result_index.entry 0) k.entry, declared-forth (get_or vs result_index.declared 0) k.declared)

  numbers-valid : Fit result_widths vs → ValidResult clock (result_from vs)
  unfolding result_from
  numbers-valid fit =
      let at : (i : ℕ) → get_or vs i 0 < 256 ^ get_or result_widths i 0 = fit_at result_widths vs fit in
      record {
        column =
            column-valid (get_or vs result_index.column 0) (get_or vs result_index.latency 0) (get_or vs result_index.bridge 0) (get_or vs result_index.code 0) (get_or vs result_index.entry 0) k.kind k.entry k.still k.some k.few
            (at result_index.bridge) (at result_index.code);
        latency = at result_index.latency;
        age = age-valid clock (get_or vs result_index.entry 0) (get_or vs result_index.age 0) k.ageless k.age;
      }

-- The octets of a result.

pub result-length : (r : Result) → length (result_octets r) ≡ result_size
unfolding result_octets result_numbers width
result-length r = length-packed-any result_widths (result_numbers r) refl

pub result-octets : (r : Result) → Octets (result_octets r)
unfolding result_octets
result-octets r = octets-packed result_widths (result_numbers r)

pub results-sized : (results : List Result) → All (Sized result_size result_octets) results
results-sized = all-each (Sized result_size result_octets) result-length

module _ (clock : ℕ) (small : clock < 2 ^ 32) (r : Result) (v : ValidResult clock r) where
  pub result-back : to_result (result_octets r) ≡ r
  unfolding to_result result_octets
  result-back = rw (fields-of-packed result_widths (result_numbers r) (result-fit clock r v small)) (numbers-back r)

  pub result-formed : result_formed clock (result_octets r) ≡ true
  unfolding result_formed result_octets
  result-formed = rw (fields-of-packed result_widths (result_numbers r) (result-fit clock r v small)) (numbers-rules clock r v)

-- the numbers in a result's fields, one by one
numbers : (s : List ℕ) → tabulate 7 0 (λ i. get_or (fields result_widths 0 s) i 0) ≡ fields result_widths 0 s
unfolding tabulate fields
numbers s = refl

module _ (clock : ℕ) (s : List ℕ) (l : length s ≡ result_size) (o : Octets s) (h : result_formed clock s ≡ true) where
  pub result-forth : result_octets (to_result s) ≡ s
  unfolding result_octets to_result result_formed
  result-forth =
      let vs = fields result_widths 0 s in
      rw (numbers-forth clock vs (kept clock vs h), numbers s) (packed-whole result_widths s (l ∙ unfold width in refl) o)

  pub result-valid : ValidResult clock (to_result s)
  unfolding to_result result_formed
  result-valid =
      let vs = fields result_widths 0 s in
      numbers-valid clock vs (kept clock vs h) (fields_fit result_widths 0 s (octets-at s o))

-- Nothing decided is 20 zeros.

pub result-zeros : result_octets unsettled ≡ zeros result_size
unfolding result_octets result_numbers column_number column_bridge column_code entry_number declared_number unsettled width
result-zeros = packed-zeros result_widths
