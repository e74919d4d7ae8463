-- What the tests of several parts of a table ask for, and what some of them find.
use Rattle.std.specs.Prelude.{◌≡◌, List, [], ◌∷◌, Bool, true, cond, not, ◌&&◌, ◌||◌, ℕ, ◌+◌, ◌/◌, ◌%◌, ◌≤◌, get_or, eqb, leb}
use Rattle.std.specs.Fn.{Shared, FnReturns, FnReturnsAt}
use denote.Ref.{Bor}
use Rattle.form.specs.declared.Head.{Head}
use Rattle.model.specs.Layout.{in_cell, in_result, in_sends, in_table, slots}
use Rattle.model.specs.Sending.{applicant_formed, sender_formed, sends_formed, to_sends}
use Rattle.model.specs.Table.{to_settings, to_cell, to_result, result_formed, stored_formed, sent_formed, to_totals, to_port, totals_within, alike, settings_part, ports_field, clock_field}

-- A closure computes a test of one thing, and of two; and one without arguments gives a truth value.
abbrev pub Tests : {F T : Type 0} → Shared F (Bor T × Unit {0}) Bool → F → (T → Bool) → Type 0
Tests {T = T} g f test = (x : T) (r : Bool) → FnReturnsAt g f x r → r ≡ test x

abbrev pub TestsPairs : {F A B : Type 0} → Shared F (Bor A × (Bor B × Unit {0})) Bool → F → (A → B → Bool) → Type 0
TestsPairs {A = A} {B = B} g f test = (x : Bor A) (y : Bor B) (r : Bool) → FnReturns g f (x, (y, tt)) r → r ≡ test x.now y.now

abbrev pub Gives : {F : Type 0} → Shared F (Unit {0}) Bool → F → Bool → Type 0
Gives g f b = (r : Bool) → FnReturns g f tt r → r ≡ b

-- whether each thing passes a test beside the one at its place
abbrev pub all_pairs : {A B : Type 0} → (A → B → Bool) → List A → List B → Bool
all_pairs test [] ys = true
all_pairs test (x ∷ xs) [] = true
all_pairs test (x ∷ xs) (y ∷ ys) = test x y && all_pairs test xs ys

-- what the rules read of a table's head
pub record IsHead (t : List ℕ) (h : Head) : Type 0 where
  pub ports : h.ports ≡ ports_field (settings_part t)
  pub slot_a : h.slot_a ≡ 8 + (to_settings (settings_part t)).priority_a
  pub slot_b : h.slot_b ≡ (to_settings (settings_part t)).priority_b
  pub clock : h.times.clock ≡ clock_field t
  pub leave : h.times.leave ≡ (to_settings (settings_part t)).leave_time

-- a table of at most 64 streams and 8 ports, with its head
pub record TableGiven (t : List ℕ) (h : Head) : Type 0 where
  pub is : IsHead t h
  pub few : get_or t in_table.count 0 ≤ 64
  pub few_ports : h.ports ≤ 8

-- a cell has a registration, and a Talker; a result declares a Listener; a port sends of a stream
abbrev pub registers : List ℕ → Bool
registers s = not (eqb (get_or s in_cell.talker 0) 0) || not (eqb (get_or s in_cell.listener 0) 0)

abbrev pub talks : List ℕ → Bool
talks s = not (eqb (get_or s in_cell.talker 0) 0)

abbrev pub declares_any : List ℕ → Bool
declares_any s = not (eqb (get_or s in_result.declared 0) 0)

abbrev pub sends_any : List ℕ → Bool
sends_any s = (not (eqb (get_or s in_sends.advertising 0) 0) || not (eqb (get_or s in_sends.failing 0) 0)) || not (eqb (get_or s in_sends.listening 0) 0)

-- A part of a port beside another: a result beside its cell, where n ports have a Talker; what is sent beside the result; totals beside
-- settings, where some stream has a registration or none.
unfoldable pub result_beside : ℕ → ℕ → List ℕ → List ℕ → Bool
result_beside clock n c r = result_formed clock r && stored_formed n (to_cell c) (to_result r)

unfoldable pub sent_beside : List ℕ → List ℕ → Bool
sent_beside r s = sends_formed s && sent_formed (to_result r) (to_sends s)

unfoldable pub within : Bool → List ℕ → List ℕ → Bool
within some t q = totals_within some (to_totals t ∷ []) (to_port q ∷ [])

-- an Applicant octet of a declaration that stands: VP, VN, AN, AA or QA
unfoldable pub stands_at : ℕ → Bool
stands_at n = leb 1 n && leb n 5

-- an Applicant in state n, whose values are zero or keep their rule, stands exactly where its declaration is decided
unfoldable pub standing_as : ℕ → Bool → Bool → Bool → Bool
standing_as n zeros rule decided = (leb n 6 && cond (eqb n 0) zeros rule) && alike (stands_at n) decided

-- an Applicant with what is behind it keeps its rules, and stands exactly where its declaration is decided
unfoldable pub sent_as : (List ℕ → Bool) → List ℕ → Bool → Bool
sent_as rule s decided = applicant_formed rule s && alike (stands_at (get_or s 0 0)) decided

-- one of two slots; and a slot where a class is supported, else one past the last
unfoldable pub is_either : ℕ → ℕ → ℕ → Bool
is_either a b i = eqb i a || eqb i b

unfoldable pub slot_if : Bool → ℕ → ℕ
slot_if supports slot = cond supports slot slots

-- what a port sends by itself, beside its settings
unfoldable pub sender_beside : ℕ → ℕ → ℕ → List ℕ → List ℕ → Bool
sender_beside slot_a slot_b clock q s =
    sender_formed (is_either (slot_if (eqb (get_or q 0 0 / 64 % 2) 1) slot_b) (slot_if (eqb (get_or q 0 0 / 128) 1) slot_a)) clock s
