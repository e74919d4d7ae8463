-- The rules of what a port sends of a stream in terms of its octets.
use mathlib.Core.Path.{◌≡◌, refl, sym, ap, ◌∙◌}
use mathlib.Core.List.{List}
use mathlib.Core.Bool.{Bool, true, false, cond, not, ◌&&◌, and_assoc, and-true, and-false}
use Prim.Native.Nat.{ℕ, zero, suc, ◌-◌, ◌%◌, ◌≤◌}
use native.Mathlib.Omega.{arith}
use borrow.Author.Rules.{rules}
use borrow.Author.Tests.{ne_eqb, le-leb, lt-leb}
use lib.ListN.{length, get_or, take, drop, drop_of_length-le, length-drop}
use lib.Seq.{drop-cons, drop-drop, get_or-take, get_or-drop, take_all}
use lib.Dec.{leb, eqb}
use Rattle.octets.specs.Parts.{part}
use Rattle.octets.specs.Fields.{fields}
use Rattle.octets.proofs.Fields.{be_at-one}
use Rattle.model.specs.Layout.{advertising_size, failing_size, in_result, in_sends, offer_size, sends_size}
use Rattle.model.specs.Lists.{all_true, all_zero}
use Rattle.model.specs.Machines.{no_applicant, applicant}
use Rattle.model.specs.Settling.{is_advertise}
use Rattle.model.specs.Sending.{to_standing, to_applicant, applicant_formed, both_formed, to_both, to_offer, to_failure, offer_formed, ready_in, ready_formed, failed_formed, to_sends, sends_formed}
use Rattle.model.specs.Table.{to_column, result_from, to_result, is_standing, stands, is_failed, alike, sent_rules, sent_formed}
use Rattle.form.specs.Asks.{stands_at, standing_as, sent_as, sent_beside}
use Rattle.form.proofs.Stored.{declared-read}
use Rattle.form.proofs.Ports.{two-by-two}

-- A state.

stands_read : {A : Type 0} (from : List ℕ → A) (s : List ℕ) → stands (to_applicant from s) ≡ stands_at (get_or s 0 0)
unfolding stands is_standing to_standing to_applicant stands_at
stands_read from s = go (get_or s 0 0)
  where
    go : (n : ℕ) → stands (cond (eqb n 0) no_applicant (applicant record { state = to_standing n; value = from (drop 1 s) })) ≡ (leb 1 n && leb n 5)
    go zero = refl
    go (suc zero) = refl
    go (suc (suc zero)) = refl
    go (suc (suc (suc zero))) = refl
    go (suc (suc (suc (suc zero)))) = refl
    go (suc (suc (suc (suc (suc zero))))) = refl
    go (suc (suc (suc (suc (suc (suc n)))))) =
        let m = suc (suc (suc (suc (suc (suc n))))) in
        rw (ne_eqb m 0 (λ e. omega arith), le-leb 1 m (omega arith), lt-leb m 5 (omega arith))

-- An Applicant whose values are zero, z, or keep their rule, k.

pub standing-none : (n : ℕ) (z k d : Bool) → n ≡ 0 → (z && not d) ≡ standing_as n z k d
unfolding standing_as stands_at alike
standing-none n z k d h = rw h

standing-true : (n : ℕ) (z k : Bool) → (n ≡ 0 → ⊥) → (leb n 5 && k) ≡ standing_as n z k true
unfolding standing_as stands_at alike
standing-true zero z k h = absurd (h refl)
standing-true (suc zero) z k h = sym (and-true k)
standing-true (suc (suc zero)) z k h = sym (and-true k)
standing-true (suc (suc (suc zero))) z k h = sym (and-true k)
standing-true (suc (suc (suc (suc zero)))) z k h = sym (and-true k)
standing-true (suc (suc (suc (suc (suc zero))))) z k h = sym (and-true k)
standing-true (suc (suc (suc (suc (suc (suc n)))))) z k h =
    let m = suc (suc (suc (suc (suc (suc n))))) in
    rw (le-leb 1 m (omega arith), lt-leb m 5 (omega arith)) (sym (and-false (leb m 6 && cond (eqb m 0) z k)))

standing-false : (n : ℕ) (z k : Bool) → (n ≡ 0 → ⊥) → (eqb n 6 && k) ≡ standing_as n z k false
unfolding standing_as stands_at alike
standing-false zero z k h = absurd (h refl)
standing-false (suc zero) z k h = sym (and-false k)
standing-false (suc (suc zero)) z k h = sym (and-false k)
standing-false (suc (suc (suc zero))) z k h = sym (and-false k)
standing-false (suc (suc (suc (suc zero)))) z k h = sym (and-false k)
standing-false (suc (suc (suc (suc (suc zero))))) z k h = sym (and-false k)
standing-false (suc (suc (suc (suc (suc (suc zero)))))) z k h = sym (and-true k)
standing-false (suc (suc (suc (suc (suc (suc (suc n))))))) z k h =
    let m = suc (suc (suc (suc (suc (suc (suc n)))))) in
    rw (ne_eqb m 6 (λ e. omega arith), lt-leb m 6 (omega arith))

pub standing-decided : (n : ℕ) (z k d : Bool) → (n ≡ 0 → ⊥) → d ≡ true → (leb n 5 && k) ≡ standing_as n z k d
standing-decided n z k d h e = rw e (standing-true n z k h)

pub standing-other : (n : ℕ) (z k d : Bool) → (n ≡ 0 → ⊥) → d ≡ false → (eqb n 6 && k) ≡ standing_as n z k d
standing-other n z k d h e = rw e (standing-false n z k h)

pub as-standing : (rule : List ℕ → Bool) (s : List ℕ) (d : Bool) → standing_as (get_or s 0 0) (all_zero (drop 1 s)) (rule (drop 1 s)) d ≡ sent_as rule s d
unfolding standing_as sent_as applicant_formed
as-standing rule s d = refl

-- all that is behind the state
pub behind-state : (n : ℕ) (s : List ℕ) → length s ≡ suc n → all_zero (part 1 n s) ≡ all_zero (drop 1 s)
unfolding part
behind-state n s h = ap all_zero (take_all n (drop 1 s) (omega (arith, length-drop 1 s)))

-- the priority octet of a Talker; a Failed has its rule
pub offer-octet : (s : List ℕ) → eqb (get_or s 13 0 % 16) 0 ≡ offer_formed (drop 1 s)
unfolding offer_formed fields
offer-octet s = rw (← (be_at-one (drop 1 s) 12), get_or-drop 1 s 12 0)

pub failed-octet : (s : List ℕ) → failed_formed s ≡ offer_formed s
unfolding failed_formed both_formed offer_formed fields
failed-octet s = rw (← (be_at-one (take offer_size s) 12), ← (be_at-one s 12), get_or-take offer_size s 12 0 (omega arith), and-true)

-- of a Listener
module _ (s : List ℕ) (h : length s ≡ 2) where
  pub ready-none : eqb (get_or s 1 0) 0 ≡ all_zero (drop 1 s)
  unfolding all_zero
  ready-none = rw (drop-cons s 1 0 (omega arith), drop_of_length-le s h_le) (sym (and-true _))
    where
      h_le : length s ≤ 2
      h_le = omega arith

  pub ready-kinds : (leb 1 (get_or s 1 0) && leb (get_or s 1 0) 3) ≡ ready_formed (drop 1 s)
  unfolding ready_formed
  ready-kinds = rw (get_or-drop 1 s 0 0)

-- What the column says.

column-advertise : (k b c : ℕ) → is_advertise (to_column k b c) ≡ eqb k 1
unfolding is_advertise to_column
column-advertise zero b c = refl
column-advertise (suc zero) b c = refl
column-advertise (suc (suc k)) b c = rw (ne_eqb (suc (suc k)) 0 (λ e. omega arith), ne_eqb (suc (suc k)) 1 (λ e. omega arith))

column-failed : (k b c : ℕ) → is_failed (to_column k b c) ≡ leb 2 k
unfolding is_failed to_column
column-failed zero b c = refl
column-failed (suc zero) b c = refl
column-failed (suc (suc k)) b c =
    rw (ne_eqb (suc (suc k)) 0 (λ e. omega arith), ne_eqb (suc (suc k)) 1 (λ e. omega arith), le-leb 2 (suc (suc k)) (omega arith))

three-by-three : (a b c d e f : Bool) → ((a && b) && (c && d) && (e && f)) ≡ ((a && (c && e)) && (b && (d && (f && true))))
three-by-three a b c d e f =
    rw (two-by-two a b c d, two-by-two (a && c) (b && d) e f, and-true) simp and_assoc

-- x, y and z are what the tests say of the three Applicants that were lent
pub sent-tests : (r s : List ℕ) → length s ≡ sends_size → (x y z : Bool)
    → x ≡ sent_as offer_formed (take (in_sends.failing - in_sends.advertising) (drop in_sends.advertising s)) (eqb (get_or r in_result.column 0) 1)
    → y ≡ sent_as failed_formed (take (in_sends.listening - in_sends.failing) (drop in_sends.failing s)) (leb 2 (get_or r in_result.column 0))
    → z ≡ sent_as ready_formed (take (sends_size - in_sends.listening) (drop in_sends.listening s)) (not (eqb (get_or r in_result.declared 0) 0))
    → (x && y && z) ≡ sent_beside r s
unfolding sent_beside sent_as sends_formed sent_formed sent_rules all_true to_sends
sent-tests r s h x y z e f g =
    let column : is_advertise (to_result r).column ≡ eqb (get_or r in_result.column 0) 1 =
    unfold to_result result_from fields in rw (column-advertise, ← (be_at-one r in_result.column)) in
    let failing : is_failed (to_result r).column ≡ leb 2 (get_or r in_result.column 0) =
    unfold to_result result_from fields in rw (column-failed, ← (be_at-one r in_result.column)) in
    let last : take (sends_size - in_sends.listening) (drop in_sends.listening s) ≡ drop failing_size (drop advertising_size s) =
    take_all (sends_size - in_sends.listening) (drop in_sends.listening s) (omega (arith, length-drop in_sends.listening s)) ∙ sym (drop-drop failing_size advertising_size s) in
    rw (
      stands_read to_offer (take advertising_size s),
      stands_read (to_both offer_size to_offer to_failure) (take failing_size (drop advertising_size s)),
      stands_read ready_in (drop failing_size (drop advertising_size s)),
      declared-read r,
      column,
      failing,
      e,
      f,
      g,
      last,
    )
    (three-by-three (applicant_formed offer_formed (take advertising_size s)) (alike (stands_at (get_or (take advertising_size s) 0 0)) (eqb (get_or r in_result.column 0) 1))
    (applicant_formed failed_formed (take failing_size (drop advertising_size s)))
    (alike (stands_at (get_or (take failing_size (drop advertising_size s)) 0 0)) (leb 2 (get_or r in_result.column 0)))
    (applicant_formed ready_formed (drop failing_size (drop advertising_size s)))
    (alike (stands_at (get_or (drop failing_size (drop advertising_size s)) 0 0)) (not (eqb (get_or r in_result.declared 0) 0))))

-- what closes the tests of what a port sends of a stream
pub ruleset by_octets = (rules, sent-tests)
