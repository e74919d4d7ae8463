-- The rules of what a port sends by itself in terms of its octets; a loop over its Domain values, and the ports beside their settings.
use mathlib.Core.Path.{◌≡◌, refl, sym, ap, ◌∙◌}
use mathlib.Core.List.{List, [], ◌∷◌}
use mathlib.Core.Bool.{Bool, true, false, ◌&&◌, and_assoc}
use Prim.Native.Nat.{ℕ, zero, suc, ◌+◌, ◌-◌, ◌*◌, ◌/◌, ◌%◌, ◌≤◌, ◌<◌}
use native.Mathlib.Nat.{zero-mul}
use native.Mathlib.Numerals.{add-one}
use native.Mathlib.Omega.{arith}
use borrow.Author.Rules.{rules}
use borrow.Author.Tests.{ne_eqb}
use lib.ListN.{length, get_or, take, drop, drop_of_length-le, length-drop}
use lib.Seq.{drop-cons, get_or-drop, length-take-le}
use lib.Dec.{ltb, leb, eqb}
use Rattle.octets.specs.Be.{be_at}
use Rattle.octets.specs.Fields.{fields}
use Rattle.octets.proofs.Be.{be_at-ext}
use Rattle.octets.proofs.Fields.{be_at-one}
use Rattle.model.specs.Layout.{in_sender, port_size, sender_size, slots}
use Rattle.model.specs.Lists.{parts, is_one}
use Rattle.model.specs.LeaveAll.{leave_all_time}
use Rattle.model.specs.State.{Settings, port_at, class_a, class_b, class_priority, class_id, supports, slot_of, is_own_slot, declares_slot}
use Rattle.model.specs.Sending.{domain_standing, slots_standing, leave_all_formed, sender_formed}
use Rattle.model.specs.Table.{port_from, to_port, senders_formed}
use Rattle.form.specs.Asks.{all_pairs, is_either, slot_if, sender_beside}
use Rattle.form.proofs.Left.{Left, left-more, left-none}
use Rattle.form.proofs.Parts.{same, drop-parts}

-- A loop over the Domain values of a port.

module _ (own : ℕ → Bool) (s : List ℕ) where
  abbrev rest : ℕ → Bool
  rest i = slots_standing own i (drop i s)

  abbrev pub SlotsLeft : Bool → ℕ → Type 0
  SlotsLeft = Left rest (length s) (slots_standing own 0 s)

  pub all_slots : SlotsLeft true 0
  all_slots = (omega arith, refl)

  module _ (ok : Bool) (i : ℕ) where
    turn : i < length s → rest i ≡ (domain_standing (own i) (get_or s i 0) && rest (i + 1))
    unfolding slots_standing
    turn h = rw (drop-cons s i 0 h, add-one i)

    pub slots-more : i < length s → (t : Bool) → t ≡ domain_standing (own i) (get_or s i 0) → SlotsLeft ok i → SlotsLeft (ok && t) (i + 1)
    slots-more h t e = left-more rest (length s) (slots_standing own 0 s) ok i t h (rw (e, turn h))

    pub no-slots : length s ≤ i → SlotsLeft ok i → ok ≡ slots_standing own 0 s
    no-slots h = left-none rest (length s) (slots_standing own 0 s) ok i (rw (drop_of_length-le s h) unfold slots_standing in refl)

-- slots that are named in two ways
same-slots : (own other : ℕ → Bool) (i : ℕ) (s : List ℕ) → ((j : ℕ) → j < i + length s → own j ≡ other j) → slots_standing own i s ≡ slots_standing other i s
unfolding slots_standing
same-slots own other i [] h = refl
same-slots own other i (n ∷ s) h = rw (h i (omega arith), same-slots own other (suc i) s (λ j l. h j (omega arith)))

-- The octets of a port.

pub sender-tests : (own : ℕ → Bool) (clock start : ℕ) (s : List ℕ) → start ≡ be_at 4 s in_sender.timer → (t : Bool)
    → t ≡ slots_standing own 0 (take (in_sender.leave_all - 0) (drop 0 s))
    → (t && leb (get_or s in_sender.leave_all 0) 1 && leb start clock && ltb clock (start + leave_all_time)) ≡ sender_formed own clock s
unfolding sender_formed leave_all_formed fields
sender-tests own clock start s e t f =
    let flag : be_at 1 (drop in_sender.leave_all s) 0 ≡ get_or s in_sender.leave_all 0 =
    sym (be_at-one (drop in_sender.leave_all s) 0) ∙ get_or-drop in_sender.leave_all s 0 0 in
    let time : be_at 4 (drop in_sender.leave_all s) 1 ≡ be_at 4 s in_sender.timer =
    be_at-ext 4 (drop in_sender.leave_all s) s 1 in_sender.timer (λ j h. get_or-drop in_sender.leave_all s (1 + j) 0 ∙ ap (λ (i : ℕ). get_or s i 0) (omega arith)) in
    rw (flag, time, e, f) (rw (and_assoc, and_assoc))

-- The slots that a port declares, by its flags.

slot-if : (t : Bool) (x j : ℕ) → j < slots → eqb j (slot_if t x) ≡ (t && eqb j x)
unfolding slot_if
slot-if true x j h = refl
slot-if false x j h = ne_eqb j slots (λ e. omega arith)

-- class ID 5 is class B, and 6 is class A
slot-b : (q : ℕ) → slot_of (class_id class_b) q ≡ q
unfolding slot_of class_id
slot-b q = omega arith

slot-a : (q : ℕ) → slot_of (class_id class_a) q ≡ 8 + q
unfolding slot_of class_id
slot-a q = omega arith

-- a part by its place
pub part_at : {A : Type 0} (n k : ℕ) (from : List ℕ → A) (s : List ℕ) (p : ℕ) (d : A) → p < k → get_or (parts n from k s) p d ≡ from (take n (drop (p * n) s))
unfolding parts
part_at n zero from s p d h = absurd (omega arith)
part_at n (suc k) from s zero d h = rw (zero-mul n)
part_at n (suc k) from s (suc p) d h =
    part_at n k from (drop n s) p d (omega arith) ∙ ap (λ (t : List ℕ). from (take n t)) (drop-parts n p s)

supports-b : (q : List ℕ) → (to_port q).supports_b ≡ eqb (get_or q 0 0 / 64 % 2) 1
unfolding to_port port_from fields is_one
supports-b q = rw (← (be_at-one q 0))

supports-a : (q : List ℕ) → (to_port q).supports_a ≡ eqb (get_or q 0 0 / 128) 1
unfolding to_port port_from fields is_one
supports-a q = rw (← (be_at-one q 0))

module _ (st : Settings) where
  -- of a port with the settings q
  own-slots : (p : ℕ) (q : List ℕ) → port_at st p ≡ to_port q → (j : ℕ) → j < slots
      → is_either (slot_if (eqb (get_or q 0 0 / 64 % 2) 1) st.priority_b) (slot_if (eqb (get_or q 0 0 / 128) 1) (8 + st.priority_a)) j ≡ declares_slot st p j
  unfolding is_either declares_slot is_own_slot supports class_priority
  own-slots p q e j h =
      rw (
        e,
        supports-b q,
        supports-a q,
        slot-b,
        slot-a,
        slot-if (eqb (get_or q 0 0 / 64 % 2) 1) st.priority_b j h,
        slot-if (eqb (get_or q 0 0 / 128) 1) (8 + st.priority_a) j h,
      )

  module _ (clock : ℕ) where
    port-sender : (p : ℕ) (q s : List ℕ) → port_at st p ≡ to_port q → sender_size ≤ length s
        → sender_beside (8 + st.priority_a) st.priority_b clock q s ≡ sender_formed (declares_slot st p) clock s
    unfolding sender_beside sender_formed
    port-sender p q s e h =
        let long : length (take in_sender.leave_all s) ≡ slots = length-take-le in_sender.leave_all s (omega arith) in
        ap (λ (v : Bool). v && leave_all_formed clock (drop in_sender.leave_all s))
        (same-slots (is_either (slot_if (eqb (get_or q 0 0 / 64 % 2) 1) st.priority_b) (slot_if (eqb (get_or q 0 0 / 128) 1) (8 + st.priority_a))) (declares_slot st p) 0
        (take in_sender.leave_all s) (λ j l. own-slots p q e j (omega (arith, long))))

    pub pairs-senders : (k p : ℕ) (qs ss : List ℕ) → ((i : ℕ) → i < k → port_at st (p + i) ≡ to_port (take port_size (drop (i * port_size) qs))) → k * sender_size ≤ length ss
        → all_pairs (sender_beside (8 + st.priority_a) st.priority_b clock) (parts port_size same k qs) (parts sender_size same k ss) ≡ senders_formed st clock p k ss
    unfolding parts senders_formed
    pairs-senders zero p qs ss h l = refl
    pairs-senders (suc k) p qs ss h l =
        let first : port_at st p ≡ to_port (take port_size qs) = ap (port_at st) (omega arith) ∙ h 0 (omega arith) in
        let other : (i : ℕ) → i < k → port_at st (suc p + i) ≡ to_port (take port_size (drop (i * port_size) (drop port_size qs))) =
        λ i g. ap (port_at st) (omega arith) ∙ h (suc i) (omega arith) ∙ rw (drop-parts port_size i qs) in
        rw (
          port-sender p (take port_size qs) (take sender_size ss) first (omega (arith, length-take-le sender_size ss (omega arith))),
          pairs-senders k (suc p) (drop port_size qs) (drop sender_size ss) other (omega (arith, length-drop sender_size ss)),
        )

-- what closes the tests of what a port sends by itself
pub ruleset by_octets = (rules, sender-tests)
