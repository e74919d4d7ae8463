-- What a port sends by itself, in octets: 16 Applicants of Domain values and a LeaveAll machine are coded in 21. What the form rules say of
-- them depends on the port's place, so that it is proved beside the coding, port by port.
use mathlib.Core.Path.{◌≡◌, refl, sym, ◌∙◌, ap}
use mathlib.Core.List.{List, [], ◌∷◌}
use mathlib.Core.Bool.{Bool, true, false, cond, ◌&&◌, false≢true}
use Prim.Native.Nat.{ℕ, zero, suc, ◌+◌, ◌*◌, ◌^◌, ◌≤◌, ◌<◌}
use native.Mathlib.Omega.{arith}
use lib.ListN.{length, get_or, take, drop, replicate, length-drop, get_or-eq_default}
use lib.Seq.{take_at, drop_at, length-take-le}
use lib.Dec.{leb, ltb}
use borrow.Author.Tests.{le-leb, leb-true, lt-ltb, ltb-true, ne_eqb}
use Rattle.octets.specs.Fields.{fields, Fit, width, flat}
use Rattle.octets.specs.Parts.{zeros}
use Rattle.octets.proofs.Fields.{length-packed-any, fields-of-packed, fields_fit, fit_at, packed-zeros}
use Rattle.model.specs.Layout.{applicant_size, in_sender, leave_all_widths, sender_size, slots}
use Rattle.model.specs.Lists.{All, parts, Octets, all_zero, tabulate}
use Rattle.model.specs.Applicant.{named, octet_of}
use Rattle.model.specs.Machines.{Applicant, no_applicant, applicant, born, applicant_of, with}
use Rattle.model.specs.LeaveAll.{LeaveAllState, active, passive, LeaveAll, begun, leave_all_time, leave_all_next, leave_all_entry, leave_all_row, leave_all_column, starting}
use Rattle.model.specs.State.{Settings, Sender, no_sender, no_port, port_at, supports, is_own_slot, declares_slot, started_sender}
use Rattle.model.specs.Sending.{standing_number, to_standing, applicant_octets, to_applicant, applicant_formed, both_octets, to_both, both_formed, anything, domain_applicant, to_domain_applicant, active_number, to_active, leave_all_octets, to_leave_all, sender_octets, to_sender, domain_standing, slots_standing, leave_all_formed, sender_formed}
use Rattle.model.specs.Table.{every_part, senders_formed}
use Rattle.model.specs.Laid.{FitSender}
use Rattle.model.proofs.Lists.{and_left, and_right, and_both, all-each, all_replicate, length-tabulate}
use Rattle.model.proofs.ApplicantEntries.{tables}
use Rattle.model.proofs.Parts.{◌also◌, octets-at, packed-whole, octets-append, octets-packed, octets-flat, length-parts, length-flat-sized, Sized, flat-zeros}
use Rattle.model.proofs.Valid.{GoodApplicant, applicant_number, ValidSlots, ValidSender}
use Rattle.model.proofs.Coded.{Coded, many-back, many-keep, many-forth}
use Rattle.model.proofs.ApplicantOctets.{Values, applicant-octets, applicant-coded, both_coded, renamed-coded}

-- An Applicant of a Domain value, which has no values besides its key.

abbrev AnyUnit : Unit {0} → Type 0
AnyUnit u = Unit {0}

none_written : (s : List ℕ) → length s ≡ 0 → [] ≡ s
none_written [] l = refl
none_written (n ∷ s) l = absurd (omega (arith, l))

unit-values : Values 0 (λ (u : Unit {0}). []) (λ r. tt) anything AnyUnit
unit-values = record { size = λ u g. refl; back = λ u g. refl; keeps = λ u g. refl; forth = λ s l o h. none_written s l; valid = λ s l o h. tt }

slot-coded : Coded applicant_size domain_applicant to_domain_applicant (applicant_formed anything) (GoodApplicant AnyUnit) no_applicant
unfolding domain_applicant to_domain_applicant
slot-coded = applicant-coded unit-values

good-slot : (a : Applicant (Unit {0})) → GoodApplicant AnyUnit a
good-slot no_applicant = tt
good-slot (applicant x) = tt

-- sixteen of them
abbrev Sixteen : List (Applicant (Unit {0})) → Type 0
Sixteen l = length l ≡ slots

none-behind : (s : List ℕ) → length s ≡ slots → all_zero (drop (slots * applicant_size) s) ≡ true
unfolding all_zero
none-behind s l = ap all_zero (none_left (drop slots s) (length-drop slots s ∙ omega (arith, l)))
  where
    none_left : (r : List ℕ) → length r ≡ 0 → r ≡ []
    none_left r e = sym (none_written r e)

slots-coded : Coded slots (flat domain_applicant) (parts applicant_size to_domain_applicant slots) (every_part applicant_size (applicant_formed anything) slots) Sixteen (replicate slots no_applicant)
slots-coded = record {
  size = λ l e. length-flat-sized applicant_size domain_applicant l (all-each (Sized applicant_size domain_applicant) (λ a. slot-coded.size a (good-slot a)) l) ∙ omega (arith, e);
  back = λ l e. many-back slot-coded slots slots (omega arith) l e (all-good l);
  keeps = λ l e. many-keep slot-coded slots slots (omega arith) l e (all-good l);
  forth = λ s l o h. many-forth slot-coded slots slots (omega arith) s (l ∙ omega arith) o h (none-behind s l);
  valid = λ s l o h. length-parts applicant_size to_domain_applicant slots s;
  blank = flat-zeros applicant_size domain_applicant no_applicant slot-coded.blank (replicate slots no_applicant) (all_replicate (λ a. a ≡ no_applicant) slots no_applicant refl);
  good = refl;
}
  where
    all-good : (l : List (Applicant (Unit {0}))) → All (GoodApplicant AnyUnit) l
    all-good = all-each (GoodApplicant AnyUnit) good-slot

-- The LeaveAll machine.

unfoldable pub flag_formed : List ℕ → Bool
flag_formed s = leb (get_or (fields leave_all_widths 0 s) 0 0) 1

abbrev TimerFits : LeaveAll → Type 0
TimerFits m = m.start < 2 ^ 32

active-few : (q : LeaveAllState) → active_number q ≤ 1
unfolding active_number
active-few active = omega arith
active-few passive = omega arith

active-back : (q : LeaveAllState) → to_active (active_number q) ≡ q
unfolding to_active active_number
active-back active = refl
active-back passive = refl

active-forth : (n : ℕ) → n ≤ 1 → active_number (to_active n) ≡ n
unfolding to_active active_number
active-forth zero h = refl
active-forth (suc zero) h = refl
active-forth (suc (suc n)) h = absurd (omega arith)

leave-all-fit : (m : LeaveAll) → TimerFits m → Fit leave_all_widths (active_number m.state ∷ m.start ∷ [])
unfolding Fit
leave-all-fit m f = omega (arith, active-few m.state) also f also tt

leave-all-read : (m : LeaveAll) → TimerFits m → fields leave_all_widths 0 (leave_all_octets m) ≡ active_number m.state ∷ m.start ∷ []
unfolding leave_all_octets
leave-all-read m f = fields-of-packed leave_all_widths (active_number m.state ∷ m.start ∷ []) (leave-all-fit m f)

leave-all-coded : Coded 5 leave_all_octets to_leave_all flag_formed TimerFits (begun 0)
leave-all-coded = record { size = λ m f. size m; back = back; keeps = keeps; forth = forth; valid = valid; blank = blank; good = good }
  where
    size : (m : LeaveAll) → length (leave_all_octets m) ≡ 5
    size m = unfold leave_all_octets width in (length-packed-any leave_all_widths (active_number m.state ∷ m.start ∷ []) refl)

    back : (m : LeaveAll) → TimerFits m → to_leave_all (leave_all_octets m) ≡ m
    back m f = unfold to_leave_all in (rw (leave-all-read m f, active-back m.state))

    keeps : (m : LeaveAll) → TimerFits m → flag_formed (leave_all_octets m) ≡ true
    keeps m f = unfold flag_formed in (rw (leave-all-read m f) (le-leb (active_number m.state) 1 (active-few m.state)))

    forth : (s : List ℕ) → length s ≡ 5 → Octets s → flag_formed s ≡ true → leave_all_octets (to_leave_all s) ≡ s
    forth s l o h =
        unfold leave_all_octets to_leave_all flag_formed in
        (rw (active-forth (get_or (fields leave_all_widths 0 s) 0 0) (leb-true (get_or (fields leave_all_widths 0 s) 0 0) 1 h))
        (unfold fields in (packed-whole leave_all_widths s (l ∙ unfold width in refl) o)))

    valid : (s : List ℕ) → length s ≡ 5 → Octets s → flag_formed s ≡ true → TimerFits (to_leave_all s)
    valid s l o h = unfold to_leave_all in (fit_at leave_all_widths (fields leave_all_widths 0 s) (fields_fit leave_all_widths 0 s (octets-at s o)) 1)

    blank : leave_all_octets (begun 0) ≡ zeros 5
    blank = unfold leave_all_octets begun leave_all_next leave_all_entry leave_all_row leave_all_column starting active_number width in (packed-zeros leave_all_widths)

    good : TimerFits (begun 0)
    good = unfold begun leave_all_next leave_all_entry leave_all_row leave_all_column starting in (omega arith)

-- Both, one behind the other: what fits is read back as it was written, and octets with states and a flag are written back as they were read.

unfoldable pub sender_rule : List ℕ → Bool
sender_rule s = both_formed slots (every_part applicant_size (applicant_formed anything) slots) flag_formed s

pub sender-coded : Coded sender_size sender_octets to_sender sender_rule FitSender no_sender
unfolding sender_octets to_sender sender_rule no_sender both_octets to_both
sender-coded =
    renamed-coded (both_coded slots-coded leave-all-coded) FitSender (λ x. (x.domains, x.leave_all)) (λ y. record { domains = y.0; leave_all = y.1 })
    (λ x. refl) (λ y. refl) (λ x g. (g.slotted, g.start)) (λ y g. record { slotted = g.0; start = g.1 })

pub sender-octets : (x : Sender) → Octets (sender_octets x)
unfolding sender_octets leave_all_octets domain_applicant
sender-octets x =
    octets-append (flat domain_applicant x.domains) (leave_all_octets x.leave_all)
    (octets-flat domain_applicant (applicant-octets 0 (λ u. []) (λ u. tt)) x.domains)
    (octets-packed leave_all_widths (active_number x.leave_all.state ∷ x.leave_all.start ∷ []))

-- The rules of one port.

slot_is : (a : Applicant (Unit {0})) → domain_applicant a ≡ applicant_number a ∷ []
unfolding domain_applicant applicant_octets applicant_number
slot_is no_applicant = refl
slot_is (applicant x) = refl

slots-formed : (own : ℕ → Bool) (i : ℕ) (l : List (Applicant (Unit {0}))) → ValidSlots own i l → slots_standing own i (flat domain_applicant l) ≡ true
unfolding slots_standing flat
slots-formed own i [] v = refl
slots-formed own i (a ∷ l) v =
    rw (slot_is a)
    (and_both (domain_standing (own i) (applicant_number a)) (slots_standing own (suc i) (flat domain_applicant l)) v.0 (slots-formed own (suc i) l v.1))

pub valid-sender-fits : (own : ℕ → Bool) (clock : ℕ) → clock < 2 ^ 32 → (x : Sender) → ValidSender own clock x → FitSender x
valid-sender-fits own clock small x v = record { slotted = v.slotted; start = omega (arith, v.leave_all.past) }

pub sender-formed : (own : ℕ → Bool) (clock : ℕ) → clock < 2 ^ 32 → (x : Sender) → ValidSender own clock x → sender_formed own clock (sender_octets x) ≡ true
unfolding sender_formed leave_all_formed sender_octets
sender-formed own clock small x v =
    let ds = flat domain_applicant x.domains in
    let m = x.leave_all in
    let long : length ds ≡ slots = slots-coded.size x.domains v.slotted in
    let fits : TimerFits m = omega (arith, v.leave_all.past) in
    rw (take_at ds (leave_all_octets m) slots long, drop_at ds (leave_all_octets m) slots long, leave-all-read m fits)
    (and_both (slots_standing own 0 ds) _ (slots-formed own 0 x.domains v.domains)
    (and_both (leb (active_number m.state) 1) _ (le-leb (active_number m.state) 1 (active-few m.state))
    (and_both (leb m.start clock) _ (le-leb m.start clock v.leave_all.past) (lt-ltb clock (m.start + leave_all_time) v.leave_all.recent))))

-- an octet that stands for a Domain value is that of a state
no-state : (own : Bool) (n : ℕ) → 7 ≤ n → domain_standing own n ≡ true → ⊥
unfolding domain_standing
no-state true n h e = false≢true (rw (ne_eqb n 1 (omega arith), ne_eqb n 4 (omega arith), ne_eqb n 5 (omega arith)) at e)
no-state false n h e = false≢true (rw (ne_eqb n 0 (omega arith)) at e)

module _ (own : Bool) where
  number_read : (n : ℕ) → domain_standing own n ≡ true → applicant_number (to_domain_applicant (n ∷ [])) ≡ n
  unfolding domain_standing applicant_number to_domain_applicant to_applicant standing_number to_standing named octet_of
  number_read n = go own n
    where
      go : (t : Bool) (n : ℕ) → domain_standing t n ≡ true → applicant_number (to_domain_applicant (n ∷ [])) ≡ n
      go t zero e = refl
      go t (suc zero) e = refl
      go t (suc (suc zero)) e = refl
      go t (suc (suc (suc zero))) e = refl
      go t (suc (suc (suc (suc zero)))) e = refl
      go t (suc (suc (suc (suc (suc zero))))) e = refl
      go t (suc (suc (suc (suc (suc (suc zero)))))) e = refl
      go t (suc (suc (suc (suc (suc (suc (suc n))))))) e = absurd (no-state t (suc (suc (suc (suc (suc (suc (suc n))))))) (omega arith) e)

  slot-rule : (n : ℕ) → domain_standing own n ≡ true → applicant_formed anything (n ∷ []) ≡ true
  unfolding domain_standing applicant_formed all_zero
  slot-rule n = go own n
    where
      go : (t : Bool) (n : ℕ) → domain_standing t n ≡ true → applicant_formed anything (n ∷ []) ≡ true
      go t zero e = refl
      go t (suc zero) e = refl
      go t (suc (suc zero)) e = refl
      go t (suc (suc (suc zero))) e = refl
      go t (suc (suc (suc (suc zero)))) e = refl
      go t (suc (suc (suc (suc (suc zero))))) e = refl
      go t (suc (suc (suc (suc (suc (suc zero)))))) e = refl
      go t (suc (suc (suc (suc (suc (suc (suc n))))))) e = absurd (no-state t (suc (suc (suc (suc (suc (suc (suc n))))))) (omega arith) e)

slots-rule : (own : ℕ → Bool) (i k : ℕ) (s : List ℕ) → length s ≡ k → slots_standing own i s ≡ true → every_part applicant_size (applicant_formed anything) k s ≡ true
unfolding every_part slots_standing
slots-rule own i zero s l h = refl
slots-rule own i (suc k) [] l h = absurd (omega (arith, l))
slots-rule own i (suc k) (n ∷ s) l h =
    and_both (applicant_formed anything (n ∷ [])) (every_part applicant_size (applicant_formed anything) k s)
    (slot-rule (own i) n (and_left (domain_standing (own i) n) (slots_standing own (suc i) s) h))
    (slots-rule own (suc i) k s (omega (arith, l)) (and_right (domain_standing (own i) n) (slots_standing own (suc i) s) h))

slots-valid : (own : ℕ → Bool) (i k : ℕ) (s : List ℕ) → length s ≡ k → slots_standing own i s ≡ true → ValidSlots own i (parts applicant_size to_domain_applicant k s)
unfolding parts slots_standing
slots-valid own i zero s l h = tt
slots-valid own i (suc k) [] l h = absurd (omega (arith, l))
slots-valid own i (suc k) (n ∷ s) l h =
    let e = and_left (domain_standing (own i) n) (slots_standing own (suc i) s) h in
    (rw (number_read (own i) n e) e, slots-valid own (suc i) k s (omega (arith, l)) (and_right (domain_standing (own i) n) (slots_standing own (suc i) s) h))

module _ (own : ℕ → Bool) (clock : ℕ) (s : List ℕ) (l : length s ≡ sender_size) (h : sender_formed own clock s ≡ true) where
  first-slots : length (take in_sender.leave_all s) ≡ slots
  first-slots = length-take-le in_sender.leave_all s (omega (arith, l))

  slots-stand : slots_standing own 0 (take in_sender.leave_all s) ≡ true
  unfolding sender_formed
  slots-stand = and_left (slots_standing own 0 (take in_sender.leave_all s)) (leave_all_formed clock (drop in_sender.leave_all s)) h

  machine-formed : leave_all_formed clock (drop in_sender.leave_all s) ≡ true
  unfolding sender_formed
  machine-formed = and_right (slots_standing own 0 (take in_sender.leave_all s)) (leave_all_formed clock (drop in_sender.leave_all s)) h

  pub rule-kept : sender_rule s ≡ true
  unfolding sender_rule both_formed leave_all_formed flag_formed
  rule-kept =
      and_both (every_part applicant_size (applicant_formed anything) slots (take slots s)) (flag_formed (drop slots s))
      (slots-rule own 0 slots (take in_sender.leave_all s) first-slots slots-stand)
      (and_left (leb (get_or (fields leave_all_widths 0 (drop in_sender.leave_all s)) 0 0) 1) _ machine-formed)

  pub sender-valid : ValidSender own clock (to_sender s)
  unfolding to_sender to_leave_all leave_all_formed
  sender-valid =
      let vs = fields leave_all_widths 0 (drop in_sender.leave_all s) in
      let start = get_or vs 1 0 in
      let times = and_right (leb (get_or vs 0 0) 1) (leb start clock && ltb clock (start + leave_all_time)) machine-formed in
      record {
        slotted = length-parts applicant_size to_domain_applicant slots (take in_sender.leave_all s);
        domains = slots-valid own 0 slots (take in_sender.leave_all s) first-slots slots-stand;
        leave_all = record {
          past = leb-true start clock (and_left (leb start clock) (ltb clock (start + leave_all_time)) times);
          recent = ltb-true clock (start + leave_all_time) (and_right (leb start clock) (ltb clock (start + leave_all_time)) times);
        };
      }

-- started: VP in each slot that the port declares, and its timer at the clock 0
slot-started : (t : Bool) → domain_standing t (applicant_number (cond {A = Applicant (Unit {0})} t (born tt) no_applicant)) ≡ true
unfolding domain_standing applicant_number standing_number born applicant_of with tables
slot-started true = refl
slot-started false = refl

slots-started : (own : ℕ → Bool) (n i : ℕ) → ValidSlots own i (tabulate n i (λ j. cond (own j) (born tt) no_applicant))
unfolding tabulate
slots-started own zero i = tt
slots-started own (suc n) i = (slot-started (own i), slots-started own n (suc i))

pub started-valid : (st : Settings) (p : ℕ) → ValidSender (declares_slot st p) 0 (started_sender st p)
unfolding started_sender
started-valid st p = record {
  slotted = length-tabulate _ slots 0;
  domains = slots-started (declares_slot st p) slots 0;
  leave_all = unfold begun leave_all_next leave_all_entry leave_all_row leave_all_column starting in record { past = omega arith; recent = omega arith };
}

-- a place that is no port sends nothing
pub started_none : (st : Settings) (p : ℕ) → length st.ports ≤ p → started_sender st p ≡ no_sender
unfolding started_sender no_sender declares_slot port_at is_own_slot supports no_port tabulate
started_none st p h = rw (get_or-eq_default st.ports no_port {n = p} h)

-- The rules of all ports, from a place on.

module _ (st : Settings) (clock : ℕ) where
  pub senders-formed : (p k : ℕ) (l : List Sender) → k ≤ length l → All (Sized sender_size sender_octets) l
      → ((q : ℕ) → q < k → sender_formed (declares_slot st (p + q)) clock (sender_octets (get_or l q no_sender)) ≡ true)
      → senders_formed st clock p k (flat sender_octets l) ≡ true
  unfolding senders_formed flat
  senders-formed p zero l h z f = refl
  senders-formed p (suc k) [] h z f = absurd (omega arith)
  senders-formed p (suc k) (x ∷ l) h z f =
      let here : sender_formed (declares_slot st p) clock (sender_octets x) ≡ true = ap (λ (q : ℕ). sender_formed (declares_slot st q) clock (sender_octets x)) (omega arith) ∙ f 0 (omega arith) in
      rw (take_at (sender_octets x) (flat sender_octets l) sender_size z.0, drop_at (sender_octets x) (flat sender_octets l) sender_size z.0)
      (and_both _ (senders_formed st clock (suc p) k (flat sender_octets l)) here
      (senders-formed (suc p) k l (omega arith) z.1
      (λ q g. ap (λ (r : ℕ). sender_formed (declares_slot st r) clock (sender_octets (get_or l q no_sender))) (omega arith) ∙ f (suc q) (omega arith))))

  pub senders-rule : (p k : ℕ) (s : List ℕ) → k * sender_size ≤ length s → senders_formed st clock p k s ≡ true → every_part sender_size sender_rule k s ≡ true
  unfolding every_part senders_formed
  senders-rule p zero s h f = refl
  senders-rule p (suc k) s h f =
      let first = sender_formed (declares_slot st p) clock (take sender_size s) in
      let rest = senders_formed st clock (suc p) k (drop sender_size s) in
      and_both (sender_rule (take sender_size s)) (every_part sender_size sender_rule k (drop sender_size s))
      (rule-kept (declares_slot st p) clock (take sender_size s) (length-take-le sender_size s (omega arith)) (and_left first rest f))
      (senders-rule (suc p) k (drop sender_size s) (omega (arith, length-drop sender_size s)) (and_right first rest f))

  pub senders-valid : (p k m : ℕ) (s : List ℕ) → k ≤ m → k * sender_size ≤ length s → senders_formed st clock p k s ≡ true
      → (q : ℕ) → q < k → ValidSender (declares_slot st (p + q)) clock (get_or (parts sender_size to_sender m s) q no_sender)
  unfolding parts senders_formed
  senders-valid p zero m s h e f q g = absurd (omega arith)
  senders-valid p (suc k) zero s h e f q g = absurd (omega arith)
  senders-valid p (suc k) (suc m) s h e f zero g =
      let first = sender_formed (declares_slot st p) clock (take sender_size s) in
      let zero_more : p + 0 ≡ p = omega arith in
      rw zero_more
      (sender-valid (declares_slot st p) clock (take sender_size s) (length-take-le sender_size s (omega arith))
      (and_left first (senders_formed st clock (suc p) k (drop sender_size s)) f))
  senders-valid p (suc k) (suc m) s h e f (suc q) g =
      let first = sender_formed (declares_slot st p) clock (take sender_size s) in
      let rest = senders_formed st clock (suc p) k (drop sender_size s) in
      let one_more : p + suc q ≡ suc p + q = omega arith in
      rw one_more (senders-valid (suc p) k m (drop sender_size s) (omega arith) (omega (arith, length-drop sender_size s)) (and_right first rest f) q (omega arith))
