-- Demand 1: what each call answers for every input. A refused call alters no octet and gives zero for every other part of its
-- answer; and each number is given exactly when 01's table says so, in 01's order. Nothing is asked of table, settings, frame,
-- time, place or buffer, but that `receive-nothing-new` is about a table of octets. (report gives back no table: it is a function of
-- the table that it is handed.)
use mathlib.Core.Path.{◌≡◌, refl, sym, ◌∙◌, ap, subst}
use mathlib.Core.Logic.Iff
use mathlib.Core.Logic.{◌↔◌, ◌⊎◌, inl, inr, ⊎_elim}
use mathlib.Core.List.Memᴰ
use mathlib.Core.List.{List, [], ◌∷◌, Memᴰ}
use mathlib.Core.Bool.{Bool, true, false, cond, not, ◌&&◌, ◌||◌, true≢false, false≢true}
use Prim.Native.Nat.{ℕ, zero, suc, ◌+◌, ◌-◌, ◌%◌, ◌≤◌, ◌<◌}
use native.Mathlib.Omega.{arith}
use lib.ListN.{length, get_or}
use lib.Dec.{ltb, leb, eqb}
use borrow.Author.Tests.{ltb-true, ltb-false, leb-true, leb-false, eqb-true, eqb-false, not-true, not-false, lt-ltb, le-ltb, eq-eqb, ne_eqb}
use Rattle.octets.specs.Be.{be_at}
use Rattle.octets.specs.Parts.{part}
use Rattle.model.specs.Layout.{table_length}
use Rattle.model.specs.FrameLayout.{longest_pdu}
use Rattle.model.specs.Lists.{All, Octets}
use Rattle.model.specs.State.{Settings, Bridge}
use Rattle.model.specs.Registrations.{refused, Answer, received, apply_all, add, together, ids, joins}
use Rattle.model.specs.Frames.{Attribute, TypeOctet, not_allowed, unknown, known, type_octet, first_length, three_length, has_four, Vector, vector_at, vector_end, overpacked, overflows, InList, bad_vector, list_end, vector_head, passed_over, strange_leave, strange_vector, vector_in, checked_in, typed_in, InPdu, bad_message, pdu_end, list_skipped, list_of, list_length, list_at, message_end, end_mark, header_in, message_in, Walk, fault, found, also, both, vectors_from, vectors, messages_from, messages, walk, walked, frame_acts, reading, wrong_port}
use Rattle.model.specs.Settling.{advance}
use Rattle.model.specs.Declarations.{declarations}
use Rattle.model.specs.Reports.{Report, refused_report, report}
use Rattle.model.specs.Table.{decode, clock_field, formed, settings_formed}
use Rattle.model.specs.Calls.{Call, start_on, leaves, on_table, receive, receive_on, advance_on, WriteCall, refused_write, written_to, write_on, report_on}
use Rattle.model.proofs.Valid.{Rising, Valid}
use Rattle.model.proofs.Tables.{valid-decode}
use Rattle.model.proofs.Admission.{all-mem}
use Rattle.model.proofs.FrameOrder.{acts-ids, held-ids}
use Rattle.model.specs.Writing.{Written, write}

-- what holds of both ways of a choice holds of the choice
module _ {A : Type 0} (P : A → Type 0) where
  pub cond_either : (b : Bool) (x y : A) → P x → P y → P (cond b x y)
  cond_either true x y h k = h
  cond_either false x y h k = k

-- a function of a choice is a choice
module _ {A B : Type 0} (f : A → B) where
  pub cond_of : (b : Bool) (x y : A) → f (cond b x y) ≡ cond b (f x) (f y)
  cond_of true x y = refl
  cond_of false x y = refl

-- Refusals alter nothing.

-- start, receive and advance leave the table
unfoldable pub Unaltered : List ℕ → Call → Type 0
Unaltered t c = (c.number ≡ 0 → ⊥) → c.table ≡ t

pub start-refused : (t s : List ℕ) → ((start_on t s).number ≡ 0 → ⊥) → (start_on t s).table ≡ t
unfolding start_on Unaltered
start-refused t s =
    cond_either (Unaltered t) (not (eqb (length t) table_length)) _ _ (λ n. refl)
    (cond_either (Unaltered t) (not (settings_formed s)) _ _ (λ n. refl) (λ n. absurd (n refl)))

pub on-table-refused : (t : List ℕ) (f : Bridge → Answer) → Unaltered t (on_table t f)
unfolding on_table leaves Unaltered
on-table-refused t f =
    cond_either (Unaltered t) (formed t) _ _
    (cond_either (Unaltered t) (eqb (f (decode t)).number 0) _ _ (λ n. absurd (n refl)) (λ n. refl)) (λ n. refl)

pub receive-refused : (t : List ℕ) (p : ℕ) (pdu : List ℕ) → ((receive_on t p pdu).number ≡ 0 → ⊥) → (receive_on t p pdu).table ≡ t
unfolding receive_on Unaltered
receive-refused t p pdu = on-table-refused t (λ b. receive b p pdu)

pub advance-refused : (t : List ℕ) (now : ℕ) → ((advance_on t now).number ≡ 0 → ⊥) → (advance_on t now).table ≡ t
unfolding advance_on Unaltered
advance-refused t now = on-table-refused t (λ b. advance b now)

-- write leaves table and buffer, and its length and next place are zero
Unwritten : List ℕ → List ℕ → WriteCall → Type 0
Unwritten t buffer w = (w.number ≡ 0 → ⊥) → w ≡ refused_write w.number t buffer

refused-unwritten : (n : ℕ) (t buffer : List ℕ) → Unwritten t buffer (refused_write n t buffer)
unfolding Unwritten refused_write
refused-unwritten n t buffer h = refl

write-unwritten : (t : List ℕ) (p place : ℕ) (buffer : List ℕ) → Unwritten t buffer (write_on t p place buffer)
unfolding write_on written_to Unwritten
write-unwritten t p place buffer =
    let none : (n : ℕ) → Unwritten t buffer (refused_write n t buffer) = λ n. refused-unwritten n t buffer in
    cond_either (Unwritten t buffer) (not (formed t)) _ _ (none 12)
    (cond_either (Unwritten t buffer) (wrong_port (decode t).settings p) _ _ (none 1)
    (cond_either (Unwritten t buffer) (ltb (length buffer) longest_pdu) _ _ (none 10)
    (cond_either (Unwritten t buffer) (eqb (write (decode t) p place).number 0) _ _ (λ n. absurd (n refl)) (none _))))

pub write-refused : (t : List ℕ) (p place : ℕ) (buffer : List ℕ) → ((write_on t p place buffer).number ≡ 0 → ⊥) →
    ((write_on t p place buffer).length ≡ 0) × ((write_on t p place buffer).next ≡ 0) × ((write_on t p place buffer).buffer ≡ buffer)
    × ((write_on t p place buffer).table ≡ t)
unfolding Unwritten refused_write
write-refused t p place buffer n =
    let e = write-unwritten t p place buffer n in (
      ap (λ (w : WriteCall). w.length) e,
      ap (λ (w : WriteCall). w.next) e,
      ap (λ (w : WriteCall). w.buffer) e,
      ap (λ (w : WriteCall). w.table) e,
    )

-- report gives zero or none for all else
Unreported : Report → Type 0
Unreported r = (r.number ≡ 0 → ⊥) → r ≡ refused_report r.number

pub report-refused : (t : List ℕ) (p place : ℕ) → ((report_on t p place).number ≡ 0 → ⊥) →
    report_on t p place ≡ refused_report (report_on t p place).number
unfolding report_on report Unreported refused_report
report-refused t p place =
    cond_either Unreported (not (formed t)) _ _ (λ n. refl)
    (cond_either Unreported (wrong_port (decode t).settings p) _ _ (λ n. refl)
    (cond_either Unreported (ltb (length (decode t).streams) place) _ _ (λ n. refl) (λ n. absurd (n refl))))

-- Which number is given, and exactly when.

-- a number is one of a list
abbrev pub OneOf : List ℕ → ℕ → Type 0
OneOf [] n = ⊥
OneOf (m ∷ l) n = (n ≡ m) ⊎ OneOf l n

-- tests as facts
is-not : (b : Bool) → (not b ≡ true) ↔ (b ≡ false)
is-not b = (not-true b, λ e. rw e)

is-so : (b : Bool) → (not b ≡ false) ↔ (b ≡ true)
is-so b = (not-false b, λ e. rw e)

is-equal : (a b : ℕ) → (eqb a b ≡ true) ↔ (a ≡ b)
is-equal a b = (eqb-true a b, eq-eqb a b)

is-other : (a b : ℕ) → (eqb a b ≡ false) ↔ (a ≡ b → ⊥)
is-other a b = (eqb-false a b, ne_eqb a b)

pub is_below : (a b : ℕ) → (ltb a b ≡ true) ↔ (a < b)
is_below a b = (ltb-true a b, lt-ltb a b)

pub is-at-least : (a b : ℕ) → (ltb a b ≡ false) ↔ (b ≤ a)
is-at-least a b = (ltb-false a b, le-ltb a b)

-- a test with its number m, before all else that may be answered: m is given exactly when the test holds, if nothing after it
-- gives m; another number is given exactly when the test does not hold and what comes after it gives that number
module _ (b : Bool) (m r : ℕ) where
  pub given : (P : Type 0) → (r ≡ m → ⊥) → (b ≡ true) ↔ P → (cond b m r ≡ m) ↔ P
  given P n i = Iff.trans (go b) i
    where
      go : (a : Bool) → (cond a m r ≡ m) ↔ (a ≡ true)
      go true = (λ e. refl, λ e. refl)
      go false = (λ e. absurd (n e), λ e. absurd (false≢true e))

  given-after : (n : ℕ) (P Q : Type 0) → (m ≡ n → ⊥) → (b ≡ false) ↔ P → (r ≡ n) ↔ Q → (cond b m r ≡ n) ↔ (P × Q)
  given-after n P Q h i j = Iff.trans (go b) (Iff.and i j)
    where
      go : (a : Bool) → (cond a m r ≡ n) ↔ ((a ≡ false) × (r ≡ n))
      go true = (λ e. absurd (h e), λ a. absurd (true≢false a.0))
      go false = (λ e. (refl, e), λ a. a.1)

  pub not-given : (n : ℕ) → (m ≡ n → ⊥) → (r ≡ n → ⊥) → cond b m r ≡ n → ⊥
  not-given n h k = cond_either (λ (x : ℕ). x ≡ n → ⊥) b m r h k

-- where a test is the last, 0 is given exactly when it does not hold
pub last : (b : Bool) (m : ℕ) {P : Type 0} → (m ≡ 0 → ⊥) → (b ≡ false) ↔ P → (cond b m 0 ≡ 0) ↔ P
last true m n i = (λ e. absurd (n e), λ a. absurd (true≢false (i.1 a)))
last false m n i = (λ e. i.0 refl, λ a. refl)

-- start: 12 "for start a wrong table length only, then 11"
module _ (t s : List ℕ) where
  settings_number : ℕ
  settings_number = cond (not (settings_formed s)) 11 0

  start-number : (start_on t s).number ≡ cond (not (eqb (length t) table_length)) 12 settings_number
  unfolding start_on settings_number
  start-number = go (not (eqb (length t) table_length)) (not (settings_formed s)) _
    where
      go : (a b : Bool) (u : List ℕ) →
          (cond {A = Call} a record { number = 12; table = t } (cond b record { number = 11; table = t } record { number = 0; table = u })).number
          ≡ cond a 12 (cond b 11 0)
      go true b u = refl
      go false true u = refl
      go false false u = refl

  pub start-12 : ((start_on t s).number ≡ 12) ↔ (length t ≡ table_length → ⊥)
  unfolding settings_number
  start-12 =
      rw start-number
      (given _ 12 settings_number _ (not-given (not (settings_formed s)) 11 0 12 (λ e. omega arith) (λ e. omega arith))
      (Iff.trans (is-not _) (is-other (length t) table_length)))

  -- once the length is right, the settings' number
  start-settings : (n : ℕ) (P : Type 0) → (12 ≡ n → ⊥) → (settings_number ≡ n) ↔ P →
      ((start_on t s).number ≡ n) ↔ ((length t ≡ table_length) × P)
  start-settings n P h i =
      rw start-number
      (given-after _ 12 settings_number n _ P h (Iff.trans (is-so _) (is-equal (length t) table_length)) i)

  pub start-11 : ((start_on t s).number ≡ 11) ↔ ((length t ≡ table_length) × (settings_formed s ≡ false))
  unfolding settings_number
  start-11 = start-settings 11 _ (λ e. omega arith) (given _ 11 0 _ (λ e. omega arith) (is-not (settings_formed s)))

  pub start-0 : ((start_on t s).number ≡ 0) ↔ ((length t ≡ table_length) × (settings_formed s ≡ true))
  unfolding settings_number
  start-0 = start-settings 0 _ (λ e. omega arith) (last _ 11 (λ e. omega arith) (is-so (settings_formed s)))

  pub start-numbers : OneOf (0 ∷ 11 ∷ 12 ∷ []) (start_on t s).number
  unfolding settings_number
  start-numbers =
      rw start-number
      (cond_either (OneOf (0 ∷ 11 ∷ 12 ∷ [])) (not (eqb (length t) table_length)) 12 settings_number (inr (inr (inl refl)))
      (cond_either (OneOf (0 ∷ 11 ∷ 12 ∷ [])) (not (settings_formed s)) 11 0 (inr (inl refl)) (inl refl)))

-- 1: "port is 0 or above the bridge's ports"
pub wrong-port : (st : Settings) (p : ℕ) → (wrong_port st p ≡ true) ↔ ((p ≡ 0) ⊎ (length st.ports < p))
unfolding wrong_port
wrong-port st p = go (eqb p 0) (ltb (length st.ports) p) (is-equal p 0) (is_below (length st.ports) p)
  where
    go : (a b : Bool) → (a ≡ true) ↔ (p ≡ 0) → (b ≡ true) ↔ (length st.ports < p) →
        ((a || b) ≡ true) ↔ ((p ≡ 0) ⊎ (length st.ports < p))
    go true b i j = (λ e. inl (i.0 refl), λ e. refl)
    go false b i j = (λ e. inr (j.0 e), ⊎_elim (λ e. absurd (false≢true (i.1 e))) j.1)

-- 12 and then 1 stand in front of the other numbers of receive, write and report: a table in form, and a port of its bridge.
abbrev pub OnPort : List ℕ → ℕ → Type 0
OnPort t p = (formed t ≡ true) × (wrong_port (decode t).settings p ≡ false)

unfoldable pub fronted : List ℕ → ℕ → ℕ → ℕ
fronted t p r = cond (not (formed t)) 12 (cond (wrong_port (decode t).settings p) 1 r)

module _ (t : List ℕ) (p r : ℕ) where
  pub fronted-12 : (r ≡ 12 → ⊥) → (fronted t p r ≡ 12) ↔ (formed t ≡ false)
  unfolding fronted
  fronted-12 n = given _ 12 _ _ (not-given (wrong_port (decode t).settings p) 1 r 12 (λ e. omega arith) n) (is-not (formed t))

  pub fronted-1 : (r ≡ 1 → ⊥) → (fronted t p r ≡ 1) ↔ ((formed t ≡ true) × (wrong_port (decode t).settings p ≡ true))
  unfolding fronted
  fronted-1 n = given-after _ 12 _ 1 _ _ (λ e. omega arith) (is-so (formed t)) (given _ 1 r _ n Iff.rfl)

  pub fronted-past : (n : ℕ) (P : Type 0) → (12 ≡ n → ⊥) → (1 ≡ n → ⊥) → (r ≡ n) ↔ P → (fronted t p r ≡ n) ↔ (OnPort t p × P)
  unfolding fronted
  fronted-past n P h k i =
      Iff.trans (given-after _ 12 _ n _ _ h (is-so (formed t)) (given-after _ 1 r n _ P k Iff.rfl i))
      (λ a. ((a.0, a.1.0), a.1.1), λ a. (a.0.0, (a.0.1, a.1)))

-- every number that may be given
pub fronted-all : (P : ℕ → Type 0) (t : List ℕ) (p r : ℕ) → P 12 → P 1 → P r → P (fronted t p r)
unfolding fronted
fronted-all P t p r h k l = cond_either P (not (formed t)) 12 _ h (cond_either P (wrong_port (decode t).settings p) 1 r k l)

-- a bridge's own number is that of the call
own-number : (n : ℕ) → cond (eqb n 0) 0 n ≡ n
own-number n = go (eqb n 0) refl
  where
    go : (b : Bool) → eqb n 0 ≡ b → cond b 0 n ≡ n
    go true e = sym (eqb-true n 0 e)
    go false e = refl

pub on-table-number : (t : List ℕ) (f : Bridge → Answer) → (on_table t f).number ≡ cond (not (formed t)) 12 (f (decode t)).number
unfolding on_table leaves
on-table-number t f = go (formed t) (f (decode t))
  where
    left : (a : Answer) → (leaves t a).number ≡ a.number
    left a = cond_of (λ (c : Call). c.number) (eqb a.number 0) _ _ ∙ own-number a.number

    go : (b : Bool) (a : Answer) → (cond b (leaves t a) record { number = 12; table = t }).number ≡ cond (not b) 12 a.number
    go true a = left a
    go false a = refl

-- receive: 2 to 7 of the walk, then 8

-- what a walk from behind the ProtocolVersion may meet
abbrev Faults : Walk → Type 0
Faults (fault n) = (3 ≤ n) × (n ≤ 7)
Faults (found vs) = Unit {0}

also-faults : (v : Vector) (w : Walk) → Faults w → Faults (also v w)
unfolding also
also-faults v (fault n) h = h
also-faults v (found vs) h = tt

both-faults : (w x : Walk) → Faults w → Faults x → Faults (both w x)
unfolding both
both-faults (fault n) x h k = h
both-faults (found vs) (fault n) h k = k
both-faults (found vs) (found ws) h k = tt

-- what stands at a place has no other number
abbrev pub ListFaults : InList → Type 0
ListFaults (bad_vector n) = (3 ≤ n) × (n ≤ 7)
ListFaults list_end = Unit {0}
ListFaults (vector_head h) = Unit {0}
ListFaults (passed_over h) = Unit {0}

pub vector-faults : (version first : ℕ) (four : Bool) (l : List ℕ) (at : ℕ) → ListFaults (vector_in version first four l at)
unfolding vector_in strange_vector
vector-faults version first four l at =
    let h = be_at 2 l at in
    let three : ListFaults (bad_vector 3) = (omega arith, omega arith) in
    let six : ListFaults (bad_vector 6) = (omega arith, omega arith) in
    cond_either ListFaults (ltb (length l) (at + 2)) _ _ three
    (cond_either ListFaults (eqb h 0) _ _ tt
    (cond_either ListFaults (eqb version 0 && strange_leave h) _ _ six
    (cond_either ListFaults (ltb (length l) (vector_end first four at h)) _ _ three
    (cond_either ListFaults (strange_leave h || overpacked (part (at + 2 + first) (three_length (h % 8192)) l)) _ _
    (cond_either ListFaults (eqb version 0) _ _ six tt) tt))))

checked-faults : (k : Attribute) (l : List ℕ) (at : ℕ) (r : InList) → ListFaults r → ListFaults (checked_in k l at r)
unfolding checked_in
checked-faults k l at (bad_vector n) h = h
checked-faults k l at list_end h = cond_either ListFaults (eqb (at + 2) (length l)) _ _ tt (omega arith, omega arith)
checked-faults k l at (vector_head h) _ = cond_either ListFaults (overflows (vector_at k l at h)) _ _ (omega arith, omega arith) tt
checked-faults k l at (passed_over h) _ = tt

from-faults : (k : Attribute) (l : List ℕ) (at : ℕ) (r : InList) (rest : ℕ → Walk) → ListFaults r → ((e : ℕ) → Faults (rest e)) →
    Faults (vectors_from k l at r rest)
unfolding vectors_from
from-faults k l at (bad_vector n) rest h g = h
from-faults k l at list_end rest h g = tt
from-faults k l at (vector_head h) rest _ g = also-faults (vector_at k l at h) _ (g _)
from-faults k l at (passed_over h) rest _ g = g _

vectors-faults : (f version : ℕ) (k : Attribute) (l : List ℕ) (at : ℕ) → Faults (vectors f version k l at)
unfolding vectors typed_in
vectors-faults zero version k l at = (omega arith, omega arith)
vectors-faults (suc f) version k l at =
    from-faults k l at _ (vectors f version k l) (checked-faults k l at _ (vector-faults version (first_length k) (has_four k) l at)) (vectors-faults f version k l)

abbrev PduFaults : InPdu → Type 0
PduFaults (bad_message n) = (3 ≤ n) × (n ≤ 7)
PduFaults pdu_end = Unit {0}
PduFaults list_skipped = Unit {0}
PduFaults (list_of k) = Unit {0}

header-faults : (o : TypeOctet) (s : List ℕ) (at : ℕ) → PduFaults (header_in o s at)
unfolding header_in
header-faults not_allowed s at = (omega arith, omega arith)
header-faults unknown s at = cond_either PduFaults (ltb (length s) (message_end s at)) _ _ (omega arith, omega arith) tt
header-faults (known k) s at =
    cond_either PduFaults (not (eqb (get_or s (at + 1) 0) (first_length k))) _ _ (omega arith, omega arith)
    (cond_either PduFaults (ltb (length s) (message_end s at)) _ _ (omega arith, omega arith) tt)

message-faults : (version : ℕ) (s : List ℕ) (at : ℕ) → PduFaults (message_in version s at)
unfolding message_in
message-faults version s at =
    cond_either PduFaults (eqb at (length s)) _ _ tt
    (cond_either PduFaults (end_mark s at) _ _ tt
    (cond_either PduFaults (ltb (length s) (at + 4)) _ _ (omega arith, omega arith)
    (header-faults (type_octet version (get_or s at 0)) s at)))

list-faults : (version : ℕ) (s : List ℕ) (at : ℕ) (r : InPdu) (rest : Walk) → PduFaults r → Faults rest → Faults (messages_from version s at r rest)
unfolding messages_from
list-faults version s at (bad_message n) rest h g = h
list-faults version s at pdu_end rest h g = tt
list-faults version s at list_skipped rest h g = g
list-faults version s at (list_of k) rest h g = both-faults _ rest (vectors-faults (suc (list_length s at)) version k (list_at s at) 0) g

messages-faults : (f version : ℕ) (s : List ℕ) (at : ℕ) → Faults (messages f version s at)
unfolding messages
messages-faults zero version s at = (omega arith, omega arith)
messages-faults (suc f) version s at =
    list-faults version s at _ _ (message-faults version s at) (messages-faults f version s (message_end s at))

after_version : List ℕ → Walk
after_version s = messages (suc (length s)) (get_or s 0 0) s 1

later-faults : (s : List ℕ) (n : ℕ) → after_version s ≡ fault n → (3 ≤ n) × (n ≤ 7)
unfolding after_version
later-faults s n e = subst Faults e (messages-faults (suc (length s)) (get_or s 0 0) s 1)

pub walk-faults : (s : List ℕ) (n : ℕ) → walk s ≡ fault n → (2 ≤ n) × (n ≤ 7)
unfolding walk after_version
walk-faults s =
    let P : Walk → Type 0 = λ w. (n : ℕ) → w ≡ fault n → (2 ≤ n) × (n ≤ 7) in
    let two : P (fault 2) = λ n e. let k : 2 ≡ n = cc in (omega arith, omega arith) in
    let later : P (after_version s) = λ n e. let k = later-faults s n e in (omega arith, omega arith) in
    cond_either P (eqb (length s) 0) _ _ two (cond_either P (ltb longest_pdu (length s)) _ _ two later)

-- 2: "PDU has 0 octets or more than 1,500"
walk_2 : (s : List ℕ) → (walk s ≡ fault 2) ↔ ((length s ≡ 0) ⊎ (longest_pdu < length s))
unfolding walk after_version
walk_2 s = go (eqb (length s) 0) refl (ltb longest_pdu (length s)) refl
  where
    go : (a : Bool) → eqb (length s) 0 ≡ a → (b : Bool) → ltb longest_pdu (length s) ≡ b →
        (cond a (fault 2) (cond b (fault 2) (after_version s)) ≡ fault 2) ↔ ((length s ≡ 0) ⊎ (longest_pdu < length s))
    go true e b f = (λ k. inl (eqb-true _ _ e), λ k. refl)
    go false e true f = (λ k. inr (ltb-true _ _ f), λ k. refl)
    go false e false f = (
      λ k. let h = later-faults s 2 k in absurd (omega arith),
      ⊎_elim (λ h. absurd (eqb-false _ _ e h)) (λ h. absurd (omega (arith, ltb-false longest_pdu (length s) f))),
    )

-- 8 and 14 are tested as "at most 64"
pub room-number : (n m : ℕ) → cond (leb m 64) 0 n ≡ cond {A = ℕ} (ltb 64 m) n 0
room-number n m = go (leb m 64) refl
  where
    go : (a : Bool) → leb m 64 ≡ a → cond a 0 n ≡ cond {A = ℕ} (ltb 64 m) n 0
    go true e = rw (le-ltb 64 m (leb-true m 64 e))
    go false e = rw (lt-ltb 64 m (leb-false m 64 e))

-- The number of a frame on a port of the bridge, of either protocol: that of the fault which its walk meets, or, where it is read,
-- m if what is held with what it asks for is more than 64.
pub record Numbered (number m : ℕ) (Acts : Type 0) (Meets : ℕ → Type 0) (Reads : Acts → Type 0) (count : Acts → ℕ) : Type 0 where
  pub either : ((n : ℕ) × Meets n) ⊎ ((a : Acts) × Reads a)
  pub within : (n : ℕ) → Meets n → (2 ≤ n) × (n ≤ 7)
  pub met : (n : ℕ) → Meets n → number ≡ n
  pub read : (a : Acts) → Reads a → number ≡ cond (ltb 64 (count a)) m 0

module _ {number m : ℕ} {Acts : Type 0} {Meets : ℕ → Type 0} {Reads : Acts → Type 0} {count : Acts → ℕ}
    (w : Numbered number m Acts Meets Reads count) (last-tested : 7 < m) where
  -- a number of the walk is given exactly when the walk meets it
  pub numbered-fault : (n : ℕ) → 2 ≤ n → n ≤ 7 → (number ≡ n) ↔ Meets n
  numbered-fault n h k = (go w.either, w.met n)
    where
      go : ((n : ℕ) × Meets n) ⊎ ((a : Acts) × Reads a) → number ≡ n → Meets n
      go (inl a) f = subst Meets (sym (w.met a.0 a.1) ∙ f) a.1
      go (inr a) f =
          absurd (not-given (ltb 64 (count a.0)) m 0 n (λ i. omega arith) (λ i. omega arith) (sym (w.read a.0 a.1) ∙ f))

  -- 0 and m exactly when it meets none, by the room that there is
  pub numbered-found : (n : ℕ) (P : ℕ → Type 0) → (n < 2) ⊎ (7 < n) → ((c : ℕ) → (cond (ltb 64 c) m 0 ≡ n) ↔ P c) →
      (number ≡ n) ↔ ((a : Acts) × Reads a × P (count a))
  numbered-found n P h i = (go w.either, λ a. w.read a.0 a.1 ∙ (i _).1 a.2)
    where
      go : ((n : ℕ) × Meets n) ⊎ ((a : Acts) × Reads a) → number ≡ n → (a : Acts) × Reads a × P (count a)
      go (inl a) f =
          let k : (2 ≤ a.0) × (a.0 ≤ 7) = w.within a.0 a.1 in
          let l : a.0 ≡ n = sym (w.met a.0 a.1) ∙ f in
          absurd (⊎_elim (λ q. omega arith) (λ q. omega arith) h)
      go (inr a) f = (a.0, a.1, (i _).0 (sym (w.read a.0 a.1) ∙ f))

  pub numbered-some : ((number ≤ 7) ⊎ (number ≡ m)) × (number ≡ 1 → ⊥)
  numbered-some = go w.either
    where
      go : ((n : ℕ) × Meets n) ⊎ ((a : Acts) × Reads a) → ((number ≤ 7) ⊎ (number ≡ m)) × (number ≡ 1 → ⊥)
      go (inl a) = rw (w.met a.0 a.1) (let k = w.within a.0 a.1 in (inl (omega arith), λ i. omega arith))
      go (inr a) =
          rw (w.read a.0 a.1)
          (cond_either (λ (c : ℕ). ((c ≤ 7) ⊎ (c ≡ m)) × (c ≡ 1 → ⊥)) (ltb 64 (count a.0)) m 0
          (inr refl, λ i. omega arith) (inl (omega arith), λ i. omega arith))

-- a frame on a port of the bridge
module _ (b : Bridge) (p : ℕ) (pdu : List ℕ) where
  frame_number : ℕ
  frame_number = (received b p (walked (walk pdu))).number

  -- the streams held and those that vectors join, each counted once
  count_with : List Vector → ℕ
  count_with vs = length (together (ids b.streams) (joins (frame_acts vs)))

  frame-met : (n : ℕ) → walk pdu ≡ fault n → frame_number ≡ n
  unfolding frame_number walked received
  frame-met n e = ap (λ (w : Walk). (received b p (walked w)).number) e

  frame-read : (vs : List Vector) → walk pdu ≡ found vs → frame_number ≡ cond (ltb 64 (count_with vs)) 8 0
  unfolding frame_number walked received count_with
  frame-read vs e =
      let s = apply_all b.clock (p - 1) (frame_acts vs) b.streams in
      ap (λ (w : Walk). (received b p (walked w)).number) e
      ∙ cond_of (λ (a : Answer). a.number) (leb (length s) 64) _ _
      ∙ room-number 8 (length s)
      ∙ ap (λ (n : ℕ). cond (ltb 64 n) 8 0) (held-ids s ∙ ap length (acts-ids b.clock (p - 1) (frame_acts vs) b.streams))

  frame-numbered : Numbered frame_number 8 (List Vector) (λ n. walk pdu ≡ fault n) (λ vs. walk pdu ≡ found vs) count_with
  frame-numbered = record { either = go (walk pdu) refl; within = walk-faults pdu; met = frame-met; read = frame-read }
    where
      go : (w : Walk) → walk pdu ≡ w → ((n : ℕ) × (walk pdu ≡ fault n)) ⊎ ((vs : List Vector) × (walk pdu ≡ found vs))
      go (fault n) e = inl (n, e)
      go (found vs) e = inr (vs, e)

  frame-numbers : (frame_number ≤ 8) × (frame_number ≡ 1 → ⊥)
  frame-numbers =
      let n = numbered-some frame-numbered (omega arith) in
      (⊎_elim (λ h. omega arith) (λ h. omega arith) n.0, n.1)

  -- on any port
  pub receive-few : (receive b p pdu).number ≤ 8
  unfolding receive reading received frame_number
  receive-few = go (wrong_port b.settings p)
    where
      go : (a : Bool) → (received b p (cond a (refused 1) (walked (walk pdu)))).number ≤ 8
      go true = omega arith
      go false = frame-numbers.0

module _ (t : List ℕ) (p : ℕ) (pdu : List ℕ) where
  receive-number : (receive_on t p pdu).number ≡ fronted t p (frame_number (decode t) p pdu)
  unfolding receive_on receive reading fronted frame_number received
  receive-number = on-table-number t (λ b. receive b p pdu) ∙ ap (cond (not (formed t)) 12) (go (wrong_port (decode t).settings p))
    where
      go : (a : Bool) →
          (received (decode t) p (cond a (refused 1) (walked (walk pdu)))).number
          ≡ cond a 1 (received (decode t) p (walked (walk pdu))).number
      go true = refl
      go false = refl

  pub receive-12 : ((receive_on t p pdu).number ≡ 12) ↔ (formed t ≡ false)
  receive-12 =
      rw receive-number
      (fronted-12 t p (frame_number (decode t) p pdu) (λ e. omega (arith, (frame-numbers (decode t) p pdu).0)))

  pub receive-1 : ((receive_on t p pdu).number ≡ 1) ↔ ((formed t ≡ true) × (wrong_port (decode t).settings p ≡ true))
  receive-1 = rw receive-number (fronted-1 t p (frame_number (decode t) p pdu) (frame-numbers (decode t) p pdu).1)

  -- each of 2 to 7, exactly when it is the first fault that the walk meets
  pub receive-fault : (n : ℕ) → 2 ≤ n → n ≤ 7 → ((receive_on t p pdu).number ≡ n) ↔ (OnPort t p × (walk pdu ≡ fault n))
  receive-fault n h k =
      rw receive-number
      (fronted-past t p _ n _ (λ e. omega arith) (λ e. omega arith) (numbered-fault (frame-numbered (decode t) p pdu) (omega arith) n h k))

  pub receive-2 : ((receive_on t p pdu).number ≡ 2) ↔ (OnPort t p × ((length pdu ≡ 0) ⊎ (longest_pdu < length pdu)))
  receive-2 = Iff.trans (receive-fault 2 (omega arith) (omega arith)) (Iff.and Iff.rfl (walk_2 pdu))

  -- 8: "streams held plus different new ones joined by this PDU exceed 64"; a stream with an unsent Lv alone is held
  pub receive-8 : ((receive_on t p pdu).number ≡ 8) ↔
      (OnPort t p × ((vs : List Vector) × (walk pdu ≡ found vs) × (64 < length (together (ids (decode t).streams) (joins (frame_acts vs))))))
  unfolding count_with
  receive-8 =
      rw receive-number
      (fronted-past t p _ 8 _ (λ e. omega arith) (λ e. omega arith)
      (numbered-found (frame-numbered (decode t) p pdu) (omega arith) 8 (λ m. 64 < m) (inr (omega arith)) (λ m. given _ 8 0 _ (λ e. omega arith) (is_below 64 m))))

  pub receive-0 : ((receive_on t p pdu).number ≡ 0) ↔
      (OnPort t p × ((vs : List Vector) × (walk pdu ≡ found vs) × (length (together (ids (decode t).streams) (joins (frame_acts vs))) ≤ 64)))
  unfolding count_with
  receive-0 =
      rw receive-number
      (fronted-past t p _ 0 _ (λ e. omega arith) (λ e. omega arith)
      (numbered-found (frame-numbered (decode t) p pdu) (omega arith) 0 (λ m. m ≤ 64) (inl (omega arith)) (λ m. last _ 8 (λ e. omega arith) (is-at-least 64 m))))

  pub receive-numbers : ((receive_on t p pdu).number ≤ 8) ⊎ ((receive_on t p pdu).number ≡ 12)
  receive-numbers =
      rw receive-number
      (fronted-all (λ (n : ℕ). (n ≤ 8) ⊎ (n ≡ 12)) t p _ (inr refl) (inl (omega arith)) (inl (frame-numbers (decode t) p pdu).0))

-- "different new ones": a PDU that joins only streams held already is never refused for want of room
add-held : (i : ℕ) (l : List ℕ) → Rising l → Memᴰ i l → add i l ≡ l
unfolding add Rising
add-held i [] r m = absurd (Memᴰ.not-nil m)
add-held i (x ∷ l) r m = go (ltb i x) refl (eqb i x) refl (Memᴰ.cases_cons m) (add-held i l r.1)
  where
    go : (a : Bool) → ltb i x ≡ a → (b : Bool) → eqb i x ≡ b → (i ≡ x) ⊎ Memᴰ i l → (Memᴰ i l → add i l ≡ l) →
        cond a (i ∷ x ∷ l) (cond b (x ∷ l) (x ∷ add i l)) ≡ x ∷ l
    go true e b f (inl q) h = absurd (omega (arith, ltb-true i x e))
    go true e b f (inr k) h = absurd (omega (arith, ltb-true i x e, all-mem (λ j. x < j) k r.0))
    go false e true f k h = refl
    go false e false f (inl q) h = absurd (eqb-false i x f q)
    go false e false f (inr k) h = ap (λ (s : List ℕ). x ∷ s) (h k)

together-held : (is l : List ℕ) → Rising l → All (λ i. Memᴰ i l) is → together l is ≡ l
unfolding together
together-held [] l r a = refl
together-held (i ∷ is) l r a = ap (λ (k : List ℕ). together k is) (add-held i l r a.0) ∙ together-held is l r a.1

pub receive-nothing-new : (t : List ℕ) (p : ℕ) (pdu : List ℕ) (vs : List Vector) → Octets t → OnPort t p → walk pdu ≡ found vs →
    All (λ i. Memᴰ i (ids (decode t).streams)) (joins (frame_acts vs)) → (receive_on t p pdu).number ≡ 0
receive-nothing-new t p pdu vs o h e a =
    let v : Valid (decode t) = valid-decode t o h.0 in
    let s = ids (decode t).streams in
    let room : length (together s (joins (frame_acts vs))) ≤ 64 =
    rw (together-held (joins (frame_acts vs)) s v.ascending a, ← held-ids (decode t).streams) v.at_most_64 in
    (receive-0 t p pdu).1 (h, (vs, e, room))

-- advance: 9
module _ (t : List ℕ) (now : ℕ) where
  clock_number : ℕ
  clock_number = cond (ltb now (clock_field t)) 9 0

  advance-number : (advance_on t now).number ≡ cond (not (formed t)) 12 clock_number
  unfolding advance_on advance decode clock_number
  advance-number =
      on-table-number t (λ b. advance b now)
      ∙ ap (cond (not (formed t)) 12) (cond_of (λ (a : Answer). a.number) (ltb now (clock_field t)) _ _)

  pub advance-12 : ((advance_on t now).number ≡ 12) ↔ (formed t ≡ false)
  unfolding clock_number
  advance-12 =
      rw advance-number
      (given _ 12 clock_number _ (not-given (ltb now (clock_field t)) 9 0 12 (λ e. omega arith) (λ e. omega arith)) (is-not (formed t)))

  pub advance-9 : ((advance_on t now).number ≡ 9) ↔ ((formed t ≡ true) × (now < clock_field t))
  unfolding clock_number
  advance-9 =
      rw advance-number
      (given-after _ 12 clock_number 9 _ _ (λ e. omega arith) (is-so (formed t))
      (given _ 9 0 _ (λ e. omega arith) (is_below now (clock_field t))))

  pub advance-0 : ((advance_on t now).number ≡ 0) ↔ ((formed t ≡ true) × (clock_field t ≤ now))
  unfolding clock_number
  advance-0 =
      rw advance-number
      (given-after _ 12 clock_number 0 _ _ (λ e. omega arith) (is-so (formed t))
      (last _ 9 (λ e. omega arith) (is-at-least now (clock_field t))))

  pub advance-numbers : OneOf (0 ∷ 9 ∷ 12 ∷ []) (advance_on t now).number
  unfolding clock_number
  advance-numbers =
      rw advance-number
      (cond_either (OneOf (0 ∷ 9 ∷ 12 ∷ [])) (not (formed t)) 12 clock_number (inr (inr (inl refl)))
      (cond_either (OneOf (0 ∷ 9 ∷ 12 ∷ [])) (ltb now (clock_field t)) 9 0 (inr (inl refl)) (inl refl)))

-- write: 10, then 13, by the port's list as the write finds it
module _ (t : List ℕ) (p place : ℕ) (buffer : List ℕ) where
  -- the port's declarations
  count : ℕ
  count = length (declarations (decode t) (p - 1))

  room_number : ℕ
  room_number = cond (ltb (length buffer) longest_pdu) 10 (cond (ltb count place) 13 0)

  no_room : (n : ℕ) → (10 ≡ n → ⊥) → (13 ≡ n → ⊥) → (0 ≡ n → ⊥) → room_number ≡ n → ⊥
  unfolding room_number
  no_room n h k l = not-given (ltb (length buffer) longest_pdu) 10 _ n h (not-given (ltb count place) 13 0 n k l)

  write-number : (write_on t p place buffer).number ≡ fronted t p room_number
  unfolding write_on written_to write refused_write fronted room_number count
  write-number =
      go (not (formed t)) (wrong_port (decode t).settings p) (ltb (length buffer) longest_pdu) _
      ∙ ap (λ (n : ℕ). fronted t p (cond (ltb (length buffer) longest_pdu) 10 n))
      (written (write (decode t) p place) ∙ cond_of (λ (w : Written). w.number) (ltb count place) _ _)
    where
      written : (w : Written) → (written_to t buffer w).number ≡ w.number
      written w = cond_of (λ (c : WriteCall). c.number) (eqb w.number 0) _ _ ∙ own-number w.number

      go : (a b c : Bool) (w : WriteCall) →
          (cond a (refused_write 12 t buffer) (cond b (refused_write 1 t buffer) (cond c (refused_write 10 t buffer) w))).number
          ≡ cond a 12 (cond b 1 (cond c 10 w.number))
      go true b c w = refl
      go false true c w = refl
      go false false true w = refl
      go false false false w = refl

  pub write-12 : ((write_on t p place buffer).number ≡ 12) ↔ (formed t ≡ false)
  write-12 = rw write-number (fronted-12 t p room_number (no_room 12 (λ e. omega arith) (λ e. omega arith) (λ e. omega arith)))

  pub write-1 : ((write_on t p place buffer).number ≡ 1) ↔ ((formed t ≡ true) × (wrong_port (decode t).settings p ≡ true))
  write-1 = rw write-number (fronted-1 t p room_number (no_room 1 (λ e. omega arith) (λ e. omega arith) (λ e. omega arith)))

  pub write-10 : ((write_on t p place buffer).number ≡ 10) ↔ (OnPort t p × (length buffer < longest_pdu))
  unfolding room_number
  write-10 =
      rw write-number
      (fronted-past t p room_number 10 _ (λ e. omega arith) (λ e. omega arith)
      (given _ 10 _ _ (not-given (ltb count place) 13 0 10 (λ e. omega arith) (λ e. omega arith)) (is_below (length buffer) longest_pdu)))

  -- once the buffer is long enough, the place's number
  write-place : (n : ℕ) (P : Type 0) → (12 ≡ n → ⊥) → (1 ≡ n → ⊥) → (10 ≡ n → ⊥) → (cond (ltb count place) 13 0 ≡ n) ↔ P →
      ((write_on t p place buffer).number ≡ n) ↔ (OnPort t p × ((longest_pdu ≤ length buffer) × P))
  unfolding room_number
  write-place n P h k l i =
      rw write-number
      (fronted-past t p room_number n _ h k (given-after _ 10 _ n _ P l (is-at-least (length buffer) longest_pdu) i))

  pub write-13 : ((write_on t p place buffer).number ≡ 13) ↔
      (OnPort t p × ((longest_pdu ≤ length buffer) × (length (declarations (decode t) (p - 1)) < place)))
  unfolding count
  write-13 =
      write-place 13 _ (λ e. omega arith) (λ e. omega arith) (λ e. omega arith)
      (given _ 13 0 _ (λ e. omega arith) (is_below count place))

  pub write-0 : ((write_on t p place buffer).number ≡ 0) ↔
      (OnPort t p × ((longest_pdu ≤ length buffer) × (place ≤ length (declarations (decode t) (p - 1)))))
  unfolding count
  write-0 =
      write-place 0 _ (λ e. omega arith) (λ e. omega arith) (λ e. omega arith)
      (last _ 13 (λ e. omega arith) (is-at-least count place))

  pub write-numbers : OneOf (0 ∷ 1 ∷ 10 ∷ 12 ∷ 13 ∷ []) (write_on t p place buffer).number
  unfolding room_number
  write-numbers =
      rw write-number
      (fronted-all (OneOf (0 ∷ 1 ∷ 10 ∷ 12 ∷ 13 ∷ [])) t p room_number (inr (inr (inr (inl refl)))) (inr (inl refl))
      (cond_either (OneOf (0 ∷ 1 ∷ 10 ∷ 12 ∷ 13 ∷ [])) (ltb (length buffer) longest_pdu) 10 _ (inr (inr (inl refl)))
      (cond_either (OneOf (0 ∷ 1 ∷ 10 ∷ 12 ∷ 13 ∷ [])) (ltb count place) 13 0 (inr (inr (inr (inr (inl refl))))) (inl refl))))

-- report: 13
module _ (t : List ℕ) (p place : ℕ) where
  place_number : ℕ
  place_number = cond (ltb (length (decode t).streams) place) 13 0

  no_place : (n : ℕ) → (13 ≡ n → ⊥) → (0 ≡ n → ⊥) → place_number ≡ n → ⊥
  unfolding place_number
  no_place n h k = not-given (ltb (length (decode t).streams) place) 13 0 n h k

  report-number : (report_on t p place).number ≡ fronted t p place_number
  unfolding report_on report refused_report fronted place_number
  report-number =
      go (not (formed t)) (wrong_port (decode t).settings p) (report (decode t) p place)
      ∙ ap (fronted t p) (cond_of (λ (r : Report). r.number) (ltb (length (decode t).streams) place) _ _)
    where
      go : (a b : Bool) (r : Report) → (cond a (refused_report 12) (cond b (refused_report 1) r)).number ≡ cond a 12 (cond b 1 r.number)
      go true b r = refl
      go false true r = refl
      go false false r = refl

  pub report-12 : ((report_on t p place).number ≡ 12) ↔ (formed t ≡ false)
  report-12 = rw report-number (fronted-12 t p place_number (no_place 12 (λ e. omega arith) (λ e. omega arith)))

  pub report-1 : ((report_on t p place).number ≡ 1) ↔ ((formed t ≡ true) × (wrong_port (decode t).settings p ≡ true))
  report-1 = rw report-number (fronted-1 t p place_number (no_place 1 (λ e. omega arith) (λ e. omega arith)))

  pub report-13 : ((report_on t p place).number ≡ 13) ↔ (OnPort t p × (length (decode t).streams < place))
  unfolding place_number
  report-13 =
      rw report-number
      (fronted-past t p place_number 13 _ (λ e. omega arith) (λ e. omega arith)
      (given _ 13 0 _ (λ e. omega arith) (is_below (length (decode t).streams) place)))

  pub report-0 : ((report_on t p place).number ≡ 0) ↔ (OnPort t p × (place ≤ length (decode t).streams))
  unfolding place_number
  report-0 =
      rw report-number
      (fronted-past t p place_number 0 _ (λ e. omega arith) (λ e. omega arith)
      (last _ 13 (λ e. omega arith) (is-at-least (length (decode t).streams) place)))

  pub report-numbers : OneOf (0 ∷ 1 ∷ 12 ∷ 13 ∷ []) (report_on t p place).number
  unfolding place_number
  report-numbers =
      rw report-number
      (fronted-all (OneOf (0 ∷ 1 ∷ 12 ∷ 13 ∷ [])) t p place_number (inr (inr (inl refl))) (inr (inl refl))
      (cond_either (OneOf (0 ∷ 1 ∷ 12 ∷ 13 ∷ [])) (ltb (length (decode t).streams) place) 13 0 (inr (inr (inr (inl refl)))) (inl refl)))
