-- What start declares: a slot in its octets, a port's Domain values in what it sends by itself, one port after another.
use mathlib.Core.Path.{◌≡◌, refl, sym, ◌∙◌, ap, ap₂}
use mathlib.Core.List.{List, [], ◌∷◌, ◌++◌, append_assoc}
use mathlib.Core.Bool.{Bool, true, false, cond, ◌&&◌, ◌||◌}
use Prim.Native.Nat.{ℕ, zero, suc, ◌+◌, ◌<◌}
use native.Mathlib.Omega.{arith}
use lib.ListN.{length, set, replicate}
use lib.Dec.{eqb}
use borrow.Author.Tests.{eq-eqb, ne_eqb}
use Rattle.octets.specs.Fields.{flat}
use Rattle.model.specs.Layout.{slots}
use Rattle.model.specs.Lists.{tabulate}
use Rattle.model.specs.Machines.{Applicant, no_applicant, applicant, applicant_of, with, born}
use Rattle.model.specs.State.{Settings, Sender, no_sender, Bridge, class_a, class_b, supports, class_id, class_priority, port_at, sender_at, slot_of, is_own_slot, declares_slot, started_sender}
use Rattle.model.specs.Registrations.{at, sending}
use Rattle.model.specs.Sending.{applicant_octets, domain_applicant, standing_number, leave_all_octets, sender_octets, to_sender}
use Rattle.model.specs.Table.{encode, decode}
use Rattle.model.specs.Laid.{FitSender, LaidSender, Laid}
use Rattle.model.proofs.Lists.{all_get_or, all_replicate, length_at}
use Rattle.model.proofs.ApplicantEntries.{tables}
use Rattle.model.proofs.ColumnRule.{tabulate-same}
use Rattle.model.proofs.SenderOctets.{sender-coded}
use Rattle.model.proofs.Fits.{laid-is, laid-fits, laid-sender-is, laid-sender-fits}
use Rattle.table.specs.Places.{PortIn}
use Rattle.table.specs.Updates.{with_sender}
use Rattle.table.proofs.ByPlace.{encoded-read}
use Rattle.table.proofs.SenderParts.{with-sender-fits, sender-replaced-laid}
use Rattle.table.proofs.EachPort.{senders_to, senders-settings, one-sender-more}
use Rattle.bridge.specs.Joining.{joined_slot, joined_if, joined_own, joined_at}

-- A slot is one octet.

abbrev Slot : Type 0
Slot = Applicant (Unit {0})

joined-octet : domain_applicant (born tt) ≡ 1 ∷ []
unfolding domain_applicant applicant_octets standing_number born applicant_of with tables
joined-octet = refl

-- it is set, or one behind it
set_here : (a : Slot) (s : List ℕ) (v : ℕ) → set (domain_applicant a ++ s) 0 v ≡ v ∷ s
unfolding domain_applicant applicant_octets
set_here no_applicant s v = refl
set_here (applicant x) s v = refl

set-behind : (a : Slot) (s : List ℕ) (i v : ℕ) → set (domain_applicant a ++ s) (suc i) v ≡ domain_applicant a ++ set s i v
unfolding domain_applicant applicant_octets
set-behind no_applicant s i v = refl
set-behind (applicant x) s i v = refl

slots-joined : (i : ℕ) (l : List Slot) (rest : List ℕ) → i < length l →
    set (flat domain_applicant l ++ rest) i 1 ≡ flat domain_applicant (at i (λ a. born tt) l) ++ rest
unfolding flat at
slots-joined i [] rest h = absurd (omega arith)
slots-joined zero (a ∷ l) rest h =
    rw (append_assoc (domain_applicant a) (flat domain_applicant l) rest, append_assoc (domain_applicant (born tt)) (flat domain_applicant l) rest, joined-octet)
    (set_here a (flat domain_applicant l ++ rest) 1)
slots-joined (suc i) (a ∷ l) rest h =
    rw (append_assoc (domain_applicant a) (flat domain_applicant l) rest, append_assoc (domain_applicant a) (flat domain_applicant (at i (λ b. born tt) l)) rest)
    (set-behind a (flat domain_applicant l ++ rest) i 1 ∙ ap (λ (s : List ℕ). domain_applicant a ++ s) (slots-joined i l rest (omega arith)))

pub slot-joined : (s : List ℕ) → LaidSender s → (i : ℕ) → i < slots → set s i 1 ≡ sender_octets (joined_slot i (to_sender s))
unfolding sender_octets joined_slot
slot-joined s l i h =
    let x = to_sender s in
    ap (λ (t : List ℕ). set t i 1) (laid-sender-is s l)
    ∙ slots-joined i x.domains (leave_all_octets x.leave_all) (omega (arith, (laid-sender-fits s l).slotted))

-- Nothing is joined where the class is not supported.

at_same : {A : Type 0} (p : ℕ) (l : List A) → at p (λ x. x) l ≡ l
unfolding at
at_same p [] = refl
at_same zero (x ∷ l) = refl
at_same {A} (suc p) (x ∷ l) = ap (λ (r : List A). x ∷ r) (at_same p l)

module _ {t : List ℕ} {p : ℕ} (s : PortIn t p) (i : ℕ) where
  pub none-joined : (b : Bool) → b ≡ false → t ≡ encode (with_sender p (joined_if b i) (decode t))
  unfolding joined_if sending
  none-joined b e = rw e (laid-is t s.laid ∙ ap (λ (l : List Sender). encode (sending (decode t) l)) (sym (at_same p (decode t).senders)))

  pub one-joined : (b : Bool) → b ≡ true → (y : List ℕ) → y ≡ encode (with_sender p (joined_slot i) (decode t)) → y ≡ encode (with_sender p (joined_if b i) (decode t))
  unfolding joined_if
  one-joined b e y q = rw e q

-- Both classes.

slot-fits : (i : ℕ) (x : Sender) → FitSender x → FitSender (joined_slot i x)
unfolding joined_slot
slot-fits i x w = record { slotted = length_at i (λ a. born tt) x.domains ∙ w.slotted; start = w.start }

pub if-fits : (b : Bool) (i : ℕ) (x : Sender) → FitSender x → FitSender (joined_if b i x)
unfolding joined_if
if-fits true i x w = slot-fits i x w
if-fits false i x w = w

at-twice : {A : Type 0} (p : ℕ) (u v : A → A) (l : List A) → at p u (at p v l) ≡ at p (λ x. u (v x)) l
unfolding at
at-twice p u v [] = refl
at-twice zero u v (x ∷ l) = refl
at-twice {A} (suc p) u v (x ∷ l) = ap (λ (r : List A). x ∷ r) (at-twice p u v l)

-- the slots of a class are those of the priorities below 8
pub slot-a : (st : Settings) → 8 + st.priority_a ≡ slot_of (class_id class_a) (class_priority st class_a)
unfolding slot_of class_id class_priority
slot-a st = omega arith

pub slot-b : (st : Settings) → st.priority_b ≡ slot_of (class_id class_b) (class_priority st class_b)
unfolding slot_of class_id class_priority
slot-b st = omega arith

pub both-joined : (st : Settings) (p : ℕ) (l : List Sender) →
    at p (joined_if (supports (port_at st p) class_a) (8 + st.priority_a)) (at p (joined_if (supports (port_at st p) class_b) st.priority_b) l)
    ≡ at p (joined_own st p) l
unfolding joined_own
both-joined st p l =
    let a = supports (port_at st p) class_a in
    let b = supports (port_at st p) class_b in
    ap (λ (i : ℕ). at p (joined_if a i) (at p (joined_if b st.priority_b) l)) (slot-a st)
    ∙ ap (λ (j : ℕ). at p (joined_if a (slot_of (class_id class_a) (class_priority st class_a))) (at p (joined_if b j) l)) (slot-b st)
    ∙ at-twice p (joined_if a (slot_of (class_id class_a) (class_priority st class_a))) (joined_if b (slot_of (class_id class_b) (class_priority st class_b))) l

-- one class after the other
module _ {t : List ℕ} {p : ℕ} (s : PortIn t p) (b : ℕ) (t₁ : List ℕ)
    (e₁ : t₁ ≡ encode (with_sender p (joined_if (supports (port_at (decode t).settings p) class_b) b) (decode t))) where
  abbrev first : Sender → Sender
  first = joined_if (supports (port_at (decode t).settings p) class_b) b

  pub then-in : PortIn t₁ p
  then-in = record { laid = sender-replaced-laid s first (if-fits _ b) t₁ e₁; port = s.port }

  then-read : decode t₁ ≡ with_sender p first (decode t)
  then-read = encoded-read (with_sender p first (decode t)) (with-sender-fits s first (if-fits _ b)) t₁ e₁

  pub both-done : (a : ℕ) → a ≡ (decode t).settings.priority_a → b ≡ (decode t).settings.priority_b → (t₂ : List ℕ)
      → t₂ ≡ encode (with_sender p (joined_if (supports (port_at (decode t₁).settings p) class_a) (8 + a)) (decode t₁))
      → t₂ ≡ encode (with_sender p (joined_own (decode t).settings p) (decode t))
  unfolding sending
  both-done a ea eb t₂ e₂ =
      let st = (decode t).settings in
      let l = (decode t).senders in
      e₂
      ∙ ap (λ (d : Bridge). encode (with_sender p (joined_if (supports (port_at d.settings p) class_a) (8 + a)) d)) then-read
      ∙ ap (λ (m : List Sender). encode (sending (decode t) m))
      (ap₂ (λ (i j : ℕ). at p (joined_if (supports (port_at st p) class_a) (8 + i)) (at p (joined_if (supports (port_at st p) class_b) j) l)) ea eb ∙ both-joined st p l)

-- One port after another.

module _ (t₀ : List ℕ) (l : Laid t₀) where
  abbrev pub joined_here : ℕ → Sender
  joined_here = joined_at (decode t₀).settings (decode t₀).senders

  pub joined-fits : (q : ℕ) → FitSender (joined_here q)
  unfolding joined_at joined_own sender_at
  joined-fits q = if-fits _ _ _ (if-fits _ _ _ (all_get_or FitSender (decode t₀).senders (laid-fits t₀ l).senders no_sender sender-coded.good q))

  pub joined-next : (n : ℕ) → n < 8 → (t : List ℕ) → t ≡ encode (senders_to joined_here t₀ n) → (y : List ℕ)
      → y ≡ encode (with_sender n (joined_own (decode t).settings n) (decode t)) → y ≡ encode (senders_to joined_here t₀ (n + 1))
  joined-next n h t e y q =
      one-sender-more joined_here t₀ l joined-fits n h t e (joined_own (decode t₀).settings n) (unfold joined_at in refl) y
      (q ∙ ap (λ (st : Settings). encode (with_sender n (joined_own st n) (decode t))) (senders-settings joined_here t₀ l joined-fits n h t e))

-- From nothing declared, these are the Domain values of a started bridge.

module _ {A : Type 0} where
  at-tabulate : (n q k : ℕ) (f : ℕ → A) (u : A → A) → at k u (tabulate n q f) ≡ tabulate n q (λ i. cond (eqb i (q + k)) (u (f i)) (f i))
  unfolding at tabulate
  at-tabulate zero q k f u = refl
  at-tabulate (suc n) q zero f u =
      let g : ℕ → A = λ i. cond (eqb i (q + 0)) (u (f i)) (f i) in
      let here : q ≡ q + 0 = omega arith in
      let head : u (f q) ≡ g q = rw (eq-eqb q (q + 0) here) refl in
      ap (λ (x : A). x ∷ tabulate n (suc q) f) head
      ∙ ap (λ (r : List A). g q ∷ r) (tabulate-same f g n (suc q) (λ i low high. rw (ne_eqb i (q + 0) (λ e. omega (arith, e, low))) refl))
  at-tabulate (suc n) q (suc k) f u =
      let g : ℕ → A = λ i. cond (eqb i (q + suc k)) (u (f i)) (f i) in
      let same : suc q + k ≡ q + suc k = omega arith in
      let head : f q ≡ g q = rw (ne_eqb q (q + suc k) (λ e. omega (arith, e))) refl in
      ap (λ (x : A). x ∷ at k u (tabulate n (suc q) f)) head
      ∙ ap (λ (r : List A). g q ∷ r) (at-tabulate n (suc q) k f u ∙ ap (λ (j : ℕ). tabulate n (suc q) (λ i. cond (eqb i j) (u (f i)) (f i))) same)

  replicate-tabulate : (n q : ℕ) (x : A) → replicate n x ≡ tabulate n q (λ i. x)
  unfolding tabulate
  replicate-tabulate zero q x = refl
  replicate-tabulate (suc n) q x = ap (λ (r : List A). x ∷ r) (replicate-tabulate n (suc q) x)

  -- where it is joined by a test
  at-if : (b : Bool) (k n : ℕ) (f : ℕ → A) (v : A) → cond b (at k (λ a. v) (tabulate n 0 f)) (tabulate n 0 f) ≡ tabulate n 0 (λ i. cond (b && eqb i k) v (f i))
  at-if true k n f v = at-tabulate n 0 k f (λ a. v) ∙ ap (λ (j : ℕ). tabulate n 0 (λ i. cond (eqb i j) v (f i))) (omega arith)
  at-if false k n f v = refl

if-slots : (b : Bool) (i : ℕ) (x : Sender) → joined_if b i x ≡ record { domains = cond b (at i (λ a. born tt) x.domains) x.domains; leave_all = x.leave_all }
unfolding joined_if joined_slot
if-slots true i x = refl
if-slots false i x = refl

either-class : (a b : Bool) → cond {A = Slot} a (born tt) (cond b (born tt) no_applicant) ≡ cond (b || a) (born tt) no_applicant
either-class true true = refl
either-class true false = refl
either-class false true = refl
either-class false false = refl

-- the slots of a port that had none declared
slots-started : (a b : Bool) (i j : ℕ) → let d : List Slot = cond b (at j (λ x. born tt) (replicate slots no_applicant)) (replicate slots no_applicant) in
    cond a (at i (λ x. born tt) d) d ≡ tabulate slots 0 (λ k. cond ((b && eqb k j) || (a && eqb k i)) (born tt) no_applicant)
slots-started a b i j =
    let none : ℕ → Slot = λ k. no_applicant in
    let one : ℕ → Slot = λ k. cond (b && eqb k j) (born tt) no_applicant in
    ap (λ (l : List Slot). let d : List Slot = cond b (at j (λ x. born tt) l) l in cond a (at i (λ x. born tt) d) d) (replicate-tabulate slots 0 no_applicant)
    ∙ ap (λ (d : List Slot). cond a (at i (λ x. born tt) d) d) (at-if b j slots none (born tt))
    ∙ at-if a i slots one (born tt)
    ∙ tabulate-same _ _ slots 0 (λ k low high. either-class (a && eqb k i) (b && eqb k j))

pub joined-started : (st : Settings) (p : ℕ) → joined_own st p no_sender ≡ started_sender st p
unfolding joined_own started_sender no_sender declares_slot is_own_slot
joined-started st p =
    let a = supports (port_at st p) class_a in
    let b = supports (port_at st p) class_b in
    let i = slot_of (class_id class_a) (class_priority st class_a) in
    let j = slot_of (class_id class_b) (class_priority st class_b) in
    ap (joined_if a i) (if-slots b j no_sender)
    ∙ if-slots a i _
    ∙ ap (λ (d : List Slot). record { domains = d; leave_all = no_sender.leave_all }) (slots-started a b i j)

-- of every port
pub all-started : (st : Settings) → tabulate 8 0 (joined_at st (replicate 8 no_sender)) ≡ tabulate 8 0 (started_sender st)
unfolding joined_at sender_at
all-started st =
    tabulate-same _ _ 8 0
    (λ p low high.
    ap (joined_own st p) (all_get_or (λ x. x ≡ no_sender) (replicate 8 no_sender) (all_replicate (λ x. x ≡ no_sender) 8 no_sender refl) no_sender refl p)
    ∙ joined-started st p)
