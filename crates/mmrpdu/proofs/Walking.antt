-- The reader's steps are those of the walk: what `address_vectors` and `address_messages` give from a place on, by what is read there.
-- Assumes nothing.
use mathlib.Core.Path.{◌≡◌, refl, sym, ap, ◌∙◌}
use mathlib.Core.List.{List, []}
use mathlib.Core.Bool.{Bool, true, false}
use Rattle.std.specs.Prelude.{Some, None, Result, Ok, Err}
use Prim.Native.Nat.{ℕ, suc, ◌+◌, ◌≤◌, ◌<◌}
use native.Mathlib.Omega.{arith}
use lib.ListN.{length, get_or}
use lib.Dec.{ltb, eqb}
use borrow.Author.Tests.{lt-ltb, le-ltb, eq-eqb, ne_eqb, ltb-false}
use Rattle.octets.specs.Be.{be_at}
use Rattle.model.specs.FrameLayout.{longest_pdu}
use Rattle.model.specs.Registrations.{AddressAct, AddressReading, refused_frame, address_acts}
use Rattle.model.specs.Frames.{vector_end, bad_vector, list_end, vector_in, end_mark}
use Rattle.model.specs.AddressFrames.{AddressList, first_octets, InAddressPdu, bad_header, no_message, address_list_of, address_header, address_message_in, addresses_checked, address_vector_in, address_vector_at, address_vector_acts, ListWalk, list_fault, list_acts, then_list, addresses_from, address_vectors, then_frame, after_list, address_messages_from, address_messages, address_walk}
use Rattle.model.proofs.FoundVectors.{passed, passing-over}
use Rattle.model.proofs.FoundAddresses.{address-faults, passed-addresses, over-addresses}
use Rattle.msrpdu.specs.Reader.{head_of}
use Rattle.msrpdu.specs.declared.VectorHead.{VectorHead}
use Rattle.msrpdu.specs.declared.VectorRead.TheVariants as vector
use Rattle.msrpdu.proofs.Left.{Left}
use Rattle.msrpdu.proofs.Reading.{read-refused, read-end, read_head, read-over}
use Rattle.model.proofs.Numbers.{refusal-numbered}
use Rattle.model.specs.Numbers.{refusal_of, answer_number}
use Rattle.model.specs.declared.refusal.Refusal.{Refusal}
use Rattle.model.specs.declared.refusal.Refusal.TheVariants as refusal
use Rattle.mmrpdu.specs.Reader.{list_named, header_answer, message_meant, message_read, typed_read, list_answer, number_of, answer_of}
use Rattle.mmrpdu.specs.declared.MessageHead.{MessageHead}
use Rattle.mmrpdu.proofs.Laws.{header-listed}

-- Vectors.

module _ (f version : ℕ) (t : AddressList) (s : List ℕ) (at : ℕ) where
  addresses-fault : (n : ℕ) → address_vector_in version t s at ≡ bad_vector n → address_vectors (suc f) version t s at ≡ list_fault n
  unfolding address_vectors addresses_from
  addresses-fault n e = rw e

  pub addresses-refused : (r : Refusal) → typed_read version t s at ≡ Err r → (n : ℕ) × (address_vectors (suc f) version t s at ≡ list_fault n) × (refusal_of n ≡ r)
  unfolding typed_read
  addresses-refused r e =
      let h = read-refused (first_octets t) false at (address_vector_in version t s at) r e in
      (h.number, addresses-fault h.number h.is, h.refused)

  pub addresses-end : typed_read version t s at ≡ Ok vector.EndMark → address_vectors (suc f) version t s at ≡ list_acts [] (at + 2)
  unfolding typed_read address_vectors addresses_from
  addresses-end e = rw (read-end (first_octets t) false at (address_vector_in version t s at) e)

  pub addresses-next : (w : VectorHead) → typed_read version t s at ≡ Ok (vector.Vector w)
      → address_vectors (suc f) version t s at ≡ then_list (address_vector_acts t (address_vector_at t s at (be_at 2 s at))) (address_vectors f version t s w.next)
  unfolding typed_read address_vectors addresses_from head_of
  addresses-next w e =
      let h = read_head (first_octets t) false at (address_vector_in version t s at) w e in
      rw (h.is, (passed-addresses version t s at h.header h.is).fitting.is)
      (ap (λ (u : VectorHead). then_list (address_vector_acts t (address_vector_at t s at h.header)) (address_vectors f version t s u.next)) h.head)

  pub addresses-over : (next : ℕ) → typed_read version t s at ≡ Ok (vector.PassedOver next) → address_vectors (suc f) version t s at ≡ address_vectors f version t s next
  unfolding typed_read address_vectors addresses_from
  addresses-over next e =
      let h = read-over (first_octets t) false at (address_vector_in version t s at) next e in
      rw (h.is, h.ends)

-- what is read is within the PDU
module _ (version : ℕ) (t : AddressList) (s : List ℕ) (at : ℕ) where
  pub record Within (w : VectorHead) : Type 0 where
    pub first : w.first ≡ at + 2
    pub three : w.first ≤ w.three
    pub four : w.three ≤ w.four
    pub next : w.four ≤ w.next
    pub pdu : w.next ≤ length s

  pub within : (w : VectorHead) → typed_read version t s at ≡ Ok (vector.Vector w) → Within w
  unfolding typed_read head_of vector_end
  within w e =
      let h = read_head (first_octets t) false at (address_vector_in version t s at) w e in
      let f = (passed-addresses version t s at h.header h.is).fitting.fits in
      rw (← h.head) record { first = refl; three = omega arith; four = omega arith; next = omega arith; pdu = f }

  pub over-within : (next : ℕ) → typed_read version t s at ≡ Ok (vector.PassedOver next) → (at + 2 ≤ next) × (next ≤ length s)
  unfolding typed_read vector_end
  over-within next e =
      let p = read-over (first_octets t) false at (address_vector_in version t s at) next e in
      let f = (passing-over version (first_octets t) false s at p.header (over-addresses version t s at p.header p.is)).fits in
      (omega (arith, p.ends), omega (arith, p.ends))

  pub end-within : typed_read version t s at ≡ Ok vector.EndMark → at + 2 ≤ length s
  unfolding typed_read address_vector_in vector_in addresses_checked
  end-within e = go (ltb (length s) (at + 2)) refl (read-end (first_octets t) false at (address_vector_in version t s at) e)
    where
      go : (b : Bool) → ltb (length s) (at + 2) ≡ b → address_vector_in version t s at ≡ list_end → at + 2 ≤ length s
      go false i h = ltb-false _ _ i
      go true i h = let k : bad_vector 3 ≡ list_end = rw i at h in let z : ◌≡◌ {A = ℕ} 0 1 = cc in absurd (omega arith)

-- Messages.

-- what stands at a place, by the answer
module _ (s : List ℕ) (at : ℕ) where
  record Faulty (x : InAddressPdu) (r : Refusal) : Type 0 where
    number : ℕ
    is : x ≡ bad_header number
    refused : refusal_of number ≡ r

  message-refused : (x : InAddressPdu) (r : Refusal) → message_meant s at x ≡ Err r → Faulty x r
  unfolding message_meant
  message-refused (bad_header n) r e = record { number = n; is = refl; refused = cc }
  message-refused no_message n e = let z : ◌≡◌ {A = ℕ} 0 1 = cc in absurd (omega arith)
  message-refused (address_list_of t) n e = let z : ◌≡◌ {A = ℕ} 0 1 = cc in absurd (omega arith)

  message-end : (r : InAddressPdu) → message_meant s at r ≡ Ok None → r ≡ no_message
  unfolding message_meant
  message-end (bad_header m) e = let z : ◌≡◌ {A = ℕ} 0 1 = cc in absurd (omega arith)
  message-end no_message e = refl
  message-end (address_list_of t) e = let z : ◌≡◌ {A = ℕ} 0 1 = cc in absurd (omega arith)

  -- a list, of a type
  record Listed (r : InAddressPdu) (m : MessageHead) : Type 0 where
    type : AddressList
    is : r ≡ address_list_of type
    kind : m.kind ≡ get_or s at 0
    octets : m.octets ≡ get_or s (at + 1) 0
    list : m.list ≡ at + 2

  message-listed : (r : InAddressPdu) (m : MessageHead) → message_meant s at r ≡ Ok (Some m) → Listed r m
  unfolding message_meant
  message-listed (bad_header n) m e = let z : ◌≡◌ {A = ℕ} 0 1 = cc in absurd (omega arith)
  message-listed no_message m e = let z : ◌≡◌ {A = ℕ} 0 1 = cc in absurd (omega arith)
  message-listed (address_list_of t) m e = record { type = t; is = refl; kind = cc; octets = cc; list = cc }

no-bad : (n : ℕ) (t : AddressList) → bad_header n ≡ address_list_of t → ⊥
no-bad n t e = let z : ◌≡◌ {A = ℕ} 0 1 = cc in omega arith

no_none : (t : AddressList) → no_message ≡ address_list_of t → ⊥
no_none t e = let z : ◌≡◌ {A = ℕ} 0 1 = cc in omega arith

-- a Message has its header within the PDU, and its list is the one that its type and AttributeLength name
module _ (version : ℕ) (s : List ℕ) (at : ℕ) (t : AddressList) (e : address_message_in version s at ≡ address_list_of t) where
  tests : (at + 2 ≤ length s) × (address_header version (get_or s at 0) (get_or s (at + 1) 0) ≡ address_list_of t)
  unfolding address_message_in
  tests =
      let a = passed (eqb at (length s)) _ _ _ (no_none t) e in
      let b = passed (end_mark s at) _ _ _ (no_none t) a.1 in
      let c = passed (ltb (length s) (at + 2)) _ _ _ (no-bad 3 t) b.1 in
      (ltb-false _ _ c.0, c.1)

  named : t ≡ list_named (get_or s at 0) (get_or s (at + 1) 0)
  named =
      let r : address_list_of t ≡ address_list_of (list_named (get_or s at 0) (get_or s (at + 1) 0)) = sym tests.1 ∙ header-listed version (get_or s at 0) (get_or s (at + 1) 0) (unfold header_answer in (ap header_answer tests.1)) in
      cc

module _ (version : ℕ) (s : List ℕ) (at : ℕ) where
  pub ahead-list : (m : MessageHead) → message_read version s at ≡ Ok (Some m) → (m.list ≡ at + 2) × (m.list ≤ length s)
  unfolding message_read
  ahead-list m e =
      let r = message-listed s at (address_message_in version s at) m e in
      let a = tests version s at r.type r.is in
      (r.list, omega (arith, r.list, a.0))

module _ (f version : ℕ) (s : List ℕ) (at : ℕ) where
  messages-fault : (n : ℕ) → address_message_in version s at ≡ bad_header n → address_messages (suc f) version s at ≡ refused_frame n
  unfolding address_messages address_messages_from
  messages-fault n e = rw e

  pub messages-refused : (r : Refusal) → message_read version s at ≡ Err r → (n : ℕ) × (address_messages (suc f) version s at ≡ refused_frame n) × (refusal_of n ≡ r)
  unfolding message_read
  messages-refused r e = let h = message-refused s at (address_message_in version s at) r e in (h.number, messages-fault h.number h.is, h.refused)

  pub messages-end : message_read version s at ≡ Ok None → address_messages (suc f) version s at ≡ address_acts []
  unfolding message_read address_messages address_messages_from
  messages-end e = rw (message-end s at (address_message_in version s at) e)

  pub messages-list : (m : MessageHead) → message_read version s at ≡ Ok (Some m)
      → address_messages (suc f) version s at ≡ after_list (address_vectors (suc (length s)) version (list_named m.kind m.octets) s m.list) (address_messages f version s)
  unfolding message_read address_messages address_messages_from
  messages-list m e = go m.kind m.octets m.list r.kind r.octets r.list
    where
      r : Listed s at (address_message_in version s at) m
      r = message-listed s at (address_message_in version s at) m e

      go : (kind octets list : ℕ) → kind ≡ get_or s at 0 → octets ≡ get_or s (at + 1) 0 → list ≡ at + 2
          → address_messages (suc f) version s at ≡ after_list (address_vectors (suc (length s)) version (list_named kind octets) s list) (address_messages f version s)
      go kind octets list p q o = rw (r.is, p, q, o, ← (named version s at r.type r.is))

-- The answer of a walk, by what is read.

then-answer : (es : List AddressAct) (w : ListWalk) → list_answer (then_list es w) ≡ list_answer w
unfolding then_list list_answer
then-answer es (list_fault n) = refl
then-answer es (list_acts ds end) = refl

module _ (f version : ℕ) (t : AddressList) (s : List ℕ) (at : ℕ) where
  pub list-refused : (r : Refusal) → typed_read version t s at ≡ Err r → list_answer (address_vectors (suc f) version t s at) ≡ Err r
  unfolding list_answer
  list-refused r e = let h = addresses-refused f version t s at r e in rw h.1 (ap Err h.2)

  pub list-end : typed_read version t s at ≡ Ok vector.EndMark → list_answer (address_vectors (suc f) version t s at) ≡ Ok (at + 2)
  unfolding list_answer
  list-end e = rw (addresses-end f version t s at e)

  -- behind a vector, and behind one that is passed over
  abbrev Goes : ℕ → Type 0
  Goes next = list_answer (address_vectors (suc f) version t s at) ≡ list_answer (address_vectors f version t s next)

  pub list-next : (h : VectorHead) → typed_read version t s at ≡ Ok (vector.Vector h) → Goes h.next
  list-next h e = rw (addresses-next f version t s at h e) (then-answer (address_vector_acts t (address_vector_at t s at (be_at 2 s at))) (address_vectors f version t s h.next))

  pub list-passed : (next : ℕ) → typed_read version t s at ≡ Ok (vector.PassedOver next) → Goes next
  list-passed next e = ap list_answer (addresses-over f version t s at next e)

-- a list's own answer, and what the Messages behind it give
frame-answer : (es : List AddressAct) (r : AddressReading) → answer_of (then_frame es r) ≡ answer_of r
unfolding answer_of then_frame
frame-answer es (refused_frame n) = refl
frame-answer es (address_acts ds) = refl

after-refused : (w : ListWalk) (rest : ℕ → AddressReading) (r : Refusal) → list_answer w ≡ Err r → answer_of (after_list w rest) ≡ Err r
unfolding answer_of list_answer after_list
after-refused (list_fault n) rest r e = let i : refusal_of n ≡ r = cc in ap Err i
after-refused (list_acts es end) rest r e = let z : ◌≡◌ {A = ℕ} 0 1 = cc in absurd (omega arith)

after-accepted : (w : ListWalk) (rest : ℕ → AddressReading) (end : ℕ) → list_answer w ≡ Ok end → answer_of (after_list w rest) ≡ answer_of (rest end)
unfolding list_answer after_list
after-accepted (list_fault n) rest end e = let z : ◌≡◌ {A = ℕ} 0 1 = cc in absurd (omega arith)
after-accepted (list_acts es place) rest end e = let i : place ≡ end = cc in frame-answer es (rest place) ∙ ap (λ (a : ℕ). answer_of (rest a)) i

module _ (f version : ℕ) (s : List ℕ) (at : ℕ) where
  pub pdu-refused : (r : Refusal) → message_read version s at ≡ Err r → answer_of (address_messages (suc f) version s at) ≡ Err r
  unfolding answer_of
  pdu-refused r e = let h = messages-refused f version s at r e in rw h.1 (ap Err h.2)

  pub pdu-end : message_read version s at ≡ Ok None → answer_of (address_messages (suc f) version s at) ≡ Ok tt
  unfolding answer_of
  pdu-end e = rw (messages-end f version s at e)

  -- by the answer of its list
  module _ (m : MessageHead) (e : message_read version s at ≡ Ok (Some m)) (a : Result ℕ Refusal)
      (i : a ≡ list_answer (address_vectors (suc (length s)) version (list_named m.kind m.octets) s m.list)) where
    pub pdu-list-refused : (r : Refusal) → a ≡ Err r → answer_of (address_messages (suc f) version s at) ≡ Err r
    pdu-list-refused r q = rw (messages-list f version s at m e) (after-refused _ _ r (sym i ∙ q))

    pub pdu-list : (end : ℕ) → a ≡ Ok end → answer_of (address_messages (suc f) version s at) ≡ answer_of (address_messages f version s end)
    pdu-list end q = rw (messages-list f version s at m e) (after-accepted _ _ end (sym i ∙ q))

-- The answer is not yet given: that of what is left, from here, is the answer.

-- from a vector on, in the list that starts at a place
abbrev pub ListLeft : List ℕ → ℕ → AddressList → ℕ → ℕ → Type 0
ListLeft s version t list at = Left (λ (f a : ℕ). list_answer (address_vectors f version t s a)) (length s) (list_answer (address_vectors (suc (length s)) version t s list)) at

pub list-in : (s : List ℕ) (version : ℕ) (t : AddressList) (list : ℕ) → list ≤ length s → ListLeft s version t list list
list-in s version t list p = record { within = p; turns = length s; enough = omega arith; gives = refl }

-- from a Message on
abbrev pub PduLeft : List ℕ → ℕ → ℕ → Type 0
PduLeft s version at = Left (λ (f a : ℕ). answer_of (address_messages f version s a)) (length s) (answer_of (address_walk s)) at

-- The whole PDU.
module _ (s : List ℕ) where
  pub walk-empty : length s ≡ 0 → answer_of (address_walk s) ≡ Err refusal.PduLength
  unfolding address_walk answer_of refusal_of
  walk-empty p = rw (eq-eqb _ _ p)

  module _ (o : length s ≡ 0 → ⊥) where
    pub walk-long : longest_pdu < length s → answer_of (address_walk s) ≡ Err refusal.PduLength
    unfolding address_walk answer_of refusal_of
    walk-long p = rw (ne_eqb _ _ o, lt-ltb longest_pdu _ p)

    pub walk-in : length s ≤ longest_pdu → PduLeft s (get_or s 0 0) 1
    unfolding address_walk
    walk-in p = record { within = omega arith; turns = length s; enough = omega arith; gives = rw (ne_eqb _ _ o, le-ltb longest_pdu _ p) }

  -- the number of the answer is that of the walk
  pub walk-number : (r : Result (Unit {0}) Refusal) → r ≡ answer_of (address_walk s) → answer_number r ≡ number_of (address_walk s)
  unfolding answer_of number_of
  walk-number r e = go (address_walk s) refl e
    where
      go : (w : AddressReading) → address_walk s ≡ w → r ≡ answer_of w → answer_number r ≡ number_of w
      go (refused_frame n) i e = let k = address-faults s n i in rw e (refusal-numbered n (omega arith) (omega arith))
      go (address_acts es) i e = rw e
