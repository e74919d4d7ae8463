-- The reader's steps are those of the walk: what `vectors` and `messages` give from a place on, by what is read there; and where
-- a Message that is read ends. Assumes nothing.
use mathlib.Core.Path.{◌≡◌, refl, sym, ap, subst, ◌∙◌}
use mathlib.Core.List.{List, []}
use mathlib.Core.Bool.{Bool, true, false, cond, not}
use Rattle.std.specs.Prelude.{Result, Ok, Err}
use Prim.Native.Nat.{ℕ, suc, ◌+◌, ◌-◌, ◌≤◌, ◌<◌}
use native.Mathlib.Omega.{arith}
use lib.ListN.{length, get_or, take, drop}
use lib.Dec.{ltb, eqb}
use borrow.Author.Tests.{lt-ltb, le-ltb, eq-eqb, ne_eqb, ltb-false}
use Rattle.octets.specs.Be.{be_at}
use Rattle.octets.specs.Parts.{part}
use Rattle.octets.proofs.Parts.{lent-part, lent_length, length_part}
use Rattle.model.specs.FrameLayout.{longest_pdu}
use Rattle.model.specs.Attributes.{type_of, code_of}
use Rattle.model.specs.declared.attribute.Attribute as attribute
use Rattle.model.proofs.Attributes.{code_type}
use Rattle.model.specs.Frames.{Attribute, TypeOctet, not_allowed, unknown, known, type_octet, first_length, has_four, Vector, vector_at, typed_in, bad_vector, InPdu, bad_message, pdu_end, list_skipped, list_of, list_length, list_at, message_end, end_mark, header_in, message_in, Walk, fault, found, also, both, vectors_from, vectors, messages_from, messages, walk}
use Rattle.model.proofs.FoundVectors.{passed-all}
use Rattle.model.proofs.Numbers.{refusal-numbered}
use Rattle.model.proofs.Refusals.{walk-faults}
use Rattle.model.specs.Numbers.{refusal_of, answer_number}
use Rattle.model.specs.declared.refusal.Refusal.{Refusal}
use Rattle.model.specs.declared.refusal.Refusal.TheVariants as refusal
use Rattle.msrpdu.specs.Reader.{head_of, typed_read, message_meant, message_read, vectors_in, number_of, answer_of}
use Rattle.msrpdu.specs.declared.VectorHead.{VectorHead}
use Rattle.msrpdu.specs.declared.VectorRead.TheVariants as vector
use Rattle.msrpdu.specs.declared.MessageHead.{MessageHead}
use Rattle.msrpdu.specs.declared.MessageRead.TheVariants as message
use Rattle.msrpdu.proofs.Left.{Left}
use Rattle.msrpdu.proofs.Reading.{read-refused, read-end, read_head, read-over}

-- Vectors.

module _ (f version : ℕ) (k : Attribute) (l : List ℕ) (at : ℕ) where
  vectors-fault : (n : ℕ) → typed_in version k l at ≡ bad_vector n → vectors (suc f) version k l at ≡ fault n
  unfolding vectors vectors_from
  vectors-fault n e = rw e

  pub vectors-refused : (r : Refusal) → typed_read version (known k) l at ≡ Err r → (n : ℕ) × (vectors (suc f) version k l at ≡ fault n) × (refusal_of n ≡ r)
  unfolding typed_read
  vectors-refused r e =
      let h = read-refused (first_length k) (has_four k) at (typed_in version k l at) r e in
      (h.number, vectors-fault h.number h.is, h.refused)

  pub vectors-end : typed_read version (known k) l at ≡ Ok vector.EndMark → vectors (suc f) version k l at ≡ found []
  unfolding typed_read vectors vectors_from
  vectors-end e = rw (read-end (first_length k) (has_four k) at (typed_in version k l at) e)

  pub vectors-next : (w : VectorHead) → typed_read version (known k) l at ≡ Ok (vector.Vector w)
      → vectors (suc f) version k l at ≡ also (vector_at k l at (be_at 2 l at)) (vectors f version k l w.next)
  unfolding typed_read vectors vectors_from head_of
  vectors-next w e =
      let h = read_head (first_length k) (has_four k) at (typed_in version k l at) w e in
      rw (h.is, (passed-all version k l at h.header h.is).fitting.is)
      (ap (λ (u : VectorHead). also (vector_at k l at h.header) (vectors f version k l u.next)) h.head)

  pub vectors-over : (next : ℕ) → typed_read version (known k) l at ≡ Ok (vector.PassedOver next)
      → vectors (suc f) version k l at ≡ vectors f version k l next
  unfolding typed_read vectors vectors_from
  vectors-over next e =
      let h = read-over (first_length k) (has_four k) at (typed_in version k l at) next e in
      rw (h.is, h.ends)

-- Messages.

-- what stands at a place, by the answer
module _ (s : List ℕ) (at : ℕ) where
  record Faulty (x : InPdu) (r : Refusal) : Type 0 where
    number : ℕ
    is : x ≡ bad_message number
    refused : refusal_of number ≡ r

  message-refused : (x : InPdu) (n : Refusal) → message_meant s at x ≡ Err n → Faulty x n
  unfolding message_meant
  message-refused (bad_message m) n e = record { number = m; is = refl; refused = cc }
  message-refused pdu_end n e = let z : ◌≡◌ {A = ℕ} 0 1 = cc in absurd (omega arith)
  message-refused list_skipped n e = let z : ◌≡◌ {A = ℕ} 0 1 = cc in absurd (omega arith)
  message-refused (list_of k) n e = let z : ◌≡◌ {A = ℕ} 0 1 = cc in absurd (omega arith)

  message-end : (r : InPdu) → message_meant s at r ≡ Ok message.End → r ≡ pdu_end
  unfolding message_meant
  message-end (bad_message m) e = let z : ◌≡◌ {A = ℕ} 0 1 = cc in absurd (omega arith)
  message-end pdu_end e = refl
  message-end list_skipped e = let z : ◌≡◌ {A = ℕ} 0 1 = cc in absurd (omega arith)
  message-end (list_of k) e = let z : ◌≡◌ {A = ℕ} 0 1 = cc in absurd (omega arith)

  message-skipped : (r : InPdu) (next : ℕ) → message_meant s at r ≡ Ok (message.Skipped next) → (r ≡ list_skipped) × (message_end s at ≡ next)
  unfolding message_meant
  message-skipped (bad_message m) next e = let z : ◌≡◌ {A = ℕ} 0 1 = cc in absurd (omega arith)
  message-skipped pdu_end next e = let z : ◌≡◌ {A = ℕ} 0 1 = cc in absurd (omega arith)
  message-skipped list_skipped next e = (refl, cc)
  message-skipped (list_of k) next e = let z : ◌≡◌ {A = ℕ} 0 1 = cc in absurd (omega arith)

  -- a list to read, of a type
  record Listed (r : InPdu) (m : MessageHead) : Type 0 where
    type : Attribute
    is : r ≡ list_of type
    attribute : m.attribute ≡ code_of type
    list : m.list ≡ at + 4
    next : m.next ≡ message_end s at

  message-listed : (r : InPdu) (m : MessageHead) → message_meant s at r ≡ Ok (message.List m) → Listed r m
  unfolding message_meant
  message-listed (bad_message n) m e = let z : ◌≡◌ {A = ℕ} 0 1 = cc in absurd (omega arith)
  message-listed pdu_end m e = let z : ◌≡◌ {A = ℕ} 0 1 = cc in absurd (omega arith)
  message-listed list_skipped m e = let z : ◌≡◌ {A = ℕ} 0 1 = cc in absurd (omega arith)
  message-listed (list_of k) m e = record { type = k; is = refl; attribute = cc; list = cc; next = cc }

-- a Message that is read lies within the PDU, and a list to read is of a known type
abbrev Ahead : ℕ → List ℕ → ℕ → InPdu → Type 0
Ahead version s at (bad_message n) = Unit {0}
Ahead version s at pdu_end = Unit {0}
Ahead version s at list_skipped = message_end s at ≤ length s
Ahead version s at (list_of k) = (type_octet version (get_or s at 0) ≡ known k) × (message_end s at ≤ length s)

keeps : (P : InPdu → Type 0) (t : Bool) (x y : InPdu) → P x → (t ≡ false → P y) → P (cond t x y)
keeps P true x y p q = p
keeps P false x y p q = q refl

ahead-from : (version : ℕ) (s : List ℕ) (at : ℕ) (t : TypeOctet) → type_octet version (get_or s at 0) ≡ t → Ahead version s at (header_in t s at)
unfolding header_in
ahead-from version s at not_allowed e = tt
ahead-from version s at unknown e = keeps (Ahead version s at) (ltb (length s) (message_end s at)) _ _ tt (λ p. ltb-false _ _ p)
ahead-from version s at (known k) e =
    keeps (Ahead version s at) (not (eqb (get_or s (at + 1) 0) (first_length k))) _ _ tt
    (λ d. keeps (Ahead version s at) (ltb (length s) (message_end s at)) _ _ tt (λ p. (e, ltb-false _ _ p)))

ahead : (version : ℕ) (s : List ℕ) (at : ℕ) → Ahead version s at (message_in version s at)
unfolding message_in
ahead version s at =
    let P = Ahead version s at in
    keeps P (eqb at (length s)) _ _ tt
    (λ a. keeps P (end_mark s at) _ _ tt
    (λ b. keeps P (ltb (length s) (at + 4)) _ _ tt (λ c. ahead-from version s at (type_octet version (get_or s at 0)) refl)))

-- the list of a known type, by its places
listed : (version : ℕ) (s : List ℕ) (at : ℕ) (k : Attribute)
    → vectors (suc (list_length s at)) version k (list_at s at) 0
    ≡ vectors_in version (known k) (suc (message_end s at - (at + 4))) (take (message_end s at - (at + 4)) (drop (at + 4) s)) 0
unfolding vectors_in message_end list_at
listed version s at k = rw (lent-part (at + 4) (list_length s at) s, lent_length (at + 4) (list_length s at))

-- a list that is read stands behind its Message's header, and within the PDU
pub record ListWithin (s : List ℕ) (at : ℕ) (m : MessageHead) : Type 0 where
  pub list : m.list ≡ at + 4
  pub ends : m.list ≤ m.next
  pub within : m.next ≤ length s

module _ (version : ℕ) (s : List ℕ) (at : ℕ) where
  pub ahead-skipped : (next : ℕ) → message_read version s at ≡ Ok (message.Skipped next) → (at + 4 ≤ next) × (next ≤ length s)
  unfolding message_read message_end
  ahead-skipped next e =
      let r = message-skipped s at (message_in version s at) next e in
      let a : message_end s at ≤ length s = subst (Ahead version s at) r.0 (ahead version s at) in
      (omega (arith, r.1), omega (arith, r.1))

  pub ahead-list : (m : MessageHead) → message_read version s at ≡ Ok (message.List m) → ListWithin s at m
  unfolding message_read message_end
  ahead-list m e =
      let r = message-listed s at (message_in version s at) m e in
      let a = subst (Ahead version s at) r.is (ahead version s at) in
      record { list = r.list; ends = omega (arith, r.list, r.next); within = omega (arith, r.next, a.1) }

module _ (f version : ℕ) (s : List ℕ) (at : ℕ) where
  messages-fault : (n : ℕ) → message_in version s at ≡ bad_message n → messages (suc f) version s at ≡ fault n
  unfolding messages messages_from
  messages-fault n e = rw e

  pub messages-refused : (r : Refusal) → message_read version s at ≡ Err r → (n : ℕ) × (messages (suc f) version s at ≡ fault n) × (refusal_of n ≡ r)
  unfolding message_read
  messages-refused r e = let h = message-refused s at (message_in version s at) r e in (h.number, messages-fault h.number h.is, h.refused)

  pub messages-end : message_read version s at ≡ Ok message.End → messages (suc f) version s at ≡ found []
  unfolding message_read messages messages_from
  messages-end e = rw (message-end s at (message_in version s at) e)

  pub messages-skipped : (next : ℕ) → message_read version s at ≡ Ok (message.Skipped next) → messages (suc f) version s at ≡ messages f version s next
  unfolding message_read messages messages_from
  messages-skipped next e = let r = message-skipped s at (message_in version s at) next e in rw (r.0, r.1)

  pub messages-list : (m : MessageHead) → message_read version s at ≡ Ok (message.List m)
      → messages (suc f) version s at
      ≡ both (vectors_in version (known (type_of m.attribute)) (suc (m.next - m.list)) (take (m.next - m.list) (drop m.list s)) 0) (messages f version s m.next)
  unfolding message_read messages messages_from
  messages-list m e = go m.attribute m.list m.next r.attribute r.list r.next
    where
      r : Listed s at (message_in version s at) m
      r = message-listed s at (message_in version s at) m e

      go : (a : attribute.Attribute) (list next : ℕ) → a ≡ code_of r.type → list ≡ at + 4 → next ≡ message_end s at
          → messages (suc f) version s at
          ≡ both (vectors_in version (known (type_of a)) (suc (next - list)) (take (next - list) (drop list s)) 0) (messages f version s next)
      go a list next p q o = rw (r.is, p, q, o, code_type r.type, listed version s at r.type)

-- a list's own length, as the code lends it
pub list_length_lem : (s : List ℕ) (a e : ℕ) → a ≤ e → e ≤ length s → length (take (e - a) (drop a s)) ≡ e - a
unfolding part
list_length_lem s a e p q = length_part a (e - a) s (omega arith)

-- The answer of a walk, by what is read.

also-answer : (v : Vector) (x : Walk) → answer_of (also v x) ≡ answer_of x
unfolding answer_of also
also-answer v (fault n) = refl
also-answer v (found vs) = refl

module _ (f version : ℕ) (l : List ℕ) (at : ℕ) where
  pub list-refused : (t : TypeOctet) (r : Refusal) → typed_read version t l at ≡ Err r → answer_of (vectors_in version t (suc f) l at) ≡ Err r
  unfolding typed_read vectors_in answer_of refusal_of
  list-refused not_allowed r e = let i : refusal.AttributeType ≡ r = cc in rw i
  list-refused unknown r e = let i : refusal.AttributeType ≡ r = cc in rw i
  list-refused (known k) r e = let h = vectors-refused f version k l at r e in rw h.1 (ap Err h.2)

  pub list-end : (t : TypeOctet) → typed_read version t l at ≡ Ok vector.EndMark → answer_of (vectors_in version t (suc f) l at) ≡ Ok tt
  unfolding typed_read vectors_in answer_of
  list-end not_allowed e = let z : ◌≡◌ {A = ℕ} 0 1 = cc in absurd (omega arith)
  list-end unknown e = let z : ◌≡◌ {A = ℕ} 0 1 = cc in absurd (omega arith)
  list-end (known k) e = rw (vectors-end f version k l at e)

  -- behind a vector, and behind one that is passed over
  abbrev Goes : TypeOctet → ℕ → Type 0
  Goes t next = answer_of (vectors_in version t (suc f) l at) ≡ answer_of (vectors_in version t f l next)

  pub list-next : (t : TypeOctet) (h : VectorHead) → typed_read version t l at ≡ Ok (vector.Vector h) → Goes t h.next
  unfolding typed_read vectors_in
  list-next not_allowed h e = let z : ◌≡◌ {A = ℕ} 0 1 = cc in absurd (omega arith)
  list-next unknown h e = let z : ◌≡◌ {A = ℕ} 0 1 = cc in absurd (omega arith)
  list-next (known k) h e = rw (vectors-next f version k l at h e) (also-answer (vector_at k l at (be_at 2 l at)) (vectors f version k l h.next))

  pub list-passed : (t : TypeOctet) (next : ℕ) → typed_read version t l at ≡ Ok (vector.PassedOver next) → Goes t next
  unfolding typed_read vectors_in
  list-passed not_allowed next e = let z : ◌≡◌ {A = ℕ} 0 1 = cc in absurd (omega arith)
  list-passed unknown next e = let z : ◌≡◌ {A = ℕ} 0 1 = cc in absurd (omega arith)
  list-passed (known k) next e = rw (vectors-over f version k l at next e)

-- a list's own answer, and what the Messages behind it give
both-refused : (x w : Walk) (r : Refusal) → answer_of x ≡ Err r → answer_of (both x w) ≡ Err r
unfolding answer_of both
both-refused (fault n) w r e = e
both-refused (found vs) w r e = let z : ◌≡◌ {A = ℕ} 0 1 = cc in absurd (omega arith)

both-accepted : (x w : Walk) → answer_of x ≡ Ok tt → answer_of (both x w) ≡ answer_of w
unfolding answer_of both
both-accepted (fault n) w e = let z : ◌≡◌ {A = ℕ} 0 1 = cc in absurd (omega arith)
both-accepted (found vs) (fault n) e = refl
both-accepted (found vs) (found ws) e = refl

module _ (f version : ℕ) (s : List ℕ) (at : ℕ) where
  pub pdu-refused : (r : Refusal) → message_read version s at ≡ Err r → answer_of (messages (suc f) version s at) ≡ Err r
  unfolding answer_of
  pdu-refused r e = let h = messages-refused f version s at r e in rw h.1 (ap Err h.2)

  pub pdu-end : message_read version s at ≡ Ok message.End → answer_of (messages (suc f) version s at) ≡ Ok tt
  unfolding answer_of
  pdu-end e = rw (messages-end f version s at e)

  pub pdu-skipped : (next : ℕ) → message_read version s at ≡ Ok (message.Skipped next) → answer_of (messages (suc f) version s at) ≡ answer_of (messages f version s next)
  pdu-skipped next e = ap answer_of (messages-skipped f version s at next e)

  -- by the answer of its list, as the code lends it
  module _ (m : MessageHead) (e : message_read version s at ≡ Ok (message.List m)) (a : Result (Unit {0}) Refusal)
      (i : a ≡ answer_of (vectors_in version (known (type_of m.attribute)) (suc (length (take (m.next - m.list) (drop m.list s)))) (take (m.next - m.list) (drop m.list s)) 0)) where
    given : a ≡ answer_of (vectors_in version (known (type_of m.attribute)) (suc (m.next - m.list)) (take (m.next - m.list) (drop m.list s)) 0)
    given = let p = ahead-list version s at m e in rw (list_length_lem s m.list m.next p.ends p.within) at i

    pub pdu-list-refused : (r : Refusal) → a ≡ Err r → answer_of (messages (suc f) version s at) ≡ Err r
    pdu-list-refused r q = rw (messages-list f version s at m e) (both-refused _ _ r (sym given ∙ q))

    pub pdu-list : a ≡ Ok tt → answer_of (messages (suc f) version s at) ≡ answer_of (messages f version s m.next)
    pdu-list q = rw (messages-list f version s at m e) (both-accepted _ _ (sym given ∙ q))

-- The answer is not yet given: that of what is left, from here, is the answer.

-- from a vector on, in a list
abbrev pub ListLeft : List ℕ → ℕ → TypeOctet → ℕ → Type 0
ListLeft l version t at = Left (λ (f a : ℕ). answer_of (vectors_in version t f l a)) (length l) (answer_of (vectors_in version t (suc (length l)) l 0)) at

pub list-in : (l : List ℕ) (version : ℕ) (t : TypeOctet) → ListLeft l version t 0
list-in l version t = record { within = omega arith; turns = length l; enough = omega arith; gives = refl }

-- from a Message on
abbrev pub PduLeft : List ℕ → ℕ → ℕ → Type 0
PduLeft s version at = Left (λ (f a : ℕ). answer_of (messages f version s a)) (length s) (answer_of (walk s)) at

-- The whole PDU.
module _ (s : List ℕ) where
  pub walk-empty : length s ≡ 0 → answer_of (walk s) ≡ Err refusal.PduLength
  unfolding walk answer_of refusal_of
  walk-empty p = rw (eq-eqb _ _ p)

  module _ (o : length s ≡ 0 → ⊥) where
    pub walk-long : longest_pdu < length s → answer_of (walk s) ≡ Err refusal.PduLength
    unfolding walk answer_of refusal_of
    walk-long p = rw (ne_eqb _ _ o, lt-ltb longest_pdu _ p)

    pub walk-in : length s ≤ longest_pdu → PduLeft s (get_or s 0 0) 1
    unfolding walk
    walk-in p = record { within = omega arith; turns = length s; enough = omega arith; gives = rw (ne_eqb _ _ o, le-ltb longest_pdu _ p) }

  -- the number of the answer is that of the walk
  pub walk-number : (r : Result (Unit {0}) Refusal) → r ≡ answer_of (walk s) → answer_number r ≡ number_of (walk s)
  unfolding answer_of number_of
  walk-number r e = go (walk s) refl e
    where
      go : (w : Walk) → walk s ≡ w → r ≡ answer_of w → answer_number r ≡ number_of w
      go (fault n) i e = let k = walk-faults s n i in rw e (refusal-numbered n (omega arith) (omega arith))
      go (found vs) i e = rw e
