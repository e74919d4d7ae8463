-- What a walk that applies an accepted PDU reads is what the definitions apply: the parts of each vector at its places, and the
-- vectors that are left after each step. Assumes nothing.
use mathlib.Core.Path.{◌≡◌, refl, sym, ap, subst, ◌∙◌}
use mathlib.Core.List.{List, [], ◌∷◌, ◌++◌, append_assoc}
use Rattle.std.specs.Prelude.{Ok, Err}
use Prim.Native.Nat.{ℕ, suc, ◌+◌, ◌-◌, ◌%◌, ◌≤◌}
use native.Mathlib.Omega.{arith}
use lib.ListN.{length, get_or, take, drop}
use lib.Dec.{ltb, eqb}
use borrow.Author.Tests.{ltb-false, eqb-false}
use Rattle.octets.specs.Be.{be_at}
use Rattle.octets.specs.Parts.{part}
use Rattle.octets.proofs.Parts.{lent_length}
use Rattle.model.specs.FrameLayout.{longest_pdu}
use Rattle.model.specs.Attributes.{type_of}
use Rattle.model.specs.Frames.{Attribute, TypeOctet, not_allowed, unknown, known, first_length, three_length, has_four, four_length, Vector, vector_at, vector_end, vector_head, typed_in, Walk, fault, found, messages, walk, vector_acts, frame_acts}
use Rattle.model.proofs.Refusals.{walk-faults}
use Rattle.model.proofs.FoundVectors.{no-fault, also-found, both_found, passed, passed-all, Sound, sound-at}
use Rattle.model.specs.declared.refusal.Refusal.{Refusal}
use Rattle.msrpdu.specs.Reader.{head_of, head_vector, typed_read, message_read, vectors_in, number_of}
use Rattle.msrpdu.specs.declared.VectorHead.{VectorHead}
use Rattle.msrpdu.specs.declared.VectorRead.TheVariants as vector
use Rattle.msrpdu.specs.declared.MessageHead.{MessageHead}
use Rattle.msrpdu.specs.declared.MessageRead.TheVariants as message
use Rattle.msrpdu.proofs.Reading.{Headed, read_head, first-here}
use Rattle.msrpdu.proofs.Walking.{vectors-refused, vectors-end, vectors-next, vectors-over, messages-refused, messages-end, messages-skipped, messages-list}

-- A vector that is read is the one that its head names.

head-vector : (version : ℕ) (k : Attribute) (l : List ℕ) (at h : ℕ) → typed_in version k l at ≡ vector_head h
    → vector_at k l at h ≡ head_vector k l (head_of (first_length k) (has_four k) at h)
unfolding vector_at head_vector head_of vector_end part
head-vector version k l at h e =
    let f = first-here version (first_length k) (has_four k) l at h (passed-all version k l at h e).there in
    rw (f, lent_length (at + 2 + first_length k) (three_length (h % 8192)), lent_length (at + 2 + first_length k + three_length (h % 8192)) (four_length (has_four k) (h % 8192)))

module _ (version : ℕ) (k : Attribute) (l : List ℕ) (at : ℕ) (w : VectorHead) (e : typed_read version (known k) l at ≡ Ok (vector.Vector w)) where
  abbrev there : Headed (first_length k) (has_four k) at (typed_in version k l at) w
  there = read_head (first_length k) (has_four k) at (typed_in version k l at) w (unfold typed_read in e)

  named : vector_at k l at there.header ≡ head_vector k l w
  named = head-vector version k l at there.header there.is ∙ ap (head_vector k l) there.head

  pub meant : vector_at k l at (be_at 2 l at) ≡ head_vector k l w
  meant = ap (vector_at k l at) (passed-all version k l at there.header there.is).fitting.is ∙ named

  pub sound : Sound (head_vector k l w)
  sound = subst Sound named (sound-at version k l at there.header there.is)

-- The vectors that are left, after each step, of an accepted list and PDU.

-- a list of which only the vectors from a place on are left, by what is read there
module _ (f version : ℕ) (t : TypeOctet) (l : List ℕ) (at : ℕ) (vs : List Vector) (e : vectors_in version t (suc f) l at ≡ found vs) where
  pub found-typed : (k : Attribute) × (t ≡ known k)
  unfolding vectors_in
  found-typed = go t e
    where
      go : (t : TypeOctet) → vectors_in version t (suc f) l at ≡ found vs → (k : Attribute) × (t ≡ known k)
      go not_allowed h = let z : ◌≡◌ {A = ℕ} 0 1 = cc in absurd (omega arith)
      go unknown h = let z : ◌≡◌ {A = ℕ} 0 1 = cc in absurd (omega arith)
      go (known k) h = (k, refl)

-- a vector is the first of those left, and the others come after it
pub record NextVector (f version : ℕ) (k : Attribute) (l : List ℕ) (at : ℕ) (w : VectorHead) (vs : List Vector) : Type 0 where
  pub rest : List Vector
  pub first : vs ≡ vector_at k l at (be_at 2 l at) ∷ rest
  pub left : vectors_in version (known k) f l w.next ≡ found rest

module _ (f version : ℕ) (k : Attribute) (l : List ℕ) (at : ℕ) (vs : List Vector) (e : vectors_in version (known k) (suc f) l at ≡ found vs) where
  pub found-next : (w : VectorHead) → typed_read version (known k) l at ≡ Ok (vector.Vector w) → NextVector f version k l at w vs
  unfolding vectors_in
  found-next w r =
      let a = also-found _ _ vs (sym (vectors-next f version k l at w r) ∙ e) in
      record { rest = a.0; first = a.2; left = a.1 }

  pub found-over : (next : ℕ) → typed_read version (known k) l at ≡ Ok (vector.PassedOver next) → vectors_in version (known k) f l next ≡ found vs
  unfolding vectors_in
  found-over next r = sym (vectors-over f version k l at next r) ∙ e

  pub found-end : typed_read version (known k) l at ≡ Ok vector.EndMark → vs ≡ []
  unfolding vectors_in
  found-end r = let h = vectors-end f version k l at r in cc

  pub found-accepted : (r : Refusal) → typed_read version (known k) l at ≡ Err r → ⊥
  unfolding vectors_in
  found-accepted r q = let h = vectors-refused f version k l at r q in let z : ◌≡◌ {A = ℕ} 0 1 = cc (h.1) in omega arith

-- a Message's vectors are the first of those left, and the others come after it
pub record NextList (f version : ℕ) (s : List ℕ) (m : MessageHead) (vs : List Vector) : Type 0 where
  pub own : List Vector
  pub rest : List Vector
  pub split : vs ≡ own ++ rest
  pub list : vectors_in version (known (type_of m.attribute)) (suc (m.next - m.list)) (take (m.next - m.list) (drop m.list s)) 0 ≡ found own
  pub left : messages f version s m.next ≡ found rest

module _ (f version : ℕ) (s : List ℕ) (at : ℕ) (vs : List Vector) (e : messages (suc f) version s at ≡ found vs) where
  pub found-list : (m : MessageHead) → message_read version s at ≡ Ok (message.List m) → NextList f version s m vs
  found-list m r =
      let a = both_found _ _ vs (sym (messages-list f version s at m r) ∙ e) in
      record { own = a.0; rest = a.1; split = a.4; list = a.2; left = a.3 }

  pub found-skipped : (next : ℕ) → message_read version s at ≡ Ok (message.Skipped next) → messages f version s next ≡ found vs
  found-skipped next r = sym (messages-skipped f version s at next r) ∙ e

  pub found-done : message_read version s at ≡ Ok message.End → vs ≡ []
  found-done r = let h = messages-end f version s at r in cc

  pub found-allowed : (r : Refusal) → message_read version s at ≡ Err r → ⊥
  found-allowed r q = let h = messages-refused f version s at r q in let z : ◌≡◌ {A = ℕ} 0 1 = cc (h.1) in omega arith

-- The acts of those left.

pub acts-next : (v : Vector) (vs : List Vector) → frame_acts (v ∷ vs) ≡ vector_acts v ++ frame_acts vs
unfolding frame_acts
acts-next v vs = refl

pub acts-append : (us vs : List Vector) → frame_acts (us ++ vs) ≡ frame_acts us ++ frame_acts vs
unfolding frame_acts
acts-append [] vs = refl
acts-append (v ∷ us) vs = rw (acts-append us vs) (sym (append_assoc (vector_acts v) (frame_acts us) (frame_acts vs)))

-- An accepted PDU, of number 0, is one whose vectors were all found: no fault has that number.

pub accepted : (s : List ℕ) → number_of (walk s) ≡ 0 → (vs : List Vector) × (walk s ≡ found vs)
unfolding number_of
accepted s = go (walk s) refl
  where
    go : (w : Walk) → walk s ≡ w → number_of w ≡ 0 → (vs : List Vector) × (walk s ≡ found vs)
    go (fault n) e z = let k = walk-faults s n e in absurd (omega arith)
    go (found vs) e z = (vs, e)

-- its Messages start behind the ProtocolVersion
pub accepted-messages : (s : List ℕ) (vs : List Vector) → walk s ≡ found vs → messages (suc (length s)) (get_or s 0 0) s 1 ≡ found vs
unfolding walk
accepted-messages s vs e =
    let a = passed (eqb (length s) 0) _ _ _ (no-fault 2 vs) e in
    let b = passed (ltb longest_pdu (length s)) _ _ _ (no-fault 2 vs) a.1 in
    b.1

-- and it has 1 to 1,500 octets
pub accepted-length : (s : List ℕ) (vs : List Vector) → walk s ≡ found vs → (1 ≤ length s) × (length s ≤ longest_pdu)
unfolding walk
accepted-length s vs e =
    let a = passed (eqb (length s) 0) _ _ _ (no-fault 2 vs) e in
    let b = passed (ltb longest_pdu (length s)) _ _ _ (no-fault 2 vs) a.1 in
    let p : length s ≡ 0 → ⊥ = eqb-false _ _ a.0 in
    (omega arith, ltb-false longest_pdu _ b.0)
