-- What a walk that applies an accepted MMRP PDU reads is what the definitions apply: the parts of each vector at its places, the
-- address and the event of each value, and the acts that are left after each step. Assumes nothing.
use mathlib.Core.Path.{◌≡◌, refl, sym, ap, subst, ◌∙◌}
use mathlib.Core.List.{List, [], ◌++◌}
use mathlib.Core.Bool.{false}
use Rattle.std.specs.Prelude.{Some, None, Result, Ok, Err}
use Prim.Native.Nat.{ℕ, zero, suc, ◌+◌, ◌%◌, ◌^◌, ◌≤◌, ◌<◌}
use native.Mathlib.Omega.{arith}
use lib.ListN.{length, get_or}
use lib.Dec.{ltb, eqb}
use borrow.Author.Tests.{ltb-false, eqb-false}
use Rattle.octets.specs.Be.{be_at}
use Rattle.octets.proofs.Parts.{lent_length, length_part}
use Rattle.model.specs.FrameLayout.{longest_pdu}
use Rattle.model.specs.Registrations.{AddressAct, AddressReading, refused_frame, address_acts}
use Rattle.model.specs.Frames.{three_length, vector_end, vector_head}
use Rattle.model.specs.AddressFrames.{AddressList, mac_list, first_octets, overruns, address_vector_in, AddressVector, address_vector_at, address_of, address_values, all_addresses, address_vector_acts, ListWalk, list_fault, list_acts, address_vectors, address_messages, address_walk}
use Rattle.model.proofs.FoundVectors.{passed}
use Rattle.model.proofs.FoundAddresses.{address-faults, no-refusal, no-list-fault, then-list, after_list_lem, passed-addresses, each_within}
use Rattle.msrpdu.specs.Reader.{head_of}
use Rattle.msrpdu.specs.declared.VectorHead.{VectorHead}
use Rattle.msrpdu.specs.declared.VectorRead.{VectorRead}
use Rattle.msrpdu.specs.declared.VectorRead.TheVariants as vector
use Rattle.model.specs.declared.refusal.Refusal.{Refusal}
use Rattle.msrpdu.proofs.Laws.{value_read}
use Rattle.msrpdu.proofs.Reading.{Headed, read_head, first-here}
use Rattle.mmrpdu.specs.Reader.{list_named, head_vector, typed_read, message_read, list_answer, number_of, address_in}
use Rattle.mmrpdu.specs.declared.MessageHead.{MessageHead}
use Rattle.mmrpdu.proofs.Walking.{within, over-within, end-within, addresses-refused, addresses-end, addresses-next, addresses-over, messages-refused, messages-end, messages-list}

-- A vector that is read is the one that its head names.

-- its parts are as long as its values ask for, and no value runs past FirstValue's octets
pub record Sound (t : AddressList) (v : AddressVector) : Type 0 where
  pub values : v.values < 8192
  pub first : length v.first ≡ first_octets t
  pub three : length v.three ≡ three_length v.values
  pub within : overruns t v.first v.values ≡ false

head-vector : (version : ℕ) (t : AddressList) (s : List ℕ) (at h : ℕ) → address_vector_in version t s at ≡ vector_head h
    → address_vector_at t s at h ≡ head_vector s (head_of (first_octets t) false at h)
unfolding address_vector_at head_vector head_of
head-vector version t s at h e =
    rw (first-here version (first_octets t) false s at h (passed-addresses version t s at h e).there, lent_length (at + 2 + first_octets t) (three_length (h % 8192)))

module _ (version : ℕ) (t : AddressList) (s : List ℕ) (at : ℕ) (w : VectorHead) (e : typed_read version t s at ≡ Ok (vector.Vector w)) where
  abbrev there : Headed (first_octets t) false at (address_vector_in version t s at) w
  there = read_head (first_octets t) false at (address_vector_in version t s at) w (unfold typed_read in e)

  named : address_vector_at t s at there.header ≡ head_vector s w
  named = head-vector version t s at there.header there.is ∙ ap (head_vector s) there.head

  pub meant : address_vector_at t s at (be_at 2 s at) ≡ head_vector s w
  meant = ap (address_vector_at t s at) (passed-addresses version t s at there.header there.is).fitting.is ∙ named

  pub sound : Sound t (head_vector s w)
  unfolding address_vector_at vector_end
  sound = subst (Sound t) named record {
    values = omega arith;
    first = length_part (at + 2) (first_octets t) s (omega (arith, (passed-addresses version t s at there.header there.is).fitting.fits));
    three = length_part (at + 2 + first_octets t) (three_length (there.header % 8192)) s (omega (arith, (passed-addresses version t s at there.header there.is).fitting.fits));
    within = (passed-addresses version t s at there.header there.is).within;
  }

-- The address of each of its values.

module _ (v : AddressVector) (n : ℕ) (h : n < v.values) where
  pub address_read : Sound mac_list v → (address_in v.first n ≡ Some (address_of v.first n)) × (address_of v.first n < 2 ^ 48)
  unfolding address_in address_of first_octets overruns
  address_read o =
      let b : be_at 6 v.first 0 + n < 2 ^ 48 = each_within v.first v.values n o.within h in
      (value_read 6 6 0 v.first n (omega (arith, o.first)) _ refl (omega arith) _ refl, b)

-- The acts of a vector, by its list's type: only MAC addresses have any.

module _ (kind octets : ℕ) where
  pub macs-named : kind ≡ 2 → list_named kind octets ≡ mac_list
  unfolding list_named
  macs-named e = rw e

  pub macs-acts : (v : AddressVector) → kind ≡ 2 → address_vector_acts (list_named kind octets) v ≡ all_addresses v.leaves_all ++ address_values v 0 v.values
  unfolding address_vector_acts
  macs-acts v e = rw (macs-named e)

pub other-acts : (kind octets : ℕ) (v : AddressVector) → (kind ≡ 2 → ⊥) → address_vector_acts (list_named kind octets) v ≡ []
unfolding address_vector_acts list_named
other-acts zero octets v p = refl
other-acts (suc zero) octets v p = refl
other-acts (suc (suc zero)) octets v p = absurd (p refl)
other-acts (suc (suc (suc kind))) octets v p = refl

-- The acts that are left, after each step, of an accepted list and PDU.

-- a vector's acts are the first of those left, and the others come after it
pub record NextVector (f version : ℕ) (t : AddressList) (s : List ℕ) (w : VectorHead) (es : List AddressAct) (end : ℕ) : Type 0 where
  pub rest : List AddressAct
  pub split : es ≡ address_vector_acts t (head_vector s w) ++ rest
  pub left : address_vectors f version t s w.next ≡ list_acts rest end

module _ (f version : ℕ) (t : AddressList) (s : List ℕ) (at : ℕ) (es : List AddressAct) (end : ℕ) (e : address_vectors (suc f) version t s at ≡ list_acts es end) where
  pub found-next : (w : VectorHead) → typed_read version t s at ≡ Ok (vector.Vector w) → NextVector f version t s w es end
  found-next w r =
      let a = then-list _ _ es end (sym (addresses-next f version t s at w r) ∙ e) in
      record { rest = a.rest; split = a.split ∙ ap (λ (v : AddressVector). address_vector_acts t v ++ a.rest) (meant version t s at w r); left = a.left }

  pub found-over : (next : ℕ) → typed_read version t s at ≡ Ok (vector.PassedOver next) → address_vectors f version t s next ≡ list_acts es end
  found-over next r = sym (addresses-over f version t s at next r) ∙ e

  pub found-end : typed_read version t s at ≡ Ok vector.EndMark → (es ≡ []) × (end ≡ at + 2)
  found-end r = let h : list_acts [] (at + 2) ≡ list_acts es end = sym (addresses-end f version t s at r) ∙ e in (cc, cc)

  pub found-accepted : (r : Refusal) → typed_read version t s at ≡ Err r → ⊥
  found-accepted r q = let h = addresses-refused f version t s at r q in no-list-fault h.0 es end (sym h.1 ∙ e)

-- the place behind a list is behind its EndMark, and within the PDU
pub list-ends : (f version : ℕ) (t : AddressList) (s : List ℕ) (at : ℕ) (es : List AddressAct) (end : ℕ) → address_vectors f version t s at ≡ list_acts es end
    → (at + 2 ≤ end) × (end ≤ length s)
list-ends zero version t s at es end e = absurd (no-list-fault 3 es end (unfold address_vectors in e))
list-ends (suc f) version t s at es end e = go (typed_read version t s at) refl (λ at es h. list-ends f version t s at es end h)
  where
    go : (r : Result VectorRead Refusal) → typed_read version t s at ≡ r
        → ((next : ℕ) (rest : List AddressAct) → address_vectors f version t s next ≡ list_acts rest end → (next + 2 ≤ end) × (end ≤ length s))
        → (at + 2 ≤ end) × (end ≤ length s)
    go (Err r) i ih = absurd (found-accepted f version t s at es end e r i)
    go (Ok vector.EndMark) i ih =
        let a = found-end f version t s at es end e i in
        let w = end-within version t s at i in
        (omega (arith, a.1), omega (arith, a.1))
    go (Ok (vector.Vector w)) i ih =
        let n = found-next f version t s at es end e w i in
        let p = within version t s at w i in
        let h = ih w.next n.rest n.left in
        (omega arith, h.1)
    go (Ok (vector.PassedOver next)) i ih =
        let p = over-within version t s at next i in
        let h = ih next es (found-over f version t s at es end e next i) in
        (omega arith, h.1)

-- the same, by the answer of the list
pub list-ahead : (f version : ℕ) (t : AddressList) (s : List ℕ) (at end : ℕ) → list_answer (address_vectors f version t s at) ≡ Ok end → (at + 2 ≤ end) × (end ≤ length s)
unfolding list_answer
list-ahead f version t s at end = go (address_vectors f version t s at) refl
  where
    go : (w : ListWalk) → address_vectors f version t s at ≡ w → list_answer w ≡ Ok end → (at + 2 ≤ end) × (end ≤ length s)
    go (list_fault n) i e = let z : ◌≡◌ {A = ℕ} 0 1 = cc in absurd (omega arith)
    go (list_acts es place) i e = let p : place ≡ end = cc in list-ends f version t s at es end (rw p at i)

-- a Message's acts are the first of those left, and the others come after its list
pub record NextList (f version : ℕ) (s : List ℕ) (m : MessageHead) (es : List AddressAct) : Type 0 where
  pub own : List AddressAct
  pub end : ℕ
  pub rest : List AddressAct
  pub split : es ≡ own ++ rest
  pub list : address_vectors (suc (length s)) version (list_named m.kind m.octets) s m.list ≡ list_acts own end
  pub left : address_messages f version s end ≡ address_acts rest

module _ (f version : ℕ) (s : List ℕ) (at : ℕ) (es : List AddressAct) (e : address_messages (suc f) version s at ≡ address_acts es) where
  pub found-list : (m : MessageHead) → message_read version s at ≡ Ok (Some m) → NextList f version s m es
  found-list m r =
      let a = after_list_lem _ _ es (sym (messages-list f version s at m r) ∙ e) in
      record { own = a.own; end = a.end; rest = a.others; split = a.split; list = a.list; left = a.left }

  pub found-done : message_read version s at ≡ Ok None → es ≡ []
  found-done r = let h = messages-end f version s at r in cc

  pub found-allowed : (r : Refusal) → message_read version s at ≡ Err r → ⊥
  found-allowed r q = let h = messages-refused f version s at r q in no-refusal h.0 es (sym h.1 ∙ e)

-- An accepted PDU, of number 0, is one that was read to its end: no fault has that number.

pub accepted : (s : List ℕ) → number_of (address_walk s) ≡ 0 → (es : List AddressAct) × (address_walk s ≡ address_acts es)
unfolding number_of
accepted s = go (address_walk s) refl
  where
    go : (r : AddressReading) → address_walk s ≡ r → number_of r ≡ 0 → (es : List AddressAct) × (address_walk s ≡ address_acts es)
    go (refused_frame n) e z = let k = address-faults s n e in absurd (omega arith)
    go (address_acts es) e z = (es, e)

module _ (s : List ℕ) (es : List AddressAct) (e : address_walk s ≡ address_acts es) where
  -- its Messages start behind the ProtocolVersion
  pub accepted-messages : address_messages (suc (length s)) (get_or s 0 0) s 1 ≡ address_acts es
  unfolding address_walk
  accepted-messages =
      let a = passed (eqb (length s) 0) _ _ _ (no-refusal 2 es) e in
      let b = passed (ltb longest_pdu (length s)) _ _ _ (no-refusal 2 es) a.1 in
      b.1

  -- and it has 1 to 1,500 octets
  pub accepted-length : (1 ≤ length s) × (length s ≤ longest_pdu)
  unfolding address_walk
  accepted-length =
      let a = passed (eqb (length s) 0) _ _ _ (no-refusal 2 es) e in
      let b = passed (ltb longest_pdu (length s)) _ _ _ (no-refusal 2 es) a.1 in
      let p : length s ≡ 0 → ⊥ = eqb-false _ _ a.0 in
      (omega arith, ltb-false longest_pdu _ b.0)
