-- A written PDU is octets and well-formed, and a neighbour reads of it exactly the declarations written, each as its own event, and a
-- LeaveAll of every type where it has one.
use mathlib.Core.Path.{◌≡◌, refl, sym, ◌∙◌, ap, ap₂}
use mathlib.Core.List.{List, [], ◌∷◌, ◌++◌, map, flat_map, append-nil, append_assoc}
use mathlib.Core.Bool.{Bool, true, false, cond, ◌&&◌}
use Prim.Native.Nat.{ℕ, zero, suc, ◌+◌, ◌*◌, ◌-◌, ◌/◌, ◌%◌, ◌^◌, ◌≤◌, ◌<◌}
use native.Mathlib.Nat.{add-zero}
use native.Mathlib.Omega.{arith}
use lib.ListN.{length, get_or, take, drop, length-append, length-replicate}
use lib.Seq.{take-append_seam, drop-append_seam, get_or-append_seam, get_or-append-add}
use lib.Dec.{ltb, leb, eqb}
use borrow.Author.Tests.{ltb-true, ltb-false, leb-true, le-ltb, le-leb, eq-eqb, ne_eqb}
use Rattle.octets.specs.Be.{be_at, be}
use Rattle.octets.specs.Fields.{fields, packed, Fit, flat}
use Rattle.octets.specs.Parts.{part}
use Rattle.octets.proofs.Be.{be_at-ext, length-be}
use Rattle.octets.proofs.Fields.{packed-octets, be_at-fits, fields-of-packed}
use Rattle.model.specs.FrameLayout.{longest_pdu}
use Rattle.model.specs.Layout.{slots}
use Rattle.model.specs.Lists.{All, keep, bit}
use Rattle.model.specs.Applicant.{to, by, passive_leaving_all, new_leaving_all, applicant_row, applicant_column, applicant_entry, message_number, opportunity, Standing, very_anxious_passive, very_anxious_new, anxious_new, anxious_active, quiet_active, leaving_active, named, sent, spoken}
use Rattle.model.specs.Places.{saying, write_from}
use Rattle.model.specs.Machines.{Heard, Listed, Applicant, no_applicant, applicant}
use Rattle.model.specs.State.{Settings, Fixed, TalkerType, talker_advertise, talker_failed, Ready, Offer, Failure, Sends, Sender, Stream, Bridge, sends_at, sender_at, no_sends, no_sender, slot_of, ready_number}
use Rattle.model.specs.Registrations.{Kind, advertises, faileds, listeners, ids, Act, hear, of_domain, hear_domain, acts}
use Rattle.model.specs.Frames.{Attribute, registers, domain_type, known, type_octet, type_number, first_widths, first_length, three_length, has_four, four_length, Vector, vector_at, vector_end, overpacked, runs_past, overflows, strange_leave, vector_in, checked_in, typed_in, list_length, list_at, message_end, end_mark, header_in, message_in, list_of, found, also, both, vectors_from, vectors, messages_from, messages, walk, Event, event, three_packed, four_packed, event_of, four_of, Asking, nothing_asked, join, withdraw, asking, priority_of, rank_of, fixed_value, talker_type_value, id_value, talker_act, listener_act, heard_of, talker_heard, listener_heard, has_slot, slot_act, slot_heard, domain_act, value_acts, values_acts, leave_all_acts, vector_acts, frame_acts, walked, wrong_port, reading}
use Rattle.model.specs.Cutting.{Part, values}
use Rattle.model.specs.Declarations.{Declaration, talker_declaration, listener_declaration, domain_declaration, talker_kind, attribute_of, join_of, listed_as, advertise_of, failed_of, declarations_of, of_kind, domain_of, domain_values, declarations, is_registered, Said, say, leave_of, hear_of, asked_of, said_acts, declared_id, declared_ids, same_attribute, having}
use Rattle.model.specs.WrittenFrames.{priority_octet, fixed_numbers, failure_numbers, first_numbers, four_octets, declaration_vector, packed_vector, listener_parts, vectors_of, vector_octets, message_of, with_leave_all, empty_vector, leaving_all, vectors_said, message_octets, pdu_octets}
use Rattle.model.specs.Laid.{Ascending}
use Rattle.model.specs.Writing.{leaves_all, port_way, say_on, takes_on, wrote_on, after_write, Written, write}
use Rattle.model.proofs.Lists.{all_map, all-each, all_append, all_take, all_drop, all_keep, all_get_or, length-tabulate, and_left, and_right, and-false}
use Rattle.model.proofs.Valid.{Valid, ValidFixed, ValidTalkerType, ValidVarying, GoodApplicant, ValidOffer, ValidFailed, ValidSends, ValidStream}
use Rattle.model.proofs.Parts.{rising-ascends}
use Rattle.model.proofs.AdvanceKeepsForm.{all-mapped, get_or_past}
use Rattle.model.proofs.WritingPasses.{length-first, known-type, in_turn, all-of-saying, NotBefore, OfAttribute, InOrder, all-of-kind, having-attribute, having-none, run-in-order, run_fits, FewListeners, FewStreams, run-few}
use Rattle.model.proofs.PackedVectors.{IsEvent, Packs, parts-pack, packed-events, packed-within, Within, acts-said, counted, listener-acts, parts-acts, no-domain}

-- Octets behind a prefix.

pub be_at-behind : (n : ℕ) (x y : List ℕ) (at : ℕ) → be_at n (x ++ y) (length x + at) ≡ be_at n y at
be_at-behind n x y at =
    be_at-ext n (x ++ y) y (length x + at) at (λ j l. ap (λ (k : ℕ). get_or (x ++ y) k 0) (omega arith) ∙ get_or-append-add x y (at + j) 0)

pub be_at-here : (n : ℕ) (x y : List ℕ) → be_at n (x ++ y) (length x) ≡ be_at n y 0
be_at-here n x y = ap (be_at n (x ++ y)) (omega arith) ∙ be_at-behind n x y 0

-- a part that stands behind a prefix
part-behind : (x y z : List ℕ) (at n : ℕ) → at ≡ length x → n ≡ length y → part at n (x ++ (y ++ z)) ≡ y
unfolding part
part-behind x y z at n e q = rw (e, q, drop-append_seam x (y ++ z)) (take-append_seam y z)

-- a number of two octets
pub two-octets : (n : ℕ) (y : List ℕ) → n < 65536 → be_at 2 (be 2 n ++ y) 0 ≡ n
unfolding be_at be
two-octets n y h = omega arith

-- A vector.

length-four : (d : Declaration) → length (four_octets d) ≡ four_length (has_four (attribute_of d)) 1
unfolding four_octets attribute_of talker_kind four_length has_four
length-four (talker_declaration id f v) = go v.type
  where
    go : (h : TalkerType) → 0 ≡ four_length (has_four (registers (talker_kind h))) 1
    go talker_advertise = refl
    go (talker_failed b c) = refl
length-four (listener_declaration id r) = refl
length-four (domain_declaration id q v) = refl

-- one value adds nothing to the numbers of FirstValue, which are octets
no-run-past : (k : Attribute) (s : List ℕ) → ((i : ℕ) → get_or s i 0 < 256) → runs_past k s 0 ≡ false
unfolding runs_past
no-run-past k s h = go k
  where
    unique : ltb 65535 (be_at 2 s 6 + 0) ≡ false
    unique = le-ltb 65535 (be_at 2 s 6 + 0) (omega (arith, be_at-fits 2 s 6 h))

    destination : ltb 281474976710655 (be_at 6 s 8 + 0) ≡ false
    destination = le-ltb 281474976710655 (be_at 6 s 8 + 0) (omega (arith, be_at-fits 6 s 8 h))

    octet : (i : ℕ) → ltb 255 (get_or s i 0 + 0) ≡ false
    octet i = le-ltb 255 (get_or s i 0 + 0) (omega (arith, h i))

    go : (j : Attribute) → runs_past j s 0 ≡ false
    go (registers advertises) = rw (unique, destination)
    go (registers faileds) = rw (unique, destination)
    go (registers listeners) = unique
    go domain_type = rw (octet 0, octet 1)

no_overflow : (d : Said) → overflows (declaration_vector d) ≡ false
unfolding overflows declaration_vector
no_overflow d =
    let ws : List ℕ = first_widths (attribute_of d.declaration) in
    no-run-past (attribute_of d.declaration) (packed ws (first_numbers d.declaration)) (packed-octets ws (first_numbers d.declaration))

-- a vector of header h that has no fault is found, at every version, and the walk goes on behind it
pub vectors-more : (f version : ℕ) (k : Attribute) (l : List ℕ) (at h : ℕ) (v : Vector)
    → be_at 2 l at ≡ h → (h ≡ 0 → ⊥) → strange_leave h ≡ false → at + 2 ≤ length l → vector_end (first_length k) (has_four k) at h ≤ length l
    → vector_at k l at h ≡ v → overpacked v.three ≡ false → overflows v ≡ false
    → vectors (suc f) version k l at ≡ also v (vectors f version k l (vector_end (first_length k) (has_four k) at h))
unfolding vectors typed_in vector_in checked_in vectors_from
vectors-more f version k l at h v is some leave header fits one three values =
    let events : overpacked (part (at + 2 + first_length k) (three_length (h % 8192)) l) ≡ false = unfold vector_at in (rw (← one) at three) in
    rw (
      is,
      le-ltb (length l) (at + 2) header,
      ne_eqb h 0 some,
      leave,
      and-false (eqb version 0),
      le-ltb (length l) (vector_end (first_length k) (has_four k) at h) fits,
      events,
      one,
      values,
      one,
    )

-- The header of a vector: LeaveAllEvent and the number of its values.
unfoldable pub header_of : Vector → ℕ
header_of v = bit v.leaves_all * 8192 + v.values

bit-small : (t : Bool) → bit t ≤ 1
unfolding bit
bit-small true = omega arith
bit-small false = omega arith

bit-read : (t : Bool) → eqb (bit t) 1 ≡ t
unfolding bit
bit-read true = refl
bit-read false = refl

module _ (v : Vector) (few : v.values < 8192) where
  header-values : header_of v % 8192 ≡ v.values
  unfolding header_of
  header-values = omega arith

  header-leave : header_of v / 8192 ≡ bit v.leaves_all
  unfolding header_of
  header-leave = omega arith

  header-small : header_of v < 65536
  unfolding header_of
  header-small = omega (arith, bit-small v.leaves_all)

-- A vector that is read as it was written: some values or a LeaveAll, fields as long as its header says, no event octet above 215, no
-- value past its field.
pub record Readable (v : Vector) : Type 0 where
  pub some : 1 ≤ header_of v
  pub few : v.values < 8192
  pub first : length v.first ≡ first_length v.attribute
  pub three : length v.three ≡ three_length v.values
  pub four : length v.four ≡ four_length (has_four v.attribute) v.values
  pub events : overpacked v.three ≡ false
  pub within : overflows v ≡ false

-- a declaration's own vector is
pub single-readable : (d : Said) → IsEvent d → Readable (declaration_vector d)
unfolding declaration_vector three_length overpacked header_of bit
single-readable d e = record {
  some = omega arith;
  few = omega arith;
  first = length-first d;
  three = refl;
  four = length-four d.declaration;
  events = rw (le-ltb 215 (d.event * 36) (omega arith));
  within = no_overflow d;
}

values-some : (l : List ℕ) → Part l → 1 ≤ values l
unfolding values
values-some [] q = absurd q
values-some (x ∷ l) q = omega arith

-- and so is one of several Listeners
pub packed-readable : (g : List Said) → Packs g → Readable (packed_vector g)
unfolding packed_vector has_four first_length packed be header_of bit
packed-readable g p = record {
  some = omega (arith, values-some (declared_ids g) p.part);
  few = omega (arith, p.few);
  first = refl;
  three = length-tabulate _ (three_length (values (declared_ids g))) 0;
  four = length-tabulate _ (four_length true (values (declared_ids g))) 0;
  events = packed-events g p.events;
  within = packed-within g p;
}

-- one with LeaveAll too
leaving-readable : (v : Vector) → Readable v → Readable (with_leave_all v)
unfolding with_leave_all header_of bit overflows
leaving-readable v r = record {
  some = omega arith;
  few = r.few;
  first = r.first;
  three = r.three;
  four = r.four;
  events = r.events;
  within = r.within;
}

-- and the vector without values
empty-readable : (k : Attribute) → Readable (empty_vector k)
unfolding empty_vector header_of bit overflows overpacked three_length
empty-readable k = record {
  some = omega arith;
  few = omega arith;
  first = length-replicate (first_length k) 0;
  three = refl;
  four = go k;
  events = refl;
  within = refl;
}
  where
    go : (j : Attribute) → 0 ≡ four_length (has_four j) 0
    go (registers advertises) = unfold four_length has_four in refl
    go (registers faileds) = unfold four_length has_four in refl
    go (registers listeners) = unfold four_length has_four in refl
    go domain_type = unfold four_length has_four in refl

module _ (v : Vector) (r : Readable v) (pre rest : List ℕ) where
  -- the list that has the vector at the place
  here : List ℕ
  here = pre ++ (vector_octets v ++ rest)

  header : List ℕ
  header = be 2 (header_of v)

  vector-octets : vector_octets v ≡ header ++ (v.first ++ (v.three ++ v.four))
  unfolding vector_octets header_of header
  vector-octets = refl

  -- a piece of the vector, behind so much of it
  piece-here : (x y z : List ℕ) (at n : ℕ) → vector_octets v ++ rest ≡ x ++ (y ++ z)
      → at ≡ length pre + length x → n ≡ length y → part at n here ≡ y
  unfolding here
  piece-here x y z at n e a q = rw (e, ← append_assoc pre x (y ++ z)) (part-behind (pre ++ x) y z at n (simp length-append a) q)

  first-here : part (length pre + 2) (first_length v.attribute) here ≡ v.first
  unfolding header
  first-here =
      piece-here header v.first (v.three ++ (v.four ++ rest)) (length pre + 2) (first_length v.attribute)
      (rw vector-octets (simp append_assoc)) (rw (length-be 2 (header_of v))) (sym r.first)

  three-here : part (length pre + 2 + first_length v.attribute) (three_length v.values) here ≡ v.three
  unfolding header
  three-here =
      piece-here (header ++ v.first) v.three (v.four ++ rest) (length pre + 2 + first_length v.attribute) (three_length v.values)
      (rw vector-octets (simp append_assoc)) (simp (length-append, length-be, r.first) (omega arith)) (sym r.three)

  four-here : part (length pre + 2 + first_length v.attribute + three_length v.values) (four_length (has_four v.attribute) v.values) here ≡ v.four
  unfolding header
  four-here =
      piece-here (header ++ (v.first ++ v.three)) v.four rest (length pre + 2 + first_length v.attribute + three_length v.values)
      (four_length (has_four v.attribute) v.values)
      (rw vector-octets (simp append_assoc)) (simp (length-append, length-be, r.first, r.three) (omega arith)) (sym r.four)

  vector-here : vector_at v.attribute here (length pre) (header_of v) ≡ v
  unfolding vector_at
  vector-here = rw (header-values v r.few, header-leave v r.few, bit-read v.leaves_all, first-here, three-here, four-here) refl

  end-here : vector_end (first_length v.attribute) (has_four v.attribute) (length pre) (header_of v) ≡ length pre + length (vector_octets v)
  unfolding vector_end header
  end-here = rw (header-values v r.few, vector-octets) (simp (length-append, length-be, r.first, r.three, r.four) (omega arith))

  header-here : be_at 2 here (length pre) ≡ header_of v
  unfolding here header
  header-here =
      be_at-here 2 pre (vector_octets v ++ rest)
      ∙ rw (vector-octets, append_assoc (be 2 (header_of v)) (v.first ++ (v.three ++ v.four)) rest) (two-octets (header_of v) _ (header-small v r.few))

  length-here : length here ≡ length pre + (length (vector_octets v) + length rest)
  unfolding here
  length-here = simp length-append

  two-at-least : 2 ≤ length (vector_octets v)
  unfolding header
  two-at-least = rw vector-octets (simp (length-append, length-be) (omega arith))

  read_vector : (f : ℕ) → vectors (suc f) 0 v.attribute here (length pre)
      ≡ also v (vectors f 0 v.attribute here (length pre + length (vector_octets v)))
  read_vector f =
      vectors-more f 0 v.attribute here (length pre) (header_of v) v header-here (λ e. omega (arith, r.some))
      (unfold strange_leave in (rw (header-leave v r.few) (le-ltb 1 (bit v.leaves_all) (bit-small v.leaves_all))))
      (omega (arith, length-here, two-at-least))
      (omega (arith, length-here, end-here))
      vector-here
      r.events
      r.within
      ∙ ap (λ (e : ℕ). also v (vectors f 0 v.attribute here e)) end-here

-- An AttributeList.

-- behind any prefix, and with fuel for its octets, the list is read as these vectors
unfoldable pub VectorsRead : Attribute → List ℕ → List Vector → Type 0
VectorsRead k s vs = (f : ℕ) (pre : List ℕ) → length s ≤ f → vectors f 0 k (pre ++ s) (length pre) ≡ found vs

-- the EndMark, as the list's last two octets
pub vectors-end : (k : Attribute) → VectorsRead k (0 ∷ 0 ∷ []) []
unfolding VectorsRead vectors typed_in vector_in strange_leave checked_in vectors_from
vectors-end k zero pre h = absurd (omega arith)
vectors-end k (suc f) pre h =
    let l : length (pre ++ (0 ∷ 0 ∷ [])) ≡ length pre + 2 = length-append pre (0 ∷ 0 ∷ []) in
    let e : be_at 2 (pre ++ (0 ∷ 0 ∷ [])) (length pre) ≡ 0 = be_at-here 2 pre (0 ∷ 0 ∷ []) ∙ (unfold be_at in refl) in
    rw (e, l, le-ltb (length pre + 2) (length pre + 2) (omega arith), l, eq-eqb (length pre + 2) (length pre + 2) refl)

-- one vector more, in front
vectors-cons : (v : Vector) → Readable v → (rest : List ℕ) (vs : List Vector) → VectorsRead v.attribute rest vs
    → VectorsRead v.attribute (vector_octets v ++ rest) (v ∷ vs)
unfolding VectorsRead here also
vectors-cons v r rest vs q f pre h = go f (omega (arith, length-append (vector_octets v) rest, two-at-least v r pre rest))
  where
    go : (f : ℕ) → suc (length rest) ≤ f → vectors f 0 v.attribute (pre ++ (vector_octets v ++ rest)) (length pre) ≡ found (v ∷ vs)
    go zero h = absurd (omega arith)
    go (suc f) h =
        let e : length pre + length (vector_octets v) ≡ length (pre ++ vector_octets v) = simp length-append in
        read_vector v r pre rest f ∙ rw (e, ← append_assoc pre (vector_octets v) rest, q f (pre ++ vector_octets v) (omega arith))

-- vectors of one type that are read
abbrev pub ReadableOf : Attribute → Vector → Type 0
ReadableOf k v = (v.attribute ≡ k) × Readable v

list_octets : List Vector → List ℕ
list_octets vs = flat vector_octets vs ++ (0 ∷ 0 ∷ [])

list-cons : (v : Vector) (vs : List Vector) → list_octets (v ∷ vs) ≡ vector_octets v ++ list_octets vs
unfolding list_octets flat
list-cons v vs = append_assoc (vector_octets v) (flat vector_octets vs) (0 ∷ 0 ∷ [])

vectors-read : (k : Attribute) (vs : List Vector) → All (ReadableOf k) vs → VectorsRead k (list_octets vs) vs
vectors-read k [] a = unfold list_octets flat in (vectors-end k)
vectors-read k (v ∷ vs) a =
    rw (list-cons v vs, ← a.0.0)
    (vectors-cons v a.0.1 (list_octets vs) vs (rw a.0.0 (vectors-read k vs a.1)))

-- vectors of one type without LeaveAll that are read: those of a type's declarations are
abbrev pub Plain : Attribute → Vector → Type 0
Plain k v = (v.leaves_all ≡ false) × ReadableOf k v

singles-readable : (k : Attribute) (l : List Said) → All (OfAttribute k) l → All IsEvent l → All (Plain k) (map declaration_vector l)
unfolding declaration_vector
singles-readable k [] a e = tt
singles-readable k (d ∷ l) a e = ((refl, (a.0, single-readable d e.0)), singles-readable k l a.1 e.1)

packed_all : (gs : List (List Said)) → All Packs gs → All (Plain (registers listeners)) (map packed_vector gs)
unfolding packed_vector
packed_all [] a = tt
packed_all (g ∷ gs) a = ((refl, (refl, packed-readable g a.0)), packed_all gs a.1)

-- at most 64 Listeners, ascending
abbrev pub Fewer : Attribute → List Said → Type 0
Fewer k l = k ≡ registers listeners → (length l ≤ 64) × Ascending (declared_ids l)

type-readable : (k : Attribute) (l : List Said) → All (OfAttribute k) l → All IsEvent l → Fewer k l → All (Plain k) (vectors_of k l)
unfolding vectors_of
type-readable (registers advertises) l a e f = singles-readable (registers advertises) l a e
type-readable (registers faileds) l a e f = singles-readable (registers faileds) l a e
type-readable (registers listeners) l a e f = packed_all (listener_parts l) (parts-pack l (f refl).0 a e (f refl).1)
type-readable domain_type l a e f = singles-readable domain_type l a e

-- and with LeaveAll in the first of them
said-readable : (all : Bool) (k : Attribute) (l : List Said) → All (Plain k) (vectors_of k l) → All (ReadableOf k) (vectors_said all k l)
unfolding vectors_said
said-readable false k l a = all_map (Plain k) (ReadableOf k) (λ v p. p.1) (vectors_of k l) a
said-readable true k l a = go (vectors_of k l) a
  where
    go : (vs : List Vector) → All (Plain k) vs → All (ReadableOf k) (leaving_all k vs)
    go [] b = unfold leaving_all empty_vector in ((refl, empty-readable k), tt)
    go (v ∷ vs) b = unfold leaving_all with_leave_all in ((b.0.1.0, leaving-readable v b.0.1.1), all_map (Plain k) (ReadableOf k) (λ w p. p.1) vs b.1)

-- Messages.

-- behind any prefix, and with fuel for them, the octets are read as Messages of these vectors
MessagesRead : List ℕ → List Vector → Type 0
MessagesRead s vs = (f : ℕ) (pre : List ℕ) → length s ≤ f → messages f 0 (pre ++ s) (length pre) ≡ found vs

messages-end : MessagesRead (0 ∷ 0 ∷ []) []
unfolding MessagesRead messages message_in messages_from end_mark
messages-end zero pre h = absurd (omega arith)
messages-end (suc f) pre h =
    let l : length (pre ++ (0 ∷ 0 ∷ [])) ≡ length pre + 2 = length-append pre (0 ∷ 0 ∷ []) in
    let e : be_at 2 (pre ++ (0 ∷ 0 ∷ [])) (length pre) ≡ 0 = be_at-here 2 pre (0 ∷ 0 ∷ []) ∙ (unfold be_at in refl) in
    rw (e, l, ne_eqb (length pre) (length pre + 2) (λ q. omega arith), le-leb (length pre + 2) (length pre + 2) (omega arith))

some-type : (k : Attribute) → 1 ≤ type_number k
unfolding type_number
some-type (registers advertises) = omega arith
some-type (registers faileds) = omega arith
some-type (registers listeners) = omega arith
some-type domain_type = omega arith

-- a Message of a known type without fault is one whose list is read
pub message-known : (version : ℕ) (k : Attribute) (s : List ℕ) (at n : ℕ)
    → at + 4 + n ≤ length s → (be_at 2 s at ≡ 0 → ⊥) → type_octet version (get_or s at 0) ≡ known k → get_or s (at + 1) 0 ≡ first_length k
    → be_at 2 s (at + 2) ≡ n → message_in version s at ≡ list_of k
unfolding message_in header_in end_mark list_length message_end
message-known version k s at n fits marked type first long =
    rw (
      ne_eqb at (length s) (λ e. omega arith),
      le-leb (at + 2) (length s) (omega arith),
      ne_eqb (be_at 2 s at) 0 marked,
      le-ltb (length s) (at + 4) (omega arith),
      type,
      eq-eqb (get_or s (at + 1) 0) (first_length k) first,
      long,
      le-ltb (length s) (at + 4 + n) fits,
    )

-- and the walk goes on behind it
messages-more : (f : ℕ) (k : Attribute) (s : List ℕ) (at n : ℕ) (list : List ℕ) (vs : List Vector)
    → at + 4 + n ≤ length s → (be_at 2 s at ≡ 0 → ⊥) → type_octet 0 (get_or s at 0) ≡ known k → get_or s (at + 1) 0 ≡ first_length k
    → be_at 2 s (at + 2) ≡ n → part (at + 4) n s ≡ list → vectors (suc n) 0 k list 0 ≡ found vs
    → messages (suc f) 0 s at ≡ both (found vs) (messages f 0 s (at + 4 + n))
unfolding messages messages_from list_length list_at message_end
messages-more f k s at n list vs fits marked type first long is read =
    rw (message-known 0 k s at n fits marked type first long, long, is, read)

module _ (k : Attribute) (list pre rest : List ℕ) (short : length list < 65536) where
  -- the PDU that has the Message at the place
  pdu : List ℕ
  pdu = pre ++ (message_of k list ++ rest)

  -- behind the prefix: the Message's type, the length of FirstValue, and from there on
  lead : List ℕ
  lead = type_number k ∷ first_length k ∷ []

  tail : List ℕ
  tail = be 2 (length list) ++ (list ++ rest)

  message-here : message_of k list ++ rest ≡ lead ++ tail
  unfolding message_of lead tail
  message-here = simp append_assoc

  length-here-message : length pdu ≡ length pre + (4 + length list + length rest)
  unfolding pdu lead tail
  length-here-message = rw message-here (simp (length-append, length-be) (omega arith))

  type-here : get_or pdu (length pre) 0 ≡ type_number k
  unfolding pdu lead
  type-here = rw message-here (get_or-append_seam pre (type_number k) (first_length k ∷ tail) 0)

  first-length-here : get_or pdu (length pre + 1) 0 ≡ first_length k
  unfolding pdu lead
  first-length-here = rw message-here (get_or-append-add pre (lead ++ tail) 1 0)

  no-end-here : be_at 2 pdu (length pre) ≡ 0 → ⊥
  unfolding pdu lead be_at
  no-end-here e =
      let q : be_at 2 (lead ++ tail) 0 ≡ 0 = sym (be_at-here 2 pre (lead ++ tail)) ∙ rw message-here at e in
      omega (arith, some-type k)

  long-here : be_at 2 pdu (length pre + 2) ≡ length list
  unfolding pdu lead tail
  long-here =
      rw message-here
      (be_at-behind 2 pre (lead ++ tail) 2 ∙ be_at-here 2 lead tail ∙ two-octets (length list) (list ++ rest) short)

  list-here : part (length pre + 4) (length list) pdu ≡ list
  unfolding pdu lead tail
  list-here =
      let cut : pre ++ (lead ++ tail) ≡ (pre ++ (lead ++ be 2 (length list))) ++ (list ++ rest) = simp append_assoc in
      rw (message-here, cut)
      (part-behind (pre ++ (lead ++ be 2 (length list))) list rest (length pre + 4) (length list) (simp (length-append, length-be)) refl)

  read-message : (f : ℕ) (vs : List Vector) → vectors (suc (length list)) 0 k list 0 ≡ found vs
      → messages (suc f) 0 pdu (length pre) ≡ both (found vs) (messages f 0 pdu (length pre + 4 + length list))
  read-message f vs read =
      messages-more f k pdu (length pre) (length list) list vs
      (omega (arith, length-here-message)) no-end-here (rw type-here (known-type k)) first-length-here long-here list-here read

length-message_of : (k : Attribute) (list : List ℕ) → length (message_of k list) ≡ 4 + length list
unfolding message_of
length-message_of k list = simp (length-append, length-be) (omega arith)

-- one Message more, in front
messages-cons : (k : Attribute) (list rest : List ℕ) (vs ws : List Vector) → length list < 65536
    → vectors (suc (length list)) 0 k list 0 ≡ found vs → MessagesRead rest ws → MessagesRead (message_of k list ++ rest) (vs ++ ws)
unfolding MessagesRead pdu both
messages-cons k list rest vs ws short read r f pre h = go f (omega (arith, length-append m rest, length-message_of k list))
  where
    m : List ℕ
    m = message_of k list

    go : (f : ℕ) → suc (length rest) ≤ f → messages f 0 (pre ++ (m ++ rest)) (length pre) ≡ found (vs ++ ws)
    go zero h = absurd (omega arith)
    go (suc f) h =
        let e : length pre + 4 + length list ≡ length (pre ++ m) = simp (length-append, length-message_of k list) (omega arith) in
        read-message k list pre rest short f vs read ∙ rw (e, ← append_assoc pre m rest, r f (pre ++ m) (omega arith))

-- the Message of the vectors of a type, where there are any
messages-read : (k : Attribute) (vs : List Vector) (rest : List ℕ) (ws : List Vector) → All (ReadableOf k) vs
    → length (message_octets k vs) < 65536 → MessagesRead rest ws → MessagesRead (message_octets k vs ++ rest) (vs ++ ws)
unfolding message_octets MessagesRead list_octets VectorsRead
messages-read k [] rest ws a short r = r
messages-read k (v ∷ vs) rest ws a short r =
    let list : List ℕ = list_octets (v ∷ vs) in
    let m : length (message_of k list) ≡ 4 + length list = length-message_of k list in
    messages-cons k list rest (v ∷ vs) ws (omega arith) (vectors-read k (v ∷ vs) a (suc (length list)) [] (omega arith)) r

-- A PDU.

-- declarations in the order of types are those of each type in turn
having-each : (l : List Said) → InOrder l → in_turn (λ k. having k l) ≡ l
unfolding having same_attribute type_number
having-each [] o = refl
having-each (d ∷ l) o = go (attribute_of d.declaration) o.0 (having-each l o.1)
  where
    -- no declaration of type j stands behind one of a later type
    gone : (j k : Attribute) → type_number j < type_number k → All (NotBefore k) l → having j l ≡ []
    gone j k h b = having-none j l (all_map (NotBefore k) (λ e. type_number j < type_number (attribute_of e.declaration)) (λ e q. omega arith) l b)

    go : (k : Attribute) → All (NotBefore k) l → in_turn (λ j. having j l) ≡ l → in_turn (λ j. keep (same_attribute k j) d (having j l)) ≡ d ∷ l
    go (registers advertises) b ih = ap (λ (r : List Said). d ∷ r) ih
    go (registers faileds) b ih =
        let a : having (registers advertises) l ≡ [] = gone (registers advertises) (registers faileds) (omega arith) b in
        rw a (ap (λ (r : List Said). d ∷ r) (rw a at ih))
    go (registers listeners) b ih =
        let a : having (registers advertises) l ≡ [] = gone (registers advertises) (registers listeners) (omega arith) b in
        let f : having (registers faileds) l ≡ [] = gone (registers faileds) (registers listeners) (omega arith) b in
        rw (a, f) (ap (λ (r : List Said). d ∷ r) (rw (a, f) at ih))
    go domain_type b ih =
        let a : having (registers advertises) l ≡ [] = gone (registers advertises) domain_type (omega arith) b in
        let f : having (registers faileds) l ≡ [] = gone (registers faileds) domain_type (omega arith) b in
        let n : having (registers listeners) l ≡ [] = gone (registers listeners) domain_type (omega arith) b in
        rw (a, f, n) (ap (λ (r : List Said). d ∷ r) (rw (a, f, n) at ih))

-- the vectors of a PDU, type by type
unfoldable pub pdu_vectors : Bool → List Said → List Vector
pdu_vectors all l = vs (registers advertises) ++ (vs (registers faileds) ++ (vs (registers listeners) ++ (vs domain_type ++ [])))
  where
    vs : Attribute → List Vector
    vs k = vectors_said all k (having k l)

-- a PDU whose Messages are read, and that is not too long
walk-messages : (s : List ℕ) (vs : List Vector) → 1 ≤ length s → length s ≤ longest_pdu → messages (suc (length s)) (get_or s 0 0) s 1 ≡ found vs → walk s ≡ found vs
unfolding walk
walk-messages s vs some few e = rw (ne_eqb (length s) 0 (λ q. omega arith), le-ltb longest_pdu (length s) few) e

few-of : (l : List Said) → FewListeners l → (k : Attribute) → Fewer k (having k l)
few-of l f k e = rw e (f.few, f.ascending)

-- what holds of all declarations holds of those of a type
all-having : (P : Said → Type 0) (k : Attribute) (l : List Said) → All P l → All P (having k l)
unfolding having
all-having P k [] a = tt
all-having P k (d ∷ l) a = all_keep P (same_attribute (attribute_of d.declaration) k) d (having k l) a.0 (all-having P k l a.1)

plain_of : (l : List Said) → FewListeners l → All IsEvent l → (k : Attribute) → All (Plain k) (vectors_of k (having k l))
plain_of l f e k = type-readable k (having k l) (having-attribute k l) (all-having IsEvent k l e) (few-of l f k)

-- a PDU, if not too long, is read as its vectors
pub walk-written : (all : Bool) (l : List Said) → FewListeners l → All IsEvent l → length (pdu_octets all l) ≤ longest_pdu
    → walk (pdu_octets all l) ≡ found (pdu_vectors all l)
unfolding pdu_octets MessagesRead pdu_vectors
walk-written all l f v h =
    walk-messages (pdu_octets all l) (pdu_vectors all l) (omega arith) h (read (suc (length (pdu_octets all l))) (0 ∷ []) (omega arith))
  where
    vectors-of : Attribute → List Vector
    vectors-of k = vectors_said all k (having k l)

    octets : Attribute → List ℕ
    octets k = message_octets k (vectors-of k)

    size : Attribute → ℕ
    size k = length (octets k)

    long : length (pdu_octets all l) ≡ 3 + (size (registers advertises) + (size (registers faileds) + (size (registers listeners) + size domain_type)))
    long = simp length-append (omega arith)

    one : (k : Attribute) (rest : List ℕ) (ws : List Vector) → size k < 65536 → MessagesRead rest ws → MessagesRead (octets k ++ rest) (vectors-of k ++ ws)
    one k rest ws short r = messages-read k (vectors-of k) rest ws (said-readable all k (having k l) (plain_of l f v k)) short r

    read : MessagesRead (octets (registers advertises) ++ (octets (registers faileds) ++ (octets (registers listeners) ++ (octets domain_type ++ (0 ∷ 0 ∷ [])))))
        (pdu_vectors all l)
    read =
        one (registers advertises) _ _ (omega (arith, long))
        (one (registers faileds) _ _ (omega (arith, long))
        (one (registers listeners) _ _ (omega (arith, long)) (one domain_type _ _ (omega (arith, long)) messages-end)))

cond_below : (t : Bool) (a b : ℕ) → a < 6 → b < 6 → cond t a b < 6
cond_below true a b h k = h
cond_below false a b h k = k

-- what an opportunity to transmit makes a machine say is an event: "New 0, JoinIn 1, In 2, JoinMt 3, Mt 4, Lv 5"
pub spoken-event : (all registered : Bool) (q : Standing) → spoken registered (opportunity all) q < 6
unfolding spoken opportunity sent applicant_entry applicant_row applicant_column named message_number to by passive_leaving_all new_leaving_all
spoken-event false registered very_anxious_passive = cond_below registered 1 3 (omega arith) (omega arith)
spoken-event false registered very_anxious_new = omega arith
spoken-event false registered anxious_new = omega arith
spoken-event false registered anxious_active = cond_below registered 1 3 (omega arith) (omega arith)
spoken-event false registered quiet_active = cond_below registered 1 3 (omega arith) (omega arith)
spoken-event false registered leaving_active = omega arith
spoken-event true registered very_anxious_passive = cond_below registered 2 4 (omega arith) (omega arith)
spoken-event true registered very_anxious_new = omega arith
spoken-event true registered anxious_new = omega arith
spoken-event true registered anxious_active = cond_below registered 1 3 (omega arith) (omega arith)
spoken-event true registered quiet_active = cond_below registered 1 3 (omega arith) (omega arith)
spoken-event true registered leaving_active = cond_below registered 2 4 (omega arith) (omega arith)

-- what holds of everything that a write says holds of its run: it is some of the port's list, from the place on
pub all-run : (P : Said → Type 0) (b : Bridge) (p place : ℕ) → All (λ x. P (say_on b (p - 1) x)) (declarations b (p - 1)) → All P (write b p place).run
unfolding write wrote_on write_from
all-run P b p place a = go (ltb (length l) place)
  where
    l : List (Listed Declaration)
    l = declarations b (p - 1)

    Q : Listed Declaration → Type 0
    Q x = P (say_on b (p - 1) x)

    rest : List (Listed Declaration)
    rest = saying (port_way b (p - 1)).says (drop place l)

    n : ℕ
    n = takes_on b (p - 1) rest

    of : All P (map (say_on b (p - 1)) (take n rest))
    of = all-mapped Q P (say_on b (p - 1)) (λ x q. q) (take n rest) (all_take Q n rest (all-of-saying Q (port_way b (p - 1)).says (drop place l) (all_drop Q place l a)))

    answer : Bool → Written
    answer t =
        cond t record { number = 13; all = false; run = []; next = 0; bridge = b }
        record { number = 0; all = leaves_all b (p - 1); run = map (say_on b (p - 1)) (take n rest); next = (wrote_on b (p - 1) place).next; bridge = after_write b (p - 1) place }

    go : (t : Bool) → All P (answer t).run
    go true = tt
    go false = of

pub run-events : (b : Bridge) (p place : ℕ) → All IsEvent (write b p place).run
unfolding say_on say
run-events b p place =
    all-run IsEvent b p place
    (all-each (λ x. IsEvent (say_on b (p - 1) x)) (λ x. spoken-event (leaves_all b (p - 1)) (is_registered b (p - 1) x.value) x.state) (declarations b (p - 1)))

-- what write puts into a PDU is found there again
pub read_back : (b : Bridge) → FewStreams b → (p place : ℕ)
    → walk (pdu_octets (write b p place).all (write b p place).run) ≡ found (pdu_vectors (write b p place).all (write b p place).run)
read_back b f p place = walk-written (write b p place).all (write b p place).run (run-few b p place f) (run-events b p place) (run_fits b p place)

-- What the vectors ask for.

-- the event of a vector of one value is the declaration's
pub event-written : (d : Said) → event_of (declaration_vector d) 0 ≡ event d.event
unfolding event_of declaration_vector three_packed
event-written d = ap event (omega arith)

-- a declaration whose values are within their fields
abbrev pub ValidDeclaration : Declaration → Type 0
ValidDeclaration (talker_declaration id f v) = (id < 2 ^ 64) × ValidFixed f × ValidVarying v
ValidDeclaration (listener_declaration id r) = id < 2 ^ 64
ValidDeclaration (domain_declaration id q v) = (has_slot id q ≡ true) × (v < 65536)

abbrev pub ValidSaid : Said → Type 0
ValidSaid d = ValidDeclaration d.declaration

-- a class ID and a priority with a slot are octets
slot-octets : (c q : ℕ) → has_slot c q ≡ true → (c < 256) × (q < 256)
unfolding has_slot
slot-octets c q h =
    let r : (leb c 6 && leb q 7) ≡ true = and_right (leb 5 c) (leb c 6 && leb q 7) h in (
      omega (arith, leb-true c 6 (and_left (leb c 6) (leb q 7) r)),
      omega (arith, leb-true q 7 (and_right (leb c 6) (leb q 7) r)),
    )

first_fits : (d : Declaration) → ValidDeclaration d → Fit (first_widths (attribute_of d)) (first_numbers d)
unfolding Fit first_widths first_numbers attribute_of talker_kind fixed_numbers failure_numbers priority_octet
first_fits (talker_declaration id f v) h = go v.type h.2.type
  where
    fixed : ValidFixed f
    fixed = h.1

    octet : priority_octet f < 256
    octet = omega (arith, fixed.priority, fixed.rank)

    -- the fields of both types, and those that a type adds
    both-types : (ws vs : List ℕ) → Fit ws vs → Fit (8 ∷ 6 ∷ 2 ∷ 2 ∷ 2 ∷ 1 ∷ 4 ∷ ws) (id ∷ (fixed_numbers f ++ (v.latency ∷ vs)))
    both-types ws vs w = (h.0, (fixed.destination, (fixed.vlan, (fixed.size, (fixed.frames, (octet, (h.2.latency, w)))))))

    go : (a : TalkerType) → ValidTalkerType a → Fit (first_widths (registers (talker_kind a))) (id ∷ (fixed_numbers f ++ (v.latency ∷ failure_numbers a)))
    go talker_advertise w = both-types [] [] tt
    go (talker_failed b c) w = both-types (8 ∷ 1 ∷ []) (b ∷ c ∷ []) (w.0, (w.1, tt))
first_fits (listener_declaration id r) h = (h, tt)
first_fits (domain_declaration id q v) h =
    let s = slot-octets id q h.0 in
    (s.0, (s.1, (h.1, tt)))

-- the numbers of FirstValue, read
first_read : (d : Declaration) → ValidDeclaration d → fields (first_widths (attribute_of d)) 0 (packed (first_widths (attribute_of d)) (first_numbers d)) ≡ first_numbers d
first_read d h = fields-of-packed (first_widths (attribute_of d)) (first_numbers d) (first_fits d h)

-- a Talker's fixed values come back: priority and rank out of one octet
fixed-read : (id : ℕ) (f : Fixed) (vs : List ℕ) → ValidFixed f → fixed_value (id ∷ (fixed_numbers f ++ vs)) 0 ≡ f
unfolding fixed_value fixed_numbers priority_octet priority_of rank_of
fixed-read id f vs h =
    let p : (f.priority * 32 + f.rank * 16) / 32 ≡ f.priority = omega (arith, h.rank) in
    let r : (f.priority * 32 + f.rank * 16) / 16 % 2 ≡ f.rank = omega (arith, h.rank) in
    rw (p, r, add-zero)

-- what a Talker's event asks of Registrars
abbrev talker_numbers : ℕ → Fixed → ℕ → TalkerType → List ℕ
talker_numbers id f latency t = id ∷ (fixed_numbers f ++ (latency ∷ failure_numbers t))

talk-read : (id : ℕ) (f : Fixed) (latency : ℕ) (t : TalkerType) → ValidFixed f → (a : Asking)
    → talker_act (talker_kind t) (talker_numbers id f latency t) 0 a ≡ asked_of (talker_declaration id f record { type = t; latency = latency }) a
unfolding talker_act talker_kind talker_type_value failure_numbers id_value asked_of join_of leave_of
talk-read id f latency t h nothing_asked = refl
talk-read id f latency talker_advertise h join = rw (fixed-read id f (latency ∷ []) h, add-zero id) (unfold fixed_numbers in refl)
talk-read id f latency (talker_failed b c) h join = rw (fixed-read id f (latency ∷ b ∷ c ∷ []) h, add-zero id) (unfold fixed_numbers in refl)
talk-read id f latency t h withdraw = rw (add-zero id)

-- and what Applicants hear of it
talk-heard : (id : ℕ) (f : Fixed) (latency : ℕ) (t : TalkerType) (e : Event)
    → talker_heard (talker_kind t) (id_value (talker_numbers id f latency t) 0) e ≡ map (hear_of (talker_declaration id f record { type = t; latency = latency })) (heard_of e)
unfolding talker_heard id_value hear_of
talk-heard id f latency t e = rw (add-zero id) (hears-of (heard_of e))
  where
    hears-of : (l : List Heard) → map (hear (talker_kind t) id) l ≡ map (hear_of (talker_declaration id f record { type = t; latency = latency })) l
    hears-of [] = refl
    hears-of (h ∷ l) = ap (λ (m : List Act). hear (talker_kind t) id h ∷ m) (hears-of l)

-- a Domain value's event
domain-asked : (id q v : ℕ) (a : Asking) → slot_act (slot_of id q) v a ≡ asked_of (domain_declaration id q v) a
unfolding slot_act asked_of join_of leave_of
domain-asked id q v nothing_asked = refl
domain-asked id q v join = refl
domain-asked id q v withdraw = refl

domain-heard : (id q v : ℕ) (e : Event) → slot_heard (slot_of id q) e ≡ map (hear_of (domain_declaration id q v)) (heard_of e)
unfolding slot_heard hear_of
domain-heard id q v e = go (heard_of e)
  where
    go : (l : List Heard) → map (λ h. of_domain (hear_domain (slot_of id q) h)) l ≡ map (hear_of (domain_declaration id q v)) l
    go [] = refl
    go (h ∷ l) = ap (λ (m : List Act). of_domain (hear_domain (slot_of id q) h) ∷ m) (go l)

domain-read : (id q v : ℕ) (n : ℕ) → has_slot id q ≡ true → domain_act (id ∷ q ∷ v ∷ []) 0 (event n) ≡ said_acts record { declaration = domain_declaration id q v; event = n }
unfolding domain_act said_acts
domain-read id q v n h = rw (add-zero id, add-zero q, h, domain-asked id q v (asking (event n)), domain-heard id q v (event n))

-- a Listener's own vector
listen-read : (id : ℕ) (r : Ready) (n : ℕ)
    → listener_act (id ∷ []) 0 (asking (event n)) (four_packed (ready_number r * 64) 0) ++ listener_heard (id_value (id ∷ []) 0) (event n) (four_packed (ready_number r * 64) 0)
    ≡ said_acts record { declaration = listener_declaration id r; event = n }
unfolding four_packed
listen-read id r n =
    let s : ready_number r * 64 / 64 ≡ ready_number r = omega arith in
    let o : id + 0 ≡ id = omega arith in
    rw s (counted id 0 (event n) (ready_number r) ∙ rw o (listener-acts id r n))

-- the acts of a written vector of one value are those of its event
module _ (n : ℕ) where
  saying-so : Declaration → Said
  saying-so d = record { declaration = d; event = n }

  -- its event, read
  event-back : n * 36 / 36 ≡ n
  event-back = omega arith

  talker-acts : (id : ℕ) (f : Fixed) (latency : ℕ) (t : TalkerType) → ValidDeclaration (talker_declaration id f record { type = t; latency = latency })
      → vector_acts (declaration_vector (saying-so (talker_declaration id f record { type = t; latency = latency }))) ≡ said_acts (saying-so (talker_declaration id f record { type = t; latency = latency }))
  unfolding vector_acts leave_all_acts values_acts value_acts declaration_vector attribute_of talker_kind event_of three_packed said_acts saying-so first_numbers
  talker-acts id f latency talker_advertise w =
      rw (first_read (talker_declaration id f record { type = talker_advertise; latency = latency }) w, append-nil, event-back)
      (ap₂ (λ (a b : List Act). a ++ b) (talk-read id f latency talker_advertise w.1 (asking (event n))) (talk-heard id f latency talker_advertise (event n)))
  talker-acts id f latency (talker_failed b c) w =
      rw (first_read (talker_declaration id f record { type = talker_failed b c; latency = latency }) w, append-nil, event-back)
      (ap₂ (λ (a b : List Act). a ++ b) (talk-read id f latency (talker_failed b c) w.1 (asking (event n))) (talk-heard id f latency (talker_failed b c) (event n)))

  declaration-acts : (d : Declaration) → ValidDeclaration d → vector_acts (declaration_vector (saying-so d)) ≡ said_acts (saying-so d)
  unfolding vector_acts leave_all_acts values_acts value_acts declaration_vector attribute_of event_of three_packed four_of four_octets saying-so first_numbers
  declaration-acts (talker_declaration id f v) w = talker-acts id f v.latency v.type w
  declaration-acts (listener_declaration id r) w = rw (first_read (listener_declaration id r) w, append-nil, event-back) (listen-read id r n)
  declaration-acts (domain_declaration id q v) w = rw (first_read (domain_declaration id q v) w, append-nil, event-back) (domain-read id q v n w.0)

-- those of a type's vectors the acts of its declarations
singles-acts : (l : List Said) → All ValidSaid l → frame_acts (map declaration_vector l) ≡ flat_map said_acts l
unfolding frame_acts flat_map saying-so
singles-acts [] a = refl
singles-acts (d ∷ l) a = rw (declaration-acts d.event d.declaration a.0, singles-acts l a.1)

-- a Listener's StreamID is within its field
ids-within : (l : List Said) → All (OfAttribute (registers listeners)) l → All ValidSaid l → All Within l
ids-within [] o a = tt
ids-within (d ∷ l) o a = (go d.declaration o.0 a.0, ids-within l o.1 a.1)
  where
    go : (c : Declaration) → attribute_of c ≡ registers listeners → ValidDeclaration c → declared_id c < 2 ^ 64
    go (talker_declaration id f v) e w = unfold declared_id in w.0
    go (listener_declaration id r) e w = unfold declared_id in w
    go (domain_declaration id q v) e w = absurd (no-domain (unfold attribute_of in e))

type-acts : (k : Attribute) (l : List Said) → All (OfAttribute k) l → All IsEvent l → Fewer k l → All ValidSaid l → frame_acts (vectors_of k l) ≡ flat_map said_acts l
unfolding vectors_of
type-acts (registers advertises) l o e f a = singles-acts l a
type-acts (registers faileds) l o e f a = singles-acts l a
type-acts (registers listeners) l o e f a = parts-acts l (parts-pack l (f refl).0 o e (f refl).1) (ids-within l o a)
type-acts domain_type l o e f a = singles-acts l a

-- LeaveAll comes before the values of its vector, and changes nothing of them.

no-leave-acts : (k : Attribute) → leave_all_acts k false ≡ []
unfolding leave_all_acts
no-leave-acts (registers k) = refl
no-leave-acts domain_type = refl

value_same : (k : Attribute) (t : Bool) (n : ℕ) (a b c : List ℕ) (i : ℕ)
    → value_acts record { attribute = k; leaves_all = true; values = n; first = a; three = b; four = c } i
    ≡ value_acts record { attribute = k; leaves_all = t; values = n; first = a; three = b; four = c } i
unfolding value_acts event_of four_of
value_same (registers advertises) t n a b c i = refl
value_same (registers faileds) t n a b c i = refl
value_same (registers listeners) t n a b c i = refl
value_same domain_type t n a b c i = refl

values_same : (v : Vector) (i k : ℕ) → values_acts (with_leave_all v) i k ≡ values_acts v i k
unfolding values_acts with_leave_all
values_same v i zero = refl
values_same v i (suc k) = ap₂ (λ (a b : List Act). a ++ b) (value_same v.attribute v.leaves_all v.values v.first v.three v.four i) (values_same v (suc i) k)

with-acts : (v : Vector) → vector_acts (with_leave_all v) ≡ leave_all_acts v.attribute true ++ values_acts v 0 v.values
unfolding vector_acts with_leave_all
with-acts v = ap (λ (r : List Act). leave_all_acts v.attribute true ++ r) (values_same v 0 v.values)

plain-acts : (v : Vector) → v.leaves_all ≡ false → vector_acts v ≡ values_acts v 0 v.values
unfolding vector_acts
plain-acts v e =
    ap (λ (t : Bool). leave_all_acts v.attribute t ++ values_acts v 0 v.values) e
    ∙ ap (λ (r : List Act). r ++ values_acts v 0 v.values) (no-leave-acts v.attribute)

leaving-acts : (k : Attribute) (vs : List Vector) → All (Plain k) vs → frame_acts (leaving_all k vs) ≡ leave_all_acts k true ++ frame_acts vs
unfolding frame_acts leaving_all
leaving-acts k [] a = append-nil (vector_acts (empty_vector k)) ∙ unfold vector_acts empty_vector values_acts in refl
leaving-acts k (v ∷ vs) a =
    ap (λ (r : List Act). r ++ frame_acts vs)
    (with-acts v
    ∙ ap (λ (j : Attribute). leave_all_acts j true ++ values_acts v 0 v.values) a.0.1.0
    ∙ ap (λ (r : List Act). leave_all_acts k true ++ r) (sym (plain-acts v a.0.0)))
    ∙ append_assoc (leave_all_acts k true) (vector_acts v) (frame_acts vs)

said-vectors-acts : (all : Bool) (k : Attribute) (l : List Said) → All (Plain k) (vectors_of k l) → frame_acts (vectors_of k l) ≡ flat_map said_acts l
    → frame_acts (vectors_said all k l) ≡ leave_all_acts k all ++ flat_map said_acts l
unfolding vectors_said
said-vectors-acts true k l a e = leaving-acts k (vectors_of k l) a ∙ ap (λ (r : List Act). leave_all_acts k true ++ r) e
said-vectors-acts false k l a e = rw (no-leave-acts k) e

acts-append : (vs ws : List Vector) → frame_acts (vs ++ ws) ≡ frame_acts vs ++ frame_acts ws
unfolding frame_acts
acts-append [] ws = refl
acts-append (v ∷ vs) ws = rw (acts-append vs ws, append_assoc)

-- What a neighbour reads of a PDU: type by type LeaveAll, where the PDU has it, and value by value the acts of its events.
unfoldable pub pdu_acts : Bool → List Said → List Act
pdu_acts all l = of (registers advertises) ++ (of (registers faileds) ++ (of (registers listeners) ++ of domain_type))
  where
    of : Attribute → List Act
    of k = leave_all_acts k all ++ flat_map said_acts (having k l)

pub frame-acts : (all : Bool) (l : List Said) → FewListeners l → All IsEvent l → All ValidSaid l → frame_acts (pdu_vectors all l) ≡ pdu_acts all l
unfolding pdu_vectors pdu_acts
frame-acts all l f e a =
    simp (acts-append, of (registers advertises), of (registers faileds), of (registers listeners), of domain_type, append-nil)
  where
    of : (k : Attribute) → frame_acts (vectors_said all k (having k l)) ≡ leave_all_acts k all ++ flat_map said_acts (having k l)
    of k =
        said-vectors-acts all k (having k l) (plain_of l f e k)
        (type-acts k (having k l) (having-attribute k l) (all-having IsEvent k l e) (few-of l f k) (all-having ValidSaid k l a))

-- without LeaveAll they are those of its events, in the order of the declarations
pub events-only : (l : List Said) → InOrder l → pdu_acts false l ≡ flat_map said_acts l
unfolding pdu_acts
events-only l o =
    rw (
      no-leave-acts (registers advertises),
      no-leave-acts (registers faileds),
      no-leave-acts (registers listeners),
      no-leave-acts domain_type,
      ← acts-said (having (registers listeners) l) (having domain_type l),
      ← acts-said (having (registers faileds) l) (having (registers listeners) l ++ having domain_type l),
      ← acts-said (having (registers advertises) l) (having (registers faileds) l ++ (having (registers listeners) l ++ having domain_type l)),
    )
    (ap (flat_map said_acts) (having-each l o))

-- Every declaration of a bridge that keeps the form rules has its values within their fields.

abbrev pub ValidListed : Listed Declaration → Type 0
ValidListed x = ValidDeclaration x.value

module _ (id : ℕ) (small : id < 2 ^ 64) (s : Sends) (v : ValidSends s) where
  advertising-within : (a : Applicant Offer) → GoodApplicant ValidOffer a → All ValidListed (listed_as (advertise_of id) a)
  unfolding listed_as advertise_of
  advertising-within no_applicant w = tt
  advertising-within (applicant x) w = ((small, w.fixed, record { type = tt; latency = w.latency }), tt)

  failing-within : (a : Applicant (Offer × Failure)) → GoodApplicant ValidFailed a → All ValidListed (listed_as (failed_of id) a)
  unfolding listed_as failed_of
  failing-within no_applicant w = tt
  failing-within (applicant x) w = ((small, w.0.fixed, record { type = (w.1.bridge, w.1.code); latency = w.0.latency }), tt)

  listening-within : (a : Applicant Ready) → All ValidListed (listed_as (listener_declaration id) a)
  unfolding listed_as
  listening-within no_applicant = tt
  listening-within (applicant x) = (small, tt)

  stream-within : (k : Kind) → All ValidListed (declarations_of k id s)
  unfolding declarations_of
  stream-within advertises = advertising-within s.advertising v.advertising
  stream-within faileds = failing-within s.failing v.failing
  stream-within listeners = listening-within s.listening

-- every slot has a class ID and a priority
domains-within : (st : Settings) → st.vlan < 65536 → (i : ℕ) (l : List (Applicant (Unit {0}))) → i + length l ≤ 16 → All ValidListed (domain_values st i l)
unfolding domain_values
domains-within st h i [] few = tt
domains-within st h i (a ∷ l) few =
    all_append ValidListed (listed_as (λ u. domain_of st i) a) (domain_values st (suc i) l) (go a) (domains-within st h (suc i) l (omega arith))
  where
    has : has_slot (5 + i / 8) (i % 8) ≡ true
    has = unfold has_slot in (rw (le-leb 5 (5 + i / 8) (omega arith), le-leb (5 + i / 8) 6 (omega arith), le-leb (i % 8) 7 (omega arith)))

    go : (b : Applicant (Unit {0})) → All ValidListed (listed_as (λ u. domain_of st i) b)
    go no_applicant = unfold listed_as in tt
    go (applicant x) = unfold listed_as domain_of in ((has, h), tt)

-- each port has so many slots, those that are none included
slots-all : (b : Bridge) → Valid b → (p : ℕ) → length (sender_at b.senders p).domains ≡ slots
slots-all b v p = go (ltb p ports) refl
  where
    ports : ℕ
    ports = length b.settings.ports

    Slotted : Sender → Type 0
    Slotted x = length x.domains ≡ slots

    none : Slotted no_sender
    none = unfold no_sender in (length-replicate {A = Applicant (Unit {0})} slots no_applicant)

    go : (t : Bool) → ltb p ports ≡ t → length (sender_at b.senders p).domains ≡ slots
    go true e = (v.senders p (ltb-true p ports e)).slotted
    go false e =
        unfold sender_at in (get_or_past Slotted ports b.senders p no_sender (ltb-false p ports e) none (all_map (λ x. x ≡ no_sender) Slotted (λ x q. rw q none) (drop ports b.senders) v.no-other-senders))

pub declarations-within : (b : Bridge) → Valid b → (p : ℕ) → All ValidListed (declarations b p)
unfolding declarations
declarations-within b h p =
    all_append ValidListed (of_kind advertises p b.streams) _ (of advertises)
    (all_append ValidListed (of_kind faileds p b.streams) _ (of faileds)
    (all_append ValidListed (of_kind listeners p b.streams) _ (of listeners)
    (domains-within b.settings (omega (arith, h.settings.vlan)) 0 (sender_at b.senders p).domains (omega (arith, slots-all b h p)))))
  where
    Ok : Stream → Type 0
    Ok = ValidStream (length b.settings.ports) b.clock b.settings.leave_time

    sends : (x : Stream) → Ok x → ValidSends (sends_at x p)
    sends x o = unfold sends_at in (all_get_or ValidSends x.sends o.sends no_sends (unfold no_sends in record { advertising = tt; failing = tt }) p)

    of : (j : Kind) → All ValidListed (of_kind j p b.streams)
    of j =
        all-of-kind ValidListed j p b.streams
        (all_map Ok (λ x. All ValidListed (declarations_of j x.id (sends_at x p))) (λ x o. stream-within x.id o.id (sends_at x p) (sends x o) j) b.streams h.streams)

pub run-within : (b : Bridge) → Valid b → (p place : ℕ) → All ValidSaid (write b p place).run
unfolding say_on say
run-within b h p place = all-run ValidSaid b p place (declarations-within b h (p - 1))

pub valid-few : (b : Bridge) → Valid b → FewStreams b
valid-few b h = (h.at_most_64, rising-ascends (ids b.streams) h.ascending)

-- a neighbour, whatever its settings, that gets a written PDU on one of its ports reads of it exactly the declarations written, each as
-- its event, and LeaveAll where the PDU has it
pub neighbour-reads : (b : Bridge) → Valid b → (p place : ℕ) (st : Settings) (q : ℕ) → wrong_port st q ≡ false
    → reading st q (pdu_octets (write b p place).all (write b p place).run) ≡ acts (pdu_acts (write b p place).all (write b p place).run)
unfolding reading walked
neighbour-reads b h p place st q right =
    let f : FewStreams b = valid-few b h in
    rw (right, read_back b f p place)
    (ap acts (frame-acts (write b p place).all (write b p place).run (run-few b p place f) (run-events b p place) (run-within b h p place)))

-- without LeaveAll just the events of the declarations, in their order
pub neighbour-reads-events : (b : Bridge) → Valid b → (p place : ℕ) (st : Settings) (q : ℕ) → wrong_port st q ≡ false → (write b p place).all ≡ false
    → reading st q (pdu_octets false (write b p place).run) ≡ acts (flat_map said_acts (write b p place).run)
neighbour-reads-events b h p place st q right none =
    rw none at (neighbour-reads b h p place st q right) ∙ ap acts (events-only (write b p place).run (run-in-order b p place))
