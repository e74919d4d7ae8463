-- Writing: a PDU takes whole declarations, is at most 1,500 octets long and as full as that allows, with LeaveAll or without it; and what
-- write answers.
use mathlib.Core.Path.{◌≡◌, refl, sym, ◌∙◌, ap}
use mathlib.Core.List.{List, [], ◌∷◌, ◌++◌, map, append-nil, map-append}
use mathlib.Core.Logic.{◌⊎◌, inl, inr}
use mathlib.Core.Bool.{Bool, true, false, cond, ◌||◌, false≢true}
use Prim.Native.Nat.{ℕ, zero, suc, ◌+◌, ◌*◌, ◌-◌, ◌≤◌, ◌<◌}
use native.Mathlib.Nat.{suc-mul, mul-le-mul_right}
use native.Mathlib.Numerals.{add-one}
use native.Mathlib.Omega.{arith}
use lib.ListN.{length, length-map, take, drop, length-append, length-replicate, take-append-drop}
use lib.Seq.{length-take-le, take-nil, take-take, take-append-le, take-append-add, drop-length, take-append_seam, drop-append_seam}
use lib.Dec.{ltb, leb, eqb}
use borrow.Author.Tests.{ltb-true, ltb-false, lt-ltb, le-ltb, leb-true, leb-false, le-leb, lt-leb, eq-eqb, ne_eqb, eqb-true, eqb-false}
use Rattle.octets.specs.Be.{be}
use Rattle.octets.specs.Fields.{packed, flat}
use Rattle.octets.proofs.Be.{length-be}
use Rattle.model.specs.FrameLayout.{advertise_length, domain_length, failed_length, longest_pdu}
use Rattle.model.specs.Lists.{All, keep, longest, bit}
use Rattle.model.specs.Applicant.{Standing, very_anxious_passive, very_anxious_new, anxious_new, anxious_active, quiet_active, leaving_active, named, octet_of}
use Rattle.model.specs.Places.{saying, left_before, write_from}
use Rattle.model.specs.Machines.{Listed, Applicant, no_applicant, applicant}
use Rattle.model.specs.State.{Settings, TalkerType, talker_advertise, talker_failed, Ready, Sends, Stream, Bridge, Class, class_a, class_b, class_id, class_priority, supports, port_at, slot_of, is_own_slot, declares_slot, sends_at, sender_at}
use Rattle.model.specs.Registrations.{Kind, advertises, faileds, listeners, ids}
use Rattle.model.specs.Frames.{Attribute, registers, domain_type, TypeOctet, not_allowed, unknown, known, type_octet, type_number, first_widths, first_length, Vector}
use Rattle.model.specs.Cutting.{concat, values, octets_for, octets}
use Rattle.model.specs.Best.{best, bests, least, run}
use Rattle.model.specs.Declarations.{Declaration, talker_declaration, listener_declaration, domain_declaration, talker_kind, attribute_of, listed_as, advertise_of, failed_of, declarations_of, of_kind, domain_of, domain_values, declarations, is_registered, Said, say, declared_id, declared_ids, same_attribute, having, vector_size, vectors_size, empty_size, message_size, messages_size, fitting, takes}
use Rattle.model.specs.WrittenFrames.{fixed_numbers, failure_numbers, first_numbers, four_octets, declaration_vector, packed_vector, cut_as, listener_parts, vectors_of, vector_octets, message_of, with_leave_all, empty_vector, leaving_all, vectors_said, message_octets, pdu_octets}
use Rattle.model.specs.Writing.{leaves_all, port_way, say_on, takes_on, wrote_on, after_write, Written, write}
use Rattle.model.specs.Sending.{standing_number, domain_standing}
use Rattle.model.specs.Laid.{Ascending}
use Rattle.model.proofs.Lists.{and_right, Longest, longest-longest, all_map, all-each, all_append, all_take, length-tabulate, longest-ends, longest-stops, longest-goes, longest-split, longest-same, longest-from, longest-within, longest-passes, longest-full}
use Rattle.model.proofs.Ascents.{Rising, ascending-rising, ascending-take, ascending-drop}
use Rattle.model.proofs.Valid.{ValidSlots, applicant_number, Valid}
use Rattle.model.proofs.LeastCutting.{best-cuts}
use Rattle.model.proofs.LongestRun.{least-take, least-most}
use Rattle.model.proofs.PlaceLists.{cons-apart}
use Rattle.model.proofs.Passing.{Takes}

-- Lengths.

-- FirstValue is as long as its type says
pub length-first : (d : Said) → length (declaration_vector d).first ≡ first_length (attribute_of d.declaration)
unfolding declaration_vector first_numbers attribute_of talker_kind first_widths first_length packed be fixed_numbers failure_numbers
length-first d = go d.declaration
  where
    go : (e : Declaration) → length (packed (first_widths (attribute_of e)) (first_numbers e)) ≡ first_length (attribute_of e)
    go (talker_declaration id f v) = of v.type
      where
        of : (h : TalkerType)
            → length (packed (first_widths (registers (talker_kind h))) (id ∷ (fixed_numbers f ++ (v.latency ∷ failure_numbers h)))) ≡ first_length (registers (talker_kind h))
        of talker_advertise = refl
        of (talker_failed b c) = refl
    go (listener_declaration id r) = refl
    go (domain_declaration id q v) = refl

-- and a declaration's vector as its size says
pub length-vector : (d : Said) → length (vector_octets (declaration_vector d)) ≡ vector_size (attribute_of d.declaration)
unfolding vector_octets declaration_vector first_numbers four_octets vector_size attribute_of talker_kind first_widths packed be fixed_numbers failure_numbers
length-vector d = go d.declaration
  where
    go : (e : Declaration) → length (vector_octets (declaration_vector record { declaration = e; event = d.event })) ≡ vector_size (attribute_of e)
    go (talker_declaration id f v) = of v.type
      where
        of : (h : TalkerType)
            → length (vector_octets (declaration_vector record { declaration = talker_declaration id f record { type = h; latency = v.latency }; event = d.event }))
            ≡ vector_size (registers (talker_kind h))
        of talker_advertise = refl
        of (talker_failed b c) = refl
    go (listener_declaration id r) = refl
    go (domain_declaration id q v) = refl

-- Types.

-- each type's number is read as that type
pub known-type : (k : Attribute) → type_octet 0 (type_number k) ≡ known k
unfolding type_octet type_number
known-type (registers advertises) = refl
known-type (registers faileds) = refl
known-type (registers listeners) = refl
known-type domain_type = refl

same_number : (j k : Attribute) → type_number j ≡ type_number k → j ≡ k
same_number j k e = ap type (sym (known-type j) ∙ ap (type_octet 0) e ∙ known-type k)
  where
    type : TypeOctet → Attribute
    type not_allowed = j
    type unknown = j
    type (known a) = a

attributes-same : (j k : Attribute) → same_attribute j k ≡ true → j ≡ k
unfolding same_attribute
attributes-same j k e = same_number j k (eqb-true (type_number j) (type_number k) e)

attributes-other : (j k : Attribute) → same_attribute j k ≡ false → type_number j ≡ type_number k → ⊥
unfolding same_attribute
attributes-other j k e = eqb-false (type_number j) (type_number k) e

pub same-attribute : (k : Attribute) → same_attribute k k ≡ true
unfolding same_attribute
same-attribute k = eq-eqb (type_number k) (type_number k) refl

pub other-attribute : (j k : Attribute) → (type_number j ≡ type_number k → ⊥) → same_attribute j k ≡ false
unfolding same_attribute
other-attribute j k h = ne_eqb (type_number j) (type_number k) h

-- The order of types: Advertise, Failed, Listener, Domain.

-- what there is of each type, in turn
abbrev pub in_turn : (Attribute → List Said) → List Said
in_turn of = of (registers advertises) ++ (of (registers faileds) ++ (of (registers listeners) ++ of domain_type))

-- what holds of all holds of some
pub all-of-saying : {A : Type 0} (P : A → Type 0) (f : A → Bool) (l : List A) → All P l → All P (saying f l)
unfolding saying
all-of-saying P f [] a = tt
all-of-saying P f (x ∷ l) a = go (f x) (all-of-saying P f l a.1)
  where
    go : (t : Bool) → All P (saying f l) → All P (keep t x (saying f l))
    go true r = (a.0, r)
    go false r = r

-- elements that each have a type: of the one type k, those that may stand after one of type k, and a list in order
module _ {A : Type 0} (type : A → Attribute) where
  abbrev pub Typed : Attribute → A → Type 0
  Typed k d = type d ≡ k

  abbrev pub NotEarlier : Attribute → A → Type 0
  NotEarlier k d = type_number k ≤ type_number (type d)

  abbrev pub Ordered : List A → Type 0
  Ordered [] = Unit {0}
  Ordered (d ∷ l) = All (NotEarlier (type d)) l × Ordered l

  ordered-take : (n : ℕ) (l : List A) → Ordered l → Ordered (take n l)
  ordered-take zero l o = tt
  ordered-take (suc n) [] o = tt
  ordered-take (suc n) (d ∷ l) o = (all_take (NotEarlier (type d)) n l o.0, ordered-take n l o.1)

  ordered-drop : (n : ℕ) (l : List A) → Ordered l → Ordered (drop n l)
  ordered-drop zero l o = o
  ordered-drop (suc n) [] o = tt
  ordered-drop (suc n) (d ∷ l) o = ordered-drop n l o.1

  -- of some of them
  ordered-saying : (f : A → Bool) (l : List A) → Ordered l → Ordered (saying f l)
  unfolding saying
  ordered-saying f [] o = tt
  ordered-saying f (d ∷ l) o = go (f d) (all-of-saying (NotEarlier (type d)) f l o.0) (ordered-saying f l o.1)
    where
      go : (t : Bool) → All (NotEarlier (type d)) (saying f l) → Ordered (saying f l) → Ordered (keep t d (saying f l))
      go true a r = (a, r)
      go false a r = r

  -- declarations that may stand after those of a type, in order; and with declarations of a type before them
  abbrev From : Attribute → List A → Type 0
  From k l = All (NotEarlier k) l × Ordered l

  from-append : (j k : Attribute) (l m : List A) → type_number j ≤ type_number k → All (Typed j) l → From k m → From j (l ++ m)
  from-append j k [] m h a b = (all_map (NotEarlier k) (NotEarlier j) (λ e q. omega arith) m b.0, b.1)
  from-append j k (d ∷ l) m h a b =
      let r : From j (l ++ m) = from-append j k l m h a.1 b in
      ((rw a.0 (omega arith), r.0), (rw a.0 r.0, r.1))

-- the type of what is said, and of a declaration in a port's list
abbrev pub said_type : Said → Attribute
said_type d = attribute_of d.declaration

abbrev pub listed_type : Listed Declaration → Attribute
listed_type x = attribute_of x.value

abbrev pub NotBefore : Attribute → Said → Type 0
NotBefore k d = type_number k ≤ type_number (attribute_of d.declaration)

abbrev pub OfAttribute : Attribute → Said → Type 0
OfAttribute k d = attribute_of d.declaration ≡ k

abbrev pub InOrder : List Said → Type 0
InOrder l = Ordered said_type l

pub order-take : (n : ℕ) (l : List Said) → InOrder l → InOrder (take n l)
order-take n l o = ordered-take said_type n l o

-- what holds of what is said of each
module _ {A B : Type 0} (P : B → Type 0) (g : A → B) where
  pub all_said : (l : List A) → All (λ x. P (g x)) l → All P (map g l)
  all_said [] a = tt
  all_said (x ∷ l) a = (a.0, all_said l a.1)

order-said : (all : Bool) (r : Declaration → Bool) (l : List (Listed Declaration)) → Ordered listed_type l → InOrder (map (say all r) l)
unfolding say
order-said all r [] o = tt
order-said all r (x ∷ l) o = (all_said (NotBefore (listed_type x)) (say all r) l o.0, order-said all r l o.1)

-- what holds of each stream's declarations of a type holds of all of that type
pub all-of-kind : (P : Listed Declaration → Type 0) (k : Kind) (p : ℕ) (s : List Stream)
    → All (λ x. All P (declarations_of k x.id (sends_at x p))) s → All P (of_kind k p s)
unfolding of_kind
all-of-kind P k p [] a = tt
all-of-kind P k p (x ∷ s) a = all_append P (declarations_of k x.id (sends_at x p)) (of_kind k p s) a.0 (all-of-kind P k p s a.1)

-- a machine in the list
pub all_listed : {A : Type 0} (P : Listed Declaration → Type 0) (f : A → Declaration) → ((q : Standing) (v : A) → P record { state = q; value = f v })
    → (a : Applicant A) → All P (listed_as f a)
unfolding listed_as
all_listed P f h no_applicant = tt
all_listed P f h (applicant x) = (h x.state x.value, tt)

stream-attribute : (k : Kind) (id : ℕ) (s : Sends) → All (Typed listed_type (registers k)) (declarations_of k id s)
unfolding declarations_of advertise_of failed_of attribute_of talker_kind
stream-attribute advertises id s = all_listed (Typed listed_type (registers advertises)) (advertise_of id) (λ q v. refl) s.advertising
stream-attribute faileds id s = all_listed (Typed listed_type (registers faileds)) (failed_of id) (λ q v. refl) s.failing
stream-attribute listeners id s = all_listed (Typed listed_type (registers listeners)) (listener_declaration id) (λ q v. refl) s.listening

pub of_kind-attribute : (k : Kind) (p : ℕ) (s : List Stream) → All (Typed listed_type (registers k)) (of_kind k p s)
of_kind-attribute k p s =
    let Own : Stream → Type 0 = λ x. All (Typed listed_type (registers k)) (declarations_of k x.id (sends_at x p)) in
    all-of-kind (Typed listed_type (registers k)) k p s (all-each Own (λ x. stream-attribute k x.id (sends_at x p)) s)

-- what holds of the Domain value of each slot holds of those in the list
pub all-domains : (P : Listed Declaration → Type 0) (st : Settings) (i : ℕ) (l : List (Applicant (Unit {0})))
    → ((j : ℕ) → i ≤ j → j < i + length l → (q : Standing) → P record { state = q; value = domain_of st j }) → All P (domain_values st i l)
unfolding domain_values
all-domains P st i [] h = tt
all-domains P st i (a ∷ l) h =
    all_append P (listed_as (λ u. domain_of st i) a) (domain_values st (suc i) l)
    (all_listed P (λ u. domain_of st i) (λ q v. h i (omega arith) (omega arith) q) a)
    (all-domains P st (suc i) l (λ j m n q. h j (omega arith) (omega arith) q))

pub domains-attribute : (st : Settings) (i : ℕ) (l : List (Applicant (Unit {0}))) → All (Typed listed_type domain_type) (domain_values st i l)
domains-attribute st i l = unfold domain_of attribute_of in (all-domains (Typed listed_type domain_type) st i l (λ j m n q. refl))

-- "Declarations of a port: Advertise, Failed, Listener", then Domain values
pub declarations-in-order : (b : Bridge) (p : ℕ) → Ordered listed_type (declarations b p)
unfolding declarations type_number
declarations-in-order b p = (before advertises faileds _ (omega arith) (before faileds listeners _ (omega arith) listed)).1
  where
    s : List Stream
    s = b.streams

    domains : List (Listed Declaration)
    domains = domain_values b.settings 0 (sender_at b.senders p).domains

    own : All (Typed listed_type domain_type) domains
    own = domains-attribute b.settings 0 (sender_at b.senders p).domains

    last : From listed_type domain_type (domains ++ [])
    last = from-append listed_type domain_type domain_type domains [] (omega arith) own (tt, tt)

    listed : From listed_type (registers listeners) (of_kind listeners p s ++ domains)
    listed =
        from-append listed_type (registers listeners) domain_type (of_kind listeners p s) domains (omega arith) (of_kind-attribute listeners p s)
        (rw (append-nil domains) at last)

    before : (j k : Kind) (m : List (Listed Declaration)) → type_number (registers j) ≤ type_number (registers k)
        → From listed_type (registers k) m → From listed_type (registers j) (of_kind j p s ++ m)
    before j k m h f = from-append listed_type (registers j) (registers k) (of_kind j p s) m h (of_kind-attribute j p s) f

-- The octets of declarations.

pub having-attribute : (k : Attribute) (l : List Said) → All (OfAttribute k) (having k l)
unfolding having
having-attribute k [] = tt
having-attribute k (d ∷ l) = go (same_attribute (attribute_of d.declaration) k) refl (having-attribute k l)
  where
    go : (t : Bool) → same_attribute (attribute_of d.declaration) k ≡ t → All (OfAttribute k) (having k l) → All (OfAttribute k) (keep t d (having k l))
    go true e a = (attributes-same (attribute_of d.declaration) k e, a)
    go false e a = a

-- types that only earlier declarations have
pub having-none : (k : Attribute) (l : List Said) → All (λ d. type_number k < type_number (attribute_of d.declaration)) l → having k l ≡ []
unfolding having
having-none k [] a = refl
having-none k (d ∷ l) a = rw (other-attribute (attribute_of d.declaration) k (λ e. omega arith)) (having-none k l a.1)

pub having-append : (k : Attribute) (l m : List Said) → having k (l ++ m) ≡ having k l ++ having k m
unfolding having
having-append k [] m = refl
having-append k (d ∷ l) m = rw (having-append k l m) (go (same_attribute (attribute_of d.declaration) k))
  where
    go : (t : Bool) → keep t d (having k l ++ having k m) ≡ keep t d (having k l) ++ having k m
    go true = refl
    go false = refl

having-own : (k : Attribute) (l : List Said) → All (OfAttribute k) l → having k l ≡ l
unfolding having
having-own k [] a = refl
having-own k (d ∷ l) a = rw (a.0, same-attribute k) (ap (λ (r : List Said). d ∷ r) (having-own k l a.1))

having-other : (j k : Attribute) (l : List Said) → same_attribute k j ≡ false → All (OfAttribute k) l → having j l ≡ []
unfolding having
having-other j k [] e a = refl
having-other j k (d ∷ l) e a = rw (a.0, e) (having-other j k l e a.1)

-- the vectors of declarations, one each
length-singles : (k : Attribute) (l : List Said) → All (OfAttribute k) l → length (flat vector_octets (map declaration_vector l)) ≡ length l * vector_size k
unfolding flat
length-singles k [] a = omega arith
length-singles k (d ∷ l) a =
    let e = suc-mul (length l) (vector_size k) in
    simp (length-append, length-vector d, a.0, length-singles k l a.1) (omega arith)

-- of Listeners packed
pub length-packed : (g : List Said) → length (vector_octets (packed_vector g)) ≡ octets_for (values (declared_ids g))
unfolding vector_octets packed_vector packed be octets_for
length-packed g = simp (length-append, length-tabulate) (omega arith)

pub ids-take : (n : ℕ) (l : List Said) → declared_ids (take n l) ≡ take n (declared_ids l)
unfolding declared_ids
ids-take zero l = refl
ids-take (suc n) [] = refl
ids-take (suc n) (d ∷ l) = ap (λ (r : List ℕ). declared_id d.declaration ∷ r) (ids-take n l)

pub ids-drop : (n : ℕ) (l : List Said) → declared_ids (drop n l) ≡ drop n (declared_ids l)
unfolding declared_ids
ids-drop zero l = refl
ids-drop (suc n) [] = refl
ids-drop (suc n) (d ∷ l) = ids-drop n l

pub length_ids : (l : List Said) → length (declared_ids l) ≡ length l
unfolding declared_ids
length_ids l = length-map l (λ (d : Said). declared_id d.declaration)

-- declarations cut as their StreamIDs are: the StreamIDs of the first part, and of the rest
pub cut-first : (g : List ℕ) (c : List (List ℕ)) (l : List Said) → concat (g ∷ c) ≡ declared_ids l
    → (declared_ids (take (length g) l) ≡ g) × (concat c ≡ declared_ids (drop (length g) l))
cut-first g c l e = (
  ids-take (length g) l ∙ ap (take (length g)) (sym e) ∙ take-append_seam g (concat c),
  sym (drop-append_seam g (concat c)) ∙ ap (drop (length g)) e ∙ sym (ids-drop (length g) l),
)

length-cut-as : (c : List (List ℕ)) (l : List Said) → concat c ≡ declared_ids l → length (flat vector_octets (map packed_vector (cut_as c l))) ≡ octets c
unfolding flat cut_as
length-cut-as [] l e = refl
length-cut-as (g ∷ c) l e =
    let s = cut-first g c l e in
    simp (length-append, length-packed (take (length g) l), s.0, length-cut-as c (drop (length g) l) s.1)

length-vectors : (k : Attribute) (l : List Said) → All (OfAttribute k) l → length (flat vector_octets (vectors_of k l)) ≡ vectors_size k l
unfolding vectors_of vectors_size listener_parts least
length-vectors (registers advertises) l a = length-singles (registers advertises) l a
length-vectors (registers faileds) l a = length-singles (registers faileds) l a
length-vectors (registers listeners) l a = length-cut-as (best (declared_ids l)) l (best-cuts (declared_ids l)).0
length-vectors domain_type l a = length-singles domain_type l a

-- A type without a declaration has no vector, and one with some has one.

no-vectors : (k : Attribute) → vectors_of k [] ≡ []
unfolding vectors_of listener_parts cut_as best bests declared_ids
no-vectors (registers advertises) = refl
no-vectors (registers faileds) = refl
no-vectors (registers listeners) = refl
no-vectors domain_type = refl

some-vectors : (k : Attribute) (d : Said) (l : List Said) → 1 ≤ length (vectors_of k (d ∷ l))
unfolding vectors_of listener_parts cut_as declared_ids
some-vectors (registers advertises) d l = omega arith
some-vectors (registers faileds) d l = omega arith
some-vectors (registers listeners) d l = go (best (declared_ids (d ∷ l))) (best-cuts (declared_ids (d ∷ l))).0
  where
    go : (c : List (List ℕ)) → concat c ≡ declared_ids (d ∷ l) → 1 ≤ length (map packed_vector (cut_as c (d ∷ l)))
    go [] e = absurd (cons-apart (sym e))
    go (g ∷ c) e = omega arith
some-vectors domain_type d l = omega arith

-- a Message of some vectors
message-list : (k : Attribute) (vs : List Vector) → 1 ≤ length vs → length (message_octets k vs) ≡ 6 + length (flat vector_octets vs)
unfolding message_octets message_of
message-list k [] h = absurd (omega arith)
message-list k (v ∷ vs) h = simp (length-append, length-be) (omega arith)

-- LeaveAll costs nothing in a vector that is there anyway
leaving-same : (k : Attribute) (vs : List Vector) → 1 ≤ length vs
    → (1 ≤ length (leaving_all k vs)) × (length (flat vector_octets (leaving_all k vs)) ≡ length (flat vector_octets vs))
unfolding leaving_all flat with_leave_all vector_octets
leaving-same k [] h = absurd (omega arith)
leaving-same k (v ∷ vs) h = (omega arith, simp (length-append, length-be))

length-empty : (k : Attribute) → length (flat vector_octets (empty_vector k ∷ [])) ≡ 2 + first_length k
unfolding flat empty_vector vector_octets
length-empty k = simp (length-append, length-be, length-replicate) (omega arith)

pub length-message : (all : Bool) (k : Attribute) (l : List Said) → All (OfAttribute k) l → length (message_octets k (vectors_said all k l)) ≡ message_size all k l
unfolding vectors_said message_size empty_size
length-message false k [] a = rw (no-vectors k) (unfold message_octets in refl)
length-message true k [] a =
    rw (no-vectors k) (unfold leaving_all in (message-list k (empty_vector k ∷ []) (omega arith) ∙ ap (λ (n : ℕ). 6 + n) (length-empty k)))
length-message false k (d ∷ l) a =
    message-list k (vectors_of k (d ∷ l)) (some-vectors k d l) ∙ ap (λ (n : ℕ). 6 + n) (length-vectors k (d ∷ l) a)
length-message true k (d ∷ l) a =
    let same = leaving-same k (vectors_of k (d ∷ l)) (some-vectors k d l) in
    message-list k (leaving_all k (vectors_of k (d ∷ l))) same.0 ∙ ap (λ (n : ℕ). 6 + n) (same.1 ∙ length-vectors k (d ∷ l) a)

pub length-pdu : (all : Bool) (l : List Said) → length (pdu_octets all l) ≡ 3 + messages_size all l
unfolding pdu_octets messages_size
length-pdu all l = simp (length-append, of (registers advertises), of (registers faileds), of (registers listeners), of domain_type) (omega arith)
  where
    of : (k : Attribute) → length (message_octets k (vectors_said all k (having k l))) ≡ message_size all k (having k l)
    of k = length-message all k (having k l) (having-attribute k l)

-- Sizes never fall where a declaration is added: a Message of some is not shorter than that of none.

least-some : (i : ℕ) (l : List ℕ) → 10 ≤ least (i ∷ l)
unfolding least
least-some i l = go (best (i ∷ l)) (best-cuts (i ∷ l)).0
  where
    go : (c : List (List ℕ)) → concat c ≡ i ∷ l → 10 ≤ octets c
    go [] e = absurd (cons-apart (sym e))
    go (g ∷ c) e = unfold octets_for in (omega arith)

pub message-least : (all : Bool) (k : Attribute) (l : List Said) → empty_size all k ≤ message_size all k l
unfolding message_size
message-least all k [] = omega arith
message-least all k (d ∷ l) = go all k
  where
    some : (m : ℕ) → suc (length l) * m ≡ length l * m + m
    some m = suc-mul (length l) m

    go : (all : Bool) (k : Attribute) → empty_size all k ≤ 6 + vectors_size k (d ∷ l)
    go false k = unfold empty_size in (omega arith)
    go true (registers advertises) = unfold empty_size first_length vectors_size vector_size in (omega (arith, some (2 + advertise_length + 1)))
    go true (registers faileds) = unfold empty_size first_length vectors_size vector_size in (omega (arith, some (2 + failed_length + 1)))
    go true (registers listeners) =
        unfold empty_size first_length vectors_size declared_ids in
        (omega (arith, least-some (declared_id d.declaration) (map (λ (e : Said). declared_id e.declaration) l)))
    go true domain_type = unfold empty_size first_length vectors_size vector_size in (omega (arith, some (2 + domain_length + 1)))

-- "one PDU takes as many as fit in 1,500 octets whole".

-- with so many octets used, n of the declarations fit
abbrev pub fits_with : Bool → ℕ → List Said → ℕ → Bool
fits_with all used l n = leb (used + messages_size all (take n l)) longest_pdu

-- the Messages without a declaration: none, or those of LeaveAll
no-messages : (all : Bool) → messages_size all [] ≤ 103
unfolding messages_size message_size having empty_size first_length
no-messages true = omega arith
no-messages false = omega arith

pub takes-fits : (all : Bool) (l : List Said) → length (pdu_octets all (take (takes all l) l)) ≤ longest_pdu
unfolding takes fitting
takes-fits all l =
    let n : ℕ = longest (fits_with all 3 l) 0 (length l) in
    let none : fits_with all 3 l 0 ≡ true = le-leb (3 + messages_size all []) longest_pdu (omega (arith, no-messages all)) in
    let e : fits_with all 3 l n ≡ true = longest-passes (fits_with all 3 l) 0 (length l) none in
    omega (arith, length-pdu all (take n l), leb-true (3 + messages_size all (take n l)) longest_pdu e)

pub takes-full : (all : Bool) (l : List Said) → takes all l < length l → longest_pdu < length (pdu_octets all (take (suc (takes all l)) l))
unfolding takes fitting
takes-full all l h =
    let n : ℕ = longest (fits_with all 3 l) 0 (length l) in
    let e : fits_with all 3 l (suc n) ≡ false = rw (add-one n) at (longest-full (fits_with all 3 l) 0 (length l) (omega arith)) in
    omega (arith, length-pdu all (take (suc n) l), leb-false (3 + messages_size all (take (suc n) l)) longest_pdu e)

pub takes-within : (all : Bool) (l : List Said) → takes all l ≤ length l
unfolding takes fitting
takes-within all l = omega (arith, (longest-within (fits_with all 3 l) 0 (length l)).1)

-- there is room for one
one-message : (all : Bool) (d : Said) → messages_size all (d ∷ []) ≤ 146
unfolding messages_size message_size having same_attribute type_number vectors_size vector_size declared_ids empty_size first_length
one-message all d = go all (attribute_of d.declaration)
  where
    one : least (declared_id d.declaration ∷ []) ≤ 12
    one = omega (arith, least-most (declared_id d.declaration ∷ []) (omega arith))

    size : Bool → Attribute → Attribute → ℕ
    size all k j = message_size all j (keep (same_attribute k j) d [])

    go : (all : Bool) (k : Attribute)
        → size all k (registers advertises) + size all k (registers faileds) + size all k (registers listeners) + size all k domain_type ≤ 146
    go false (registers advertises) = omega arith
    go false (registers faileds) = omega arith
    go false (registers listeners) = omega (arith, one)
    go false domain_type = omega arith
    go true (registers advertises) = omega arith
    go true (registers faileds) = omega arith
    go true (registers listeners) = omega (arith, one)
    go true domain_type = omega arith

pub takes_one : (all : Bool) (l : List Said) → 1 ≤ length l → 1 ≤ takes all l
unfolding takes fitting
takes_one all [] h = absurd (omega arith)
takes_one all (d ∷ l) h =
    let e : fits_with all 3 (d ∷ l) 1 ≡ true = le-leb (3 + messages_size all (d ∷ [])) longest_pdu (omega (arith, one-message all d)) in
    rw (longest-goes (fits_with all 3 (d ∷ l)) 0 (length l) e) (omega (arith, (longest-within (fits_with all 3 (d ∷ l)) 1 (length l)).0))

-- Type by type: of declarations of one type and of later types, those of the first are taken first.

abbrev pub After : Attribute → Said → Type 0
After k d = type_number k < type_number (attribute_of d.declaration)

-- what a Message of some takes more than one of none
unfoldable pub more_size : Bool → Attribute → List Said → ℕ
more_size all k l = message_size all k l - empty_size all k

module _ (all : Bool) (k : Attribute) (l m : List Said) (own : All (OfAttribute k) l) (after : All (After k) m) where
  having-first : (j : Attribute) → having j (l ++ m) ≡ cond (same_attribute k j) l (having j m)
  having-first j = having-append j l m ∙ go (same_attribute k j) refl
    where
      go : (t : Bool) → same_attribute k j ≡ t → having j l ++ having j m ≡ cond t l (having j m)
      go true e =
          let none : having j m ≡ [] = rw (← attributes-same k j e) (having-none k m after) in
          rw (none, append-nil, ← attributes-same k j e) (having-own k l own)
      go false e = rw (having-other j k l e own)

  first-none : having k m ≡ []
  first-none = having-none k m after

  pub messages-first : messages_size all (l ++ m) ≡ more_size all k l + messages_size all m
  unfolding messages_size more_size
  messages-first =
      rw (having-first (registers advertises), having-first (registers faileds), having-first (registers listeners), having-first domain_type)
      (go k first-none (message-least all k l))
    where
      size : Attribute → Attribute → ℕ
      size i j = message_size all j (cond (same_attribute i j) l (having j m))

      of : Attribute → ℕ
      of j = message_size all j (having j m)

      none : (i : Attribute) → having i m ≡ [] → of i ≡ empty_size all i
      none i e = rw e (unfold message_size in refl)

      go : (i : Attribute) → having i m ≡ [] → empty_size all i ≤ message_size all i l
          → size i (registers advertises) + size i (registers faileds) + size i (registers listeners) + size i domain_type
          ≡ message_size all i l - empty_size all i + (of (registers advertises) + of (registers faileds) + of (registers listeners) + of domain_type)
      go (registers advertises) e h = unfold same_attribute type_number in (omega (arith, h, none (registers advertises) e))
      go (registers faileds) e h = unfold same_attribute type_number in (omega (arith, h, none (registers faileds) e))
      go (registers listeners) e h = unfold same_attribute type_number in (omega (arith, h, none (registers listeners) e))
      go domain_type e h = unfold same_attribute type_number in (omega (arith, h, none domain_type e))

-- of one type
pub messages-one : (all : Bool) (k : Attribute) (l : List Said) → All (OfAttribute k) l → messages_size all l ≡ more_size all k l + messages_size all []
messages-one all k l own = ap (messages_size all) (sym (append-nil l)) ∙ messages-first all k l [] own tt

-- what fits of the later ones counts where all of the first do
pub fitting-types : (all : Bool) (used : ℕ) (k : Attribute) (l m : List Said) → All (OfAttribute k) l → All (After k) m
    → fitting all used (l ++ m) ≡ cond (ltb (fitting all used l) (length l)) (fitting all used l) (length l + fitting all (used + more_size all k l) m)
unfolding fitting
fitting-types all used k l m own after =
    rw (length-append l m, longest-split (fits_with all used (l ++ m)) 0 (length l) (length m), near, far) (unary (length l))
  where
    near : longest (fits_with all used (l ++ m)) 0 (length l) ≡ longest (fits_with all used l) 0 (length l)
    near =
        longest-same (fits_with all used (l ++ m)) (fits_with all used l) 0 (length l)
        (λ i a b. ap (λ (r : List Said). leb (used + messages_size all r) longest_pdu) (take-append-le i l m (omega arith)))

    rest : (i : ℕ) → used + messages_size all (take (length l + i) (l ++ m)) ≡ used + more_size all k l + messages_size all (take i m)
    rest i = rw (take-append-add l m i) (omega (arith, messages-first all k l (take i m) own (all_take (After k) i m after)))

    far : longest (fits_with all used (l ++ m)) (0 + length l) (length m) ≡ length l + longest (fits_with all (used + more_size all k l) m) 0 (length m)
    far =
        let e : 0 + length l ≡ length l + 0 = omega arith in
        rw (e, longest-from (fits_with all used (l ++ m)) (length l) 0 (length m))
        (ap (λ (n : ℕ). length l + n)
        (longest-same (λ i. fits_with all used (l ++ m) (length l + i)) (fits_with all (used + more_size all k l) m) 0 (length m)
        (λ i a b. ap (λ (n : ℕ). leb n longest_pdu) (rest i))))

    unary : (n : ℕ) → cond (ltb (longest (fits_with all used l) 0 (length l)) (0 + n)) (longest (fits_with all used l) 0 (length l))
        (length l + longest (fits_with all (used + more_size all k l) m) 0 (length m))
        ≡ cond (ltb (longest (fits_with all used l) 0 (length l)) n) (longest (fits_with all used l) 0 (length l))
        (length l + longest (fits_with all (used + more_size all k l) m) 0 (length m))
    unary n = let e : 0 + n ≡ n = omega arith in rw e

-- the Message of some
pub message-some : (all : Bool) (k : Attribute) (l : List Said) → 1 ≤ length l → message_size all k l ≡ 6 + vectors_size k l
unfolding message_size
message-some all k [] h = absurd (omega arith)
message-some all k (d ∷ l) h = refl

-- the Messages of the other types, without a declaration
unfoldable pub others_size : Bool → Attribute → ℕ
others_size all k = messages_size all [] - empty_size all k

pub others-size : (all : Bool) (k : Attribute) → others_size all k + empty_size all k ≡ messages_size all []
unfolding others_size messages_size message_size having
others-size all (registers advertises) = omega arith
others-size all (registers faileds) = omega arith
others-size all (registers listeners) = omega arith
others-size all domain_type = omega arith

module _ (all : Bool) (used : ℕ) (k : Attribute) (l : List Said) (own : All (OfAttribute k) l) where
  pub fitting-one : fitting all used l ≡ longest (λ n. leb (used + others_size all k + 6 + vectors_size k (take n l)) longest_pdu) 0 (length l)
  unfolding fitting
  fitting-one =
      longest-same (fits_with all used l) (λ n. leb (used + others_size all k + 6 + vectors_size k (take n l)) longest_pdu) 0 (length l)
      (λ i a b. ap (λ (n : ℕ). leb n longest_pdu) (size i a (omega arith)))
    where
      size : (i : ℕ) → 0 < i → i ≤ length l → used + messages_size all (take i l) ≡ used + others_size all k + 6 + vectors_size k (take i l)
      size i a b =
          unfold more_size in
          (omega (
            arith,
            messages-one all k (take i l) (all_take (OfAttribute k) i l own),
            message-some all k (take i l) (omega (arith, length-take-le i l b)),
            message-least all k (take i l),
            others-size all k,
          ))

  -- there is no room for a Message
  pub fitting-over : longest_pdu < used + others_size all k + 6 → fitting all used l ≡ 0
  fitting-over h = fitting-one ∙ go (length l)
    where
      go : (n : ℕ) → longest (λ n. leb (used + others_size all k + 6 + vectors_size k (take n l)) longest_pdu) 0 n ≡ 0
      go zero = longest-ends _ 0
      go (suc n) = longest-stops _ 0 n (lt-leb (used + others_size all k + 6 + vectors_size k (take (0 + 1) l)) longest_pdu (omega arith))

-- one per vector
pub fitting-single : (all : Bool) (used : ℕ) (k : Attribute) (l : List Said) → All (OfAttribute k) l → (k ≡ registers listeners → ⊥)
    → fitting all used l ≡ longest (λ n. leb (used + others_size all k + 6 + n * vector_size k) longest_pdu) 0 (length l)
fitting-single all used k l own h =
    let u : ℕ = used + others_size all k + 6 in
    fitting-one all used k l own
    ∙ longest-same (λ n. leb (u + vectors_size k (take n l)) longest_pdu) (λ n. leb (u + n * vector_size k) longest_pdu) 0 (length l)
    (λ i a b. ap (λ (n : ℕ). leb (u + n) longest_pdu) (singles k h (take i l) ∙ ap (λ (n : ℕ). n * vector_size k) (length-take-le i l (omega arith))))
  where
    singles : (k : Attribute) → (k ≡ registers listeners → ⊥) → (r : List Said) → vectors_size k r ≡ length r * vector_size k
    singles (registers advertises) h r = unfold vectors_size in refl
    singles (registers faileds) h r = unfold vectors_size in refl
    singles (registers listeners) h r = absurd (h refl)
    singles domain_type h r = unfold vectors_size in refl

-- Listeners packed
pub fitting-listeners : (all : Bool) (used : ℕ) (l : List Said) → All (OfAttribute (registers listeners)) l
    → used + others_size all (registers listeners) + 6 ≤ longest_pdu
    → fitting all used l ≡ run (longest_pdu - (used + others_size all (registers listeners) + 6)) (declared_ids l)
unfolding run vectors_size
fitting-listeners all used l own h =
    fitting-one all used (registers listeners) l own
    ∙ rw (length_ids l)
    (longest-same (λ n. leb (u + least (declared_ids (take n l))) longest_pdu) (λ n. leb (least (take n (declared_ids l))) (longest_pdu - u)) 0 (length l)
    (λ i a b. rw (ids-take i l) (same (least (take i (declared_ids l))))))
  where
    u : ℕ
    u = used + others_size all (registers listeners) + 6

    same : (n : ℕ) → leb (u + n) longest_pdu ≡ leb n (longest_pdu - u)
    same n = go (leb n (longest_pdu - u)) refl
      where
        go : (t : Bool) → leb n (longest_pdu - u) ≡ t → leb (u + n) longest_pdu ≡ t
        go true e = le-leb (u + n) longest_pdu (omega (arith, leb-true n (longest_pdu - u) e))
        go false e = lt-leb (u + n) longest_pdu (omega (arith, leb-false n (longest_pdu - u) e))

-- The run is the longest that fits, with all of its Messages counted: fewer declarations never take more octets.

abbrev pub pdu_fits : Bool → List Said → ℕ → Bool
pdu_fits all l n = leb (length (pdu_octets all (take n l))) longest_pdu

-- at most 64 Listeners, by ascending StreamID
pub record FewListeners (l : List Said) : Type 0 where
  pub few : length (having (registers listeners) l) ≤ 64
  pub ascending : Ascending (declared_ids (having (registers listeners) l))

vectors-rise : (k : Attribute) (l m : List Said)
    → (k ≡ registers listeners → (length (l ++ m) ≤ 64) × Rising (declared_ids (l ++ m))) → vectors_size k l ≤ vectors_size k (l ++ m)
unfolding vectors_size
vectors-rise (registers advertises) l m h = rw (length-append l m) (mul-le-mul_right _ (omega arith))
vectors-rise (registers faileds) l m h = rw (length-append l m) (mul-le-mul_right _ (omega arith))
vectors-rise (registers listeners) l m h =
    let n : length (declared_ids (l ++ m)) ≤ 64 = rw (length_ids (l ++ m)) (h refl).0 in
    let e : take (length l) (declared_ids (l ++ m)) ≡ declared_ids l = sym (ids-take (length l) (l ++ m)) ∙ ap declared_ids (take-append_seam l m) in
    rw e at (least-take (declared_ids (l ++ m)) n (h refl).1 (length l))
vectors-rise domain_type l m h = rw (length-append l m) (mul-le-mul_right _ (omega arith))

message-rises : (all : Bool) (k : Attribute) (l m : List Said)
    → (k ≡ registers listeners → (length (l ++ m) ≤ 64) × Rising (declared_ids (l ++ m))) → message_size all k l ≤ message_size all k (l ++ m)
message-rises all k [] m h = unfold message_size in (message-least all k m)
message-rises all k (d ∷ l) m h = unfold message_size in (omega (arith, vectors-rise k (d ∷ l) m h))

messages-rise : (all : Bool) (l m : List Said) → FewListeners (l ++ m) → messages_size all l ≤ messages_size all (l ++ m)
unfolding messages_size
messages-rise all l m f = omega (arith, of (registers advertises), of (registers faileds), of (registers listeners), of domain_type)
  where
    of : (k : Attribute) → message_size all k (having k l) ≤ message_size all k (having k (l ++ m))
    of k =
        rw (having-append k l m)
        (message-rises all k (having k l) (having k m)
        (λ e. rw (e, ← having-append (registers listeners) l m) (f.few, ascending-rising (declared_ids (having (registers listeners) (l ++ m))) f.ascending)))

-- of some of the declarations too
few-parts : (n : ℕ) (l : List Said) → FewListeners l → FewListeners (take n l) × FewListeners (drop n l)
few-parts n l f = (
  record { few = omega (arith, f.few, long); ascending = rw front at (ascending-take m (declared_ids (having k l)) f.ascending) },
  record { few = omega (arith, f.few, long); ascending = rw rest at (ascending-drop m (declared_ids (having k l)) f.ascending) },
)
  where
    k : Attribute
    k = registers listeners

    a : List Said
    a = having k (take n l)

    b : List Said
    b = having k (drop n l)

    m : ℕ
    m = length a

    e : having k l ≡ a ++ b
    e = ap (having k) (sym (take-append-drop n l)) ∙ having-append k (take n l) (drop n l)

    long : length (having k l) ≡ length a + length b
    long = ap length e ∙ length-append a b

    front : take m (declared_ids (having k l)) ≡ declared_ids a
    front = sym (ids-take m (having k l)) ∙ ap declared_ids (ap (take m) e ∙ take-append_seam a b)

    rest : drop m (declared_ids (having k l)) ≡ declared_ids b
    rest = sym (ids-drop m (having k l)) ∙ ap declared_ids (ap (drop m) e ∙ drop-append_seam a b)

messages-take : (all : Bool) (l : List Said) → FewListeners l → (j k : ℕ) → j ≤ k → messages_size all (take j l) ≤ messages_size all (take k l)
messages-take all l f j k h =
    let g : FewListeners (take k l) = (few-parts k l f).0 in
    let e : take j l ++ drop j (take k l) ≡ take k l = rw (← take-take j k l h) (take-append-drop j (take k l)) in
    rw e at (messages-rise all (take j l) (drop j (take k l)) (rw e g))

pub takes-longest : (all : Bool) (l : List Said) → FewListeners l → Longest (pdu_fits all l) (length l) (takes all l)
unfolding takes fitting
takes-longest all l f =
    rw (longest-same (fits_with all 3 l) (pdu_fits all l) 0 (length l) (λ i a b. ap (λ (n : ℕ). leb n longest_pdu) (sym (length-pdu all (take i l)))))
    (longest-longest (pdu_fits all l) fewer (length l) none)
  where
    none : pdu_fits all l 0 ≡ true
    none = le-leb (length (pdu_octets all [])) longest_pdu (omega (arith, length-pdu all [], no-messages all))

    fewer : (j k : ℕ) → j ≤ k → pdu_fits all l k ≡ true → pdu_fits all l j ≡ true
    fewer j k h e =
        le-leb (length (pdu_octets all (take j l))) longest_pdu
        (omega (arith, leb-true (length (pdu_octets all (take k l))) longest_pdu e, length-pdu all (take j l), length-pdu all (take k l), messages-take all l f j k h))

-- nothing is said
pub no-declarations : pdu_octets false [] ≡ 0 ∷ 0 ∷ 0 ∷ []
unfolding pdu_octets vectors_said message_octets having
no-declarations = simp (no-vectors (registers advertises), no-vectors (registers faileds), no-vectors (registers listeners), no-vectors domain_type)

-- LeaveAll alone: "Four Messages always"
pub leave-all-alone : length (pdu_octets true []) ≡ 106
leave-all-alone = length-pdu true [] ∙ unfold messages_size message_size having empty_size first_length in refl

-- some are said, or LeaveAll: a PDU that says something is longer
pub messages-said : (d : Said) (l : List Said) → 6 ≤ messages_size false (d ∷ l)
messages-said d l = omega (arith, go (said_type d) (unfold having in (rw (same-attribute (said_type d)))))
  where
    go : (k : Attribute) → having k (d ∷ l) ≡ d ∷ having k l → 6 ≤ messages_size false (d ∷ l)
    go (registers advertises) e = unfold messages_size in (rw e (unfold message_size in (omega arith)))
    go (registers faileds) e = unfold messages_size in (rw e (unfold message_size in (omega arith)))
    go (registers listeners) e = unfold messages_size in (rw e (unfold message_size in (omega arith)))
    go domain_type e = unfold messages_size in (rw e (unfold message_size in (omega arith)))

pub messages-leaving : (l : List Said) → 103 ≤ messages_size true l
unfolding messages_size
messages-leaving l = unfold empty_size first_length in (omega (arith, of (registers advertises), of (registers faileds), of (registers listeners), of domain_type))
  where
    of : (k : Attribute) → empty_size true k ≤ message_size true k (having k l)
    of k = message-least true k (having k l)

-- The Listeners of a port are at most 64, by ascending StreamID.

module _ (all : Bool) (r : Declaration → Bool) where
  -- the Listeners that a list says
  abbrev listened : List (Listed Declaration) → List Said
  listened l = having (registers listeners) (map (say all r) l)

  -- of some of them
  ids-saying : (P : ℕ → Type 0) (f : Listed Declaration → Bool) (l : List (Listed Declaration))
      → All P (declared_ids (listened l)) → All P (declared_ids (listened (saying f l)))
  unfolding saying having declared_ids say
  ids-saying P f [] a = tt
  ids-saying P f (x ∷ l) a = go (f x) (same_attribute (listed_type x) (registers listeners)) refl a (ids-saying P f l)
    where
      go : (t same : Bool) → same_attribute (listed_type x) (registers listeners) ≡ same → All P (declared_ids (keep same (say all r x) (listened l)))
          → (All P (declared_ids (listened l)) → All P (declared_ids (listened (saying f l)))) → All P (declared_ids (listened (keep t x (saying f l))))
      go true true e a ih = rw e (a.0, ih a.1)
      go true false e a ih = rw e (ih a)
      go false true e a ih = ih a.1
      go false false e a ih = ih a

  few-saying : (f : Listed Declaration → Bool) (l : List (Listed Declaration))
      → Ascending (declared_ids (listened l)) → (length (listened (saying f l)) ≤ length (listened l)) × Ascending (declared_ids (listened (saying f l)))
  unfolding saying having declared_ids say
  few-saying f [] a = (omega arith, tt)
  few-saying f (x ∷ l) a = go (f x) (same_attribute (listed_type x) (registers listeners)) refl a (few-saying f l)
    where
      go : (t same : Bool) → same_attribute (listed_type x) (registers listeners) ≡ same → Ascending (declared_ids (keep same (say all r x) (listened l)))
          → (Ascending (declared_ids (listened l)) → (length (listened (saying f l)) ≤ length (listened l)) × Ascending (declared_ids (listened (saying f l))))
          → (length (listened (keep t x (saying f l))) ≤ length (keep same (say all r x) (listened l)))
          × Ascending (declared_ids (listened (keep t x (saying f l))))
      go true true e a ih =
          let h = ih a.1 in
          rw e (omega (arith, h.0), (ids-saying (λ j. declared_id x.value < j) f l a.0, h.1))
      go true false e a ih = rw e (ih a)
      go false true e a ih =
          let h = ih a.1 in
          (omega (arith, h.0), h.1)
      go false false e a ih = ih a

  -- of a stream on a port at most one
  above-listeners : (i p : ℕ) (s : List Stream) → All (λ j. i < j) (ids s) → All (λ j. i < j) (declared_ids (map (say all r) (of_kind listeners p s)))
  unfolding ids of_kind declarations_of listed_as declared_ids declared_id say
  above-listeners i p [] a = tt
  above-listeners i p (x ∷ s) a = go (sends_at x p).listening (above-listeners i p s a.1)
    where
      go : (d : Applicant Ready) → All (λ j. i < j) (declared_ids (map (say all r) (of_kind listeners p s)))
          → All (λ j. i < j) (declared_ids (map (say all r) (listed_as (listener_declaration x.id) d ++ of_kind listeners p s)))
      go no_applicant h = h
      go (applicant y) h = (a.0, h)

  pub listeners-ascend : (p : ℕ) (s : List Stream) → Ascending (ids s) → Ascending (declared_ids (map (say all r) (of_kind listeners p s)))
  unfolding ids of_kind declarations_of listed_as declared_ids declared_id say
  listeners-ascend p [] a = tt
  listeners-ascend p (x ∷ s) a = go (sends_at x p).listening (above-listeners x.id p s a.0) (listeners-ascend p s a.1)
    where
      go : (d : Applicant Ready) → All (λ j. x.id < j) (declared_ids (map (say all r) (of_kind listeners p s)))
          → Ascending (declared_ids (map (say all r) (of_kind listeners p s)))
          → Ascending (declared_ids (map (say all r) (listed_as (listener_declaration x.id) d ++ of_kind listeners p s)))
      go no_applicant h k = k
      go (applicant y) h k = (h, k)

  of-kind : (k : Kind) (p : ℕ) (s : List Stream) → All (OfAttribute (registers k)) (map (say all r) (of_kind k p s))
  unfolding say
  of-kind k p s = all_said (OfAttribute (registers k)) (say all r) (of_kind k p s) (of_kind-attribute k p s)

  listeners-of : (b : Bridge) (p : ℕ) → listened (declarations b p) ≡ map (say all r) (of_kind listeners p b.streams)
  unfolding declarations
  listeners-of b p =
      rw (
        map-append (say all r) (of_kind advertises p s) (of_kind faileds p s ++ (of_kind listeners p s ++ domains)),
        map-append (say all r) (of_kind faileds p s) (of_kind listeners p s ++ domains),
        map-append (say all r) (of_kind listeners p s) domains,
        having-append k (said (of_kind advertises p s)) (said (of_kind faileds p s) ++ (said (of_kind listeners p s) ++ said domains)),
        having-append k (said (of_kind faileds p s)) (said (of_kind listeners p s) ++ said domains),
        having-append k (said (of_kind listeners p s)) (said domains),
        having-other k (registers advertises) (said (of_kind advertises p s)) (unfold same_attribute type_number in refl) (of-kind advertises p s),
        having-other k (registers faileds) (said (of_kind faileds p s)) (unfold same_attribute type_number in refl) (of-kind faileds p s),
        having-other k domain_type (said domains) (unfold same_attribute type_number in refl) own,
        having-own k (said (of_kind listeners p s)) (of-kind listeners p s),
        append-nil (said (of_kind listeners p s)),
      )
    where
      k : Attribute
      k = registers listeners

      s : List Stream
      s = b.streams

      said : List (Listed Declaration) → List Said
      said l = map (say all r) l

      domains : List (Listed Declaration)
      domains = domain_values b.settings 0 (sender_at b.senders p).domains

      own : All (OfAttribute domain_type) (said domains)
      own =
          unfold say in
          (all_said (OfAttribute domain_type) (say all r) domains (domains-attribute b.settings 0 (sender_at b.senders p).domains))

listed-few : {A : Type 0} (f : A → Declaration) (a : Applicant A) → length (listed_as f a) ≤ 1
unfolding listed_as
listed-few f no_applicant = omega arith
listed-few f (applicant x) = omega arith

sends-few : (k : Kind) (id : ℕ) (s : Sends) → length (declarations_of k id s) ≤ 1
unfolding declarations_of
sends-few advertises id s = listed-few (advertise_of id) s.advertising
sends-few faileds id s = listed-few (failed_of id) s.failing
sends-few listeners id s = listed-few (listener_declaration id) s.listening

pub kind-few : (k : Kind) (p : ℕ) (s : List Stream) → length (of_kind k p s) ≤ length s
unfolding of_kind
kind-few k p [] = omega arith
kind-few k p (x ∷ s) =
    omega (arith, kind-few k p s, sends-few k x.id (sends_at x p), length-append (declarations_of k x.id (sends_at x p)) (of_kind k p s))

-- at most 64 streams, by ascending StreamID
abbrev pub FewStreams : Bridge → Type 0
FewStreams b = (length b.streams ≤ 64) × Ascending (ids b.streams)

pub declared-few : (b : Bridge) → FewStreams b → (all : Bool) (r : Declaration → Bool) (p : ℕ) → FewListeners (map (say all r) (declarations b p))
declared-few b h all r p = record {
  few = rw (listeners-of all r b p, length-map (of_kind listeners p b.streams) (say all r)) (omega (arith, h.0, kind-few listeners p b.streams));
  ascending = rw (listeners-of all r b p) (listeners-ascend all r p b.streams h.1);
}

-- "Three of one StreamID on one port", and a Domain value for each of two classes: a list has at most 194 declarations.

-- no machine but in a slot whose Domain value is declared
no_slot : {A : Type 0} (f : A → Declaration) (a : Applicant A) → domain_standing false (applicant_number a) ≡ true → length (listed_as f a) ≡ 0
unfolding domain_standing applicant_number listed_as standing_number named octet_of
no_slot f no_applicant e = refl
no_slot f (applicant x) e = absurd (go x.state e)
  where
    go : (q : Standing) → domain_standing false (standing_number q) ≡ true → ⊥
    go very_anxious_passive e = false≢true e
    go very_anxious_new e = false≢true e
    go anxious_new e = false≢true e
    go anxious_active e = false≢true e
    go quiet_active e = false≢true e
    go leaving_active e = false≢true e

-- where two slots are declared, x and y, there are at most two machines
module _ (own : ℕ → Bool) (x y : ℕ) (two : (j : ℕ) → own j ≡ true → (j ≡ x) ⊎ (j ≡ y)) (st : Settings) where
  -- of x and y, those that are still to come
  left-of : ℕ → ℕ
  left-of i = bit (leb i x) + bit (leb i y)

  later : (i z : ℕ) → bit (leb (suc i) z) ≤ bit (leb i z)
  later i z = go (leb i z) refl
    where
      go : (t : Bool) → leb i z ≡ t → bit (leb (suc i) z) ≤ bit t
      go true e = at_most_one (leb (suc i) z)
        where
          at_most_one : (t : Bool) → bit t ≤ bit true
          at_most_one true = unfold bit in (omega arith)
          at_most_one false = unfold bit in (omega arith)
      go false e = rw (lt-leb (suc i) z (omega (arith, leb-false i z e))) (unfold bit in (omega arith))

  passed : (i : ℕ) → bit (leb (suc i) i) + 1 ≤ bit (leb i i)
  passed i = rw (lt-leb (suc i) i (omega arith), le-leb i i (omega arith)) (unfold bit in (omega arith))

  counted : (i : ℕ) → own i ≡ true → left-of (suc i) + 1 ≤ left-of i
  unfolding left-of
  counted i e = go (two i e)
    where
      go : (i ≡ x) ⊎ (i ≡ y) → bit (leb (suc i) x) + bit (leb (suc i) y) + 1 ≤ bit (leb i x) + bit (leb i y)
      go (inl z) = rw (← z) (omega (arith, passed i, later i y))
      go (inr z) = rw (← z) (omega (arith, passed i, later i x))

  domains-few : (i : ℕ) (l : List (Applicant (Unit {0}))) → ValidSlots own i l → length (domain_values st i l) ≤ left-of i
  unfolding domain_values
  domains-few i [] v = omega arith
  domains-few i (a ∷ l) v = go (own i) refl v.0 (domains-few (suc i) l v.1)
    where
      here : List (Listed Declaration)
      here = listed_as (λ (u : Unit {0}). domain_of st i) a

      go : (t : Bool) → own i ≡ t → domain_standing t (applicant_number a) ≡ true → length (domain_values st (suc i) l) ≤ left-of (suc i)
          → length (here ++ domain_values st (suc i) l) ≤ left-of i
      go true e d ih =
          omega (arith, ih, counted i e, listed-few (λ (u : Unit {0}). domain_of st i) a, length-append here (domain_values st (suc i) l))
      go false e d ih =
          omega (arith, ih, fewer, no_slot (λ (u : Unit {0}). domain_of st i) a d, length-append here (domain_values st (suc i) l))
        where
          fewer : left-of (suc i) ≤ left-of i
          fewer = unfold left-of in (omega (arith, later i x, later i y))

  two-domains : (l : List (Applicant (Unit {0}))) → ValidSlots own 0 l → length (domain_values st 0 l) ≤ 2
  two-domains l v = omega (arith, domains-few 0 l v, most)
    where
      most : left-of 0 ≤ 2
      most = unfold left-of in (omega (arith, at_most_one (leb 0 x), at_most_one (leb 0 y)))
        where
          at_most_one : (t : Bool) → bit t ≤ 1
          at_most_one true = unfold bit in (omega arith)
          at_most_one false = unfold bit in (omega arith)

own-slots : (st : Settings) (p j : ℕ) → declares_slot st p j ≡ true → (j ≡ slot_of (class_id class_b) (class_priority st class_b)) ⊎ (j ≡ slot_of (class_id class_a) (class_priority st class_a))
unfolding declares_slot
own-slots st p j e = go (is_own_slot st (port_at st p) class_b j) (is_own_slot st (port_at st p) class_a j) refl refl e
  where
    is : (c : Class) → is_own_slot st (port_at st p) c j ≡ true → j ≡ slot_of (class_id c) (class_priority st c)
    is c h = unfold is_own_slot in (eqb-true j (slot_of (class_id c) (class_priority st c)) (and_right (supports (port_at st p) c) (eqb j (slot_of (class_id c) (class_priority st c))) h))

    go : (a b : Bool) → is_own_slot st (port_at st p) class_b j ≡ a → is_own_slot st (port_at st p) class_a j ≡ b → (a || b) ≡ true
        → (j ≡ slot_of (class_id class_b) (class_priority st class_b)) ⊎ (j ≡ slot_of (class_id class_a) (class_priority st class_a))
    go true b f g e = inl (is class_b f)
    go false true f g e = inr (is class_a g)
    go false false f g e = absurd (false≢true e)

pub at-most-194 : (b : Bridge) → Valid b → (p : ℕ) → p < length b.settings.ports → length (declarations b p) ≤ 194
unfolding declarations
at-most-194 b v p here =
    let s = b.streams in
    let domains : List (Listed Declaration) = domain_values b.settings 0 (sender_at b.senders p).domains in
    omega (
      arith,
      v.at_most_64,
      kind-few advertises p s,
      kind-few faileds p s,
      kind-few listeners p s,
      two-domains (declares_slot b.settings p) (slot_of (class_id class_b) (class_priority b.settings class_b)) (slot_of (class_id class_a) (class_priority b.settings class_a)) (own-slots b.settings p) b.settings (sender_at b.senders p).domains (v.senders p here).domains,
      length-append (of_kind advertises p s) (of_kind faileds p s ++ (of_kind listeners p s ++ domains)),
      length-append (of_kind faileds p s) (of_kind listeners p s ++ domains),
      length-append (of_kind listeners p s) domains,
    )

-- What write answers.

module _ {A B : Type 0} (f : A → B) where
  pub map-take : (n : ℕ) (l : List A) → map f (take n l) ≡ take n (map f l)
  map-take zero l = refl
  map-take (suc n) [] = refl
  map-take (suc n) (x ∷ l) = ap (λ (r : List B). f x ∷ r) (map-take n l)

  pub map-drop : (n : ℕ) (l : List A) → map f (drop n l) ≡ drop n (map f l)
  map-drop zero l = refl
  map-drop (suc n) [] = refl
  map-drop (suc n) (x ∷ l) = map-drop n l

-- the declarations of port p, numbered from 1
unfoldable pub declared : Bridge → ℕ → List (Listed Declaration)
declared b p = declarations b (p - 1)

-- what it has to say from a place on, with LeaveAll or without it as is due
unfoldable pub to_say : Bridge → ℕ → ℕ → List Said
to_say b p place = map (say_on b (p - 1)) (saying (port_way b (p - 1)).says (drop place (declared b p)))

-- One PDU of a port takes some of them, and at least one where there is one.
pub port-takes : (b : Bridge) (p : ℕ) → Takes (takes_on b p)
unfolding takes_on
port-takes b p = record {
  within = λ l. rw (← length-map l (say_on b p)) (takes-within (leaves_all b p) (map (say_on b p) l));
  some = λ l h. takes_one (leaves_all b p) (map (say_on b p) l) (rw (length-map l (say_on b p)) h);
}

module _ (b : Bridge) (p place : ℕ) where
  -- 13 "place is above the number of declarations"
  pub write-above : length (declared b p) < place → write b p place ≡ record { number = 13; all = false; run = []; next = 0; bridge = b }
  unfolding write declared
  write-above h = rw (lt-ltb (length (declarations b (p - 1))) place h)

  abbrev due : Bool
  due = leaves_all b (p - 1)

  abbrev rest : List Said
  rest = to_say b p place

  pub write-from : place ≤ length (declared b p)
      → write b p place ≡ record {
        number = 0;
        all = leaves_all b (p - 1);
        run = take (takes (leaves_all b (p - 1)) (to_say b p place)) (to_say b p place);
        next = (wrote_on b (p - 1) place).next;
        bridge = after_write b (p - 1) place;
      }
  unfolding write declared to_say wrote_on write_from takes_on
  write-from h =
      let l : List (Listed Declaration) = saying (port_way b (p - 1)).says (drop place (declarations b (p - 1))) in
      rw (le-ltb (length (declarations b (p - 1))) place h, map-take (say_on b (p - 1)) (takes (leaves_all b (p - 1)) (map (say_on b (p - 1)) l)) l)

  -- what holds of a refusal and of an accepted write
  either : (P : Written → Type 0)
      → P record { number = 13; all = false; run = []; next = 0; bridge = b }
      → P record { number = 0; all = due; run = take (takes due rest) rest; next = (wrote_on b (p - 1) place).next; bridge = after_write b (p - 1) place }
      → P (write b p place)
  either P refused accepted = go (ltb (length (declared b p)) place) refl
    where
      go : (t : Bool) → ltb (length (declared b p)) place ≡ t → P (write b p place)
      go true e = rw (write-above (ltb-true (length (declared b p)) place e)) refused
      go false e = rw (write-from (ltb-false (length (declared b p)) place e)) accepted

  rest-in-order : InOrder rest
  unfolding to_say declared say_on
  rest-in-order =
      order-said due (is_registered b (p - 1)) (saying (port_way b (p - 1)).says (drop place (declarations b (p - 1))))
      (ordered-saying listed_type (port_way b (p - 1)).says (drop place (declarations b (p - 1)))
      (ordered-drop listed_type place (declarations b (p - 1)) (declarations-in-order b (p - 1))))

  pub run-in-order : InOrder (write b p place).run
  run-in-order = either (λ w. InOrder w.run) tt (order-take (takes due rest) rest rest-in-order)

  -- at most 1,500 octets
  pub run_fits : length (pdu_octets (write b p place).all (write b p place).run) ≤ longest_pdu
  run_fits = either (λ w. length (pdu_octets w.all w.run) ≤ longest_pdu) (omega (arith, ap length no-declarations)) (takes-fits due rest)

  -- where something is left to say, one more would not have fitted
  pub run-full : place ≤ length (declared b p) → length (write b p place).run < length (to_say b p place)
      → longest_pdu < length (pdu_octets (leaves_all b (p - 1)) (take (suc (length (write b p place).run)) (to_say b p place)))
  run-full h k =
      let taken : length (write b p place).run ≡ takes due rest =
      ap (λ (w : Written). length w.run) (write-from h) ∙ length-take-le (takes due rest) rest (takes-within due rest) in
      rw taken (takes-full due rest (omega (arith, k, taken)))

  rest-few : FewStreams b → FewListeners rest
  unfolding to_say declared say_on
  rest-few f =
      let r = is_registered b (p - 1) in
      let l = drop place (declarations b (p - 1)) in
      let whole : FewListeners (map (say due r) (declarations b (p - 1))) = declared-few b f due r (p - 1) in
      let part : FewListeners (map (say due r) l) = rw (map-drop (say due r) place (declarations b (p - 1))) (few-parts place (map (say due r) (declarations b (p - 1))) whole).1 in
      let some = few-saying due r (port_way b (p - 1)).says l part.ascending in
      record { few = omega (arith, some.0, part.few); ascending = some.1 }

  -- it is the longest run that fits
  pub write-longest : FewStreams b → place ≤ length (declared b p)
      → Longest (pdu_fits (leaves_all b (p - 1)) (to_say b p place)) (length (to_say b p place)) (length (write b p place).run)
  write-longest f h = rw (write-from h, length-take-le (takes due rest) rest (takes-within due rest)) (takes-longest due rest (rest-few f))

  -- and its Listeners are few
  pub run-few : FewStreams b → FewListeners (write b p place).run
  run-few f =
      either (λ w. FewListeners w.run) (unfold having in record { few = omega arith; ascending = unfold declared_ids in tt })
      (few-parts (takes due rest) rest (rest-few f)).0

  -- the next place is a place of the list as the write leaves it
  pub next-within : (wrote_on b (p - 1) place).next ≤ length (wrote_on b (p - 1) place).list
  unfolding wrote_on write_from
  next-within = rw (length-append (left_before (port_way b (p - 1)) _ place (declarations b (p - 1))) _) (omega arith)

  -- a write that says nothing takes the 3 octets of no declaration, or the 106 of LeaveAll
  pub run_none : to_say b p place ≡ [] → (write b p place).run ≡ []
  run_none e = either (λ w. w.run ≡ []) refl (rw e (take-nil (takes due [])))

-- "At place = count it is 00 00 00", but for LeaveAll
pub write-at-count : (b : Bridge) (p : ℕ) → (write b p (length (declared b p))).run ≡ []
write-at-count b p =
    run_none b p (length (declared b p)) (unfold to_say in (ap (λ (l : List (Listed Declaration)). map (say_on b (p - 1)) (saying (port_way b (p - 1)).says l)) (drop-length (declared b p)) ∙ unfold saying in refl))
