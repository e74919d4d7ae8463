-- Laws of the reader's definitions, one for each arm. Assumes nothing.
use mathlib.Core.Path.{◌≡◌, refl, sym, ap, ◌∙◌}
use mathlib.Core.List.{List, [], ◌∷◌}
use mathlib.Core.Bool.{Bool, true, false, cond, ◌&&◌, ◌||◌}
use Rattle.std.specs.Prelude.{Some, None, Ok, Err}
use Rattle.std.specs.List.{list_any}
use Prim.Native.Nat.{ℕ, zero, suc, ◌+◌, ◌-◌, ◌/◌, ◌%◌, ◌≤◌, ◌<◌, ◌^◌}
use native.Mathlib.Omega.{arith}
use lib.ListN.{length, get_or, take, drop, drop_of_length-le}
use lib.Seq.{drop-cons}
use native.Mathlib.Numerals.{add-one}
use lib.Dec.{ltb, leb, eqb}
use borrow.Author.Tests.{lt-ltb, le-ltb, lt-leb, eq-eqb, ne_eqb}
use Rattle.octets.specs.Be.{be_at}
use Rattle.octets.specs.Parts.{part}
use Rattle.octets.proofs.Parts.{lent-part}
use Rattle.model.proofs.Lists.{and-false}
use Rattle.std.proofs.Common.{◌⊎◌, inl, inr}
use Rattle.model.specs.Attributes.{type_of, code_of, attribute_at}
use Rattle.model.specs.declared.attribute.Attribute as attribute
use Rattle.model.specs.declared.attribute.Attribute.TheVariants as variant
use Rattle.model.proofs.Attributes.{code_type}
use Rattle.model.specs.Frames.{Attribute, registers, domain_type, TypeOctet, not_allowed, unknown, known, type_octet, first_length, three_length, has_four, vector_end, bad_vector, passed_over, overpacked, runs_past, strange_leave, strange_vector, vector_in, list_length, end_mark, message_end, header_in, message_in, three_packed, four_packed, has_slot}
use Rattle.model.specs.Frames as frames
use Rattle.msrpdu.specs.Reader.{type_read, typed_read, head_of, vector_meant, vector_read, strange_read, first_part, message_meant, event_meant, event_in, value_in}
use Rattle.msrpdu.specs.declared.VectorHead.{VectorHead}
use Rattle.msrpdu.specs.declared.VectorRead.TheVariants as vector
use Rattle.msrpdu.specs.declared.MessageRead.TheVariants as message
use Rattle.model.specs.Numbers.{refusal_of}
use Rattle.model.specs.declared.refusal.Refusal.{Refusal}
use Rattle.model.specs.declared.refusal.Refusal.TheVariants as refusal

-- The event of a value that has one.

pub event-there : (three : List ℕ) (n : ℕ) → n / 3 < length three → event_in three n ≡ Some (event_meant (frames.event (three_packed (get_or three (n / 3) 0) (n % 3))))
unfolding event_in
event-there three n there = rw (lt-ltb (n / 3) (length three) there)

-- An event octet above 215, looked for from place i on.

module _ (l : List ℕ) (i : ℕ) where
  pub over_none : length l ≤ i → overpacked (drop i l) ≡ false
  unfolding overpacked
  over_none p = rw (drop_of_length-le l p)

  module _ (p : i < length l) where
    pub over-here : 215 < get_or l i 0 → overpacked (drop i l) ≡ true
    unfolding overpacked
    over-here q = rw (drop-cons l i 0 p, lt-ltb 215 _ q)

    -- what is left gives the answer for all
    pub over_found : 215 < get_or l i 0 → overpacked (drop i l) ≡ overpacked l → true ≡ overpacked l
    over_found q e = sym (over-here q) ∙ e

    pub over-next : get_or l i 0 ≤ 215 → overpacked (drop i l) ≡ overpacked (drop (i + 1) l)
    unfolding overpacked
    over-next q = rw (drop-cons l i 0 p, le-ltb 215 _ q, add-one i)

-- the same of all by std's test of a list
pub overpacked-any : (l : List ℕ) → overpacked l ≡ list_any (ltb 215) l
unfolding overpacked
overpacked-any [] = refl
overpacked-any (o ∷ l) = rw (overpacked-any l)

-- A growing field of FirstValue; x is what stands in the field that grows.

pub value_read : (w g at : ℕ) (first : List ℕ) (n : ℕ) → at + w ≤ length first → (x : ℕ) → x ≡ be_at g first (at + w - g) → x + n ≤ 256 ^ g - 1
    → (y : ℕ) → y ≡ be_at w first at → value_in w g at first n ≡ Some (y + n)
unfolding value_in
value_read w g at first n p x e q y f = rw (le-ltb _ _ p, ← e, le-ltb _ _ q, f)

-- By the octet of a known type, and of none.

pub octet-known : (version o : ℕ) (a : attribute.Attribute) → attribute_at o ≡ Some a → type_octet version o ≡ known (type_of a)
unfolding type_octet
octet-known version zero a e = cc
octet-known version (suc zero) a e = let i : variant.Advertise ≡ a = cc in ap (λ (b : attribute.Attribute). known (type_of b)) i
octet-known version (suc (suc zero)) a e = let i : variant.Failed ≡ a = cc in ap (λ (b : attribute.Attribute). known (type_of b)) i
octet-known version (suc (suc (suc zero))) a e = let i : variant.Listener ≡ a = cc in ap (λ (b : attribute.Attribute). known (type_of b)) i
octet-known version (suc (suc (suc (suc zero)))) a e = let i : variant.Domain ≡ a = cc in ap (λ (b : attribute.Attribute). known (type_of b)) i
octet-known version (suc (suc (suc (suc (suc n))))) a e = cc

-- any but 0, which is never allowed, is decided by the version
octet-other : (version o : ℕ) → attribute_at o ≡ None → (o ≡ 0 → ⊥) → type_octet version o ≡ cond (eqb version 0) not_allowed unknown
unfolding type_octet
octet-other version zero e p = absurd (p refl)
octet-other version (suc zero) e p = cc
octet-other version (suc (suc zero)) e p = cc
octet-other version (suc (suc (suc zero))) e p = cc
octet-other version (suc (suc (suc (suc zero)))) e p = cc
octet-other version (suc (suc (suc (suc (suc n))))) e p = refl

pub octet-unknown : (version o : ℕ) (l : List ℕ) (at : ℕ) → attribute_at o ≡ None → typed_read version (type_octet 0 o) l at ≡ Err refusal.AttributeType
unfolding typed_read type_octet
octet-unknown version zero l at e = refl
octet-unknown version (suc o) l at e = rw (octet-other 0 (suc o) e (λ p. absurd (omega (arith, p)))) refl

-- What a type octet is read as, by what is known of it.

pub known-read : (version o : ℕ) (a : attribute.Attribute) → attribute_at o ≡ Some a → type_read (type_octet version o) ≡ Ok (Some (a, first_length (type_of a)))
known-read version o a e = rw (octet-known version o a e) (named a)
  where
    named : (b : attribute.Attribute) → type_read (known (type_of b)) ≡ Ok (Some (b, first_length (type_of b)))
    named variant.Advertise = unfold type_read in refl
    named variant.Failed = unfold type_read in refl
    named variant.Listener = unfold type_read in refl
    named variant.Domain = unfold type_read in refl

pub refused-read : (version o : ℕ) → attribute_at o ≡ None → (o ≡ 0) ⊎ (version ≡ 0) → type_read (type_octet version o) ≡ Err refusal.AttributeType
unfolding type_read type_octet
refused-read version zero e p = refl
refused-read version (suc o) e (inl q) = absurd (omega (arith, q))
refused-read version (suc o) e (inr q) = rw (octet-other version (suc o) e (λ p. absurd (omega (arith, p))), eq-eqb version 0 q) refl

pub skipped-read : (version o : ℕ) → attribute_at o ≡ None → (o ≡ 0 → ⊥) → (version ≡ 0 → ⊥) → type_read (type_octet version o) ≡ Ok None
unfolding type_read
skipped-read version o e p q = rw (octet-other version o e p, ne_eqb version 0 q) refl

-- for a search, by what the octet is known as
pub ruleset types_read = (known-read, refused-read, skipped-read)

-- a known type is that of its AttributeType, with the octets of its FirstValue
pub record Typed (t : TypeOctet) (a : attribute.Attribute) (n : ℕ) : Type 0 where
  pub is : t ≡ known (type_of a)
  pub code : code_of (type_of a) ≡ a
  pub first : n ≡ first_length (type_of a)

pub typed : (t : TypeOctet) (a : attribute.Attribute) (first : ℕ) → type_read t ≡ Ok (Some (a, first)) → Typed t a first
unfolding type_read
typed not_allowed a first e = let z : ◌≡◌ {A = ℕ} 0 1 = cc in absurd (omega arith)
typed unknown a first e = let z : ◌≡◌ {A = ℕ} 0 1 = cc in absurd (omega arith)
typed (known k) a first e =
    let p : ◌≡◌ {A = attribute.Attribute × ℕ} (code_of k, first_length k) (a, first) = cc in
    let i : code_of k ≡ a = ap (λ (q : attribute.Attribute × ℕ). q.0) p in
    let f : first_length k ≡ first = ap (λ (q : attribute.Attribute × ℕ). q.1) p in
    let u : k ≡ type_of a = sym (code_type k) ∙ ap type_of i in
    record { is = ap known u; code = rw (← i) (ap code_of (code_type k)); first = sym f ∙ ap first_length u }

-- the places of a vector's head are in order
pub head-rises : (first : ℕ) (four : Bool) (at h : ℕ) (w : VectorHead) → w ≡ head_of first four at h → (w.three ≤ w.four) × (w.four ≤ w.next)
unfolding head_of vector_end
head-rises first four at h w e = rw e (omega arith, omega arith)

-- The vector at a place, in the order of the checks.

-- one with strange events, by its header and by its head
strange-meant : (version first : ℕ) (four : Bool) (at h : ℕ) → vector_meant first four at (strange_vector version h) ≡ strange_read version (head_of first four at h)
unfolding strange_vector strange_read head_of
strange-meant version first four at h = go (eqb version 0)
  where
    go : (b : Bool) → vector_meant first four at (cond b (bad_vector 6) (passed_over h)) ≡ cond b (Err refusal.Event) (Ok (vector.PassedOver (vector_end first four at h)))
    go true = unfold vector_meant refusal_of in refl
    go false = unfold vector_meant in refl

module _ (version first : ℕ) (four : Bool) (l : List ℕ) (at : ℕ) where
  pub vector-short : length l < at + 2 → vector_read version first four l at ≡ Err refusal.PastEnd
  unfolding vector_read vector_meant vector_in refusal_of
  vector-short p = rw (lt-ltb _ _ p)

  -- h is the header that was read
  module _ (p : at + 2 ≤ length l) (h : ℕ) (i : h ≡ be_at 2 l at) where
    pub vector-end : h ≡ 0 → vector_read version first four l at ≡ Ok vector.EndMark
    unfolding vector_read vector_meant vector_in
    vector-end q = rw (le-ltb _ _ p, ← i, eq-eqb _ _ q)

    -- b tells whether its LeaveAllEvent is strange
    module _ (q : h ≡ 0 → ⊥) (b : Bool) (u : b ≡ strange_leave h) where
      pub vector-event : (eqb version 0 && b) ≡ true → vector_read version first four l at ≡ Err refusal.Event
      unfolding vector_read vector_meant vector_in refusal_of
      vector-event r = rw (le-ltb _ _ p, ← i, ne_eqb _ _ q, ← u, r)

      module _ (r : (eqb version 0 && b) ≡ false) where
        vector-past : length l < vector_end first four at h → vector_read version first four l at ≡ Err refusal.PastEnd
        unfolding vector_read vector_meant vector_in refusal_of
        vector-past s = rw (le-ltb _ _ p, ← i, ne_eqb _ _ q, ← u, r, lt-ltb _ _ s)

        pub first_past : length l < at + 2 + first → vector_read version first four l at ≡ Err refusal.PastEnd
        first_past s = vector-past (unfold vector_end in (omega arith))

        -- w is its head
        module _ (w : VectorHead) (g : w ≡ head_of first four at h) where
          pub vector-long : length l < w.next → vector_read version first four l at ≡ Err refusal.PastEnd
          unfolding head_of
          vector-long s = vector-past (rw g at s)

          -- x is what the event octets gave, as they are lent
          module _ (s : w.next ≤ length l) (x : Bool) (o : x ≡ overpacked (take (w.four - w.three) (drop w.three l))) where
            events-over : x ≡ overpacked (part (at + 2 + first) (three_length (h % 8192)) l)
            unfolding head_of
            events-over = rw g at o ∙ ap overpacked (lent-part (at + 2 + first) (three_length (h % 8192)) l)

            fits : vector_end first four at h ≤ length l
            unfolding head_of
            fits = rw g at s

            pub vector-strange : (b || x) ≡ true → vector_read version first four l at ≡ strange_read version w
            unfolding vector_read vector_in
            vector-strange y = rw (le-ltb _ _ p, ← i, ne_eqb _ _ q, ← u, r, le-ltb _ _ fits, ← events-over, y, strange-meant version first four at h, g)

            pub vector-read : (b || x) ≡ false → vector_read version first four l at ≡ Ok (vector.Vector w)
            unfolding vector_read vector_meant vector_in
            vector-read y = rw (le-ltb _ _ p, ← i, ne_eqb _ _ q, ← u, r, le-ltb _ _ fits, ← events-over, y, g)

-- FirstValue as the code lends it.

pub first-lent : (l : List ℕ) (w : VectorHead) → w.three ≤ length l → first_part l w ≡ take (w.three - w.first) (drop w.first l)
unfolding first_part part
first-lent l w p = rw (le-ltb _ _ p)

-- The Message at a place, in the order of the checks.

pub refused-type : (t : TypeOctet) (r : Refusal) → type_read t ≡ Err r → (t ≡ not_allowed) × (r ≡ refusal.AttributeType)
unfolding type_read
refused-type not_allowed r e = (refl, cc)
refused-type unknown r e = let z : ◌≡◌ {A = ℕ} 0 1 = cc in absurd (omega arith)
refused-type (known k) r e = let z : ◌≡◌ {A = ℕ} 0 1 = cc in absurd (omega arith)

pub skipped-type : (t : TypeOctet) → type_read t ≡ Ok None → t ≡ unknown
unfolding type_read
skipped-type not_allowed e = let z : ◌≡◌ {A = ℕ} 0 1 = cc in absurd (omega arith)
skipped-type unknown e = refl
skipped-type (known k) e = let z : ◌≡◌ {A = ℕ} 0 1 = cc in absurd (omega arith)

module _ (s : List ℕ) (at : ℕ) where
  pub mark-short : length s < at + 2 → end_mark s at ≡ false
  unfolding end_mark
  mark-short p = rw (lt-leb _ _ p)

  pub mark-other : (h : ℕ) → h ≡ be_at 2 s at → (h ≡ 0 → ⊥) → end_mark s at ≡ false
  unfolding end_mark
  mark-other h e p = rw (← e, ne_eqb _ _ p) (and-false (leb (at + 2) (length s)))

  -- by what the type octet gave; n is the list's length
  module _ (t : TypeOctet) (n : ℕ) (i : n ≡ be_at 2 s (at + 2)) where
    pub from-refused : (r : Refusal) → type_read t ≡ Err r → message_meant s at (header_in t s at) ≡ Err r
    unfolding message_meant header_in refusal_of
    from-refused r e = rw ((refused-type t r e).0, (refused-type t r e).1)

    module _ (e : type_read t ≡ Ok None) where
      pub skip-long : length s < at + 4 + n → message_meant s at (header_in t s at) ≡ Err refusal.PastEnd
      unfolding message_meant header_in message_end list_length refusal_of
      skip-long p = rw (skipped-type t e, ← i, lt-ltb _ _ p)

      pub skip : at + 4 + n ≤ length s → message_meant s at (header_in t s at) ≡ Ok (message.Skipped (at + 4 + n))
      unfolding message_meant header_in message_end list_length
      skip p = rw (skipped-type t e, ← i, le-ltb _ _ p, ← i)

    module _ (a : attribute.Attribute) (first : ℕ) (e : type_read t ≡ Ok (Some (a, first))) where
      pub from-length : (get_or s (at + 1) 0 ≡ first → ⊥) → message_meant s at (header_in t s at) ≡ Err refusal.AttributeLength
      unfolding message_meant header_in refusal_of
      from-length q = let y = typed t a first e in rw (y.is, ne_eqb _ _ (λ p. q (p ∙ sym y.first)))

      module _ (q : get_or s (at + 1) 0 ≡ first) where
        pub list-long : length s < at + 4 + n → message_meant s at (header_in t s at) ≡ Err refusal.PastEnd
        unfolding message_meant header_in message_end list_length refusal_of
        list-long p = let y = typed t a first e in rw (y.is, eq-eqb _ _ (q ∙ y.first), ← i, lt-ltb _ _ p)

        pub list_read_lem : at + 4 + n ≤ length s → message_meant s at (header_in t s at) ≡ Ok (message.List record { attribute = a; list = at + 4; next = at + 4 + n })
        unfolding message_meant header_in message_end list_length
        list_read_lem p = let y = typed t a first e in rw (y.is, eq-eqb _ _ (q ∙ y.first), ← i, le-ltb _ _ p, ← i, y.code)
