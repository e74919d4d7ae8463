-- What it means that a vector is read: what stands at its place, that its places are within its list, and that its FirstValue is
-- the part that `first_part` names; and the answer of a type, by that of the vector reader. Assumes nothing.
use mathlib.Core.Path.{◌≡◌, refl, sym, ap, ◌∙◌}
use mathlib.Core.List.{List}
use mathlib.Core.Bool.{Bool, true, false, cond, not, ◌&&◌}
use Rattle.std.specs.Prelude.{Result, Ok, Err}
use Prim.Native.Nat.{ℕ, ◌+◌, ◌-◌, ◌%◌, ◌≤◌, ◌<◌}
use native.Mathlib.Omega.{arith}
use lib.ListN.{length}
use lib.Dec.{ltb, eqb}
use borrow.Author.Tests.{ltb-false, eq-eqb, ne_eqb}
use Rattle.octets.specs.Parts.{part}
use Rattle.octets.proofs.Parts.{lent-part, length_part}
use Rattle.model.specs.Frames.{Attribute, TypeOctet, not_allowed, unknown, known, first_length, has_four, vector_at, vector_end, runs_past, overflows, InList, bad_vector, list_end, vector_head, passed_over, vector_in, checked_in, typed_in}
use Rattle.model.proofs.FoundVectors.{passed, fitting, passed-all, passing-over, over-typed}
use Rattle.msrpdu.specs.Reader.{head_of, vector_meant, vector_read, typed_read, first_part}
use Rattle.model.specs.Numbers.{refusal_of}
use Rattle.model.specs.declared.refusal.Refusal.{Refusal}
use Rattle.model.specs.declared.refusal.Refusal.TheVariants as refusal
use Rattle.msrpdu.specs.declared.VectorHead.{VectorHead}
use Rattle.msrpdu.specs.declared.VectorRead.{VectorRead}
use Rattle.msrpdu.specs.declared.VectorRead.TheVariants as vector
use Rattle.msrpdu.proofs.Laws.{first-lent}

-- What stands at a place, by the answer.

module _ (first : ℕ) (four : Bool) (at : ℕ) where
  -- a fault of a number
  pub record Faulty (x : InList) (r : Refusal) : Type 0 where
    pub number : ℕ
    pub is : x ≡ bad_vector number
    pub refused : refusal_of number ≡ r

  pub read-refused : (x : InList) (r : Refusal) → vector_meant first four at x ≡ Err r → Faulty x r
  unfolding vector_meant
  read-refused (bad_vector n) r e = record { number = n; is = refl; refused = cc }
  read-refused list_end r e = let z : ◌≡◌ {A = ℕ} 0 1 = cc in absurd (omega arith)
  read-refused (vector_head h) r e = let z : ◌≡◌ {A = ℕ} 0 1 = cc in absurd (omega arith)
  read-refused (passed_over h) r e = let z : ◌≡◌ {A = ℕ} 0 1 = cc in absurd (omega arith)

  pub read-end : (r : InList) → vector_meant first four at r ≡ Ok vector.EndMark → r ≡ list_end
  unfolding vector_meant
  read-end (bad_vector m) e = let z : ◌≡◌ {A = ℕ} 0 1 = cc in absurd (omega arith)
  read-end list_end e = refl
  read-end (vector_head h) e = let z : ◌≡◌ {A = ℕ} 0 1 = cc in absurd (omega arith)
  read-end (passed_over h) e = let z : ◌≡◌ {A = ℕ} 0 1 = cc in absurd (omega arith)

  -- a vector of a header
  pub record Headed (r : InList) (w : VectorHead) : Type 0 where
    pub header : ℕ
    pub is : r ≡ vector_head header
    pub head : head_of first four at header ≡ w

  pub read_head : (r : InList) (w : VectorHead) → vector_meant first four at r ≡ Ok (vector.Vector w) → Headed r w
  unfolding vector_meant
  read_head (bad_vector m) w e = let z : ◌≡◌ {A = ℕ} 0 1 = cc in absurd (omega arith)
  read_head list_end w e = let z : ◌≡◌ {A = ℕ} 0 1 = cc in absurd (omega arith)
  read_head (vector_head h) w e = record { header = h; is = refl; head = cc }
  read_head (passed_over h) w e = let z : ◌≡◌ {A = ℕ} 0 1 = cc in absurd (omega arith)

  -- one that is passed over, of a header, with its place after
  pub record Passing (r : InList) (next : ℕ) : Type 0 where
    pub header : ℕ
    pub is : r ≡ passed_over header
    pub ends : vector_end first four at header ≡ next

  pub read-over : (r : InList) (next : ℕ) → vector_meant first four at r ≡ Ok (vector.PassedOver next) → Passing r next
  unfolding vector_meant
  read-over (bad_vector m) next e = let z : ◌≡◌ {A = ℕ} 0 1 = cc in absurd (omega arith)
  read-over list_end next e = let z : ◌≡◌ {A = ℕ} 0 1 = cc in absurd (omega arith)
  read-over (vector_head h) next e = let z : ◌≡◌ {A = ℕ} 0 1 = cc in absurd (omega arith)
  read-over (passed_over h) next e = record { header = h; is = refl; ends = cc }

-- FirstValue of a vector that fits
pub first-here : (version first : ℕ) (four : Bool) (l : List ℕ) (at h : ℕ) → vector_in version first four l at ≡ vector_head h
    → first_part l (head_of first four at h) ≡ part (at + 2) first l
unfolding head_of vector_end
first-here version first four l at h e =
    let f = (fitting version first four l at h e).fits in
    first-lent l (head_of first four at h) (omega arith) ∙ lent-part (at + 2) first l

-- The answer of a type.

module _ (version : ℕ) (k : Attribute) (l : List ℕ) (at : ℕ) where
  -- by what stands there
  by : (r : InList) → vector_in version (first_length k) (has_four k) l at ≡ r → typed_read version (known k) l at ≡ vector_meant (first_length k) (has_four k) at (checked_in k l at r)
  unfolding typed_read typed_in
  by r e = rw e

  pub typed-refused : (r : Refusal) → vector_read version (first_length k) (has_four k) l at ≡ Err r → typed_read version (known k) l at ≡ Err r
  unfolding vector_read vector_meant checked_in
  typed-refused r a = let f = read-refused (first_length k) (has_four k) at _ r a in by (bad_vector f.number) f.is ∙ ap Err f.refused

  module _ (a : vector_read version (first_length k) (has_four k) l at ≡ Ok vector.EndMark) where
    ends : vector_in version (first_length k) (has_four k) l at ≡ list_end
    ends = read-end (first_length k) (has_four k) at _ (unfold vector_read in a)

    pub end-within : at + 2 ≤ length l
    unfolding vector_in
    end-within = let p = passed (ltb (length l) (at + 2)) _ _ _ bad ends in ltb-false _ _ p.0
      where
        bad : bad_vector 3 ≡ list_end → ⊥
        bad e = let z : ◌≡◌ {A = ℕ} 0 1 = cc in omega arith

    pub typed-end : at + 2 ≡ length l → typed_read version (known k) l at ≡ Ok vector.EndMark
    unfolding vector_meant checked_in
    typed-end p = by list_end ends ∙ rw (eq-eqb _ _ p)

    pub typed-early : (at + 2 ≡ length l → ⊥) → typed_read version (known k) l at ≡ Err refusal.PastEnd
    unfolding vector_meant checked_in refusal_of
    typed-early p = by list_end ends ∙ rw (ne_eqb _ _ p)

  pub typed-over : (next : ℕ) → vector_read version (first_length k) (has_four k) l at ≡ Ok (vector.PassedOver next) → typed_read version (known k) l at ≡ Ok (vector.PassedOver next)
  unfolding vector_read checked_in
  typed-over next a =
      let p = read-over (first_length k) (has_four k) at _ next a in
      by (passed_over p.header) p.is ∙ ap (vector_meant (first_length k) (has_four k) at) (sym p.is) ∙ a

  -- a vector, by its head
  module _ (w : VectorHead) (a : vector_read version (first_length k) (has_four k) l at ≡ Ok (vector.Vector w)) where
    abbrev there : Headed (first_length k) (has_four k) at (vector_in version (first_length k) (has_four k) l at) w
    there = read_head (first_length k) (has_four k) at _ w (unfold vector_read in a)

    first-value : first_part l w ≡ part (at + 2) (first_length k) l
    first-value =
        ap (λ (u : VectorHead). first_part l u) (sym there.head)
        ∙ first-here version (first_length k) (has_four k) l at there.header there.is

    pub first-octets : length (first_part l w) ≡ first_length k
    unfolding vector_end
    first-octets =
        let f = (fitting version (first_length k) (has_four k) l at there.header there.is).fits in
        ap length first-value ∙ length_part (at + 2) (first_length k) l (omega arith)

    value-count : there.header % 8192 ≡ w.values
    unfolding head_of
    value-count = ap (λ (u : VectorHead). u.values) there.head

    pub few-values : w.values < 8192
    few-values = omega (arith, value-count)

    -- whether a value runs past its field
    abbrev past : Bool
    past = not (eqb w.values 0) && runs_past k (first_part l w) (w.values - 1)

    overflow : overflows (vector_at k l at there.header) ≡ past
    unfolding overflows vector_at
    overflow = rw (first-value, value-count)

    tested : typed_read version (known k) l at ≡ cond past (Err refusal.Value) (Ok (vector.Vector w))
    unfolding checked_in
    tested = by (vector_head there.header) there.is ∙ rw overflow (go past)
      where
        go : (x : Bool) → vector_meant (first_length k) (has_four k) at (cond x (bad_vector 7) (vector_head there.header)) ≡ cond x (Err refusal.Value) (Ok (vector.Vector w))
        go true = unfold vector_meant refusal_of in refl
        go false = unfold vector_meant in (ap (λ (u : VectorHead). Ok (vector.Vector u)) there.head)

    pub typed-none : w.values ≡ 0 → typed_read version (known k) l at ≡ Ok (vector.Vector w)
    typed-none p = tested ∙ rw (eq-eqb w.values 0 p)

    -- z is what the last value gave
    module _ (p : 0 < w.values) (z : Bool) (i : z ≡ runs_past k (first_part l w) (w.values - 1)) where
      pub typed-past : z ≡ true → typed_read version (known k) l at ≡ Err refusal.Value
      typed-past q = tested ∙ rw (ne_eqb w.values 0 (λ n. omega arith), ← i, q)

      pub typed-within : z ≡ false → typed_read version (known k) l at ≡ Ok (vector.Vector w)
      typed-within q = tested ∙ rw (ne_eqb w.values 0 (λ n. omega arith), ← i, q)

-- A vector that is read, of a type.

pub record Read (version : ℕ) (t : TypeOctet) (l : List ℕ) (at : ℕ) (w : VectorHead) : Type 0 where
  pub kind : Attribute
  pub is : t ≡ known kind
  pub header : ℕ
  pub there : typed_in version kind l at ≡ vector_head header
  pub head : head_of (first_length kind) (has_four kind) at header ≡ w

no-vector : (r : Refusal) (w : VectorHead) → ◌≡◌ {A = Result VectorRead Refusal} (Err r) (Ok (vector.Vector w)) → ⊥
no-vector r w e = let z : ◌≡◌ {A = ℕ} 0 1 = cc in omega arith

pub read : (version : ℕ) (t : TypeOctet) (l : List ℕ) (at : ℕ) (w : VectorHead) → typed_read version t l at ≡ Ok (vector.Vector w) → Read version t l at w
unfolding typed_read
read version not_allowed l at w e = absurd (no-vector refusal.AttributeType w e)
read version unknown l at w e = absurd (no-vector refusal.AttributeType w e)
read version (known k) l at w e =
    let h = read_head (first_length k) (has_four k) at (typed_in version k l at) w e in
    record { kind = k; is = refl; header = h.header; there = h.is; head = h.head }

-- its places are within its list
pub record Within (l : List ℕ) (at : ℕ) (w : VectorHead) : Type 0 where
  pub first : w.first ≡ at + 2
  pub three : w.first ≤ w.three
  pub four : w.three ≤ w.four
  pub next : w.four ≤ w.next
  pub list : w.next ≤ length l

pub within : (version : ℕ) (t : TypeOctet) (l : List ℕ) (at : ℕ) (w : VectorHead) → typed_read version t l at ≡ Ok (vector.Vector w) → Within l at w
unfolding head_of vector_end
within version t l at w e =
    let r = read version t l at w e in
    let f = (passed-all version r.kind l at r.header r.there).fitting.fits in
    rw (← r.head) record { first = refl; three = omega arith; four = omega arith; next = omega arith; list = f }

-- the place after one that is passed over is within the list too
pub over-within : (version : ℕ) (t : TypeOctet) (l : List ℕ) (at next : ℕ) → typed_read version t l at ≡ Ok (vector.PassedOver next)
    → (at + 2 ≤ next) × (next ≤ length l)
unfolding typed_read vector_end
over-within version not_allowed l at next e = let z : ◌≡◌ {A = ℕ} 0 1 = cc in absurd (omega arith)
over-within version unknown l at next e = let z : ◌≡◌ {A = ℕ} 0 1 = cc in absurd (omega arith)
over-within version (known k) l at next e =
    let p = read-over (first_length k) (has_four k) at (typed_in version k l at) next e in
    let f = (passing-over version (first_length k) (has_four k) l at p.header (over-typed version k l at p.header p.is)).fits in
    (omega (arith, p.ends), omega (arith, p.ends))
