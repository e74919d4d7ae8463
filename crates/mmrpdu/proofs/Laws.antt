-- Laws of the reader's definitions, one for each arm. Assumes nothing.
use mathlib.Core.Path.{◌≡◌, refl, sym, ap, ◌∙◌}
use mathlib.Core.List.{List}
use mathlib.Core.Bool.{Bool, true, false, cond}
use Rattle.std.specs.Prelude.{Some, None, Result, Ok, Err}
use Prim.Native.Nat.{ℕ, zero, suc, ◌+◌, ◌-◌, ◌%◌, ◌≤◌, ◌<◌, ◌^◌}
use native.Mathlib.Omega.{arith}
use lib.ListN.{length, get_or}
use lib.Dec.{ltb, eqb}
use borrow.Author.Tests.{lt-ltb, le-ltb, le-leb, eq-eqb, ne_eqb}
use Rattle.octets.specs.Be.{be_at}
use Rattle.octets.specs.Parts.{part}
use Rattle.octets.proofs.Parts.{length_part}
use Rattle.model.specs.FrameLayout.{mac_length, service_length}
use Rattle.model.specs.Frames.{vector_end, InList, bad_vector, list_end, vector_head, passed_over, vector_in, end_mark}
use Rattle.model.specs.AddressFrames.{AddressList, service_list, mac_list, unknown_list, first_octets, InAddressPdu, bad_header, no_message, address_list_of, address_header, address_message_in, runs_out, overruns, addresses_checked, address_vector_in}
use Rattle.model.proofs.FoundVectors.{fitting}
use Rattle.msrpdu.specs.Reader.{head_of, vector_meant, vector_read, first_part}
use Rattle.msrpdu.specs.declared.VectorHead.{VectorHead}
use Rattle.msrpdu.specs.declared.VectorRead.{VectorRead}
use Rattle.msrpdu.specs.declared.VectorRead.TheVariants as vector
use Rattle.msrpdu.proofs.Laws.{mark-short, mark-other}
use Rattle.msrpdu.proofs.Reading.{Headed, read_head, first-here}
use Rattle.model.specs.Numbers.{refusal_of}
use Rattle.model.specs.declared.refusal.Refusal.{Refusal}
use Rattle.model.specs.declared.refusal.Refusal.TheVariants as refusal
use Rattle.mmrpdu.specs.Reader.{list_named, header_answer, message_meant, message_read, typed_read}

-- Types.

-- a type that is known is the same whatever AttributeLength is named with it, and so are the octets of any type's FirstValue
pub named_again : (kind octets : ℕ) → first_octets (list_named kind (first_octets (list_named kind octets))) ≡ first_octets (list_named kind octets)
unfolding list_named first_octets
named_again zero octets = refl
named_again (suc zero) octets = refl
named_again (suc (suc zero)) octets = refl
named_again (suc (suc (suc kind))) octets = refl

pub overruns-any : (kind a b : ℕ) (first : List ℕ) (n : ℕ) → overruns (list_named kind a) first n ≡ overruns (list_named kind b) first n
unfolding list_named overruns
overruns-any zero a b first n = refl
overruns-any (suc zero) a b first n = refl
overruns-any (suc (suc zero)) a b first n = refl
overruns-any (suc (suc (suc kind))) a b first n = refl

-- A Message's type and AttributeLength.

-- a known type, with its AttributeLength or another
known : (t : AddressList) (b : Bool) → header_answer (cond b (address_list_of t) (bad_header 5)) ≡ Ok tt → cond b (address_list_of t) (bad_header 5) ≡ address_list_of t
unfolding header_answer
known t true h = refl
known t false h = let z : ◌≡◌ {A = ℕ} 0 1 = cc in absurd (omega arith)

-- where they are in order, the list is the one that they name
pub header-listed : (version kind octets : ℕ) → header_answer (address_header version kind octets) ≡ Ok tt
    → address_header version kind octets ≡ address_list_of (list_named kind octets)
unfolding header_answer address_header list_named
header-listed version zero octets e = let z : ◌≡◌ {A = ℕ} 0 1 = cc in absurd (omega arith)
header-listed version (suc zero) octets e = known service_list (eqb octets service_length) e
header-listed version (suc (suc zero)) octets e = known mac_list (eqb octets mac_length) e
header-listed version (suc (suc (suc kind))) octets e = newer (eqb version 0) e
  where
    newer : (b : Bool) → header_answer (cond b (bad_header 4) (address_list_of (unknown_list octets))) ≡ Ok tt → cond b (bad_header 4) (address_list_of (unknown_list octets)) ≡ address_list_of (unknown_list octets)
    newer true h = let z : ◌≡◌ {A = ℕ} 0 1 = cc in absurd (omega arith)
    newer false h = refl

-- The Message at a place, in the order of the checks.

pub header-meant : (s : List ℕ) (at : ℕ) (x : InAddressPdu) (r : Refusal) → header_answer x ≡ Err r → message_meant s at x ≡ Err r
unfolding message_meant header_answer
header-meant s at (bad_header n) r e = let i : refusal_of n ≡ r = cc in ap Err i
header-meant s at no_message r e = let z : ◌≡◌ {A = ℕ} 0 1 = cc in absurd (omega arith)
header-meant s at (address_list_of t) r e = let z : ◌≡◌ {A = ℕ} 0 1 = cc in absurd (omega arith)

module _ (version : ℕ) (s : List ℕ) (at : ℕ) where
  pub message-done : at ≡ length s → message_read version s at ≡ Ok None
  unfolding message_read message_meant address_message_in
  message-done p = rw (eq-eqb _ _ p)

  module _ (o : at ≡ length s → ⊥) where
    pub message-short : length s < at + 2 → message_read version s at ≡ Err refusal.PastEnd
    unfolding message_read message_meant address_message_in refusal_of
    message-short p = rw (ne_eqb _ _ o, mark-short s at p, lt-ltb _ _ p)

    -- h is the number of the two octets there
    module _ (p : at + 2 ≤ length s) (h : ℕ) (e : h ≡ be_at 2 s at) where
      pub message-mark : h ≡ 0 → message_read version s at ≡ Ok None
      unfolding message_read message_meant address_message_in end_mark
      message-mark q = rw (ne_eqb _ _ o, le-leb _ _ p, ← e, eq-eqb _ _ q)

      -- a is what was found of type and AttributeLength
      module _ (q : h ≡ 0 → ⊥) (a : Result (Unit {0}) Refusal) (i : a ≡ header_answer (address_header version (get_or s at 0) (get_or s (at + 1) 0))) where
        pub message-refused : (r : Refusal) → a ≡ Err r → message_read version s at ≡ Err r
        unfolding message_read address_message_in
        message-refused r k =
            rw (ne_eqb _ _ o, mark-other s at h e q, le-ltb _ _ p)
            (header-meant s at (address_header version (get_or s at 0) (get_or s (at + 1) 0)) r (sym i ∙ k))

        pub message-list : a ≡ Ok tt → message_read version s at ≡ Ok (Some record { kind = get_or s at 0; octets = get_or s (at + 1) 0; list = at + 2 })
        unfolding message_read message_meant address_message_in
        message-list k =
            rw (ne_eqb _ _ o, mark-other s at h e q, le-ltb _ _ p, header-listed version (get_or s at 0) (get_or s (at + 1) 0) (sym i ∙ k))

-- The vector at a place of a list.

module _ (version : ℕ) (t : AddressList) (s : List ℕ) (at : ℕ) where
  -- by what stands there
  by : (r : InList) → vector_in version (first_octets t) false s at ≡ r → typed_read version t s at ≡ vector_meant (first_octets t) false at (addresses_checked t s at r)
  unfolding typed_read address_vector_in
  by r e = rw e

  -- only a vector that is read has values to check
  pub typed-other : (v : Result VectorRead Refusal) → v ≡ vector_read version (first_octets t) false s at → ((w : VectorHead) → v ≡ Ok (vector.Vector w) → ⊥)
      → typed_read version t s at ≡ v
  unfolding vector_read addresses_checked vector_meant
  typed-other v e p = go (vector_in version (first_octets t) false s at) refl
    where
      go : (r : InList) → vector_in version (first_octets t) false s at ≡ r → typed_read version t s at ≡ v
      go (bad_vector n) i = by (bad_vector n) i ∙ sym (e ∙ ap (vector_meant (first_octets t) false at) i)
      go list_end i = by list_end i ∙ sym (e ∙ ap (vector_meant (first_octets t) false at) i)
      go (vector_head h) i = absurd (p _ (e ∙ ap (vector_meant (first_octets t) false at) i))
      go (passed_over h) i = by (passed_over h) i ∙ sym (e ∙ ap (vector_meant (first_octets t) false at) i)

  pub typed-refused : (r : Refusal) → vector_read version (first_octets t) false s at ≡ Err r → typed_read version t s at ≡ Err r
  typed-refused r a = typed-other (Err r) (sym a) (λ w k. let z : ◌≡◌ {A = ℕ} 0 1 = cc in absurd (omega arith))

  -- w is the head of one that is read
  module _ (w : VectorHead) (a : vector_read version (first_octets t) false s at ≡ Ok (vector.Vector w)) where
    abbrev there : Headed (first_octets t) false at (vector_in version (first_octets t) false s at) w
    there = read_head (first_octets t) false at _ w (unfold vector_read in a)

    first-value : first_part s w ≡ part (at + 2) (first_octets t) s
    first-value =
        ap (λ (u : VectorHead). first_part s u) (sym there.head)
        ∙ first-here version (first_octets t) false s at there.header there.is

    pub first-length : length (first_part s w) ≡ first_octets t
    unfolding vector_end
    first-length =
        let f = (fitting version (first_octets t) false s at there.header there.is).fits in
        ap length first-value ∙ length_part (at + 2) (first_octets t) s (omega arith)

    value-count : there.header % 8192 ≡ w.values
    unfolding head_of
    value-count = ap (λ (u : VectorHead). u.values) there.head

    pub few-values : w.values < 8192
    few-values = omega (arith, value-count)

    tested : typed_read version t s at ≡ cond (overruns t (first_part s w) w.values) (Err refusal.Value) (Ok (vector.Vector w))
    unfolding addresses_checked
    tested = by (vector_head there.header) there.is ∙ rw (first-value, value-count) (go (overruns t (part (at + 2) (first_octets t) s) w.values))
      where
        go : (x : Bool) → vector_meant (first_octets t) false at (cond x (bad_vector 7) (vector_head there.header)) ≡ cond x (Err refusal.Value) (Ok (vector.Vector w))
        go true = unfold vector_meant refusal_of in refl
        go false = unfold vector_meant in (ap (λ (u : VectorHead). Ok (vector.Vector u)) there.head)

    -- z is what its values gave
    module _ (z : Bool) (i : z ≡ overruns t (first_part s w) w.values) where
      pub typed-past : z ≡ true → typed_read version t s at ≡ Err refusal.Value
      typed-past q = tested ∙ rw (← i, q)

      pub typed-within : z ≡ false → typed_read version t s at ≡ Ok (vector.Vector w)
      typed-within q = tested ∙ rw (← i, q)

-- Values.

pub none_out : (t : AddressList) (first : List ℕ) (n : ℕ) → n ≡ 0 → overruns t first n ≡ false
unfolding overruns runs_out
none_out service_list first n e = rw (eq-eqb _ _ e)
none_out mac_list first n e = rw (eq-eqb _ _ e)
none_out (unknown_list octets) first n e = refl

-- x is FirstValue
pub some_out : (octets : ℕ) (first : List ℕ) (n x : ℕ) → (n ≡ 0 → ⊥) → x ≡ be_at octets first 0 → runs_out octets first n ≡ ltb (256 ^ octets - 1) (x + (n - 1))
unfolding runs_out
some_out octets first n x p e = rw (ne_eqb _ _ p, ← e)

pub other-out : (kind octets : ℕ) (first : List ℕ) (n : ℕ) → (kind ≡ 1 → ⊥) → (kind ≡ 2 → ⊥) → overruns (list_named kind octets) first n ≡ false
unfolding list_named overruns
other-out zero octets first n p q = refl
other-out (suc zero) octets first n p q = absurd (p refl)
other-out (suc (suc zero)) octets first n p q = absurd (q refl)
other-out (suc (suc (suc kind))) octets first n p q = refl
