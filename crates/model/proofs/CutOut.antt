-- What is left of a PDU where the vectors that are passed over are cut out: every accepted PDU has the acts that are left of it.
use mathlib.Core.Path.{◌≡◌, refl, sym, ap, ◌∙◌}
use mathlib.Core.List.{List, [], ◌∷◌, ◌++◌, append_assoc}
use mathlib.Core.Bool.{Bool, true, false, cond, not, ◌&&◌}
use Prim.Native.Nat.{ℕ, zero, suc, ◌+◌, ◌-◌, ◌%◌, ◌≤◌, ◌<◌}
use native.Mathlib.Omega.{arith}
use lib.ListN.{length, get_or, take, drop, length-append, length-drop, get_or-append}
use lib.Seq.{get_or-append-add, get_or-drop, drop-append-add, drop-append-le, take-append-le}
use lib.Dec.{ltb, leb, eqb}
use borrow.Author.Tests.{ltb-false, eqb-true, eqb-false, leb-true, le-ltb, le-leb, eq-eqb, ne_eqb, not-false}
use Rattle.octets.specs.Be.{be_at, be}
use Rattle.octets.specs.Parts.{part}
use Rattle.octets.proofs.Be.{be_at-ext, length-be}
use Rattle.octets.proofs.Parts.{length_part}
use Rattle.octets.proofs.Frame.{get_or_part, part-part}
use Rattle.model.specs.FrameLayout.{longest_pdu}
use Rattle.model.specs.State.{Settings}
use Rattle.model.specs.Registrations.{Act, refused, acts}
use Rattle.model.specs.Frames.{Attribute, TypeOctet, not_allowed, unknown, known, type_octet, first_length, three_length, has_four, four_length, Vector, vector_at, vector_end, overflows, InList, bad_vector, list_end, vector_head, passed_over, vector_in, checked_in, typed_in, InPdu, bad_message, pdu_end, list_skipped, list_of, list_length, list_at, message_end, end_mark, header_in, message_in, Walk, fault, found, also, both, vectors_from, vectors, messages_from, messages, walk, walked, wrong_port, reading}
use Rattle.model.proofs.Lists.{and_left, and_right}
use Rattle.model.proofs.Parts.{part-between}
use Rattle.model.proofs.FoundVectors.{no-fault, also-found, both_found, passed, Passed, passed-all}
use Rattle.model.proofs.ReadBack.{VectorsRead, vectors-end, be_at-here, two-octets, vectors-more, message-known}
use Rattle.model.proofs.Versions.{was_messages_from, was_messages, was-vectors, was_walk, was_reading, accepted-before}

-- What is left of a PDU where the vectors that are passed over are cut out.

-- the octets of a vector of header h
span_of : Attribute → ℕ → ℕ
span_of k h = vector_end (first_length k) (has_four k) 0 h

-- an AttributeList from a place on: its vectors, and the EndMark; from a fault on it stays
cut_from : Attribute → List ℕ → ℕ → InList → (ℕ → List ℕ) → List ℕ
cut_from k l at (bad_vector n) rest = drop at l
cut_from k l at list_end rest = 0 ∷ 0 ∷ []
cut_from k l at (vector_head h) rest = part at (span_of k h) l ++ rest (vector_end (first_length k) (has_four k) at h)
cut_from k l at (passed_over h) rest = rest (vector_end (first_length k) (has_four k) at h)

pub cut_list : ℕ → ℕ → Attribute → List ℕ → ℕ → List ℕ
cut_list zero version k l at = drop at l
cut_list (suc f) version k l at = cut_from k l at (typed_in version k l at) (cut_list f version k l)

-- the list of a Message at a place
cut_at : ℕ → Attribute → List ℕ → ℕ → List ℕ
cut_at version k s at = cut_list (suc (list_length s at)) version k (list_at s at) 0

-- the Messages from a place on: of a list that is read, AttributeType, AttributeLength, and the list with its length
cut_message : ℕ → List ℕ → ℕ → InPdu → List ℕ → List ℕ
cut_message version s at (bad_message n) rest = drop at s
cut_message version s at pdu_end rest = drop at s
cut_message version s at list_skipped rest = part at (4 + list_length s at) s ++ rest
cut_message version s at (list_of k) rest = part at 2 s ++ (be 2 (length (cut_at version k s at)) ++ (cut_at version k s at ++ rest))

pub cut_messages : ℕ → ℕ → List ℕ → ℕ → List ℕ
cut_messages zero version s at = drop at s
cut_messages (suc f) version s at = cut_message version s at (message_in version s at) (cut_messages f version s (message_end s at))

-- the PDU, behind its ProtocolVersion
pub cut_out : List ℕ → List ℕ
cut_out s = part 0 1 s ++ cut_messages (suc (length s)) (get_or s 0 0) s 1

-- Octets of a part that stands behind a prefix.

module _ (at m : ℕ) (l pre rest : List ℕ) (fits : at + m ≤ length l) where
  abbrev there : List ℕ
  there = pre ++ (part at m l ++ rest)

  length-piece : length (part at m l) ≡ m
  length-piece = length_part at m l fits

  length-there : length there ≡ length pre + (m + length rest)
  length-there =
      length-append pre (part at m l ++ rest)
      ∙ ap (λ (n : ℕ). length pre + n) (length-append (part at m l) rest ∙ ap (λ (n : ℕ). n + length rest) length-piece)

  -- behind a longer prefix
  behind-there : there ≡ (pre ++ part at m l) ++ rest
  behind-there = sym (append_assoc pre (part at m l) rest)

  prefix-there : length (pre ++ part at m l) ≡ length pre + m
  prefix-there = length-append pre (part at m l) ∙ ap (λ (n : ℕ). length pre + n) length-piece

  part-there : (a n p q : ℕ) → a + n ≤ m → p ≡ length pre + a → q ≡ at + a → part p n there ≡ part q n l
  unfolding part
  part-there a n p q h i j =
      let x = part at m l in
      rw (i, j)
      (ap (take n) (drop-append-add pre (x ++ rest) a ∙ drop-append-le a x rest (omega (arith, length-piece)))
      ∙ take-append-le n (drop a x) rest (omega (arith, length-piece, length-drop a x)) ∙ part-part at m a n l fits h)

  octet-there : (a p q : ℕ) → a < m → p ≡ length pre + a → q ≡ at + a → get_or there p 0 ≡ get_or l q 0
  octet-there a p q h i j =
      let x = part at m l in
      rw (i, j) (get_or-append-add pre (x ++ rest) a 0 ∙ get_or-append x rest 0 a (omega (arith, length-piece)) ∙ get_or_part at m a l h)

  number-there : (n a p q : ℕ) → a + n ≤ m → p ≡ length pre + a → q ≡ at + a → be_at n there p ≡ be_at n l q
  number-there n a p q h i j = be_at-ext n there l p q (λ b g. octet-there (a + b) (p + b) (q + b) (omega arith) (omega arith) (omega arith))

-- A list.

-- its EndMark is its last two octets
mark-last : (k : Attribute) (l : List ℕ) (at : ℕ) (r : InList) → checked_in k l at r ≡ list_end → at + 2 ≡ length l
unfolding checked_in
mark-last k l at (bad_vector n) e = let z : ◌≡◌ {A = ℕ} 0 1 = cc in absurd (omega arith)
mark-last k l at list_end e = go (eqb (at + 2) (length l)) refl e
  where
    go : (b : Bool) → eqb (at + 2) (length l) ≡ b → cond b list_end (bad_vector 3) ≡ list_end → at + 2 ≡ length l
    go true i j = eqb-true _ _ i
    go false i j = let z : ◌≡◌ {A = ℕ} 0 1 = cc in absurd (omega arith)
mark-last k l at (vector_head h) e = absurd (go (overflows (vector_at k l at h)) e)
  where
    go : (b : Bool) → cond b (bad_vector 7) (vector_head h) ≡ list_end → ⊥
    go true j = let z : ◌≡◌ {A = ℕ} 0 1 = cc in omega arith
    go false j = let z : ◌≡◌ {A = ℕ} 0 1 = cc in omega arith
mark-last k l at (passed_over h) e = let z : ◌≡◌ {A = ℕ} 0 1 = cc in absurd (omega arith)

-- a vector that is read is read behind any prefix
module _ (version : ℕ) (k : Attribute) (l : List ℕ) (at h : ℕ) (e : typed_in version k l at ≡ vector_head h) (pre rest : List ℕ) where
  p : Passed version k l at h
  p = passed-all version k l at h e

  span_fits : at + span_of k h ≤ length l
  unfolding span_of vector_end
  span_fits = omega (arith, p.fitting.fits)

  abbrev moved : List ℕ
  moved = there at (span_of k h) l pre rest span_fits

  span-end : vector_end (first_length k) (has_four k) (length pre) h ≡ length pre + span_of k h
  unfolding span_of vector_end
  span-end = omega arith

  same-vector : vector_at k moved (length pre) h ≡ vector_at k l at h
  unfolding vector_at span_of vector_end
  same-vector =
      let n = h % 8192 in
      let a = first_length k in
      let b = three_length n in
      let c = four_length (has_four k) n in
      let Part-moved = part-there at (span_of k h) l pre rest span_fits in
      rw (
        Part-moved 2 a (length pre + 2) (at + 2) (omega arith) refl refl,
        Part-moved (2 + a) b (length pre + 2 + a) (at + 2 + a) (omega arith) (omega arith) (omega arith),
        Part-moved (2 + a + b) c (length pre + 2 + a + b) (at + 2 + a + b) (omega arith) (omega arith) (omega arith),
      )

  two-octets-in : 2 ≤ span_of k h
  unfolding span_of vector_end
  two-octets-in = omega arith

  read-moved : (g : ℕ) → vectors (suc g) 0 k moved (length pre) ≡ also (vector_at k l at h) (vectors g 0 k moved (length pre + span_of k h))
  read-moved g =
      let f = p.fitting in
      let long = length-there at (span_of k h) l pre rest span_fits in
      vectors-more g 0 k moved (length pre) h (vector_at k l at h)
      (number-there at (span_of k h) l pre rest span_fits 2 0 (length pre) at two-octets-in (omega arith) (omega arith) ∙ f.is) f.some f.leave
      (omega (arith, long, two-octets-in)) (omega (arith, long, span-end)) same-vector (unfold vector_at in f.packed) p.within
      ∙ ap (λ (n : ℕ). also (vector_at k l at h) (vectors g 0 k moved n)) span-end

-- with fuel for what is left, it is read behind any prefix
abbrev ListReads : ℕ → Attribute → List ℕ → ℕ → Type 0
ListReads version k l f = (at : ℕ) (vs : List Vector) → vectors f version k l at ≡ found vs
    → (g : ℕ) (pre : List ℕ) → length (cut_list f version k l at) ≤ g → vectors g 0 k (pre ++ cut_list f version k l at) (length pre) ≡ found vs

module _ (version : ℕ) (k : Attribute) (l : List ℕ) where
  cut-vector : (f : ℕ) → ListReads version k l f → (at h : ℕ) → typed_in version k l at ≡ vector_head h
      → (vs : List Vector) → vectors_from k l at (vector_head h) (vectors f version k l) ≡ found vs → (g : ℕ) (pre : List ℕ)
      → length (cut_from k l at (vector_head h) (cut_list f version k l)) ≤ g
      → vectors g 0 k (pre ++ cut_from k l at (vector_head h) (cut_list f version k l)) (length pre) ≡ found vs
  unfolding vectors_from cut_from also
  cut-vector f ih at h e vs r g pre m = go g (omega (arith, long, two-octets-in version k l at h e pre c))
    where
      c : List ℕ
      c = cut_list f version k l (vector_end (first_length k) (has_four k) at h)

      x : List ℕ
      x = part at (span_of k h) l

      long : length (x ++ c) ≡ span_of k h + length c
      long = length-append x c ∙ ap (λ (n : ℕ). n + length c) (length-piece at (span_of k h) l pre c (span_fits version k l at h e pre c))

      go : (g : ℕ) → suc (length c) ≤ g → vectors g 0 k (pre ++ (x ++ c)) (length pre) ≡ found vs
      go zero q = absurd (omega arith)
      go (suc g) q =
          let a = also-found (vector_at k l at h) _ vs r in
          let s = span_fits version k l at h e pre c in
          let j : length pre + span_of k h ≡ length (pre ++ x) = sym (prefix-there at (span_of k h) l pre c s) in
          let z : vectors g 0 k ((pre ++ x) ++ c) (length (pre ++ x)) ≡ found a.0 = ih _ a.0 a.1 g (pre ++ x) (omega arith) in
          let y : vectors g 0 k (pre ++ (x ++ c)) (length pre + span_of k h) ≡ found a.0 = rw (j, ← append_assoc pre x c) z in
          read-moved version k l at h e pre c g ∙ ap (also (vector_at k l at h)) y ∙ sym (ap found a.2)

  cut-from : (f : ℕ) → ListReads version k l f → (at : ℕ) (r : InList) → typed_in version k l at ≡ r
      → (vs : List Vector) → vectors_from k l at r (vectors f version k l) ≡ found vs → (g : ℕ) (pre : List ℕ)
      → length (cut_from k l at r (cut_list f version k l)) ≤ g
      → vectors g 0 k (pre ++ cut_from k l at r (cut_list f version k l)) (length pre) ≡ found vs
  unfolding vectors_from cut_from VectorsRead
  cut-from f ih at (bad_vector n) e vs r g pre m = absurd (no-fault n vs r)
  cut-from f ih at list_end e vs r g pre m = vectors-end k g pre m ∙ r
  cut-from f ih at (vector_head h) e vs r g pre m = cut-vector f ih at h e vs r g pre m
  cut-from f ih at (passed_over h) e vs r g pre m = ih _ vs r g pre m

  cut_list_lem : (f : ℕ) → ListReads version k l f
  unfolding vectors cut_list
  cut_list_lem zero at vs r g pre m = absurd (no-fault 3 vs r)
  cut_list_lem (suc f) at vs r g pre m = cut-from f (cut_list_lem f) at (typed_in version k l at) refl vs r g pre m

  -- it is no longer than the list
  drop-shorter : (at : ℕ) → length (drop at l) ≤ length l - at
  drop-shorter at = omega (arith, length-drop at l)

  from-shorter : (f at : ℕ) (r : InList) → typed_in version k l at ≡ r → ((e : ℕ) → length (cut_list f version k l e) ≤ length l - e)
      → length (cut_from k l at r (cut_list f version k l)) ≤ length l - at
  unfolding cut_from typed_in span_of vector_end
  from-shorter f at (bad_vector n) e ih = drop-shorter at
  from-shorter f at list_end e ih =
      let m : at + 2 ≡ length l = mark-last k l at (vector_in version (first_length k) (has_four k) l at) e in
      let g : 2 ≤ length l - at = omega arith in
      g
  from-shorter f at (vector_head h) e ih =
      let n = vector_end (first_length k) (has_four k) at h in
      let c = cut_list f version k l n in
      let s = span_fits version k l at h e [] [] in
      let g : length (part at (span_of k h) l ++ c) ≤ length l - at =
      omega (arith, length-append (part at (span_of k h) l) c, length-piece at (span_of k h) l [] c s, ih n) in
      g
  from-shorter f at (passed_over h) e ih =
      let n = vector_end (first_length k) (has_four k) at h in
      let g : length (cut_list f version k l n) ≤ length l - at = omega (arith, ih n) in
      g

  cut-shorter : (f at : ℕ) → length (cut_list f version k l at) ≤ length l - at
  unfolding cut_list
  cut-shorter zero at = drop-shorter at
  cut-shorter (suc f) at = from-shorter f at (typed_in version k l at) refl (cut-shorter f)

-- A PDU.

-- a Message whose list is read or skipped has a header
module _ (version : ℕ) (s : List ℕ) (at : ℕ) (r : InPdu) (bad : (n : ℕ) → bad_message n ≡ r → ⊥) (end : pdu_end ≡ r → ⊥) where
  record Headed : Type 0 where
    four : at + 4 ≤ length s
    marked : be_at 2 s at ≡ 0 → ⊥
    is : header_in (type_octet version (get_or s at 0)) s at ≡ r

  headed : message_in version s at ≡ r → Headed
  unfolding message_in end_mark
  headed e =
      let a = passed (eqb at (length s)) _ _ _ end e in
      let b = passed (end_mark s at) _ _ _ end a.1 in
      let c = passed (ltb (length s) (at + 4)) _ _ _ (bad 3) b.1 in
      let f : at + 4 ≤ length s = ltb-false _ _ c.0 in
      let m : (leb (at + 2) (length s) && eqb (be_at 2 s at) 0) ≡ false = b.0 in
      record { four = f; marked = eqb-false _ _ (rw (le-leb (at + 2) (length s) (omega arith)) at m); is = c.1 }

-- one whose list is read is of that type
record Listed (version : ℕ) (s : List ℕ) (at : ℕ) (k : Attribute) : Type 0 where
  type : type_octet version (get_or s at 0) ≡ known k
  first : get_or s (at + 1) 0 ≡ first_length k
  fits : message_end s at ≤ length s

no-list : (n : ℕ) (k : Attribute) → bad_message n ≡ list_of k → ⊥
no-list n k e = let z : ◌≡◌ {A = ℕ} 0 1 = cc in omega arith

no-skip : (n : ℕ) → bad_message n ≡ list_skipped → ⊥
no-skip n e = let z : ◌≡◌ {A = ℕ} 0 1 = cc in omega arith

end-no-list : (k : Attribute) → pdu_end ≡ list_of k → ⊥
end-no-list k e = let z : ◌≡◌ {A = ℕ} 0 1 = cc in omega arith

end-no-skip : pdu_end ≡ list_skipped → ⊥
end-no-skip e = let z : ◌≡◌ {A = ℕ} 0 1 = cc in omega arith

no_end : (n : ℕ) → bad_message n ≡ pdu_end → ⊥
no_end n e = let z : ◌≡◌ {A = ℕ} 0 1 = cc in omega arith

listed-from : (version : ℕ) (s : List ℕ) (at : ℕ) (k : Attribute) (t : TypeOctet) → type_octet version (get_or s at 0) ≡ t → header_in t s at ≡ list_of k → Listed version s at k
unfolding header_in
listed-from version s at k not_allowed i e = absurd (no-list 4 k e)
listed-from version s at k unknown i e =
    let a = passed (ltb (length s) (message_end s at)) _ _ _ (no-list 3 k) e in
    let z : ◌≡◌ {A = ℕ} 0 1 = cc in
    absurd (omega arith)
listed-from version s at k (known j) i e =
    let a = passed (not (eqb (get_or s (at + 1) 0) (first_length j))) _ _ _ (no-list 5 k) e in
    let b = passed (ltb (length s) (message_end s at)) _ _ _ (no-list 3 k) a.1 in
    let q : j ≡ k = cc in
    record { type = i ∙ ap known q; first = eqb-true _ _ (not-false _ a.0) ∙ ap first_length q; fits = ltb-false _ _ b.0 }

-- one whose list is skipped is of an unknown type
skipped-from : (s : List ℕ) (at : ℕ) (t : TypeOctet) → header_in t s at ≡ list_skipped → (t ≡ unknown) × (message_end s at ≤ length s)
unfolding header_in
skipped-from s at not_allowed e = absurd (no-skip 4 e)
skipped-from s at unknown e =
    let a = passed (ltb (length s) (message_end s at)) _ _ _ (no-skip 3) e in
    (refl, ltb-false _ _ a.0)
skipped-from s at (known j) e =
    let a = passed (not (eqb (get_or s (at + 1) 0) (first_length j))) _ _ _ (no-skip 5) e in
    let b = passed (ltb (length s) (message_end s at)) _ _ _ (no-skip 3) a.1 in
    let z : ◌≡◌ {A = ℕ} 0 1 = cc in
    absurd (omega arith)

-- and no header is the end
no_header : (s : List ℕ) (at : ℕ) (t : TypeOctet) → header_in t s at ≡ pdu_end → ⊥
unfolding header_in
no_header s at not_allowed e = no_end 4 e
no_header s at unknown e =
    let a = passed (ltb (length s) (message_end s at)) _ _ _ (no_end 3) e in
    let z : ◌≡◌ {A = ℕ} 0 1 = cc in
    omega arith
no_header s at (known j) e =
    let a = passed (not (eqb (get_or s (at + 1) 0) (first_length j))) _ _ _ (no_end 5) e in
    let b = passed (ltb (length s) (message_end s at)) _ _ _ (no_end 3) a.1 in
    let z : ◌≡◌ {A = ℕ} 0 1 = cc in
    omega arith

-- the end of a PDU is that of what is left of it
end-there : (version : ℕ) (s : List ℕ) (at : ℕ) (pre : List ℕ) → message_in version s at ≡ pdu_end → message_in version (pre ++ drop at s) (length pre) ≡ pdu_end
unfolding message_in end_mark
end-there version s at pre e = go (eqb at (length s)) refl (end_mark s at) refl e
  where
    t : List ℕ
    t = pre ++ drop at s

    long : length t ≡ length pre + (length s - at)
    long = length-append pre (drop at s) ∙ ap (λ (n : ℕ). length pre + n) (length-drop at s)

    mark : be_at 2 t (length pre) ≡ be_at 2 s at
    mark =
        be_at-here 2 pre (drop at s)
        ∙ be_at-ext 2 (drop at s) s 0 at (λ j l. ap (λ (i : ℕ). get_or (drop at s) i 0) (omega arith) ∙ get_or-drop at s j 0)

    either : (b : Bool) → cond b pdu_end pdu_end ≡ pdu_end
    either true = refl
    either false = refl

    go : (a : Bool) → eqb at (length s) ≡ a → (b : Bool) → end_mark s at ≡ b
        → cond a pdu_end (cond b pdu_end (cond (ltb (length s) (at + 4)) (bad_message 3) (header_in (type_octet version (get_or s at 0)) s at))) ≡ pdu_end
        → message_in version t (length pre) ≡ pdu_end
    go true i b j e = rw (eq-eqb (length pre) (length t) (omega (arith, long, eqb-true at (length s) i)))
    go false i true j e =
        let m : (leb (at + 2) (length s) && eqb (be_at 2 s at) 0) ≡ true = j in
        let f : at + 2 ≤ length s = leb-true _ _ (and_left (leb (at + 2) (length s)) _ m) in
        let z : be_at 2 s at ≡ 0 = eqb-true _ _ (and_right (leb (at + 2) (length s)) _ m) in
        rw (mark, z, le-leb (length pre + 2) (length t) (omega (arith, long))) (either (eqb (length pre) (length t)))
    go false i false j e =
        let a = passed (ltb (length s) (at + 4)) _ _ _ (no_end 3) e in
        absurd (no_header s at (type_octet version (get_or s at 0)) a.1)

-- a Message of an unknown type is skipped
message-unknown : (version : ℕ) (s : List ℕ) (at : ℕ) → at + 4 ≤ length s → (be_at 2 s at ≡ 0 → ⊥) → type_octet version (get_or s at 0) ≡ unknown
    → message_end s at ≤ length s → message_in version s at ≡ list_skipped
unfolding message_in header_in end_mark
message-unknown version s at four marked type fits =
    rw (
      ne_eqb at (length s) (λ e. omega arith),
      le-leb (at + 2) (length s) (omega arith),
      ne_eqb (be_at 2 s at) 0 marked,
      le-ltb (length s) (at + 4) four,
      type,
      le-ltb (length s) (message_end s at) fits,
    )

-- a list that is cut is no longer than it was
list-shorter : (version : ℕ) (k : Attribute) (s : List ℕ) (at : ℕ) → message_end s at ≤ length s → length (cut_at version k s at) ≤ list_length s at
unfolding cut_at list_at message_end
list-shorter version k s at fits =
    omega (arith, cut-shorter version k (part (at + 4) (list_length s at) s) (suc (list_length s at)) 0, length_part (at + 4) (list_length s at) s fits)

-- with fuel for what is left, it is read behind any prefix as it was
abbrev PduReads : ℕ → List ℕ → ℕ → Type 0
PduReads version s f = (at : ℕ) (vs : List Vector) → messages f version s at ≡ found vs
    → (g : ℕ) (pre : List ℕ) → length (cut_messages f version s at) < g → was_messages g version (pre ++ cut_messages f version s at) (length pre) ≡ found vs

-- behind a Message whose list is skipped
module _ (version : ℕ) (s : List ℕ) (at : ℕ) (e : message_in version s at ≡ list_skipped) (pre rest : List ℕ) where
  abbrev skip_head : Headed version s at list_skipped no-skip end-no-skip
  skip_head = headed version s at list_skipped no-skip end-no-skip e

  abbrev skip_type : (type_octet version (get_or s at 0) ≡ unknown) × (message_end s at ≤ length s)
  skip_type = skipped-from s at (type_octet version (get_or s at 0)) skip_head.is

  skip-fits : at + (4 + list_length s at) ≤ length s
  unfolding message_end
  skip-fits = omega (arith, skip_type.1)

  abbrev skip_moved : List ℕ
  skip_moved = there at (4 + list_length s at) s pre rest skip-fits

  skip-end : message_end skip_moved (length pre) ≡ length pre + (4 + list_length s at)
  unfolding message_end list_length
  skip-end =
      omega (arith, number-there at (4 + list_length s at) s pre rest skip-fits 2 2 (length pre + 2) (at + 2) (omega arith) (omega arith) (omega arith))

  skip-moved : (g : ℕ) → was_messages (suc g) version skip_moved (length pre) ≡ was_messages g version skip_moved (length pre + (4 + list_length s at))
  unfolding was_messages was_messages_from
  skip-moved g =
      let m = 4 + list_length s at in
      let long = length-there at m s pre rest skip-fits in
      let type = octet-there at m s pre rest skip-fits 0 (length pre) at (omega arith) (omega arith) (omega arith) in
      let mark = number-there at m s pre rest skip-fits 2 0 (length pre) at (omega arith) (omega arith) (omega arith) in
      rw (
        message-unknown version skip_moved (length pre) (omega (arith, long)) (rw mark skip_head.marked) (rw type skip_type.0) (omega (arith, long, skip-end)),
        skip-end,
      )

-- behind a Message whose list is read
module _ (version : ℕ) (s : List ℕ) (short : length s ≤ longest_pdu) (at : ℕ) (k : Attribute) (e : message_in version s at ≡ list_of k) (pre rest : List ℕ) where
  abbrev list_head : Headed version s at (list_of k) (λ n. no-list n k) (end-no-list k)
  list_head = headed version s at (list_of k) (λ n. no-list n k) (end-no-list k) e

  abbrev of_list : Listed version s at k
  of_list = listed-from version s at k (type_octet version (get_or s at 0)) refl list_head.is

  abbrev cut : List ℕ
  cut = cut_at version k s at

  abbrev lead : List ℕ
  lead = pre ++ part at 2 s

  abbrev tail : List ℕ
  tail = be 2 (length cut) ++ (cut ++ rest)

  two-fit : at + 2 ≤ length s
  two-fit = omega (arith, list_head.four)

  abbrev list_moved : List ℕ
  list_moved = there at 2 s pre tail two-fit

  small : length cut < 65536
  unfolding message_end
  small = omega (arith, list-shorter version k s at of_list.fits, of_list.fits)

  -- behind its length, and behind the list
  abbrev list_before : List ℕ
  list_before = lead ++ be 2 (length cut)

  length_before : length list_before ≡ length pre + 4
  length_before = omega (arith, length-append lead (be 2 (length cut)), prefix-there at 2 s pre tail two-fit, length-be 2 (length cut))

  moved_before : list_moved ≡ list_before ++ (cut ++ rest)
  moved_before = behind-there at 2 s pre tail two-fit ∙ sym (append_assoc lead (be 2 (length cut)) (cut ++ rest))

  moved-behind : list_moved ≡ (list_before ++ cut) ++ rest
  moved-behind = moved_before ∙ sym (append_assoc list_before cut rest)

  length-behind : length (list_before ++ cut) ≡ length pre + 4 + length cut
  length-behind = omega (arith, length-append list_before cut, length_before)

  length_moved : length list_moved ≡ length pre + 4 + length cut + length rest
  length_moved = ap length moved-behind ∙ omega (arith, length-append (list_before ++ cut) rest, length-behind)

  long-is : be_at 2 list_moved (length pre + 2) ≡ length cut
  long-is =
      rw (behind-there at 2 s pre tail two-fit, ← prefix-there at 2 s pre tail two-fit)
      (be_at-here 2 lead tail ∙ two-octets (length cut) (cut ++ rest) small)

  list-is : part (length pre + 4) (length cut) list_moved ≡ cut
  list-is = rw moved_before (part-between list_before cut rest (length pre + 4) (length cut) length_before refl)

  list-moved : (g : ℕ) (us : List Vector) → vectors (suc (length cut)) 0 k cut 0 ≡ found us
      → was_messages (suc g) version list_moved (length pre) ≡ both (found us) (was_messages g version list_moved (length pre + 4 + length cut))
  unfolding was_messages was_messages_from list_length list_at message_end
  list-moved g us r =
      let type = octet-there at 2 s pre tail two-fit 0 (length pre) at (omega arith) (omega arith) (omega arith) in
      let first = octet-there at 2 s pre tail two-fit 1 (length pre + 1) (at + 1) (omega arith) refl refl in
      let mark = number-there at 2 s pre tail two-fit 2 0 (length pre) at (omega arith) (omega arith) (omega arith) in
      rw (
        message-known version k list_moved (length pre) (length cut) (omega (arith, length_moved)) (rw mark list_head.marked) (rw type of_list.type)
            (first ∙ of_list.first) long-is,
        long-is,
        list-is,
        was-vectors (suc (length cut)) k cut 0,
        r,
      )

module _ (version : ℕ) (s : List ℕ) (short : length s ≤ longest_pdu) where
  cut-skipped : (f : ℕ) → PduReads version s f → (at : ℕ) → message_in version s at ≡ list_skipped → (vs : List Vector) → messages f version s (message_end s at) ≡ found vs
      → (g : ℕ) (pre : List ℕ) → let t = part at (4 + list_length s at) s ++ cut_messages f version s (message_end s at) in
      length t < g → was_messages g version (pre ++ t) (length pre) ≡ found vs
  cut-skipped f ih at e vs r g pre m = go g (omega (arith, length-append x c, length-piece at (4 + list_length s at) s pre c (skip-fits version s at e pre c)))
    where
      c : List ℕ
      c = cut_messages f version s (message_end s at)

      x : List ℕ
      x = part at (4 + list_length s at) s

      go : (g : ℕ) → suc (length c) < g → was_messages g version (pre ++ (x ++ c)) (length pre) ≡ found vs
      go zero q = absurd (omega arith)
      go (suc g) q =
          let i = skip-fits version s at e pre c in
          let j : length pre + (4 + list_length s at) ≡ length (pre ++ x) = sym (prefix-there at (4 + list_length s at) s pre c i) in
          let z : was_messages g version ((pre ++ x) ++ c) (length (pre ++ x)) ≡ found vs = ih (message_end s at) vs r g (pre ++ x) (omega arith) in
          let y : was_messages g version (pre ++ (x ++ c)) (length pre + (4 + list_length s at)) ≡ found vs = rw (j, ← append_assoc pre x c) z in
          skip-moved version s at e pre c g
          ∙ y

  cut-listed : (f : ℕ) → PduReads version s f → (at : ℕ) (k : Attribute) → message_in version s at ≡ list_of k → (vs : List Vector)
      → both (vectors (suc (list_length s at)) version k (list_at s at) 0) (messages f version s (message_end s at)) ≡ found vs
      → (g : ℕ) (pre : List ℕ) → let t = part at 2 s ++ (be 2 (length (cut_at version k s at)) ++ (cut_at version k s at ++ cut_messages f version s (message_end s at))) in
      length t < g → was_messages g version (pre ++ t) (length pre) ≡ found vs
  cut-listed f ih at k e vs r g pre m = go g (omega (arith, length-append pre t, length_moved version s short at k e pre c))
    where
      c : List ℕ
      c = cut_messages f version s (message_end s at)

      l : List ℕ
      l = cut_at version k s at

      t : List ℕ
      t = part at 2 s ++ (be 2 (length l) ++ (l ++ c))

      b : (us ws : List Vector) × (vectors (suc (list_length s at)) version k (list_at s at) 0 ≡ found us) × (messages f version s (message_end s at) ≡ found ws) × (vs ≡ us ++ ws)
      b = both_found _ _ vs r

      own : vectors (suc (length l)) 0 k l 0 ≡ found b.0
      own = unfold cut_at in (cut_list_lem version k (list_at s at) (suc (list_length s at)) 0 b.0 b.2 (suc (length l)) [] (unfold cut_at in (omega arith)))

      go : (g : ℕ) → suc (length c) < g → was_messages g version (pre ++ t) (length pre) ≡ found vs
      go zero q = absurd (omega arith)
      go (suc g) q =
          let o = list_before version s short at k e pre c ++ l in
          let z : was_messages g version (o ++ c) (length o) ≡ found b.1 = ih (message_end s at) b.1 b.3 g o (omega arith) in
          let y : was_messages g version (pre ++ t) (length pre + 4 + length l) ≡ found b.1 =
          rw (← length-behind version s short at k e pre c, moved-behind version s short at k e pre c) z in
          list-moved version s short at k e pre c g b.0 own ∙ ap (both (found b.0)) y ∙ (unfold both in (sym (ap found b.4)))

  cut-message : (f : ℕ) → PduReads version s f → (at : ℕ) (i : InPdu) → message_in version s at ≡ i → (vs : List Vector)
      → messages_from version s at i (messages f version s (message_end s at)) ≡ found vs → (g : ℕ) (pre : List ℕ)
      → let t = cut_message version s at i (cut_messages f version s (message_end s at)) in length t < g
      → was_messages g version (pre ++ t) (length pre) ≡ found vs
  unfolding messages_from cut_message was_messages was_messages_from
  cut-message f ih at (bad_message n) e vs r g pre m = absurd (no-fault n vs r)
  cut-message f ih at pdu_end e vs r zero pre m = absurd (omega arith)
  cut-message f ih at pdu_end e vs r (suc g) pre m = rw (end-there version s at pre e) r
  cut-message f ih at list_skipped e vs r g pre m = cut-skipped f ih at e vs r g pre m
  cut-message f ih at (list_of k) e vs r g pre m = cut-listed f ih at k e vs r g pre m

  cut-messages : (f : ℕ) → PduReads version s f
  unfolding messages cut_messages
  cut-messages zero at vs r g pre m = absurd (no-fault 3 vs r)
  cut-messages (suc f) at vs r g pre m = cut-message f (cut-messages f) at (message_in version s at) refl vs r g pre m

  -- they are no longer than the PDU
  message-shorter : (f at : ℕ) (i : InPdu) → message_in version s at ≡ i → let c = cut_messages f version s (message_end s at) in
      length c ≤ length s - message_end s at → length (cut_message version s at i c) ≤ length s - at
  unfolding cut_message message_end
  message-shorter f at (bad_message n) e ih = let g : length (drop at s) ≤ length s - at = omega (arith, length-drop at s) in g
  message-shorter f at pdu_end e ih = let g : length (drop at s) ≤ length s - at = omega (arith, length-drop at s) in g
  message-shorter f at list_skipped e ih =
      let c = cut_messages f version s (message_end s at) in
      let x = part at (4 + list_length s at) s in
      let i = skip-fits version s at e [] c in
      let g : length (x ++ c) ≤ length s - at = omega (arith, length-append x c, length-piece at (4 + list_length s at) s [] c i, ih) in
      g
  message-shorter f at (list_of k) e ih =
      let c = cut_messages f version s (message_end s at) in
      let i = (of_list version s short at k e [] c).fits in
      let g : length (list_moved version s short at k e [] c) ≤ length s - at = omega (arith, length_moved version s short at k e [] c, list-shorter version k s at i, i, ih) in
      g

  messages-shorter : (f at : ℕ) → length (cut_messages f version s at) ≤ length s - at
  unfolding cut_messages
  messages-shorter zero at = let g : length (drop at s) ≤ length s - at = omega (arith, length-drop at s) in g
  messages-shorter (suc f) at = message-shorter f at (message_in version s at) refl (messages-shorter f (message_end s at))

-- Every PDU that is accepted is read as what is left of it was read before, where all the vectors that are passed over are cut out
pub cut_out_lem : (s : List ℕ) (vs : List Vector) → walk s ≡ found vs → was_walk (cut_out s) ≡ found vs
unfolding walk was_walk cut_out
cut_out_lem s vs e =
    let a = passed (eqb (length s) 0) _ _ _ (no-fault 2 vs) e in
    let b = passed (ltb longest_pdu (length s)) _ _ _ (no-fault 2 vs) a.1 in
    let some : length s ≡ 0 → ⊥ = eqb-false _ _ a.0 in
    let short : length s ≤ longest_pdu = ltb-false longest_pdu _ b.0 in
    let rest = cut_messages (suc (length s)) (get_or s 0 0) s 1 in
    let one : 0 + 1 ≤ length s = omega arith in
    let size : length (cut_out s) ≡ 0 + (1 + length rest) = length-there 0 1 s [] rest one in
    let long : length (cut_out s) ≡ 1 + length rest = omega arith in
    let less = messages-shorter (get_or s 0 0) s short (suc (length s)) 1 in
    let version : get_or (cut_out s) 0 0 ≡ get_or s 0 0 = octet-there 0 1 s [] rest one 0 0 0 (omega arith) refl refl in
    let m = cut-messages (get_or s 0 0) s short (suc (length s)) 1 vs b.1 (suc (length (cut_out s))) (part 0 1 s) (omega (arith, long)) in
    rw (
      ne_eqb (length (cut_out s)) 0 (λ i. omega (arith, long)),
      le-ltb longest_pdu (length (cut_out s)) (omega (arith, long)),
      version,
    )
    (rw (length-piece 0 1 s [] rest one) at m)

-- So the acts of an accepted PDU are those of the PDU with the vectors that are passed over cut out, by the reading as it was, and
-- as it is.

pub acts-cut : (st : Settings) (p : ℕ) (s : List ℕ) (es : List Act) → reading st p s ≡ acts es
    → (was_reading st p (cut_out s) ≡ acts es) × (reading st p (cut_out s) ≡ acts es)
unfolding reading was_reading walked
acts-cut st p s es = go (wrong_port st p) (walk s) refl
  where
    go : (t : Bool) (w : Walk) → walk s ≡ w → cond t (refused 1) (walked w) ≡ acts es
        → (cond t (refused 1) (walked (was_walk (cut_out s))) ≡ acts es) × (cond t (refused 1) (walked (walk (cut_out s))) ≡ acts es)
    go true w e r = let z : ◌≡◌ {A = ℕ} 0 1 = cc in absurd (omega arith)
    go false (fault n) e r = let z : ◌≡◌ {A = ℕ} 0 1 = cc in absurd (omega arith)
    go false (found vs) e r =
        let c = cut_out_lem s vs e in
        (ap walked c ∙ r, ap walked (accepted-before (cut_out s) vs c) ∙ r)

-- And a fault of what is left refuses the whole PDU.
pub later-fault : (s : List ℕ) (n : ℕ) → walk (cut_out s) ≡ fault n → (m : ℕ) × (walk s ≡ fault m)
later-fault s n e = go (walk s) refl
  where
    go : (w : Walk) → walk s ≡ w → (m : ℕ) × (walk s ≡ fault m)
    go (fault m) i = (m, i)
    go (found vs) i = absurd (no-fault n vs (sym e ∙ accepted-before (cut_out s) vs (cut_out_lem s vs i)))
