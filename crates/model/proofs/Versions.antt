-- The reading as it was before vectors were passed over, and as it is: the same at version 0, and the same of what was accepted.
use mathlib.Core.Path.{◌≡◌, refl, sym, ap, ◌∙◌}
use mathlib.Core.List.{List, []}
use mathlib.Core.Bool.{Bool, true, false, cond, ◌||◌, true≢false}
use Prim.Native.Nat.{ℕ, zero, suc, ◌+◌, ◌/◌, ◌%◌}
use native.Mathlib.Omega.{arith}
use lib.ListN.{length, get_or}
use lib.Dec.{ltb, eqb}
use Rattle.octets.specs.Be.{be_at}
use Rattle.octets.specs.Parts.{part}
use Rattle.model.specs.FrameLayout.{longest_pdu}
use Rattle.model.specs.State.{Settings}
use Rattle.model.specs.Registrations.{Reading, refused}
use Rattle.model.specs.Frames.{Attribute, first_length, three_length, has_four, Vector, vector_at, vector_end, overpacked, overflows, InList, bad_vector, list_end, vector_head, passed_over, strange_leave, strange_vector, vector_in, checked_in, typed_in, InPdu, bad_message, pdu_end, list_skipped, list_of, list_length, list_at, message_end, message_in, Walk, fault, found, also, both, vectors_from, vectors, messages_from, messages, walk, walked, wrong_port, reading}
use Rattle.model.proofs.FoundVectors.{no-fault, also-found, both_found, passed, passed-all, passing-over, over-typed}
use Rattle.model.proofs.ReadBack.{vectors-more}

-- The reading as it was, word for word.

was_in : ℕ → Bool → List ℕ → ℕ → InList
was_in first four l at =
    let h = be_at 2 l at in
    cond (ltb (length l) (at + 2)) (bad_vector 3)
    (cond (eqb h 0) list_end
    (cond (ltb 1 (h / 8192)) (bad_vector 6)
    (cond (ltb (length l) (vector_end first four at h)) (bad_vector 3)
    (cond (overpacked (part (at + 2 + first) (three_length (h % 8192)) l)) (bad_vector 6)
    (vector_head h)))))

pub was_vectors : ℕ → Attribute → List ℕ → ℕ → Walk
was_vectors zero k l at = fault 3
was_vectors (suc f) k l at = vectors_from k l at (checked_in k l at (was_in (first_length k) (has_four k) l at)) (was_vectors f k l)

unfoldable pub was_messages_from : List ℕ → ℕ → InPdu → Walk → Walk
was_messages_from s at (bad_message n) rest = fault n
was_messages_from s at pdu_end rest = found []
was_messages_from s at list_skipped rest = rest
was_messages_from s at (list_of k) rest = both (was_vectors (suc (list_length s at)) k (list_at s at) 0) rest

unfoldable pub was_messages : ℕ → ℕ → List ℕ → ℕ → Walk
was_messages zero version s at = fault 3
was_messages (suc f) version s at = was_messages_from s at (message_in version s at) (was_messages f version s (message_end s at))

unfoldable pub was_walk : List ℕ → Walk
was_walk s =
    cond (eqb (length s) 0) (fault 2)
    (cond (ltb longest_pdu (length s)) (fault 2)
    (was_messages (suc (length s)) (get_or s 0 0) s 1))

unfoldable pub was_reading : Settings → ℕ → List ℕ → Reading
was_reading st p s = cond (wrong_port st p) (refused 1) (walked (was_walk s))

-- At version 0.

was-in : (first : ℕ) (four : Bool) (l : List ℕ) (at : ℕ) → was_in first four l at ≡ vector_in 0 first four l at
unfolding was_in vector_in strange_vector strange_leave
was-in first four l at =
    ap (λ (r : InList). cond (ltb (length l) (at + 2)) (bad_vector 3) (cond (eqb h 0) list_end r)) (go (ltb 1 (h / 8192)))
  where
    h : ℕ
    h = be_at 2 l at

    long : Bool
    long = ltb (length l) (vector_end first four at h)

    over : Bool
    over = overpacked (part (at + 2 + first) (three_length (h % 8192)) l)

    go : (b : Bool) → cond b (bad_vector 6) (cond long (bad_vector 3) (cond over (bad_vector 6) (vector_head h)))
        ≡ cond b (bad_vector 6) (cond long (bad_vector 3) (cond (b || over) (bad_vector 6) (vector_head h)))
    go true = refl
    go false = refl

-- the same of what follows gives the same
from-same : (k : Attribute) (l : List ℕ) (at : ℕ) (r : InList) (p q : ℕ → Walk) → ((e : ℕ) → p e ≡ q e) → vectors_from k l at r p ≡ vectors_from k l at r q
unfolding vectors_from
from-same k l at (bad_vector n) p q e = refl
from-same k l at list_end p q e = refl
from-same k l at (vector_head h) p q e = ap (also (vector_at k l at h)) (e _)
from-same k l at (passed_over h) p q e = e _

pub was-vectors : (f : ℕ) (k : Attribute) (l : List ℕ) (at : ℕ) → was_vectors f k l at ≡ vectors f 0 k l at
unfolding was_vectors vectors typed_in
was-vectors zero k l at = refl
was-vectors (suc f) k l at =
    ap (λ (r : InList). vectors_from k l at (checked_in k l at r) (was_vectors f k l)) (was-in (first_length k) (has_four k) l at)
    ∙ from-same k l at _ (was_vectors f k l) (vectors f 0 k l) (was-vectors f k l)

was-from : (s : List ℕ) (at : ℕ) (r : InPdu) (p q : Walk) → p ≡ q → was_messages_from s at r p ≡ messages_from 0 s at r q
unfolding was_messages_from messages_from
was-from s at (bad_message n) p q e = refl
was-from s at pdu_end p q e = refl
was-from s at list_skipped p q e = e
was-from s at (list_of k) p q e = rw (was-vectors (suc (list_length s at)) k (list_at s at) 0, e)

was-messages : (f : ℕ) (s : List ℕ) (at : ℕ) → was_messages f 0 s at ≡ messages f 0 s at
unfolding was_messages messages
was-messages zero s at = refl
was-messages (suc f) s at = was-from s at _ _ _ (was-messages f s (message_end s at))

-- "Version 0 keeps number 6": the reading of every PDU of version 0 is what it was
pub version-zero : (st : Settings) (p : ℕ) (s : List ℕ) → get_or s 0 0 ≡ 0 → reading st p s ≡ was_reading st p s
unfolding reading was_reading walk was_walk
version-zero st p s e = rw (e, was-messages (suc (length s)) s 1)

-- What was accepted is read as it was, at every version.

end-any : (version first : ℕ) (four : Bool) (l : List ℕ) (at : ℕ) → vector_in 0 first four l at ≡ list_end → vector_in version first four l at ≡ list_end
unfolding vector_in strange_vector
end-any version first four l at e = go (ltb (length l) (at + 2)) (eqb h 0) _ e
  where
    h : ℕ
    h = be_at 2 l at

    bad : (n : ℕ) → bad_vector n ≡ list_end → ⊥
    bad n i = let z : ◌≡◌ {A = ℕ} 0 1 = cc in omega arith

    neither : (b : Bool) → cond b (bad_vector 6) (vector_head h) ≡ list_end → ⊥
    neither true i = bad 6 i
    neither false i = let z : ◌≡◌ {A = ℕ} 0 1 = cc in omega arith

    go : (a b : Bool) (x : InList)
        → cond a (bad_vector 3)
        (cond b list_end
        (cond (strange_leave h) (bad_vector 6)
        (cond (ltb (length l) (vector_end first four at h)) (bad_vector 3)
        (cond (strange_leave h || overpacked (part (at + 2 + first) (three_length (h % 8192)) l)) (bad_vector 6) (vector_head h))))) ≡ list_end
        → cond a (bad_vector 3) (cond b list_end x) ≡ list_end
    go true b x i = i
    go false true x i = refl
    go false false x i =
        let c = passed (strange_leave h) _ _ _ (bad 6) i in
        let d = passed (ltb (length l) (vector_end first four at h)) _ _ _ (bad 3) c.1 in
        absurd (neither (strange_leave h || overpacked (part (at + 2 + first) (three_length (h % 8192)) l)) d.1)

-- an EndMark of a type is one that was read
end-typed : (version : ℕ) (k : Attribute) (l : List ℕ) (at : ℕ) (r : InList) → vector_in 0 (first_length k) (has_four k) l at ≡ r → checked_in k l at r ≡ list_end
    → typed_in version k l at ≡ list_end
unfolding checked_in typed_in
end-typed version k l at (bad_vector n) i e = let z : ◌≡◌ {A = ℕ} 0 1 = cc in absurd (omega arith)
end-typed version k l at list_end i e = ap (checked_in k l at) (end-any version (first_length k) (has_four k) l at i) ∙ e
end-typed version k l at (vector_head h) i e =
    let a = passed (overflows (vector_at k l at h)) (bad_vector 7) _ _ (λ j. let z : ◌≡◌ {A = ℕ} 0 1 = cc in omega arith) e in
    let z : ◌≡◌ {A = ℕ} 0 1 = cc in
    absurd (omega arith)
end-typed version k l at (passed_over h) i e = let z : ◌≡◌ {A = ℕ} 0 1 = cc in absurd (omega arith)

module _ (version : ℕ) (k : Attribute) (l : List ℕ) where
  alike_from : (f : ℕ) → ((at : ℕ) (vs : List Vector) → vectors f 0 k l at ≡ found vs → vectors f version k l at ≡ found vs) → (at : ℕ) (r : InList) → typed_in 0 k l at ≡ r
      → (vs : List Vector) → vectors_from k l at r (vectors f 0 k l) ≡ found vs → vectors (suc f) version k l at ≡ found vs
  unfolding vectors vectors_from also
  alike_from f ih at (bad_vector n) i vs e = absurd (no-fault n vs e)
  alike_from f ih at list_end i vs e =
      let t : typed_in version k l at ≡ list_end = end-typed version k l at (vector_in 0 (first_length k) (has_four k) l at) refl (unfold typed_in in i) in
      rw t e
  alike_from f ih at (vector_head h) i vs e =
      let a = also-found (vector_at k l at h) _ vs e in
      let p = passed-all 0 k l at h i in
      let q = p.fitting in
      vectors-more f version k l at h (vector_at k l at h) q.is q.some q.leave q.header q.fits refl (unfold vector_at in q.packed) p.within
      ∙ ap (also (vector_at k l at h)) (ih _ a.0 a.1) ∙ sym (ap found a.2)
  alike_from f ih at (passed_over h) i vs e =
      absurd (true≢false (passing-over 0 (first_length k) (has_four k) l at h (over-typed 0 k l at h i)).newer)

  alike-vectors : (f at : ℕ) (vs : List Vector) → vectors f 0 k l at ≡ found vs → vectors f version k l at ≡ found vs
  alike-vectors zero at vs e = absurd (no-fault 3 vs (unfold vectors in e))
  alike-vectors (suc f) at vs e = alike_from f (alike-vectors f) at (typed_in 0 k l at) refl vs (unfold vectors in e)

module _ (version : ℕ) (s : List ℕ) where
  alike-message : (f at : ℕ) → ((vs : List Vector) → was_messages f version s (message_end s at) ≡ found vs → messages f version s (message_end s at) ≡ found vs)
      → (i : InPdu) (vs : List Vector) → was_messages_from s at i (was_messages f version s (message_end s at)) ≡ found vs
      → messages_from version s at i (messages f version s (message_end s at)) ≡ found vs
  unfolding was_messages_from messages_from both
  alike-message f at ih (bad_message n) vs e = e
  alike-message f at ih pdu_end vs e = e
  alike-message f at ih list_skipped vs e = ih vs e
  alike-message f at ih (list_of k) vs e =
      let n = suc (list_length s at) in
      let b = both_found (was_vectors n k (list_at s at) 0) _ vs e in
      let own : vectors n version k (list_at s at) 0 ≡ found b.0 = alike-vectors version k (list_at s at) n 0 b.0 (sym (was-vectors n k (list_at s at) 0) ∙ b.2) in
      rw (own, ih b.1 b.3) (sym (ap found b.4))

  alike-messages : (f at : ℕ) (vs : List Vector) → was_messages f version s at ≡ found vs → messages f version s at ≡ found vs
  unfolding was_messages messages
  alike-messages zero at vs e = e
  alike-messages (suc f) at vs e = alike-message f at (alike-messages f (message_end s at)) (message_in version s at) vs e

pub accepted-before : (s : List ℕ) (vs : List Vector) → was_walk s ≡ found vs → walk s ≡ found vs
unfolding walk was_walk
accepted-before s vs e =
    let a = passed (eqb (length s) 0) _ _ _ (no-fault 2 vs) e in
    let b = passed (ltb longest_pdu (length s)) _ _ _ (no-fault 2 vs) a.1 in
    rw (a.0, b.0) (alike-messages (get_or s 0 0) s (suc (length s)) 1 vs b.1)

-- "the vectors after it should be read": the walk goes on behind a vector that is passed over.
pub goes_on_lem : (f version : ℕ) (k : Attribute) (l : List ℕ) (at h : ℕ) → typed_in version k l at ≡ passed_over h
    → vectors (suc f) version k l at ≡ vectors f version k l (vector_end (first_length k) (has_four k) at h)
unfolding vectors vectors_from
goes_on_lem f version k l at h e = rw e
