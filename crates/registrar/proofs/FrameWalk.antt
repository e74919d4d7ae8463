-- The walk over a well-formed frame, Message by Message and vector by vector: the acts of what stands at a place, and then those
-- of what follows.
use Prim.Native.Nat.{ℕ, zero, suc, ◌-◌}
use mathlib.Core.Path.{◌≡◌, refl, sym, ◌∙◌, ap}
use mathlib.Core.List.{List, [], ◌++◌}
use mathlib.Core.Bool.{true, false≢true}
use native.Mathlib.Omega.{arith}
use lib.ListN.{length, take, drop}
use Rattle.octets.specs.Be.{be_at}
use Rattle.model.specs.Attributes.{type_of}
use Rattle.model.specs.Registrations.{Act}
use Rattle.model.specs.Frames.{Attribute, known, Vector, vector_at, Walk, fault, found, vectors, messages, vector_acts, frame_acts}
use Rattle.model.proofs.FoundVectors.{no-fault}
use Rattle.std.specs.Prelude.{Ok, Err}
use Rattle.model.specs.declared.refusal.Refusal.{Refusal}
use Rattle.msrpdu.specs.Reader.{vectors_in, typed_read, message_read, head_vector}
use Rattle.msrpdu.specs.declared.VectorHead.{VectorHead}
use Rattle.msrpdu.specs.declared.MessageHead.{MessageHead}
use Rattle.msrpdu.proofs.Walking.{ahead-list, list_length_lem}
use Rattle.msrpdu.proofs.Applying.{found-next, found-over, found-end, found-accepted, NextList, found-list, found-skipped, found-done, found-allowed, acts-next, acts-append}
use Rattle.msrpdu.specs.declared.VectorRead.TheVariants as vector
use Rattle.msrpdu.specs.declared.MessageRead.TheVariants as message
use Rattle.registrar.specs.Acts.{is_found, acts_of}
use Rattle.registrar.proofs.VectorActs.{vector-meant}

-- the vectors that a walk without a fault finds
pub record Finds (w : Walk) : Type 0 where
  pub all : List Vector
  pub is : w ≡ found all
  pub acts : acts_of w ≡ frame_acts all

pub finds : (w : Walk) → is_found w ≡ true → Finds w
unfolding is_found acts_of
finds (fault n) e = absurd (false≢true e)
finds (found vs) e = record { all = vs; is = refl; acts = refl }

pub is_found_lem : (w : Walk) (vs : List Vector) → w ≡ found vs → is_found w ≡ true
unfolding is_found
is_found_lem w vs e = rw e

acts-are : (w : Walk) (vs : List Vector) → w ≡ found vs → acts_of w ≡ frame_acts vs
unfolding acts_of
acts-are w vs e = rw e

-- An AttributeList, with the vectors vs left from a place on.

vectors-fuel : (f version : ℕ) (k : Attribute) (l : List ℕ) (at : ℕ) (vs : List Vector) → vectors f version k l at ≡ found vs → f ≡ suc (f - 1)
vectors-fuel zero version k l at vs e = absurd (no-fault 3 vs (unfold vectors in e))
vectors-fuel (suc f) version k l at vs e = omega arith

module _ (f version : ℕ) (k : Attribute) (l : List ℕ) (at : ℕ) (vs : List Vector)
    (e : vectors (suc f) version k l at ≡ found vs) where
  -- a vector, and those after it
  pub record Next (w : VectorHead) : Type 0 where
    pub rest : List Vector
    pub acts : frame_acts vs ≡ vector_acts (head_vector k l w) ++ frame_acts rest
    pub left : vectors (suc (f - 1)) version k l w.next ≡ found rest

  pub next-vector : (w : VectorHead) → typed_read version (known k) l at ≡ Ok (vector.Vector w) → Next w
  unfolding vectors_in
  next-vector w r =
      let n = found-next f version k l at vs e w r in
      record {
        rest = n.rest;
        acts =
            ap frame_acts n.first ∙ acts-next (vector_at k l at (be_at 2 l at)) n.rest
            ∙ ap (λ (v : Vector). vector_acts v ++ frame_acts n.rest) (vector-meant version k l at w r);
        left = rw (← vectors-fuel f version k l w.next n.rest n.left) n.left;
      }

  -- one that is passed over, and those after it
  pub passed-vector : (next : ℕ) → typed_read version (known k) l at ≡ Ok (vector.PassedOver next)
      → vectors (suc (f - 1)) version k l next ≡ found vs
  unfolding vectors_in
  passed-vector next r =
      let g = found-over f version k l at vs e next r in
      rw (← vectors-fuel f version k l next vs g) g

  pub last-vector : typed_read version (known k) l at ≡ Ok vector.EndMark → frame_acts vs ≡ []
  unfolding vectors_in frame_acts
  last-vector r = rw (found-end f version k l at vs e r)

  pub no-fault-here : (n : Refusal) → typed_read version (known k) l at ≡ Err n → ⊥
  unfolding vectors_in
  no-fault-here n r = found-accepted f version k l at vs e n r

-- A frame, with the vectors vs left from a Message on.

messages-fuel : (f version : ℕ) (s : List ℕ) (at : ℕ) (vs : List Vector) → messages f version s at ≡ found vs → f ≡ suc (f - 1)
messages-fuel zero version s at vs e = absurd (no-fault 3 vs (unfold messages in e))
messages-fuel (suc f) version s at vs e = omega arith

module _ (f version : ℕ) (s : List ℕ) (at : ℕ) (vs : List Vector) (e : messages (suc f) version s at ≡ found vs) where
  pub skipped-list : (next : ℕ) → message_read version s at ≡ Ok (message.Skipped next) → messages (suc (f - 1)) version s next ≡ found vs
  skipped-list next r =
      let g = found-skipped f version s at vs e next r in
      rw (← messages-fuel f version s next vs g) g

  pub last-list : message_read version s at ≡ Ok message.End → frame_acts vs ≡ []
  unfolding frame_acts
  last-list r = rw (found-done f version s at vs e r)

  pub no-refusal : (n : Refusal) → message_read version s at ≡ Err n → ⊥
  no-refusal n r = found-allowed f version s at vs e n r

  -- a Message's list, as it is lent, and those after it
  module _ (m : MessageHead) where
    abbrev pub lent_list : List ℕ
    lent_list = take (m.next - m.list) (drop m.list s)

    pub record NextMessage : Type 0 where
      pub rest : List Vector
      pub there : is_found (vectors (suc (length lent_list)) version (type_of m.attribute) lent_list 0) ≡ true
      pub acts : frame_acts vs ≡ acts_of (vectors (suc (length lent_list)) version (type_of m.attribute) lent_list 0) ++ frame_acts rest
      pub left : messages (suc (f - 1)) version s m.next ≡ found rest

    pub next-message : message_read version s at ≡ Ok (message.List m) → NextMessage
    next-message r = record {
      rest = n.rest;
      there = is_found_lem _ n.own own;
      acts = ap frame_acts n.split ∙ acts-append n.own n.rest ∙ ap (λ (es : List Act). es ++ frame_acts n.rest) (sym (acts-are _ n.own own));
      left = rw (← messages-fuel f version s m.next n.rest n.left) n.left;
    }
      where
        n : NextList f version s m vs
        n = found-list f version s at vs e m r

        size : length lent_list ≡ m.next - m.list
        size = let a = ahead-list version s at m r in list_length_lem s m.list m.next a.ends a.within

        own : vectors (suc (length lent_list)) version (type_of m.attribute) lent_list 0 ≡ found n.own
        own = rw size (unfold vectors_in in n.list)
