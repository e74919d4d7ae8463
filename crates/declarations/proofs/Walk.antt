-- The walk over the declarers that writes the vectors of one type: what is written, with what is left to write, is the whole.
use Prim.Native.Nat.{ℕ, suc, ◌+◌, ◌-◌, ◌*◌, ◌≤◌, ◌<◌}
use native.Mathlib.Nat.{suc-mul}
use native.Mathlib.Omega.{arith}
use mathlib.Core.Path.{◌≡◌, refl, sym, ap, ◌∙◌}
use mathlib.Core.Bool.{Bool, true, false}
use mathlib.Core.List.{List, ◌++◌, append_assoc, append-nil}
use lib.ListN.{length, take, drop, length-append}
use lib.Seq.{take_all, take_at, length-take-le}
use lib.Dec.{ltb}
use borrow.Author.Tests.{ltb-true, ltb-false}
use Rattle.octets.specs.Fields.{flat}
use Rattle.octets.proofs.Parts.{length-patch}
use Rattle.octets.proofs.Patches.{lent-patch}
use Rattle.octets.proofs.Fields.{flat_append}
use Rattle.model.specs.State.{Bridge}
use Rattle.model.specs.Frames.{Attribute}
use Rattle.model.specs.Declarations.{Said}
use Rattle.model.specs.WrittenFrames.{declaration_vector, vector_octets}
use Rattle.declarations.specs.Vectors.{some}
use Rattle.declarations.specs.Passes.{declarers, said_by, said_from, vectors}
use Rattle.declarations.proofs.Declared.{said-end, nothing_said, said-counted, said-taken}

pub vectors-append : (l m : List Said) → vectors (l ++ m) ≡ vectors l ++ vectors m
unfolding vectors
vectors-append l m = flat_append (λ d. vector_octets (declaration_vector d)) l m

-- vectors of a size, in a slice out: so many declarations are still to write, from place k on
module _ (j : Attribute) (p : ℕ) (b : Bridge) (size : ℕ) (whole : List Said) where
  pub record Left (out : List ℕ) (left at k : ℕ) : Type 0 where
    pub room : at + left * size ≡ length out
    pub enough : left ≤ length (said_from j p b k)
    pub is : take at out ++ vectors (take left (said_from j p b k)) ≡ vectors whole

  module _ {out : List ℕ} {left at k : ℕ} (w : Left out left at k) where
    pub left-done : left ≡ 0 → out ≡ vectors whole
    unfolding vectors flat
    left-done h =
        let e : length out ≤ at = omega (arith, rw h at w.room) in
        sym (take_all at out e) ∙ sym (append-nil (take at out)) ∙ (rw h at w.is)

    -- where some are left, a declarer is, and the octets of a vector
    module _ (some_left : 0 < left) where
      one_left : k < declarers j p b
      one_left = go (ltb k (declarers j p b)) refl
        where
          go : (t : Bool) → ltb k (declarers j p b) ≡ t → k < declarers j p b
          go true e = ltb-true k (declarers j p b) e
          go false e = absurd (omega (arith, w.enough, ap length (said-end j p b k (ltb-false k (declarers j p b) e))))

      pub one-fits : at + size ≤ length out
      one-fits =
          let i : suc (left - 1) ≡ left = omega arith in
          omega (arith, w.room, rw i at (suc-mul (left - 1) size))

      pub left-none : some (said_by j p b k) ≡ false → Left out left at (k + 1)
      left-none q =
          let e = nothing_said j p b k one_left q in
          record { room = w.room; enough = omega (arith, w.enough, ap length e); is = rw e at w.is }

      -- a vector y written behind the others
      module _ (q : some (said_by j p b k) ≡ true) (y : List ℕ) (z : length y ≡ size) where
        left-long : length (take at out ++ (y ++ drop (at + size - at) (drop at out))) ≡ length out
        left-long = ap length (lent-patch at size y out) ∙ length-patch at size y out z one-fits

        pub left-take : y ≡ vectors (said_by j p b k)
            → Left (take at out ++ (y ++ drop (at + size - at) (drop at out))) (left - 1) (at + size) (k + 1)
        left-take v =
            let i : suc (left - 1) ≡ left = omega arith in
            let m = rw i at (suc-mul (left - 1) size) in
            let front = take at out in
            let behind = drop (at + size - at) (drop at out) in
            let rest = take (left - 1) (said_from j p b (k + 1)) in
            let long : length (front ++ y) ≡ at + size = length-append front y ∙ omega (arith, length-take-le at out (omega (arith, one-fits))) in
            record {
              room = omega (arith, left-long, w.room);
              enough = omega (arith, w.enough, said-counted j p b k one_left q);
              is =
                  ap (λ (u : List ℕ). u ++ vectors rest)
                  (ap (take (at + size)) (sym (append_assoc front y behind)) ∙ take_at (front ++ y) behind (at + size) long)
                  ∙ append_assoc front y (vectors rest)
                  ∙ ap (λ (u : List ℕ). front ++ (u ++ vectors rest)) v
                  ∙ ap (λ (u : List ℕ). front ++ u) (sym (vectors-append (said_by j p b k) rest))
                  ∙ ap (λ (u : List Said). front ++ vectors u) (sym (said-taken j p b k one_left q left some_left))
                  ∙ w.is;
            }
