-- Laws of `all_zero`: octet by octet, and over fields.
use mathlib.Core.Path.{◌≡◌, refl, sym, ap, ◌∙◌}
use mathlib.Core.List.{List, [], ◌∷◌, ◌++◌}
use mathlib.Core.Bool.{Bool, false, ◌&&◌, and_assoc, and-true}
use Prim.Native.Nat.{ℕ, zero, suc, ◌+◌, ◌*◌, ◌≤◌}
use native.Mathlib.Nat.{zero-mul, zero-add}
use native.Mathlib.Omega.{arith}
use lib.ListN.{length, get_or, take, drop}
use lib.Seq.{take_all, take-add, drop-drop}
use lib.Dec.{eqb}
use borrow.Author.Tests.{eq-eqb, ne_eqb}
use Rattle.std.specs.List.{list_all}
use Rattle.octets.specs.Be.{be_at}
use Rattle.octets.specs.Parts.{part}
use Rattle.octets.specs.Fields.{fields, width}
use Rattle.octets.proofs.Parts.{part_none, part-more}
use Rattle.octets.proofs.Fields.{be_at-one}
use Rattle.model.specs.Lists.{all_zero}

pub zero-append : (s t : List ℕ) → all_zero (s ++ t) ≡ (all_zero s && all_zero t)
unfolding all_zero
zero-append [] t = refl
zero-append (b ∷ s) t = rw (zero-append s t) (sym (and_assoc (eqb b 0) (all_zero s) (all_zero t)))

pub zero-first : (b : ℕ) (s : List ℕ) → all_zero (b ∷ s) ≡ (eqb b 0 && all_zero s)
unfolding all_zero
zero-first b s = refl

-- a number is 0 where its octets are
zero_number : (n : ℕ) (s : List ℕ) (at : ℕ) → at + n ≤ length s → eqb (be_at n s at) 0 ≡ all_zero (part at n s)
unfolding be_at
zero_number zero s at h = rw (part_none at s) unfold all_zero in refl
zero_number (suc n) s at h =
    let b = get_or s (at + n) 0 in
    rw (
      zero-octet (be_at n s at) b,
      zero_number n s at (omega arith),
      part-more at n s (omega arith),
      zero-append (part at n s) (b ∷ []),
      zero_one b,
    )
  where
    zero_one : (b : ℕ) → all_zero (b ∷ []) ≡ eqb b 0
    zero_one b = unfold all_zero in and-true (eqb b 0)

    zero-octet : (x b : ℕ) → eqb (x * 256 + b) 0 ≡ (eqb x 0 && eqb b 0)
    zero-octet zero b = rw (zero-mul, zero-add)
    zero-octet (suc x) b = ne_eqb (suc x * 256 + b) 0 (λ e. omega arith) ∙ sym (rw (ne_eqb (suc x) 0 (λ e. omega arith)))

-- the octets of two parts that follow each other
pub zero-parts : (at n m : ℕ) (s : List ℕ) → (all_zero (part at n s) && all_zero (part (at + n) m s)) ≡ all_zero (part at (n + m) s)
unfolding part
zero-parts at n m s = rw (take-add n m (drop at s), drop-drop n at s) (sym (zero-append (take n (drop at s)) (take m (drop (at + n) s))))

-- the number x of the first n octets tested, and then what is behind them
module _ (at n m : ℕ) (s : List ℕ) (h : at + n ≤ length s) (x : ℕ) (e : x ≡ be_at n s at) where
  number-first : (eqb x 0 && all_zero (part (at + n) m s)) ≡ all_zero (part at (n + m) s)
  number-first = rw (e, zero_number n s at h) (zero-parts at n m s)

  pub not-zero : (x ≡ 0 → ⊥) → false ≡ all_zero (part at (n + m) s)
  not-zero k = sym (ap (λ (b : Bool). b && all_zero (part (at + n) m s)) (ne_eqb x 0 k)) ∙ number-first

  pub zero-behind : x ≡ 0 → (b : Bool) → b ≡ all_zero (part (at + n) m s) → b ≡ all_zero (part at (n + m) s)
  zero-behind k b f = f ∙ sym (ap (λ (b : Bool). b && all_zero (part (at + n) m s)) (eq-eqb x 0 k)) ∙ number-first

pub zero-octet : (at : ℕ) (s : List ℕ) → at + 1 ≤ length s → eqb (get_or s at 0) 0 ≡ all_zero (part at 1 s)
zero-octet at s h = ap (λ (x : ℕ). eqb x 0) (be_at-one s at) ∙ zero_number 1 s at h

-- numbers are 0 where the octets of their fields are
pub zero-fields : (ws : List ℕ) (at : ℕ) (s : List ℕ) → at + width ws ≤ length s → all_zero (fields ws at s) ≡ all_zero (part at (width ws) s)
unfolding fields width all_zero
zero-fields [] at s h = rw (part_none at s)
zero-fields (w ∷ ws) at s h =
    rw (zero_number w s at (omega arith), zero-fields ws (at + w) s (omega arith)) (zero-parts at w (width ws) s)

-- as a loop over the octets tests them
each-zero : (s : List ℕ) → list_all (λ b. eqb b 0) s ≡ all_zero s
unfolding all_zero
each-zero [] = refl
each-zero (b ∷ s) = ap (λ (c : Bool). eqb b 0 && c) (each-zero s)

pub zero_all : (i : ℕ) (s : List ℕ) → length s ≤ i → list_all (λ b. eqb b 0) (take i s) ≡ all_zero s
zero_all i s h = rw (take_all i s h) (each-zero s)
