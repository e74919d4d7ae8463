-- Numbers of parts that rise, a StreamID's or an address's: what a test of each beside the next says of them all.
use Rattle.std.proofs.Common.{◌≡◌, ℕ, zero, suc, ◌<◌, List, [], ◌∷◌, Bool, true, false, take, drop, length, get_or, refl, sym, ap, ◌∙◌, arith, ltb}
use native.Mathlib.Numerals.{add-one}
use mathlib.Core.Bool.{and-false}
use Rattle.std.specs.List.{IsAllAdjacentAnswer}
use Rattle.model.specs.Lists.{parts}
use Rattle.model.specs.Table.{rising}
use Rattle.form.proofs.Parts.{same}

module _ (number : List ℕ → ℕ) where
  abbrev numbers : List (List ℕ) → List ℕ
  numbers [] = []
  numbers (x ∷ xs) = number x ∷ numbers xs

  numbers-parts : (n k : ℕ) (s : List ℕ) → numbers (parts n same k s) ≡ parts n number k s
  unfolding parts
  numbers-parts n zero s = refl
  numbers-parts n (suc k) s = ap (λ (l : List ℕ). number (take n s) ∷ l) (numbers-parts n k (drop n s))

  rise-all : (xs : List (List ℕ)) → ((k : ℕ) → suc k < length xs → true ≡ ltb (number (get_or xs k [])) (number (get_or xs (suc k) []))) → true ≡ rising (numbers xs)
  unfolding rising
  rise-all [] h = refl
  rise-all (x ∷ []) h = refl
  rise-all (x ∷ y ∷ xs) h = rw (← (h 0 (omega arith))) (rise-all (y ∷ xs) (λ k l. h (suc k) (omega arith)))

  fall-one : (xs : List (List ℕ)) (k : ℕ) → suc k < length xs → false ≡ ltb (number (get_or xs k [])) (number (get_or xs (suc k) [])) → false ≡ rising (numbers xs)
  unfolding rising
  fall-one [] k l e = absurd (omega arith)
  fall-one (x ∷ []) k l e = absurd (omega arith)
  fall-one (x ∷ y ∷ xs) zero l e = rw (← e) refl
  fall-one (x ∷ y ∷ xs) (suc k) l e = rw (← (fall-one (y ∷ xs) k (omega arith) e)) (sym (and-false (ltb (number x) (number y))))

  pub sorted-parts : (n k : ℕ) (s : List ℕ) (r : Bool) → IsAllAdjacentAnswer (λ (x y : List ℕ) (b : Bool). b ≡ ltb (number x) (number y)) (parts n same k s) r
      → r ≡ rising (parts n number k s)
  sorted-parts n k s true h = rise-all (parts n same k s) (λ j l. rw (← (add-one j)) (h j [] (omega arith))) ∙ ap rising (numbers-parts n k s)
  sorted-parts n k s false h = fall-one (parts n same k s) h.0 (omega (arith, h.1)) (rw (← (add-one h.0)) (h.2 [])) ∙ ap rising (numbers-parts n k s)
