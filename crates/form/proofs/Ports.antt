-- Tests of one port's part beside another part of the port, port by port: the model's rules of both.
use Rattle.std.proofs.Common.{◌≡◌, ℕ, zero, suc, ◌+◌, ◌≤◌, ◌<◌, List, [], ◌∷◌, Bool, true, false, ◌&&◌, take, drop, length, get_or, refl, sym, ap, ◌∙◌, arith}
use native.Mathlib.Numerals.{add-one}
use mathlib.Core.Bool.{and_assoc, and-true}
use Rattle.model.specs.Layout.{cell_size, result_size, sends_size}
use Rattle.model.specs.Lists.{parts}
use Rattle.model.specs.Sending.{to_sends, sends_formed}
use Rattle.model.specs.Table.{every_part, every_port, to_cell, to_result, result_formed, stored_formed, sent_formed}
use Rattle.form.specs.Asks.{all_pairs, result_beside, sent_beside}
use Rattle.form.proofs.Parts.{same}

pub two-by-two : (a b c d : Bool) → ((a && b) && (c && d)) ≡ ((a && c) && (b && d))
two-by-two true true c d = refl
two-by-two true false true d = refl
two-by-two true false false d = refl
two-by-two false b c d = refl

-- one more pair, as at a turn of a loop
pairs-suc : {A B : Type 0} (test : A → B → Bool) (xs : List A) (ys : List B) (i : ℕ) (d : A) (e : B) → i < length xs → i < length ys
    → all_pairs test (take (suc i) xs) (take (suc i) ys) ≡ (all_pairs test (take i xs) (take i ys) && test (get_or xs i d) (get_or ys i e))
pairs-suc test [] ys i d e h l = absurd (omega arith)
pairs-suc test (x ∷ xs) [] i d e h l = absurd (omega arith)
pairs-suc test (x ∷ xs) (y ∷ ys) zero d e h l = and-true (test x y)
pairs-suc test (x ∷ xs) (y ∷ ys) (suc i) d e h l =
    ap (λ (b : Bool). test x y && b) (pairs-suc test xs ys i d e (omega arith) (omega arith))
    ∙ sym (and_assoc (test x y) (all_pairs test (take i xs) (take i ys)) (test (get_or xs i d) (get_or ys i e)))

pub pairs-more : {A B : Type 0} (test : A → B → Bool) (xs : List A) (ys : List B) (i : ℕ) (d : A) (e : B) → i < length xs → i < length ys
    → all_pairs test (take (i + 1) xs) (take (i + 1) ys) ≡ (all_pairs test (take i xs) (take i ys) && test (get_or xs i d) (get_or ys i e))
pairs-more test xs ys i d e h l = rw (add-one i) (pairs-suc test xs ys i d e h l)

-- the rule of a part of n octets, and that of it beside one of m
module _ {A B : Type 0} (m n : ℕ) (to_a : List ℕ → A) (to_b : List ℕ → B) (rule : List ℕ → Bool) (beside : A → B → Bool) where
  abbrev both : List ℕ → List ℕ → Bool
  both a b = rule b && beside (to_a a) (to_b b)

  pairs-beside : (k j : ℕ) (xs ys : List ℕ) → k ≤ j → all_pairs both (parts m same k xs) (parts n same k ys)
      ≡ (every_part n rule k ys && every_port beside k (parts m to_a j xs) (parts n to_b j ys))
  unfolding parts every_part every_port
  pairs-beside zero j xs ys h = refl
  pairs-beside (suc k) zero xs ys h = absurd (omega arith)
  pairs-beside (suc k) (suc j) xs ys h =
      rw (pairs-beside k j (drop m xs) (drop n ys) (omega arith))
      (two-by-two (rule (take n ys)) (beside (to_a (take m xs)) (to_b (take n ys))) (every_part n rule k (drop n ys))
      (every_port beside k (parts m to_a j (drop m xs)) (parts n to_b j (drop n ys))))

pub pairs-results : (clock n k : ℕ) (cs rs : List ℕ) → k ≤ 8 → all_pairs (result_beside clock n) (parts cell_size same k cs) (parts result_size same k rs)
    ≡ (every_part result_size (result_formed clock) k rs && every_port (stored_formed n) k (parts cell_size to_cell 8 cs) (parts result_size to_result 8 rs))
unfolding result_beside
pairs-results clock n k cs rs h = pairs-beside cell_size result_size to_cell to_result (result_formed clock) (stored_formed n) k 8 cs rs h

pub pairs-sends : (k : ℕ) (rs ss : List ℕ) → k ≤ 8 → all_pairs sent_beside (parts result_size same k rs) (parts sends_size same k ss)
    ≡ (every_part sends_size sends_formed k ss && every_port sent_formed k (parts result_size to_result 8 rs) (parts sends_size to_sends 8 ss))
unfolding sent_beside
pairs-sends k rs ss h = pairs-beside result_size sends_size to_result to_sends sends_formed sent_formed k 8 rs ss h
