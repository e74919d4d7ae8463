-- The first parts of octets, as code goes over them, and what the model says of them all, of one of them, and of how many.
use Rattle.std.proofs.Common.{◌≡◌, ℕ, zero, suc, ◌+◌, ◌-◌, ◌*◌, ◌≤◌, ◌<◌, List, ◌∷◌, Bool, true, false, cond, ◌&&◌, ◌||◌, take, drop, length, get_or, refl, sym, ap, ◌∙◌, arith, count_by}
use lib.Seq.{get_or-take, drop-drop, take_all}
use lib.ListN.{length-drop}
use native.Mathlib.Nat.{add-zero, suc-mul}
use Rattle.std.specs.List.{list_all, list_any}
use Rattle.std.specs.Simd.{first_chunks}
use Rattle.std.proofs.lemmas.List.Sums.{sum_by-cons, count_by_more_yes, count_by_more_no}
use Rattle.model.specs.Layout.{cell_size, in_cell, in_sends, record_size, result_size, sends_size}
use Rattle.model.specs.Lists.{parts, bit}
use Rattle.model.specs.Table.{every_part, holds, sends, any_holds, cells_part, talkers, to_cell, declarers, to_result}
use Rattle.model.proofs.Cells.{talking-read}
use Rattle.form.specs.Asks.{registers, talks, declares_any, sends_any}
use Rattle.form.proofs.Stored.{as_bit, declared-read}

-- the octets of a part
abbrev pub same : List ℕ → List ℕ
same = λ s. s

-- what is lent from a place on
pub lent-rest : (a : ℕ) (s : List ℕ) → take (length s - a) (drop a s) ≡ drop a s
lent-rest a s = take_all (length s - a) (drop a s) (omega (arith, length-drop a s))

-- one more, as at a turn of a loop
pub count-more : {A : Type 0} (p : A → Bool) (xs : List A) (i : ℕ) (d : A) → i < length xs → count_by p (take (i + 1) xs) ≡ count_by p (take i xs) + cond (p (get_or xs i d)) 1 0
count-more p xs i d h = go (p (get_or xs i d)) refl
  where
    go : (b : Bool) → p (get_or xs i d) ≡ b → count_by p (take (i + 1) xs) ≡ count_by p (take i xs) + cond b 1 0
    go true e = count_by_more_yes p xs i d h e
    go false e = count_by_more_no p xs i d h e ∙ sym (add-zero _)

-- the first k of m chunks
pub first-parts : (n k m : ℕ) (s : List ℕ) → k ≤ m → take k (first_chunks n m s) ≡ parts n same k s
unfolding parts
first-parts n zero m s h = refl
first-parts n (suc k) zero s h = absurd (omega arith)
first-parts n (suc k) (suc m) s h = ap (λ (l : List (List ℕ)). take n s ∷ l) (first-parts n k m (drop n s) (omega arith))

-- the parts behind the first
pub drop-parts : (n k : ℕ) (s : List ℕ) → drop (k * n) (drop n s) ≡ drop (suc k * n) s
drop-parts n k s =
    let e : n + k * n ≡ suc k * n = omega (arith, suc-mul k n) in
    drop-drop (k * n) n s ∙ ap (λ (m : ℕ). drop m s) e

pub all-parts : (n : ℕ) (rule : List ℕ → Bool) (k : ℕ) (s : List ℕ) → list_all rule (parts n same k s) ≡ every_part n rule k s
unfolding parts every_part
all-parts n rule zero s = refl
all-parts n rule (suc k) s = ap (λ (b : Bool). rule (take n s) && b) (all-parts n rule k (drop n s))

pub any-cells : (k : ℕ) (s : List ℕ) → list_any registers (parts cell_size same k s) ≡ holds k s
unfolding parts holds
any-cells zero s = refl
any-cells (suc k) s =
    rw (
      get_or-take cell_size s in_cell.talker 0 (omega arith),
      get_or-take cell_size s in_cell.listener 0 (omega arith),
      any-cells k (drop cell_size s),
    )

pub any-sends : (k : ℕ) (s : List ℕ) → list_any sends_any (parts sends_size same k s) ≡ sends k s
unfolding parts sends
any-sends zero s = refl
any-sends (suc k) s =
    rw (
      get_or-take sends_size s in_sends.advertising 0 (omega arith),
      get_or-take sends_size s in_sends.failing 0 (omega arith),
      get_or-take sends_size s in_sends.listening 0 (omega arith),
      any-sends k (drop sends_size s),
    )

pub any-records : (ports k : ℕ) (s : List ℕ) → list_any (λ (r : List ℕ). holds ports (cells_part r)) (parts record_size same k s) ≡ any_holds ports k s
unfolding parts any_holds
any-records ports zero s = refl
any-records ports (suc k) s = ap (λ (b : Bool). holds ports (cells_part (take record_size s)) || b) (any-records ports k (drop record_size s))

count-cons : {A : Type 0} (p : A → Bool) (x : A) (xs : List A) → count_by p (x ∷ xs) ≡ bit (p x) + count_by p xs
count-cons p x xs = sum_by-cons (λ y. cond (p y) 1 0) x xs ∙ ap (λ (n : ℕ). n + count_by p xs) (as_bit (p x))

pub count-talkers : (k j : ℕ) (s : List ℕ) → k ≤ j → count_by talks (parts cell_size same k s) ≡ talkers k (parts cell_size to_cell j s)
unfolding parts talkers
count-talkers zero j s h = refl
count-talkers (suc k) zero s h = absurd (omega arith)
count-talkers (suc k) (suc j) s h =
    count-cons talks (take cell_size s) (parts cell_size same k (drop cell_size s))
    ∙ rw (talking-read (take cell_size s), count-talkers k j (drop cell_size s) (omega arith))

pub count-declarers : (k j : ℕ) (s : List ℕ) → k ≤ j → count_by declares_any (parts result_size same k s) ≡ declarers k (parts result_size to_result j s)
unfolding parts declarers
count-declarers zero j s h = refl
count-declarers (suc k) zero s h = absurd (omega arith)
count-declarers (suc k) (suc j) s h =
    count-cons declares_any (take result_size s) (parts result_size same k (drop result_size s))
    ∙ rw (declared-read (take result_size s), count-declarers k j (drop result_size s) (omega arith))
