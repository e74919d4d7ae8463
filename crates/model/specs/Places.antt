-- What a write does to a port's list, and the next place, for any kind of element and any way of moving them.
use Rattle.std.specs.Prelude.{List, [], ◌∷◌, ◌++◌, Bool, true, false, cond, ℕ, zero, suc, length, take, drop}
use Rattle.model.specs.Lists.{keep}

abbrev pub is_none : {A : Type 0} → List A → Bool
is_none [] = true
is_none (x ∷ l) = false

-- Of a write: which declarations have something to say; what is left of one that the PDU reaches (written, or passed with nothing to
-- say), and of any other: one element, or none where it leaves the list.
pub record Way (A : Type 0) : Type 0 where
  pub says : A → Bool
  pub inside : A → List A
  pub outside : A → List A

-- what a write gives: the declarations written, the list as the write leaves it, and the next place
pub record Wrote (A : Type 0) : Type 0 where
  pub run : List A
  pub list : List A
  pub next : ℕ

module _ {A : Type 0} where
  -- one element that stays as it is
  unfoldable pub itself : A → List A
  itself x = x ∷ []

  -- what is left of each
  unfoldable pub each : (A → List A) → List A → List A
  each f [] = []
  each f (x ∷ l) = f x ++ each f l

  -- those with something to say
  unfoldable pub saying : (A → Bool) → List A → List A
  saying f [] = []
  saying f (x ∷ l) = keep (f x) x (saying f l)

  -- where n find room: those before the first that has something to say and finds none; and that one with all behind it
  unfoldable pub reached : (A → Bool) → ℕ → List A → List A
  reached f n [] = []
  reached f zero (x ∷ l) = cond (f x) [] (x ∷ reached f zero l)
  reached f (suc n) (x ∷ l) = x ∷ reached f (cond (f x) n (suc n)) l

  unfoldable pub behind : (A → Bool) → ℕ → List A → List A
  behind f n [] = []
  behind f zero (x ∷ l) = cond (f x) (x ∷ l) (behind f zero l)
  behind f (suc n) (x ∷ l) = behind f (cond (f x) n (suc n)) l

  -- A write from a place, where `takes` says how many of those with something to say one PDU has room for. "The next place counts in
  -- the list as the write leaves it" (02): those left of what stood before the first one that finds no room.
  unfoldable pub left_before : Way A → ℕ → ℕ → List A → List A
  left_before w n place l = each w.outside (take place l) ++ each w.inside (reached w.says n (drop place l))

  unfoldable pub write_from : Way A → (List A → ℕ) → ℕ → List A → Wrote A
  write_from w takes place l =
      let n = takes (saying w.says (drop place l)) in
      record {
        run = take n (saying w.says (drop place l));
        list = left_before w n place l ++ each w.outside (behind w.says n (drop place l));
        next = length (left_before w n place l);
      }

  -- PDU after PDU, each answer's next place being the next call's, until one says nothing: the runs, and the list that is left.
  -- (The first number bounds the PDUs.)
  unfoldable pub runs : Way A → (List A → ℕ) → ℕ → ℕ → List A → List (List A)
  runs w takes zero place l = []
  runs w takes (suc f) place l =
      let r = write_from w takes place l in
      cond (is_none r.run) [] (r.run ∷ runs w takes f r.next r.list)

  unfoldable pub left : Way A → (List A → ℕ) → ℕ → ℕ → List A → List A
  left w takes zero place l = l
  left w takes (suc f) place l =
      let r = write_from w takes place l in
      cond (is_none r.run) r.list (left w takes f r.next r.list)
