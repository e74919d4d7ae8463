-- Laws of what a write leaves of a list, of those with something to say, and of how far a PDU reaches.
use mathlib.Core.Path.{◌≡◌, refl, sym, ◌∙◌, ap}
use mathlib.Core.List.{List, [], ◌∷◌, ◌++◌, append_assoc}
use mathlib.Core.Bool.{Bool, true, false, cond, true≢false, false≢true}
use Prim.Native.Nat.{ℕ, zero, suc, ◌≤◌}
use native.Mathlib.Omega.{arith}
use lib.ListN.{length, take, drop}
use lib.Seq.{take-nil, drop-nil}
use Rattle.model.specs.Lists.{All, keep}
use Rattle.model.specs.Places.{is_none, itself, each, saying, reached, behind}
use Rattle.model.proofs.Lists.{all_append}

module _ {A : Type 0} where
  pub each_append : (f : A → List A) (l m : List A) → each f (l ++ m) ≡ each f l ++ each f m
  unfolding each
  each_append f [] m = refl
  each_append f (x ∷ l) m = ap (λ (r : List A). f x ++ r) (each_append f l m) ∙ sym (append_assoc (f x) (each f l) (each f m))

  pub each-itself : (l : List A) → each itself l ≡ l
  unfolding each itself
  each-itself [] = refl
  each-itself (x ∷ l) = ap (λ (r : List A). x ∷ r) (each-itself l)

  -- what holds of what is left of each
  pub each_all : (P Q : A → Type 0) (f : A → List A) → ((x : A) → P x → All Q (f x)) → (l : List A) → All P l → All Q (each f l)
  unfolding each
  each_all P Q f h [] a = tt
  each_all P Q f h (x ∷ l) a = all_append Q (f x) (each f l) (h x a.0) (each_all P Q f h l a.1)

  pub no_length : (l : List A) → length l ≤ 0 → l ≡ []
  no_length [] h = refl
  no_length (x ∷ l) h = absurd (omega arith)

  pub none-there : (l : List A) → is_none l ≡ true → length l ≤ 0
  none-there [] e = omega arith
  none-there (x ∷ l) e = absurd (false≢true e)

  pub some-there : (l : List A) → is_none l ≡ false → 1 ≤ length l
  some-there [] e = absurd (true≢false e)
  some-there (x ∷ l) e = omega arith

  pub cons-apart : {x : A} {l : List A} → x ∷ l ≡ [] → ⊥
  cons-apart {x} {l} e = true≢false (ap is_none (sym e))

  -- How far a PDU reaches.
  module _ (f : A → Bool) where
    pub reached-behind : (n : ℕ) (l : List A) → reached f n l ++ behind f n l ≡ l
    unfolding reached behind
    reached-behind n [] = refl
    reached-behind zero (x ∷ l) = go (f x) (reached-behind zero l)
      where
        go : (t : Bool) → reached f zero l ++ behind f zero l ≡ l → cond t [] (x ∷ reached f zero l) ++ cond t (x ∷ l) (behind f zero l) ≡ x ∷ l
        go true ih = refl
        go false ih = ap (λ (r : List A). x ∷ r) ih
    reached-behind (suc n) (x ∷ l) = ap (λ (r : List A). x ∷ r) (reached-behind (cond (f x) n (suc n)) l)

    -- what is behind has what is left to say
    pub saying-behind : (n : ℕ) (l : List A) → saying f (behind f n l) ≡ drop n (saying f l)
    unfolding saying behind
    saying-behind n [] = sym (drop-nil n)
    saying-behind zero (x ∷ l) = go (f x) refl (saying-behind zero l)
      where
        go : (t : Bool) → f x ≡ t → saying f (behind f zero l) ≡ saying f l → saying f (cond t (x ∷ l) (behind f zero l)) ≡ keep t x (saying f l)
        go true e ih = ap (λ (b : Bool). keep b x (saying f l)) e
        go false e ih = ih
    saying-behind (suc n) (x ∷ l) = go (f x) (saying-behind n l) (saying-behind (suc n) l)
      where
        go : (t : Bool) → saying f (behind f n l) ≡ drop n (saying f l) → saying f (behind f (suc n) l) ≡ drop (suc n) (saying f l)
            → saying f (behind f (cond t n (suc n)) l) ≡ drop (suc n) (keep t x (saying f l))
        go true a b = a
        go false a b = b

    -- what is reached says what the PDU has room for
    pub saying-reached : (n : ℕ) (l : List A) → saying f (reached f n l) ≡ take n (saying f l)
    unfolding saying reached
    saying-reached n [] = sym (take-nil n)
    saying-reached zero (x ∷ l) = go (f x) refl (saying-reached zero l)
      where
        go : (t : Bool) → f x ≡ t → saying f (reached f zero l) ≡ [] → saying f (cond t [] (x ∷ reached f zero l)) ≡ []
        go true e ih = refl
        go false e ih = ap (λ (b : Bool). keep b x (saying f (reached f zero l))) e ∙ ih
    saying-reached (suc n) (x ∷ l) = go (f x) (saying-reached n l) (saying-reached (suc n) l)
      where
        go : (t : Bool) → saying f (reached f n l) ≡ take n (saying f l) → saying f (reached f (suc n) l) ≡ take (suc n) (saying f l)
            → keep t x (saying f (reached f (cond t n (suc n)) l)) ≡ take (suc n) (keep t x (saying f l))
        go true a b = ap (λ (r : List A). x ∷ r) a
        go false a b = b

    -- where nothing is left to say, all is reached
    pub none-behind : (n : ℕ) (l : List A) → saying f l ≡ [] → behind f n l ≡ []
    unfolding saying behind
    none-behind n [] e = refl
    none-behind zero (x ∷ l) e = go (f x) (none-behind zero l) e
      where
        go : (t : Bool) → (saying f l ≡ [] → behind f zero l ≡ []) → keep t x (saying f l) ≡ [] → cond t (x ∷ l) (behind f zero l) ≡ []
        go true ih e = absurd (cons-apart e)
        go false ih e = ih e
    none-behind (suc n) (x ∷ l) e = go (f x) (none-behind n l) (none-behind (suc n) l) e
      where
        go : (t : Bool) → (saying f l ≡ [] → behind f n l ≡ []) → (saying f l ≡ [] → behind f (suc n) l ≡ []) → keep t x (saying f l) ≡ []
            → behind f (cond t n (suc n)) l ≡ []
        go true a b e = absurd (cons-apart e)
        go false a b e = b e

    -- where all have something to say
    pub all-saying : (l : List A) → All (λ x. f x ≡ true) l → saying f l ≡ l
    unfolding saying
    all-saying [] a = refl
    all-saying (x ∷ l) a = rw a.0 (ap (λ (r : List A). x ∷ r) (all-saying l a.1))

    pub none-saying : (l : List A) → All (λ x. f x ≡ false) l → saying f l ≡ []
    unfolding saying
    none-saying [] a = refl
    none-saying (x ∷ l) a = rw a.0 (none-saying l a.1)

    pub fewer-saying : (l : List A) → length (saying f l) ≤ length l
    unfolding saying
    fewer-saying [] = omega arith
    fewer-saying (x ∷ l) = go (f x) (fewer-saying l)
      where
        go : (t : Bool) → length (saying f l) ≤ length l → length (keep t x (saying f l)) ≤ suc (length l)
        go true h = omega (arith, h)
        go false h = omega (arith, h)

    -- what holds of all holds of those reached, and of those behind
    pub all-reached : (P : A → Type 0) (n : ℕ) (l : List A) → All P l → All P (reached f n l) × All P (behind f n l)
    unfolding reached behind
    all-reached P n [] a = (tt, tt)
    all-reached P zero (x ∷ l) a = go (f x) (all-reached P zero l a.1)
      where
        go : (t : Bool) → All P (reached f zero l) × All P (behind f zero l) → All P (cond t [] (x ∷ reached f zero l)) × All P (cond t (x ∷ l) (behind f zero l))
        go true ih = (tt, a)
        go false ih = ((a.0, ih.0), ih.1)
    all-reached P (suc n) (x ∷ l) a =
        let ih = all-reached P (cond (f x) n (suc n)) l a.1 in
        ((a.0, ih.0), ih.1)
