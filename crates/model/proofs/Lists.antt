-- Laws of lists, tests and `All`.
use mathlib.Core.Path.{◌≡◌, refl, sym, ap, ◌∙◌}
use mathlib.Core.Logic.{◌↔◌, ◌⊎◌, inl, inr}
use mathlib.Core.List.Memᴰ
use mathlib.Core.List.{List, [], ◌∷◌, ◌++◌, map, Memᴰ}
use mathlib.Core.Bool.{Bool, true, false, cond, ◌&&◌, true≢false, false≢true}
use Prim.Native.Nat.{ℕ, zero, suc, ◌+◌, ◌≤◌, ◌<◌}
use native.Mathlib.Omega.{arith}
use lib.ListN.{length, get_or, set, take, drop, replicate}
use lib.Dec.{ltb, leb}
use borrow.Author.Tests.{lt-ltb, le-ltb, eq-eqb, ne_eqb, leb-true, leb-false}
use Rattle.model.specs.Lists.{All, all_true, implies, keep, tabulate, on, longest}
use Rattle.model.specs.Registrations.{at}

-- All.

module _ {A : Type 0} (P Q : A → Type 0) where
  pub all_map : ((x : A) → P x → Q x) → (l : List A) → All P l → All Q l
  all_map f [] a = tt
  all_map f (x ∷ l) a = (f x a.0, all_map f l a.1)

  pub all_both : (l : List A) → All P l → All Q l → All (λ x. P x × Q x) l
  all_both [] a b = tt
  all_both (x ∷ l) a b = ((a.0, b.0), all_both l a.1 b.1)

module _ {A : Type 0} (P : A → Type 0) where
  pub all-each : ((x : A) → P x) → (l : List A) → All P l
  all-each f [] = tt
  all-each f (x ∷ l) = (f x, all-each f l)

  pub all_append : (l m : List A) → All P l → All P m → All P (l ++ m)
  all_append [] m a b = b
  all_append (x ∷ l) m a b = (a.0, all_append l m a.1 b)

  pub all_take : (n : ℕ) (l : List A) → All P l → All P (take n l)
  all_take zero l a = tt
  all_take (suc n) [] a = tt
  all_take (suc n) (x ∷ l) a = (a.0, all_take n l a.1)

  pub all_drop : (n : ℕ) (l : List A) → All P l → All P (drop n l)
  all_drop zero l a = a
  all_drop (suc n) [] a = tt
  all_drop (suc n) (x ∷ l) a = all_drop n l a.1

  pub all_keep : (t : Bool) (x : A) (l : List A) → P x → All P l → All P (keep t x l)
  all_keep true x l h a = (h, a)
  all_keep false x l h a = a

  pub all_replicate : (n : ℕ) (x : A) → P x → All P (replicate n x)
  all_replicate zero x h = tt
  all_replicate (suc n) x h = (h, all_replicate n x h)

  -- of the one at a place; and with what stands past the end
  pub all-at : (l : List A) → All P l → (k : ℕ) (d : A) → k < length l → P (get_or l k d)
  all-at [] a k d h = absurd (omega arith)
  all-at (x ∷ l) a zero d h = a.0
  all-at (x ∷ l) a (suc k) d h = all-at l a.1 k d (omega arith)

  pub all_get_or : (l : List A) → All P l → (d : A) → P d → (k : ℕ) → P (get_or l k d)
  all_get_or [] a d h k = h
  all_get_or (x ∷ l) a d h zero = a.0
  all_get_or (x ∷ l) a d h (suc k) = all_get_or l a.1 d h k

  pub all_set : (l : List A) (k : ℕ) (y : A) → All P l → P y → All P (set l k y)
  all_set [] k y a h = tt
  all_set (x ∷ l) zero y a h = (h, a.1)
  all_set (x ∷ l) (suc k) y a h = (a.0, all_set l k y a.1 h)

  pub all-tabulate : (n p : ℕ) (f : ℕ → A) → ((q : ℕ) → P (f q)) → All P (tabulate n p f)
  unfolding tabulate
  all-tabulate zero p f h = tt
  all-tabulate (suc n) p f h = (h p, all-tabulate n (suc p) f h)

-- Membership.

module _ {A : Type 0} where
  -- every element of a list is in it
  pub all_in : (l : List A) → All (λ x. Memᴰ x l) l
  all_in [] = tt
  all_in (x ∷ l) = (Memᴰ.head refl, all_map (λ y. Memᴰ y l) (λ y. Memᴰ y (x ∷ l)) (λ y m. Memᴰ.tail m) l (all_in l))

  pub mem-keep : (t : Bool) (y x : A) (l : List A) → Memᴰ y (keep t x l) ↔ (((t ≡ true) × (y ≡ x)) ⊎ Memᴰ y l)
  mem-keep true y x l = (λ m. there (Memᴰ.cases_cons m), back)
    where
      there : (y ≡ x) ⊎ Memᴰ y l → ((true ≡ true) × (y ≡ x)) ⊎ Memᴰ y l
      there (inl e) = inl (refl, e)
      there (inr m) = inr m

      back : ((true ≡ true) × (y ≡ x)) ⊎ Memᴰ y l → Memᴰ y (x ∷ l)
      back (inl a) = Memᴰ.head a.1
      back (inr m) = Memᴰ.tail m
  mem-keep false y x l = (λ m. inr m, back)
    where
      back : ((false ≡ true) × (y ≡ x)) ⊎ Memᴰ y l → Memᴰ y l
      back (inl a) = absurd (false≢true a.0)
      back (inr m) = m

-- and has a place there
module _ {A : Type 0} (x d : A) where
  pub mem-at : (l : List A) → Memᴰ x l → (k : ℕ) × (k < length l) × (get_or l k d ≡ x)
  mem-at [] m = absurd (Memᴰ.not-nil m)
  mem-at (y ∷ l) m = go (Memᴰ.cases_cons m) (mem-at l)
    where
      go : (x ≡ y) ⊎ Memᴰ x l → (Memᴰ x l → (k : ℕ) × (k < length l) × (get_or l k d ≡ x)) → (k : ℕ) × (k < suc (length l)) × (get_or (y ∷ l) k d ≡ x)
      go (inl e) ih = (0, omega arith, sym e)
      go (inr n) ih = let w = ih n in (suc w.0, omega (arith, w.1), w.2)

-- What a list made from a function has at a place.
module _ {A : Type 0} (f : ℕ → A) where
  pub get_or_tabulate : (n p q : ℕ) (d : A) → q < n → get_or (tabulate n p f) q d ≡ f (p + q)
  unfolding tabulate
  get_or_tabulate zero p q d h = absurd (omega arith)
  get_or_tabulate (suc n) p zero d h = ap f (omega arith)
  get_or_tabulate (suc n) p (suc q) d h = get_or_tabulate n (suc p) q d (omega arith) ∙ ap f (omega arith)

  pub length-tabulate : (n p : ℕ) → length (tabulate n p f) ≡ n
  unfolding tabulate
  length-tabulate zero p = refl
  length-tabulate (suc n) p = ap suc (length-tabulate n (suc p))

  pub at_place : (q : ℕ) (d : A) → q < 8 → get_or (tabulate 8 0 f) q d ≡ f q
  at_place q d h = get_or_tabulate 8 0 q d h ∙ ap f (omega arith)

-- A list with what stands at a place changed.

module _ {A : Type 0} where
  pub length_at : (p : ℕ) (u : A → A) (l : List A) → length (at p u l) ≡ length l
  unfolding at
  length_at p u [] = refl
  length_at zero u (x ∷ l) = refl
  length_at (suc p) u (x ∷ l) = ap suc (length_at p u l)

  pub all_changed : (P : A → Type 0) (p : ℕ) (u : A → A) (l : List A) → ((x : A) → P x → P (u x)) → All P l → All P (at p u l)
  unfolding at
  all_changed P p u [] k a = tt
  all_changed P zero u (x ∷ l) k a = (k x a.0, a.1)
  all_changed P (suc p) u (x ∷ l) k a = (a.0, all_changed P p u l k a.1)

  -- those from a later place on are as before
  pub drop-changed : (n p : ℕ) (u : A → A) (l : List A) → p < n → drop n (at p u l) ≡ drop n l
  unfolding at
  drop-changed zero p u l h = absurd (omega arith)
  drop-changed (suc n) p u [] h = refl
  drop-changed (suc n) zero u (x ∷ l) h = refl
  drop-changed (suc n) (suc p) u (x ∷ l) h = drop-changed n p u l (omega arith)

  -- what stands there then
  pub at_here : (p : ℕ) (u : A → A) (l : List A) (d : A) → p < length l → get_or (at p u l) p d ≡ u (get_or l p d)
  unfolding at
  at_here p u [] d h = absurd (omega arith)
  at_here zero u (x ∷ l) d h = refl
  at_here (suc p) u (x ∷ l) d h = at_here p u l d (omega arith)

  -- what stands at another place is as before
  pub at_other : (p : ℕ) (u : A → A) (l : List A) (q : ℕ) (d : A) → (p ≡ q → ⊥) → get_or (at p u l) q d ≡ get_or l q d
  unfolding at
  at_other p u [] q d n = refl
  at_other zero u (x ∷ l) zero d n = absurd (n refl)
  at_other zero u (x ∷ l) (suc q) d n = refl
  at_other (suc p) u (x ∷ l) zero d n = refl
  at_other (suc p) u (x ∷ l) (suc q) d n = at_other p u l q d (λ e. n (ap suc e))

  -- and at each place, what the change does not touch
  pub at_each : {B : Type 0} (f : A → B) (p : ℕ) (u : A → A) → ((x : A) → f (u x) ≡ f x) →
      (l : List A) (q : ℕ) (d : A) → f (get_or (at p u l) q d) ≡ f (get_or l q d)
  unfolding at
  at_each f p u k [] q d = refl
  at_each f zero u k (x ∷ l) zero d = k x
  at_each f zero u k (x ∷ l) (suc q) d = refl
  at_each f (suc p) u k (x ∷ l) zero d = refl
  at_each f (suc p) u k (x ∷ l) (suc q) d = at_each f p u k l q d

  -- changes at two different places commute
  pub at-commute : (p q : ℕ) (u v : A → A) → (p ≡ q → ⊥) → (l : List A) → at p u (at q v l) ≡ at q v (at p u l)
  unfolding at
  at-commute p q u v n [] = refl
  at-commute zero zero u v n (x ∷ l) = absurd (n refl)
  at-commute zero (suc q) u v n (x ∷ l) = refl
  at-commute (suc p) zero u v n (x ∷ l) = refl
  at-commute (suc p) (suc q) u v n (x ∷ l) = ap (λ (m : List A). x ∷ m) (at-commute p q u v (λ e. n (ap suc e)) l)

-- Tests.

pub and_left : (a b : Bool) → (a && b) ≡ true → a ≡ true
and_left true b e = refl
and_left false b e = e

pub and_right : (a b : Bool) → (a && b) ≡ true → b ≡ true
and_right true b e = e
and_right false b e = absurd (false≢true e)

pub and_both : (a b : Bool) → a ≡ true → b ≡ true → (a && b) ≡ true
and_both true b p q = q
and_both false b p q = p

pub and-true : (a : Bool) → (a && true) ≡ a
and-true true = refl
and-true false = refl

pub and-false : (a : Bool) → (a && false) ≡ false
and-false true = refl
and-false false = refl

pub implied : (a b : Bool) → implies a b ≡ true → a ≡ true → b ≡ true
implied true b h e = h
implied false b h e = absurd (false≢true e)

-- a test that is not asked for, or holds
pub implies_true : (a b : Bool) → (a ≡ true → b ≡ true) → implies a b ≡ true
implies_true true b h = h refl
implies_true false b h = refl

pub all_true_lem : (l : List Bool) → all_true l ≡ true → All (λ b. b ≡ true) l
unfolding all_true
all_true_lem [] e = tt
all_true_lem (b ∷ l) e = (and_left b (all_true l) e, all_true_lem l (and_right b (all_true l) e))

pub true-all : (l : List Bool) → All (λ b. b ≡ true) l → all_true l ≡ true
unfolding all_true
true-all [] a = refl
true-all (b ∷ l) a = and_both b (all_true l) a.0 (true-all l a.1)

-- Arrivals at a port.

module _ {X : Type 0} where
  pub on_same : (p : ℕ) (a : ℕ × X) (f : List (ℕ × X)) → a.0 ≡ p → on p (a ∷ f) ≡ a.1 ∷ on p f
  unfolding on
  on_same p a f e = rw (eq-eqb a.0 p e)

  pub on-other : (p : ℕ) (a : ℕ × X) (f : List (ℕ × X)) → (a.0 ≡ p → ⊥) → on p (a ∷ f) ≡ on p f
  unfolding on
  on-other p a f e = rw (ne_eqb a.0 p e)

-- what stands at a place of a mapped list
pub get_or_map : {A B : Type 0} (f : A → B) (l : List A) (k : ℕ) (d : A) (e : B) → k < length l → get_or (map f l) k e ≡ f (get_or l k d)
get_or_map f [] k d e h = absurd (omega arith)
get_or_map f (x ∷ l) zero d e h = refl
get_or_map f (x ∷ l) (suc k) d e h = get_or_map f l k d e (omega arith)

-- One more is tried until the first that fails a test.

module _ (fits : ℕ → Bool) where
  pub longest-ends : (k : ℕ) → longest fits k 0 ≡ k
  unfolding longest
  longest-ends k = refl

  pub longest-stops : (k n : ℕ) → fits (k + 1) ≡ false → longest fits k (suc n) ≡ k
  unfolding longest
  longest-stops k n e = rw e

  pub longest-goes : (k n : ℕ) → fits (k + 1) ≡ true → longest fits k (suc n) ≡ longest fits (k + 1) n
  unfolding longest
  longest-goes k n e = rw e

  pub longest-within : (k n : ℕ) → (k ≤ longest fits k n) × (longest fits k n ≤ k + n)
  unfolding longest
  longest-within k zero = (omega arith, omega arith)
  longest-within k (suc n) = go (fits (k + 1)) (longest-within (k + 1) n)
    where
      go : (t : Bool) → (k + 1 ≤ longest fits (k + 1) n) × (longest fits (k + 1) n ≤ k + 1 + n)
          → (k ≤ cond t (longest fits (k + 1) n) k) × (cond t (longest fits (k + 1) n) k ≤ k + suc n)
      go true h = (omega arith, omega arith)
      go false h = (omega arith, omega arith)

  pub longest-passes : (k n : ℕ) → fits k ≡ true → fits (longest fits k n) ≡ true
  unfolding longest
  longest-passes k zero h = h
  longest-passes k (suc n) h = go (fits (k + 1)) refl (longest-passes (k + 1) n)
    where
      go : (t : Bool) → fits (k + 1) ≡ t → (fits (k + 1) ≡ true → fits (longest fits (k + 1) n) ≡ true) → fits (cond t (longest fits (k + 1) n) k) ≡ true
      go true e ih = ih e
      go false e ih = h

  -- where more are there, the next fails
  pub longest-full : (k n : ℕ) → longest fits k n < k + n → fits (longest fits k n + 1) ≡ false
  unfolding longest
  longest-full k zero h = absurd (omega arith)
  longest-full k (suc n) h = go (fits (k + 1)) refl (longest-full (k + 1) n) h
    where
      go : (t : Bool) → fits (k + 1) ≡ t → (longest fits (k + 1) n < k + 1 + n → fits (longest fits (k + 1) n + 1) ≡ false)
          → cond t (longest fits (k + 1) n) k < k + suc n → fits (cond t (longest fits (k + 1) n) k + 1) ≡ false
      go true e ih h = ih (omega arith)
      go false e ih h = e

-- the most that pass a test, of n
pub record Longest (fits : ℕ → Bool) (n r : ℕ) : Type 0 where
  pub within : r ≤ n
  pub passes : fits r ≡ true
  pub most : (k : ℕ) → k ≤ n → fits k ≡ true → k ≤ r

-- where with a number every smaller one passes, they are found
pub longest-longest : (fits : ℕ → Bool) → ((j k : ℕ) → j ≤ k → fits k ≡ true → fits j ≡ true) → (n : ℕ) → fits 0 ≡ true
    → Longest fits n (longest fits 0 n)
longest-longest fits fewer n none =
    record { within = omega (arith, (longest-within fits 0 n).1); passes = longest-passes fits 0 n none; most = λ k h e. go k h e (leb k r) refl }
  where
    r : ℕ
    r = longest fits 0 n

    go : (k : ℕ) → k ≤ n → fits k ≡ true → (t : Bool) → leb k r ≡ t → k ≤ r
    go k h e true q = leb-true k r q
    go k h e false q =
        let less : r < k = leb-false k r q in
        absurd (true≢false (sym (fewer (r + 1) k (omega arith) e) ∙ longest-full fits 0 n (omega (arith, (longest-within fits 0 n).1))))

-- a search in two stretches, the second only where all of the first pass
pub longest-split : (fits : ℕ → Bool) (k n m : ℕ)
    → longest fits k (n + m) ≡ cond (ltb (longest fits k n) (k + n)) (longest fits k n) (longest fits (k + n) m)
unfolding longest
longest-split fits k zero m =
    let a : 0 + m ≡ m = omega arith in
    let b : k + 0 ≡ k = omega arith in
    rw (a, b, le-ltb k k (omega arith))
longest-split fits k (suc n) m =
    let a : suc n + m ≡ suc (n + m) = omega arith in
    let b : k + suc n ≡ k + 1 + n = omega arith in
    rw (a, b) (go (fits (k + 1)) (longest-split fits (k + 1) n m))
  where
    r : ℕ
    r = longest fits (k + 1) n

    go : (t : Bool) → longest fits (k + 1) (n + m) ≡ cond (ltb r (k + 1 + n)) r (longest fits (k + 1 + n) m)
        → cond t (longest fits (k + 1) (n + m)) k ≡ cond (ltb (cond t r k) (k + 1 + n)) (cond t r k) (longest fits (k + 1 + n) m)
    go true ih = ih
    go false ih = rw (lt-ltb k (k + 1 + n) (omega arith))

-- only the tests that are asked count
pub longest-same : (f g : ℕ → Bool) (k n : ℕ) → ((i : ℕ) → k < i → i ≤ k + n → f i ≡ g i) → longest f k n ≡ longest g k n
unfolding longest
longest-same f g k zero h = refl
longest-same f g k (suc n) h = rw (h (k + 1) (omega arith) (omega arith), longest-same f g (k + 1) n (λ i a b. h i (omega arith) (omega arith)))

-- and a search from j on counts on from there
pub longest-from : (fits : ℕ → Bool) (j k n : ℕ) → longest fits (j + k) n ≡ j + longest (λ i. fits (j + i)) k n
unfolding longest
longest-from fits j k zero = refl
longest-from fits j k (suc n) =
    let a : j + k + 1 ≡ j + (k + 1) = omega arith in
    rw (a, longest-from fits j (k + 1) n) (go (fits (j + (k + 1))) (longest (λ i. fits (j + i)) (k + 1) n))
  where
    go : (t : Bool) (r : ℕ) → cond t (j + r) (j + k) ≡ j + cond t r k
    go true r = refl
    go false r = refl
