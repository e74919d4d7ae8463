-- Who gets bandwidth on one port in one class: the rule, that nothing else meets it, that the total is the sum of what is
-- admitted and ready and stays within the limit, and what none of it depends on (01, "Settling"; 35.2.4.1).
use mathlib.Core.Path.{◌≡◌, refl, sym, ◌∙◌, ap}
use mathlib.Core.List.Memᴰ
use mathlib.Core.List.{List, [], ◌∷◌, ◌++◌, Memᴰ}
use mathlib.Core.Logic.{◌⊎◌, inl, inr}
use mathlib.Core.Bool.{Bool, true, false, cond, ◌&&◌}
use Prim.Native.Nat.{ℕ, suc, ◌+◌, ◌-◌, ◌^◌, ◌≤◌, ◌<◌}
use native.Mathlib.Omega.{arith}
use lib.Dec.{ltb, leb}
use borrow.Author.Tests.{lt-ltb, le-ltb, ltb-true, ltb-false, leb-true}
use Rattle.model.specs.Lists.{All, keep}
use Rattle.model.specs.Bandwidth.{Claim, key, above, insert, sort, share, reserved, remains, admitted, total, taken}
use Rattle.model.proofs.Lists.{all_map, all-each}

-- The key is the order of importance: "rank 0 before 1, then older, then lower StreamID".

pub by_rank_lem : (c d : Claim) → c.age < 2 ^ 32 → c.id < 2 ^ 64 → c.rank < d.rank → key c < key d
unfolding key
by_rank_lem c d a i h = omega arith

pub by-age : (c d : Claim) → c.id < 2 ^ 64 → c.rank ≡ d.rank → c.age < d.age → key c < key d
unfolding key
by-age c d i r h = omega arith

pub by-id : (c d : Claim) → c.rank ≡ d.rank → c.age ≡ d.age → c.id < d.id → key c < key d
unfolding key
by-id c d r a h = omega arith

-- no two streams are equally important
pub key-id : (c d : Claim) → c.id < 2 ^ 64 → d.id < 2 ^ 64 → key c ≡ key d → c.id ≡ d.id
unfolding key
key-id c d i j e = omega arith

-- claims with different keys
unfoldable pub Distinct : List Claim → Type 0
Distinct [] = Unit {0}
Distinct (c ∷ l) = All (λ d. key d ≡ key c → ⊥) l × Distinct l

-- claims whose keys fall: the least important first
unfoldable pub Falls : List Claim → Type 0
Falls [] = Unit {0}
Falls (c ∷ l) = All (λ d. key d < key c) l × Falls l

-- What is reserved is never above the limit.
pub within : (limit : ℕ) (l : List Claim) → reserved limit l ≤ limit
unfolding reserved share
within limit [] = omega arith
within limit (c ∷ l) = go (leb c.demand (limit - reserved limit l)) c.ready refl (within limit l)
  where
    go : (t r : Bool) → leb c.demand (limit - reserved limit l) ≡ t → reserved limit l ≤ limit → reserved limit l + cond (t && r) c.demand 0 ≤ limit
    go true true e h = omega (arith, leb-true c.demand (limit - reserved limit l) e)
    go true false e h = omega arith
    go false r e h = omega arith

-- the two ways of the filter, and of an insertion
module _ (k : ℕ) (c : Claim) (l : List Claim) where
  pub above_in : key c < k → above k (c ∷ l) ≡ c ∷ above k l
  unfolding above
  above_in h = rw (lt-ltb (key c) k h)

  pub above-out : k ≤ key c → above k (c ∷ l) ≡ above k l
  unfolding above
  above-out h = rw (le-ltb (key c) k h)

module _ (c d : Claim) (l : List Claim) where
  insert-here : key d < key c → insert c (d ∷ l) ≡ c ∷ d ∷ l
  unfolding insert
  insert-here h = rw (lt-ltb (key d) (key c) h)

  insert-past : key c ≤ key d → insert c (d ∷ l) ≡ d ∷ insert c l
  unfolding insert
  insert-past h = rw (le-ltb (key d) (key c) h)

-- the order of two numbers, with its proof
pub data Two (m n : ℕ) : Type 0 where
  lo : m < n → Two m n
  hi : n ≤ m → Two m n

pub two : (m n : ℕ) → Two m n
two m n = go (ltb m n) refl
  where
    go : (t : Bool) → ltb m n ≡ t → Two m n
    go true e = lo (ltb-true m n e)
    go false e = hi (ltb-false m n e)

-- to sort and to take those above a key commute
above-insert-out : (k : ℕ) (c : Claim) (l : List Claim) → k ≤ key c → above k (insert c l) ≡ above k l
unfolding insert
above-insert-out k c [] h = above-out k c [] h
above-insert-out k c (d ∷ l) h = go (two (key d) (key c)) (above-insert-out k c l h)
  where
    go : Two (key d) (key c) → above k (insert c l) ≡ above k l → above k (insert c (d ∷ l)) ≡ above k (d ∷ l)
    go (lo m) ih = rw (insert-here c d l m) (above-out k c (d ∷ l) h)
    go (hi m) ih = rw (insert-past c d l m, above-out k d (insert c l) (omega arith), above-out k d l (omega arith)) ih

above-insert-in : (k : ℕ) (c : Claim) (l : List Claim) → key c < k → above k (insert c l) ≡ insert c (above k l)
unfolding insert above
above-insert-in k c [] h = above_in k c [] h
above-insert-in k c (d ∷ l) h = go (two (key d) (key c)) (two (key d) k) (above-insert-in k c l h)
  where
    go : Two (key d) (key c) → Two (key d) k → above k (insert c l) ≡ insert c (above k l) → above k (insert c (d ∷ l)) ≡ insert c (above k (d ∷ l))
    go (lo m) n ih =
        rw (insert-here c d l m, above_in k c (d ∷ l) h, above_in k d l (omega arith)) (sym (insert-here c d (above k l) m))
    go (hi m) (lo n) ih =
        rw (insert-past c d l m, above_in k d (insert c l) n, above_in k d l n, insert-past c d (above k l) m)
        (ap (λ (z : List Claim). d ∷ z) ih)
    go (hi m) (hi n) ih = rw (insert-past c d l m, above-out k d (insert c l) n, above-out k d l n) ih

pub above-sort : (k : ℕ) (l : List Claim) → above k (sort l) ≡ sort (above k l)
unfolding sort above
above-sort k [] = refl
above-sort k (c ∷ l) = go (two (key c) k) (above-sort k l)
  where
    go : Two (key c) k → above k (sort l) ≡ sort (above k l) → above k (insert c (sort l)) ≡ sort (above k (c ∷ l))
    go (lo m) ih = rw (above-insert-in k c (sort l) m, above_in k c l m) (ap (insert c) ih)
    go (hi m) ih = rw (above-insert-out k c (sort l) m, above-out k c l m) ih

-- what holds of every claim of a list holds after sorting and of those above a key, and the sum stays
module _ (P : Claim → Type 0) where
  all_insert : (c : Claim) (l : List Claim) → P c → All P l → All P (insert c l)
  unfolding insert
  all_insert c [] p a = (p, a)
  all_insert c (d ∷ l) p a = go (ltb (key d) (key c)) (all_insert c l p a.1)
    where
      go : (t : Bool) → All P (insert c l) → All P (cond t (c ∷ d ∷ l) (d ∷ insert c l))
      go true ih = (p, a)
      go false ih = (a.0, ih)

  pub all-sort : (l : List Claim) → All P l → All P (sort l)
  unfolding sort
  all-sort [] a = a
  all-sort (c ∷ l) a = all_insert c (sort l) a.0 (all-sort l a.1)

  pub all_above : (k : ℕ) (l : List Claim) → All P l → All P (above k l)
  unfolding above
  all_above k [] a = a
  all_above k (c ∷ l) a = go (ltb (key c) k) (all_above k l a.1)
    where
      go : (t : Bool) → All P (above k l) → All P (keep t c (above k l))
      go true ih = (a.0, ih)
      go false ih = ih

taken-insert : (ok : Claim → Bool) (c : Claim) (l : List Claim) → taken ok (insert c l) ≡ taken ok (c ∷ l)
unfolding insert taken
taken-insert ok c [] = refl
taken-insert ok c (d ∷ l) = go (ltb (key d) (key c)) (taken-insert ok c l)
  where
    go : (t : Bool) → taken ok (insert c l) ≡ taken ok (c ∷ l) → taken ok (cond t (c ∷ d ∷ l) (d ∷ insert c l)) ≡ taken ok (c ∷ d ∷ l)
    go true ih = refl
    go false ih = omega arith

taken-sort : (ok : Claim → Bool) (l : List Claim) → taken ok (sort l) ≡ taken ok l
unfolding sort taken
taken-sort ok [] = refl
taken-sort ok (c ∷ l) = omega (arith, taken-insert ok c (sort l), taken-sort ok l)

-- tests that agree on a list take the same
pub taken-same : (ok other : Claim → Bool) (l : List Claim) → All (λ d. ok d ≡ other d) l → taken ok l ≡ taken other l
unfolding taken
taken-same ok other [] a = refl
taken-same ok other (d ∷ l) a = rw (a.0, taken-same ok other l a.1)

-- claims with different keys fall strictly once sorted
abbrev Other : Claim → Claim → Type 0
Other c d = key d ≡ key c → ⊥

abbrev Lower : Claim → Claim → Type 0
Lower c d = key d < key c

falls-insert : (c : Claim) (l : List Claim) → All (Other c) l → Falls l → Falls (insert c l)
unfolding insert Falls
falls-insert c [] n f = (tt, tt)
falls-insert c (d ∷ l) n f = go (two (key d) (key c)) (falls-insert c l n.1 f.1)
  where
    go : Two (key d) (key c) → Falls (insert c l) → Falls (insert c (d ∷ l))
    go (lo m) ih = rw (insert-here c d l m) ((m, all_map (Lower d) (Lower c) (λ e h. omega arith) l f.0), f)
    go (hi m) ih = rw (insert-past c d l m) (all_insert (Lower d) c l (omega (arith, n.0)) f.0, ih)

pub falls-sort : (l : List Claim) → Distinct l → Falls (sort l)
unfolding sort Falls Distinct
falls-sort [] n = tt
falls-sort (c ∷ l) n = falls-insert c (sort l) (all-sort (Other c) l n.0) (falls-sort l n.1)

-- in a falling list each tail is what stands above its head
unfoldable pub Cut : List Claim → List Claim → Type 0
Cut m [] = Unit {0}
Cut m (c ∷ more) = (above (key c) m ≡ more) × Cut m more

pub above-all : (k : ℕ) (l : List Claim) → All (λ d. key d < k) l → above k l ≡ l
unfolding above
above-all k [] a = refl
above-all k (c ∷ l) a = above_in k c l a.0 ∙ ap (λ (z : List Claim). c ∷ z) (above-all k l a.1)

cut-under : (c : Claim) (m l : List Claim) → All (Lower c) l → Cut m l → Cut (c ∷ m) l
unfolding Cut
cut-under c m [] a h = tt
cut-under c m (d ∷ l) a h = (above-out (key d) c m (omega (arith, a.0)) ∙ h.0, cut-under c m l a.1 h.1)

cut-self : (l : List Claim) → Falls l → Cut l l
unfolding Falls Cut
cut-self [] f = tt
cut-self (c ∷ l) f = (above-out (key c) c l (omega arith) ∙ above-all (key c) l f.0, cut-under c l l f.0 (cut-self l f.1))

cut-above : (k : ℕ) (m l : List Claim) → Falls l → Cut m l → Cut m (above k l)
unfolding Falls Cut above
cut-above k m [] f h = tt
cut-above k m (c ∷ l) f h = go (two (key c) k) (cut-above k m l f.1 h.1)
  where
    go : Two (key c) k → Cut m (above k l) → Cut m (above k (c ∷ l))
    go (lo n) ih = rw (above_in k c l n, above-all k l (all_map (Lower c) (λ d. key d < k) (λ d e. omega arith) l f.0)) h
    go (hi n) ih = rw (above-out k c l n) ih

-- The rule for a claim under an assignment ok, in which nothing is computed in order: it is admitted if and only if its
-- demand is no more than the limit less the demands of the more important claims that are admitted and ready.
abbrev pub Obeys : ℕ → List Claim → (Claim → Bool) → Claim → Type 0
Obeys limit cs ok c = ok c ≡ leb c.demand (limit - taken ok (above (key c) cs))

unfoldable pub Rule : ℕ → List Claim → (Claim → Bool) → Type 0
Rule limit cs ok = All (Obeys limit cs ok) cs

-- what an assignment by the rule takes is what is reserved; so too where the rule is put over what is reserved
module _ (limit : ℕ) (ok : Claim → Bool) (m : List Claim) where
  abbrev Keeps : Claim → Type 0
  Keeps c = ok c ≡ leb c.demand (limit - reserved limit (above (key c) m))

  taken-is-reserved : (l : List Claim) → All (Obeys limit m ok) l → Cut m l → taken ok l ≡ reserved limit l
  unfolding taken reserved share Cut
  taken-is-reserved [] a h = refl
  taken-is-reserved (c ∷ l) a h = rw (a.0, h.0, taken-is-reserved l a.1 h.1)

  reserved-is-taken : (l : List Claim) → All Keeps l → Cut m l → taken ok l ≡ reserved limit l
  unfolding taken reserved share Cut
  reserved-is-taken [] a h = refl
  reserved-is-taken (c ∷ l) a h = rw (a.0, h.0, reserved-is-taken l a.1 h.1)

module _ (limit : ℕ) (cs : List Claim) (distinct : Distinct cs) where
  pub cut : (k : ℕ) → Cut (sort cs) (above k (sort cs))
  cut k = cut-above k (sort cs) (sort cs) (falls-sort cs distinct) (cut-self (sort cs) (falls-sort cs distinct))

  moved : (ok : Claim → Bool) (k : ℕ) → taken ok (above k cs) ≡ taken ok (above k (sort cs))
  moved ok k = sym (taken-sort ok (above k cs)) ∙ ap (taken ok) (sym (above-sort k cs))

  -- What is subtracted for a claim is the sum of the demands of those above it that are admitted and ready.
  pub subtracted : (k : ℕ) → taken (admitted limit cs) (above k cs) ≡ reserved limit (sort (above k cs))
  unfolding admitted remains
  subtracted k =
      moved (admitted limit cs) k
      ∙ reserved-is-taken limit (admitted limit cs) (sort cs) (above k (sort cs))
      (all-each (Keeps limit (admitted limit cs) (sort cs)) (λ c. rw (above-sort (key c) cs)) (above k (sort cs))) (cut k)
      ∙ ap (reserved limit) (above-sort k cs)

  -- No other assignment meets the rule.
  pub unique : (ok : Claim → Bool) → Rule limit cs ok → All (λ c. ok c ≡ admitted limit cs c) cs
  unfolding Rule admitted remains
  unique ok rule =
      let sorted : All (Obeys limit (sort cs) ok) (sort cs) =
      all-sort _ cs (all_map (Obeys limit cs ok) (Obeys limit (sort cs) ok) (λ c e. rw (moved ok (key c)) at e) cs rule) in
      all_map (Obeys limit cs ok) (λ c. ok c ≡ admitted limit cs c)
      (λ c e. e ∙ ap (λ (n : ℕ). leb c.demand (limit - n))
      (moved ok (key c)
      ∙ taken-is-reserved limit ok (sort cs) (above (key c) (sort cs)) (all_above _ (key c) (sort cs) sorted) (cut (key c))
      ∙ ap (reserved limit) (above-sort (key c) cs)))
      cs rule

  -- The total is the sum of the demands of those admitted and ready.
  pub total-is-sum : taken (admitted limit cs) cs ≡ total limit cs
  unfolding total admitted remains
  total-is-sum =
      sym (taken-sort (admitted limit cs) cs)
      ∙ reserved-is-taken limit (admitted limit cs) (sort cs) (sort cs)
      (all-each (Keeps limit (admitted limit cs) (sort cs)) (λ c. rw (above-sort (key c) cs)) (sort cs)) (cut-self (sort cs) (falls-sort cs distinct))

-- The order in which the claims are listed has no influence.

pub data Shuffle : List Claim → List Claim → Type 0 where
  same : {l : List Claim} → Shuffle l l
  next : {c : Claim} {l m : List Claim} → Shuffle l m → Shuffle (c ∷ l) (c ∷ m)
  swap : {c d : Claim} {l : List Claim} → Shuffle (c ∷ d ∷ l) (d ∷ c ∷ l)
  then : {k l m : List Claim} → Shuffle k l → Shuffle l m → Shuffle k m

insert-less : (c d : Claim) (l : List Claim) → key c < key d → insert c (insert d l) ≡ insert d (insert c l)
insert-less c d [] h = unfold insert in (insert-past c d [] (omega arith) ∙ sym (insert-here d c [] h))
insert-less c d (e ∷ l) h = go (two (key e) (key c)) (two (key e) (key d)) (insert-less c d l h)
  where
    go : Two (key e) (key c) → Two (key e) (key d) → insert c (insert d l) ≡ insert d (insert c l) → insert c (insert d (e ∷ l)) ≡ insert d (insert c (e ∷ l))
    go x (lo y) ih =
        rw (insert-here d e l y, insert-past c d (e ∷ l) (omega arith)) (sym (lower x))
      where
        lower : Two (key e) (key c) → insert d (insert c (e ∷ l)) ≡ d ∷ insert c (e ∷ l)
        lower (lo x) = rw (insert-here c e l x) (insert-here d c (e ∷ l) h)
        lower (hi x) = rw (insert-past c e l x) (insert-here d e (insert c l) y)
    go x (hi y) ih =
        rw (insert-past d e l y, insert-past c e l (omega arith), insert-past c e (insert d l) (omega arith), insert-past d e (insert c l) y)
        (ap (λ (z : List Claim). e ∷ z) ih)

insert-other : (c d : Claim) (l : List Claim) → Other c d → insert c (insert d l) ≡ insert d (insert c l)
insert-other c d l n = go (two (key c) (key d))
  where
    go : Two (key c) (key d) → insert c (insert d l) ≡ insert d (insert c l)
    go (lo h) = insert-less c d l h
    go (hi h) = sym (insert-less d c l (omega (arith, n)))

all-shuffle : (P : Claim → Type 0) {l m : List Claim} → Shuffle l m → All P l → All P m
all-shuffle P same a = a
all-shuffle P (next s) a = (a.0, all-shuffle P s a.1)
all-shuffle P swap a = (a.1.0, (a.0, a.1.1))
all-shuffle P (then s t) a = all-shuffle P t (all-shuffle P s a)

pub distinct-shuffle : {l m : List Claim} → Shuffle l m → Distinct l → Distinct m
unfolding Distinct
distinct-shuffle same n = n
distinct-shuffle (next {c = c} s) n = (all-shuffle (Other c) s n.0, distinct-shuffle s n.1)
distinct-shuffle swap n = ((λ e. n.0.0 (sym e), n.1.0), (n.0.1, n.1.1))
distinct-shuffle (then s t) n = distinct-shuffle t (distinct-shuffle s n)

pub sort-shuffle : {l m : List Claim} → Shuffle l m → Distinct l → sort l ≡ sort m
unfolding sort Distinct
sort-shuffle same n = refl
sort-shuffle (next {c = c} s) n = ap (insert c) (sort-shuffle s n.1)
sort-shuffle (swap {c = c} {d = d} {l = l}) n = insert-other c d (sort l) n.0.0
sort-shuffle (then s t) n = sort-shuffle s n ∙ sort-shuffle t (distinct-shuffle s n)

pub any_order : (limit : ℕ) {cs ds : List Claim} → Shuffle cs ds → Distinct cs →
    ((c : Claim) → admitted limit cs c ≡ admitted limit ds c) × (total limit cs ≡ total limit ds)
unfolding admitted remains total
any_order limit {cs} {ds} s n =
    (λ c. rw (← above-sort (key c) cs, ← above-sort (key c) ds, sort-shuffle s n), ap (reserved limit) (sort-shuffle s n))

-- A claim that takes nothing, because it is not admitted or not ready, has no influence either.

share-idle : (limit r : ℕ) (c : Claim) → (leb c.demand (limit - r) && c.ready) ≡ false → share limit r c ≡ 0
unfolding share
share-idle limit r c h = rw h

idle-insert : (limit k : ℕ) (c : Claim) (l : List Claim) → Falls l → (leb c.demand (limit - reserved limit (above (key c) l)) && c.ready) ≡ false →
    reserved limit (above k (insert c l)) ≡ reserved limit (above k l)
unfolding insert Falls reserved above
idle-insert limit k c [] f h = go (two (key c) k)
  where
    go : Two (key c) k → reserved limit (above k (c ∷ [])) ≡ 0
    go (lo m) = rw (above_in k c [] m) (omega (arith, share-idle limit 0 c h))
    go (hi m) = rw (above-out k c [] m)
idle-insert limit k c (d ∷ l) f h = go (two (key d) (key c)) (idle-insert limit k c l f.1)
  where
    go : Two (key d) (key c) →
        ((leb c.demand (limit - reserved limit (above (key c) l)) && c.ready) ≡ false → reserved limit (above k (insert c l)) ≡ reserved limit (above k l)) →
        reserved limit (above k (insert c (d ∷ l))) ≡ reserved limit (above k (d ∷ l))
    go (lo m) ih = rw (insert-here c d l m) (here (two (key c) k))
      where
        whole : (j : ℕ) → key c ≤ j → above j (d ∷ l) ≡ d ∷ l
        whole j g = above-all j (d ∷ l) (omega arith, all_map (Lower d) (λ e. key e < j) (λ e b. omega arith) l f.0)

        here : Two (key c) k → reserved limit (above k (c ∷ d ∷ l)) ≡ reserved limit (above k (d ∷ l))
        here (lo n) =
            let nothing-taken : share limit (reserved limit (above k (d ∷ l))) c ≡ 0 =
            share-idle limit (reserved limit (above k (d ∷ l))) c (rw (whole (key c) (omega arith) ∙ sym (whole k (omega arith))) at h) in
            rw (above_in k c (d ∷ l) n) (omega (arith, nothing-taken))
        here (hi n) = rw (above-out k c (d ∷ l) n)
    go (hi m) ih = rw (insert-past c d l m) (past (two (key d) k) (ih (rw (above-out (key c) d l m) at h)))
      where
        past : Two (key d) k → reserved limit (above k (insert c l)) ≡ reserved limit (above k l) →
            reserved limit (above k (d ∷ insert c l)) ≡ reserved limit (above k (d ∷ l))
        past (lo n) e = rw (above_in k d (insert c l) n, above_in k d l n, e)
        past (hi n) e = rw (above-out k d (insert c l) n, above-out k d l n) e

-- a number above every key
beyond : List Claim → ℕ
beyond [] = 0
beyond (c ∷ l) = suc (key c) + beyond l

below-beyond : (k : ℕ) (l : List Claim) → beyond l ≤ k → All (λ d. key d < k) l
unfolding beyond
below-beyond k [] h = tt
below-beyond k (c ∷ l) h = (omega arith, below-beyond k l (omega arith))

to_front : (l m : List Claim) (c : Claim) → Shuffle (l ++ c ∷ m) (c ∷ l ++ m)
to_front [] m c = same
to_front (d ∷ l) m c = then (next (to_front l m c)) swap

module _ (limit : ℕ) (l m : List Claim) (c : Claim) (distinct : Distinct (l ++ c ∷ m))
    (idle : (admitted limit (l ++ c ∷ m) c && c.ready) ≡ false) where
  sorted : sort (l ++ c ∷ m) ≡ insert c (sort (l ++ m))
  unfolding sort
  sorted = sort-shuffle (to_front l m c) distinct

  falls : Falls (sort (l ++ m))
  unfolding Distinct
  falls = falls-sort (l ++ m) (distinct-shuffle (to_front l m c) distinct).1

  more-important : sort (above (key c) (l ++ c ∷ m)) ≡ above (key c) (sort (l ++ m))
  more-important =
      sym (above-sort (key c) (l ++ c ∷ m)) ∙ ap (above (key c)) sorted ∙ above-insert-out (key c) c (sort (l ++ m)) (omega arith)

  takes-nothing : (leb c.demand (limit - reserved limit (above (key c) (sort (l ++ m)))) && c.ready) ≡ false
  unfolding admitted remains
  takes-nothing = rw more-important at idle

  pub idle-above : (k : ℕ) → reserved limit (sort (above k (l ++ c ∷ m))) ≡ reserved limit (sort (above k (l ++ m)))
  idle-above k =
      ap (reserved limit) (sym (above-sort k (l ++ c ∷ m)) ∙ ap (above k) sorted)
      ∙ idle-insert limit k c (sort (l ++ m)) falls takes-nothing
      ∙ ap (reserved limit) (above-sort k (l ++ m))

  pub idle-total : total limit (l ++ c ∷ m) ≡ total limit (l ++ m)
  unfolding total
  idle-total =
      let rest = sort (l ++ m) in
      let k = suc (key c) + beyond rest in
      let low : All (λ d. key d < k) rest = below-beyond k rest (omega arith) in
      ap (reserved limit) (sorted ∙ sym (above-all k (insert c rest) (all_insert (λ d. key d < k) c rest (omega arith) low)))
      ∙ idle-insert limit k c rest falls takes-nothing
      ∙ ap (reserved limit) (above-all k rest low)

-- What a loop over the claims cites, from the most important on: with all done up to the key k, what is used is
-- `reserved limit (sort (above k cs))`.

-- where no claim stands from k to k', nothing is to be done between them
pub gap : (k k' : ℕ) (cs : List Claim) → k ≤ k' → All (λ d. k ≤ key d → k' ≤ key d) cs → above k' cs ≡ above k cs
unfolding above
gap k k' [] h a = refl
gap k k' (d ∷ l) h a = go (two (key d) k) (gap k k' l h a.1)
  where
    go : Two (key d) k → above k' l ≡ above k l → above k' (d ∷ l) ≡ above k (d ∷ l)
    go (lo m) ih = rw (above_in k d l m, above_in k' d l (omega arith)) (ap (λ (z : List Claim). d ∷ z) ih)
    go (hi m) ih = rw (above-out k d l m, above-out k' d l (a.0 m)) ih

mem-insert : (c d : Claim) (l : List Claim) → (c ≡ d) ⊎ Memᴰ c l → Memᴰ c (insert d l)
unfolding insert
mem-insert c d [] (inl e) = Memᴰ.head e
mem-insert c d [] (inr m) = absurd (Memᴰ.not-nil m)
mem-insert c d (e ∷ l) m = go (ltb (key e) (key d)) m (mem-insert c d l)
  where
    go : (t : Bool) → (c ≡ d) ⊎ Memᴰ c (e ∷ l) → ((c ≡ d) ⊎ Memᴰ c l → Memᴰ c (insert d l)) → Memᴰ c (cond t (d ∷ e ∷ l) (e ∷ insert d l))
    go true (inl q) ih = Memᴰ.head q
    go true (inr q) ih = Memᴰ.tail q
    go false (inl q) ih = Memᴰ.tail (ih (inl q))
    go false (inr (Memᴰ.head q)) ih = Memᴰ.head q
    go false (inr (Memᴰ.tail q)) ih = Memᴰ.tail (ih (inr q))

pub mem-sort : (c : Claim) (l : List Claim) → Memᴰ c l → Memᴰ c (sort l)
unfolding sort
mem-sort c [] m = elim m [ ]
mem-sort c (d ∷ l) (Memᴰ.head e) = mem-insert c d (sort l) (inl e)
mem-sort c (d ∷ l) (Memᴰ.tail m) = mem-insert c d (sort l) (inr (mem-sort c l m))

pub all-mem : {A : Type 0} (P : A → Type 0) {x : A} {l : List A} → Memᴰ x l → All P l → P x
all-mem P (Memᴰ.head e) a = rw e a.0
all-mem P (Memᴰ.tail m) a = all-mem P m a.1

falling : (c : Claim) (m : List Claim) → Falls m → Memᴰ c m → above (suc (key c)) m ≡ c ∷ above (key c) m
unfolding Falls
falling c [] f h = elim h [ ]
falling c (d ∷ m) f (Memᴰ.head e) =
    let low : All (λ x. key x < key c) m = rw (← e) at f.0 in
    let low' : All (λ x. key x < suc (key c)) m = all_map _ _ (λ x (h : key x < key c). omega arith) m low in
    rw (← e, above_in (suc (key c)) c m (omega arith), above-out (key c) c m (omega arith), above-all (key c) m low, above-all (suc (key c)) m low')
falling c (d ∷ m) f (Memᴰ.tail h) =
    let k : key c < key d = all-mem (λ x. key x < key d) h f.0 in
    rw (above-out (suc (key c)) d m k, above-out (key c) d m (omega arith)) (falling c m f.1 h)

-- after all the more important ones, a claim is the next
pub next-sorted : (cs : List Claim) (c : Claim) → Distinct cs → Memᴰ c cs → sort (above (suc (key c)) cs) ≡ c ∷ sort (above (key c) cs)
next-sorted cs c n m =
    rw (← above-sort (suc (key c)) cs, ← above-sort (key c) cs, falling c (sort cs) (falls-sort cs n) (mem-sort c cs m))

-- it takes its share of what they left
pub one_more : (limit : ℕ) (cs : List Claim) (c : Claim) → Distinct cs → Memᴰ c cs →
    reserved limit (sort (above (suc (key c)) cs))
    ≡ reserved limit (sort (above (key c) cs)) + share limit (reserved limit (sort (above (key c) cs))) c
unfolding reserved
one_more limit cs c n m = rw (next-sorted cs c n m)
