-- The least cutting by octets, vectors and values: `best` is it, and nothing else is.
use mathlib.Core.Path.{◌≡◌, refl, sym, ◌∙◌, ap, ap₂, subst}
use mathlib.Core.List.{List, [], ◌∷◌, ◌++◌, head-eq_of_cons-eq, tail-eq_of_cons-eq}
use Prim.Native.Nat.{ℕ, suc, ◌+◌, ◌-◌, ◌≤◌, ◌<◌}
use native.Mathlib.Omega.{arith}
use lib.ListN.{length, take, drop}
use lib.Seq.{take_at, drop_at}
use Rattle.model.specs.Lists.{All}
use Rattle.model.specs.Cutting.{Part, concat, Cutting, last_of, values, octets, Wider, NotAfter, Least}
use Rattle.model.specs.Best.{weight, best}
use Rattle.model.specs.Laid.{Ascending}
use Rattle.model.proofs.Ascents.{Rises, Rising, ascending-rising, rises-left, rising-right, rises-last}
use Rattle.model.proofs.CuttingWeights.{Under, under-order}
use Rattle.model.proofs.LeastCutting.{best-cuts, best-under}

-- Two beginnings of one list: the first is the smaller by two sizes, or the larger by both, or they are one.
data Meets (a b : ℕ) (m n : ℕ) (g h r s : List ℕ) : Type 0 where
  less : a < b → m < n → Meets a b m n g h r s
  same : g ≡ h → r ≡ s → Meets a b m n g h r s
  more : b < a → n < m → Meets a b m n g h r s

-- two sizes of a vector that agree so on all beginnings of a rising list
abbrev Agree : (List ℕ → ℕ) → (List ℕ → ℕ) → Type 0
Agree size other =
    (g h r s : List ℕ) → Part g → Part h → Rising (g ++ r) → g ++ r ≡ h ++ s → Meets (size g) (size h) (other g) (other h) g h r s

behind : (x y : ℕ) (g r : List ℕ) → Rises x (y ∷ (g ++ r)) → x < last_of y g
behind x y g r p = omega (arith, rises-last y g (rises-left y g r p.1))

meet : (x : ℕ) (g h r s : List ℕ) → Rises x (g ++ r) → g ++ r ≡ h ++ s → Meets (length g) (length h) (last_of x g) (last_of x h) g h r s
meet x [] [] r s p e = same refl e
meet x [] (z ∷ h) r s p e = less (omega arith) (behind x z h s (subst (Rises x) e p))
meet x (y ∷ g) [] r s p e = more (omega arith) (behind x y g r p)
meet x (y ∷ g) (z ∷ h) r s p e =
    subst (λ (z : ℕ). Meets (suc (length g)) (suc (length h)) (last_of y g) (last_of z h) (y ∷ g) (z ∷ h) r s) (head-eq_of_cons-eq e)
    (up (meet y g h r s p.1 (tail-eq_of_cons-eq e)))
  where
    up : Meets (length g) (length h) (last_of y g) (last_of y h) g h r s
        → Meets (suc (length g)) (suc (length h)) (last_of y g) (last_of y h) (y ∷ g) (y ∷ h) r s
    up (less m n) = less (omega arith) n
    up (same m n) = same (ap (λ (l : List ℕ). y ∷ l) m) n
    up (more m n) = more (omega arith) n

-- declarations and values do
agree : Agree length values
unfolding values
agree [] h r s v w p e = absurd v
agree (x ∷ g) [] r s v w p e = absurd w
agree (x ∷ g) (y ∷ h) r s v w p e =
    subst (λ (y : ℕ). Meets (suc (length g)) (suc (length h)) (last_of x g - x + 1) (last_of y h - y + 1) (x ∷ g) (y ∷ h) r s) (head-eq_of_cons-eq e)
    (up (meet x g h r s p (tail-eq_of_cons-eq e)))
  where
    low : x ≤ last_of x g
    low = rises-last x g (rises-left x g r p)

    high : x ≤ last_of x h
    high = rises-last x h (rises-left x h s (subst (Rises x) (tail-eq_of_cons-eq e) p))

    up : Meets (length g) (length h) (last_of x g) (last_of x h) g h r s
        → Meets (suc (length g)) (suc (length h)) (last_of x g - x + 1) (last_of x h - x + 1) (x ∷ g) (x ∷ h) r s
    up (less m n) = less (omega arith) (omega (arith, low, high))
    up (same m n) = same (ap (λ (l : List ℕ). x ∷ l) m) n
    up (more m n) = more (omega arith) (omega (arith, low, high))

agree-back : Agree values length
agree-back g h r s v w p e = turned (agree g h r s v w p e)
  where
    turned : Meets (length g) (length h) (values g) (values h) g h r s → Meets (values g) (values h) (length g) (length h) g h r s
    turned (less m n) = less n m
    turned (same m n) = same m n
    turned (more m n) = more n m

-- so either gives one order of the cuttings of a rising list
by-other : (size other : List ℕ → ℕ) → Agree size other → (c d : List (List ℕ)) → All Part c → All Part d → Rising (concat c) → concat c ≡ concat d
    → Wider size c d → Wider other c d
by-other size other a [] [] v w p e q = tt
by-other size other a (g ∷ c) [] v w p e q = tt
by-other size other a [] (h ∷ d) v w p e q = absurd q
by-other size other a (g ∷ c) (h ∷ d) v w p e q =
    go (a g h (concat c) (concat d) v.0 w.0 p e) (λ f. by-other size other a c d v.1 w.1 (rising-right g (concat c) p) f)
  where
    go : Meets (size g) (size h) (other g) (other h) g h (concat c) (concat d) → (concat c ≡ concat d → Wider size c d → Wider other c d)
        → (other h ≤ other g) × (other g ≡ other h → Wider other c d)
    go (less m n) ih = absurd (omega (arith, q.0))
    go (same m n) ih = (omega (arith, ap other m), λ f. ih n (q.1 (ap size m)))
    go (more m n) ih = (omega arith, λ f. absurd (omega arith))

module _ (l : List ℕ) (c d : List (List ℕ)) (p : Cutting l c) (q : Cutting l d) (r : Rising l) where
  by : (size other : List ℕ → ℕ) → Agree size other → NotAfter size c d → NotAfter other c d
  by size other a n =
      (n.0, λ e. ((n.1 e).0, λ f. by-other size other a c d p.1 q.1 (subst Rising (sym p.0) r) (p.0 ∙ sym q.0) ((n.1 e).1 f)))

  pub order-values : NotAfter length c d → NotAfter values c d
  order-values = by length values agree

  pub order-length : NotAfter values c d → NotAfter length c d
  order-length = by values length agree-back

-- the order has no two equals among the cuttings of a list
pub split : (g h r s : List ℕ) → length g ≡ length h → g ++ r ≡ h ++ s → (g ≡ h) × (r ≡ s)
split [] [] r s e f = (refl, f)
split [] (y ∷ h) r s e f = absurd (omega arith)
split (x ∷ g) [] r s e f = absurd (omega arith)
split (x ∷ g) (y ∷ h) r s e f =
    let i : (g ≡ h) × (r ≡ s) = split g h r s (omega arith) (tail-eq_of_cons-eq f) in
    (ap₂ (λ (a : ℕ) (b : List ℕ). a ∷ b) (head-eq_of_cons-eq f) i.0, i.1)

pub twice : (c d : List (List ℕ)) → concat c ≡ concat d → Wider length c d → Wider length d c → c ≡ d
twice [] [] e p q = refl
twice [] (h ∷ d) e p q = absurd p
twice (g ∷ c) [] e p q = absurd q
twice (g ∷ c) (h ∷ d) e p q =
    let i : (g ≡ h) × (concat c ≡ concat d) = split g h (concat c) (concat d) (omega arith) e in
    ap₂ (λ (a : List ℕ) (b : List (List ℕ)). a ∷ b) i.0 (twice c d i.1 (p.1 (omega arith)) (q.1 (omega arith)))

pub order-antisym : (c d : List (List ℕ)) → concat c ≡ concat d → NotAfter length c d → NotAfter length d c → c ≡ d
order-antisym c d e p q =
    let o : octets c ≡ octets d = omega (arith, p.0, q.0) in
    let n : length c ≡ length d = omega (arith, (p.1 o).0, (q.1 (sym o)).0) in
    twice c d e ((p.1 o).1 n) ((q.1 (sym o)).1 (sym n))

-- The theorems, where the size of a vector is its declarations: the list need not rise.
module _ (l : List ℕ) (few : length l ≤ 64) where
  pub least-length : Least length l (best l)
  least-length = (best-cuts l, λ d p. under-order l few (best l) d (best-cuts l) p (best-under l d p))

  pub only-length : (c : List (List ℕ)) → Least length l c → c ≡ best l
  only-length c p =
      order-antisym c (best l) (p.0.0 ∙ sym (best-cuts l).0) (p.1 (best l) (best-cuts l)) (least-length.1 c p.0)

-- The theorems, where it is its values.
module _ (l : List ℕ) (few : length l ≤ 64) (ascending : Ascending l) where
  pub best-least : Least values l (best l)
  best-least =
      (best-cuts l, λ d p. order-values l (best l) d (best-cuts l) p (ascending-rising l ascending) ((least-length l few).1 d p))

  pub best-only : (c : List (List ℕ)) → Least values l c → c ≡ best l
  best-only c p =
      order-antisym c (best l) (p.0.0 ∙ sym (best-cuts l).0)
      (order-length l c (best l) p.0 (best-cuts l) (ascending-rising l ascending) (p.1 (best l) (best-cuts l))) ((least-length l few).1 c p.0)

-- The best cutting is its first part, and then the best cutting of the rest: so whoever writes goes from place i to place
-- i + first, and what is left to write is `best (drop i l)`.
pub best-next : (l g : List ℕ) (d : List (List ℕ)) → best l ≡ g ∷ d → (g ≡ take (length g) l) × (d ≡ best (drop (length g) l))
best-next l g d e = (sym a, twice d (best r) (j ∙ sym q.0) (u.1 same) (v.1 (sym same)))
  where
    r : List ℕ
    r = drop (length g) l

    p : Cutting l (g ∷ d)
    p = subst (Cutting l) e (best-cuts l)

    a : take (length g) l ≡ g
    a = subst (λ (z : List ℕ). take (length g) z ≡ g) p.0 (take_at g (concat d) (length g) refl)

    j : concat d ≡ r
    j = subst (λ (z : List ℕ). concat d ≡ drop (length g) z) p.0 (sym (drop_at g (concat d) (length g) refl))

    q : Cutting r (best r)
    q = best-cuts r

    v : Under (best r) d
    v = best-under r d (j, p.1.1)

    w : Under (g ∷ d) (g ∷ best r)
    w =
        subst (λ (z : List (List ℕ)). Under z (g ∷ best r)) e
        (best-under l (g ∷ best r) (ap (λ (z : List ℕ). g ++ z) (q.0 ∙ sym j) ∙ p.0, (p.1.0, q.1)))

    u : Under d (best r)
    u = (omega (arith, w.0), λ f. (w.1 (omega (arith, f))).1 refl)

    same : weight d ≡ weight (best r)
    same = omega (arith, u.0, v.0)
