-- `best l` is a cutting of l, no cutting of l comes before it, and it is the only one of which that is so.
use mathlib.Core.Path.{◌≡◌, refl, sym, ◌∙◌, ap, subst}
use mathlib.Core.Bool.{Bool, true, false, cond}
use mathlib.Core.List.{List, [], ◌∷◌, ◌++◌, append_assoc, nil≢cons, tail-eq_of_cons-eq}
use Prim.Native.Nat.{ℕ, suc, ◌≤◌}
use native.Mathlib.Omega.{arith}
use lib.ListN.{length, length-append, drop}
use lib.Dec.{eqb}
use borrow.Author.Tests.{eqb-true, eq-eqb}
use Rattle.model.specs.Lists.{All}
use Rattle.model.specs.Cutting.{mac, Shares, concat, Cutting, Part}
use Rattle.model.specs.Best.{lighter, longer, bests, best}
use Rattle.model.proofs.CuttingWeights.{Under, Begins, under-self, under-trans, under-cons, lighter-first, lighter-second, lighter-keeps}

-- a fact of a list and of each of its tails
abbrev Tails : (List ℕ → Type 0) → List ℕ → Type 0
Tails P [] = P []
Tails P (x ∷ l) = P (x ∷ l) × Tails P l

own : (P : List ℕ → Type 0) (l : List ℕ) → Tails P l → P l
own P [] t = t
own P (x ∷ l) t = t.0

-- one more declaration of a vector
snoc : (g : List ℕ) (y : ℕ) (r : List ℕ) → (g ++ (y ∷ [])) ++ r ≡ g ++ (y ∷ r)
snoc g y r = append_assoc g (y ∷ []) r

shares-more : (x : ℕ) (g : List ℕ) (y : ℕ) → Shares x g → mac y ≡ mac x → Shares x (g ++ (y ∷ []))
shares-more x [] y s e = (e, tt)
shares-more x (z ∷ g) y s e = (s.0, shares-more x g y s.1 e)

shares_at : (x : ℕ) (g : List ℕ) (y : ℕ) (r : List ℕ) → Shares x (g ++ (y ∷ r)) → mac y ≡ mac x
shares_at x [] y r s = s.0
shares_at x (z ∷ g) y r s = shares_at x g y r s.1

-- it is a cutting
abbrev Cut : List ℕ → Type 0
Cut l = Cutting l (best l)

longer-cuts : (x : ℕ) (g r : List ℕ) (c : List (List ℕ)) (l : List ℕ) → Tails Cut r → x ∷ (g ++ r) ≡ l → Shares x g → Cutting l c
    → Cutting l (longer x g r (drop 1 (bests r)) c)
unfolding longer bests best
longer-cuts x g [] c l t e s p = p
longer-cuts x g (y ∷ r) c l t e s p =
    go (longer-cuts x (g ++ (y ∷ [])) r (lighter c ((x ∷ (g ++ (y ∷ []))) ∷ best r)) l t.1) (eqb (mac y) (mac x)) refl
  where
    h : List ℕ
    h = g ++ (y ∷ [])

    next : List (List ℕ)
    next = longer x h r (drop 1 (bests r)) (lighter c ((x ∷ h) ∷ best r))

    go : (x ∷ (h ++ r) ≡ l → Shares x h → Cutting l (lighter c ((x ∷ h) ∷ best r)) → Cutting l next)
        → (b : Bool) → eqb (mac y) (mac x) ≡ b → Cutting l (cond b next c)
    go ih true m =
        let u : Cutting r (best r) = own Cut r t.1 in
        let f : x ∷ (h ++ r) ≡ l = ap (λ (z : List ℕ). x ∷ z) (snoc g y r) ∙ e in
        let v : Shares x h = shares-more x g y s (eqb-true _ _ m) in
        ih f v (lighter-keeps (Cutting l) c ((x ∷ h) ∷ best r) p (ap (λ (z : List ℕ). x ∷ (h ++ z)) u.0 ∙ f, (v, u.1)))
    go ih false m = p

cuts : (l : List ℕ) → Tails Cut l
unfolding bests best
cuts [] = (refl, tt)
cuts (x ∷ l) =
    let u : Cutting l (best l) = own Cut l (cuts l) in
    (longer-cuts x [] l ((x ∷ []) ∷ best l) (x ∷ l) (cuts l) refl tt (ap (λ (z : List ℕ). x ∷ z) u.0, (tt, u.1)), cuts l)

pub best-cuts : (l : List ℕ) → Cutting l (best l)
best-cuts l = own Cut l (cuts l)

begins-more : (m n : ℕ) (c : List (List ℕ)) → m ≤ n → Begins m c → Begins n c
begins-more m n [] h b = b
begins-more m n (g ∷ c) h b = omega arith

-- what is tried stays under what was there, ..
longer-under : (x : ℕ) (g r : List ℕ) (c : List (List ℕ)) → Begins (suc (length g)) c → Under (longer x g r (drop 1 (bests r)) c) c
unfolding longer bests best
longer-under x g [] c b = under-self c
longer-under x g (y ∷ r) c b =
    go (longer-under x (g ++ (y ∷ [])) r (lighter c ((x ∷ (g ++ (y ∷ []))) ∷ best r))) (eqb (mac y) (mac x))
  where
    h : List ℕ
    h = g ++ (y ∷ [])

    d : List (List ℕ)
    d = lighter c ((x ∷ h) ∷ best r)

    next : List (List ℕ)
    next = longer x h r (drop 1 (bests r)) d

    wide : length h ≡ suc (length g)
    wide = simp length-append (omega arith)

    go : (Begins (suc (length h)) d → Under next d) → (t : Bool) → Under (cond t next c) c
    go ih true =
        let w : length h ≡ suc (length g) = wide in
        under-trans next d c (ih (lighter-keeps (Begins (suc (length h))) c ((x ∷ h) ∷ best r) (begins-more (suc (length g)) (suc (length h)) c (omega arith) b) (omega arith)))
        (lighter-first (suc (length g)) c b (x ∷ h) (best r) (omega arith))
    go ih false = under-self c

-- .. and under every cutting that begins with a longer vector
abbrev Low : List ℕ → Type 0
Low l = (c : List (List ℕ)) → Cutting l c → Under (best l) c

longer-covers : (x : ℕ) (g : List ℕ) (y : ℕ) (h : List ℕ) (d c : List (List ℕ)) → Begins (suc (length g)) c → Tails Low (h ++ concat d)
    → Shares x (g ++ (y ∷ h)) → All Part d → Under (longer x g (y ∷ (h ++ concat d)) (bests (h ++ concat d)) c) ((x ∷ (g ++ (y ∷ h))) ∷ d)
unfolding longer bests best
longer-covers x g y [] d c b t s v =
    let w : length (g ++ (y ∷ [])) ≡ suc (length g) = simp length-append (omega arith) in
    let k : List ℕ = g ++ (y ∷ []) in
    let a : List (List ℕ) = lighter c ((x ∷ k) ∷ best (concat d)) in
    let n : Begins (suc (length k)) a =
    lighter-keeps (Begins (suc (length k))) c ((x ∷ k) ∷ best (concat d)) (begins-more (suc (length g)) (suc (length k)) c (omega arith) b) (omega arith) in
    rw (eq-eqb (mac y) (mac x) (shares_at x g y [] s))
    (under-trans (longer x k (concat d) (drop 1 (bests (concat d))) a) a ((x ∷ k) ∷ d)
    (longer-under x k (concat d) a n)
    (under-trans a ((x ∷ k) ∷ best (concat d)) ((x ∷ k) ∷ d)
    (lighter-second (suc (length g)) c b (x ∷ k) (best (concat d)) (omega arith))
    (under-cons (x ∷ k) (best (concat d)) d (own Low (concat d) t d (refl, v)))))
longer-covers x g y (z ∷ h) d c b t s v =
    let w : length (g ++ (y ∷ [])) ≡ suc (length g) = simp length-append (omega arith) in
    let k : List ℕ = g ++ (y ∷ []) in
    let r : List ℕ = z ∷ (h ++ concat d) in
    let a : List (List ℕ) = lighter c ((x ∷ k) ∷ best r) in
    let n : Begins (suc (length k)) a =
    lighter-keeps (Begins (suc (length k))) c ((x ∷ k) ∷ best r) (begins-more (suc (length g)) (suc (length k)) c (omega arith) b) (omega arith) in
    let e : k ++ (z ∷ h) ≡ g ++ (y ∷ z ∷ h) = snoc g y (z ∷ h) in
    rw (eq-eqb (mac y) (mac x) (shares_at x g y (z ∷ h) s))
    (rw e at (longer-covers x k z h d a n t.1 (subst (Shares x) (sym e) s) v))

low-more : (x : ℕ) (l : List ℕ) → Tails Low l → Low (x ∷ l)
unfolding bests best
low-more x l t [] p = absurd (nil≢cons p.0)
low-more x l t ([] ∷ d) p = absurd p.1.0
low-more x l t ((x' ∷ g) ∷ d) p =
    subst (λ (z : List ℕ). Under (best z) ((x' ∷ g) ∷ d)) p.0
    (begin g p.1.0 (subst (Tails Low) (sym (tail-eq_of_cons-eq p.0)) t))
  where
    begin : (g : List ℕ) → Shares x' g → Tails Low (g ++ concat d) → Under (best (x' ∷ (g ++ concat d))) ((x' ∷ g) ∷ d)
    begin [] s t =
        under-trans (best (x' ∷ concat d)) ((x' ∷ []) ∷ best (concat d)) ((x' ∷ []) ∷ d)
        (longer-under x' [] (concat d) ((x' ∷ []) ∷ best (concat d)) (omega arith))
        (under-cons (x' ∷ []) (best (concat d)) d (own Low (concat d) t d (refl, p.1.1)))
    begin (y ∷ h) s t = longer-covers x' [] y h d ((x' ∷ []) ∷ best (y ∷ (h ++ concat d))) (omega arith) t.1 s p.1.1

lows : (l : List ℕ) → Tails Low l
unfolding bests best
lows [] = nothing
  where
    nothing : (c : List (List ℕ)) → Cutting [] c → Under [] c
    nothing [] p = under-self []
    nothing ([] ∷ d) p = absurd p.1.0
    nothing ((x ∷ g) ∷ d) p = absurd (nil≢cons (sym p.0))
lows (x ∷ l) = (low-more x l (lows l), lows l)

pub best-under : (l : List ℕ) (c : List (List ℕ)) → Cutting l c → Under (best l) c
best-under l c p = own Low l (lows l) c p
