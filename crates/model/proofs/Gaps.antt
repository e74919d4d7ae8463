-- Which gaps a best cutting bridges, between any two neighbouring declarations: up to 16 Ignores always, more than 22 never. Only between
-- them is there anything to weigh.
use mathlib.Core.Path.{◌≡◌, refl, sym, ◌∙◌, ap, subst}
use mathlib.Core.List.{List, [], ◌∷◌, ◌++◌, append_assoc}
use mathlib.Core.Bool.{Bool, true, false}
use Prim.Native.Nat.{ℕ, ◌+◌, ◌-◌, ◌*◌, ◌≤◌, ◌<◌}
use native.Mathlib.Omega.{arith}
use lib.ListN.{length, take, drop}
use lib.Dec.{leb}
use lib.Seq.{take-length}
use borrow.Author.Tests.{leb-true, leb-false, le-leb}
use Rattle.model.specs.Frames.{three_length, four_length}
use Rattle.model.specs.Cutting.{mac, Shares, concat, Cutting, last_of, values, octets_for}
use Rattle.model.specs.Best.{price, weight, best, least, run}
use Rattle.model.proofs.Lists.{Longest}
use Rattle.model.proofs.Ascents.{Rises, Rising, rising-drop, rises-left, rises-last, rises-mid}
use Rattle.model.proofs.LeastCutting.{best-cuts, best-under}
use Rattle.model.proofs.OneCutting.{best-next}
use Rattle.model.proofs.LongestRun.{fits_in, run-longest, least-most}

last-append : (x : ℕ) (g : List ℕ) (y : ℕ) (h : List ℕ) → last_of x (g ++ (y ∷ h)) ≡ last_of y h
last-append x [] y h = refl
last-append x (z ∷ g) y h = last-append z g y h

shares-join : (x : ℕ) (g : List ℕ) (y : ℕ) (h : List ℕ) → Shares x g → mac y ≡ mac x → Shares y h → Shares x (g ++ (y ∷ h))
shares-join x [] y h s e t = (e, to h t)
  where
    to : (h : List ℕ) → Shares y h → Shares x h
    to [] t = tt
    to (z ∷ h) t = (t.0 ∙ e, to h t.1)
shares-join x (z ∷ g) y h s e t = (s.0, shares-join x g y h s.1 e t)

shares-split : (x : ℕ) (g : List ℕ) (y : ℕ) (h : List ℕ) → Shares x (g ++ (y ∷ h)) → Shares x g × Shares y h
shares-split x [] y h s = (tt, to h s.1)
  where
    to : (h : List ℕ) → Shares x h → Shares y h
    to [] t = tt
    to (z ∷ h) t = (t.0 ∙ sym s.0, to h t.1)
shares-split x (z ∷ g) y h s = let i = shares-split x g y h s.1 in ((s.0, i.0), i.1)

-- a is the first StreamID of a vector and b its last, c and d those of the next
near-pays : (a b c d : ℕ) → a ≤ b → b < c → c ≤ d → c ≤ b + 17 → octets_for (d - a + 1) ≤ octets_for (b - a + 1) + octets_for (d - c + 1)
unfolding octets_for three_length four_length
near-pays a b c d p q r n = omega arith

far-costs : (a b c d : ℕ) → a ≤ b → b < c → c ≤ d → b + 24 ≤ c → octets_for (b - a + 1) + octets_for (d - c + 1) < octets_for (d - a + 1)
unfolding octets_for three_length four_length
far-costs a b c d p q r n = omega arith

-- the same in weights
one-lighter : (x : ℕ) (g : List ℕ) (y : ℕ) (h : List ℕ) (d : List (List ℕ)) → x ≤ last_of x g → last_of x g < y → y ≤ last_of y h → y ≤ last_of x g + 17
    → weight ((x ∷ (g ++ (y ∷ h))) ∷ d) < weight ((x ∷ g) ∷ (y ∷ h) ∷ d)
unfolding price values
one-lighter x g y h d a b c n = rw (last-append x g y h) (omega (arith, near-pays x (last_of x g) y (last_of y h) a b c n))

two-lighter : (x : ℕ) (g : List ℕ) (y : ℕ) (h : List ℕ) (d : List (List ℕ)) → x ≤ last_of x g → last_of x g < y → y ≤ last_of y h → last_of x g + 24 ≤ y
    → weight ((x ∷ g) ∷ (y ∷ h) ∷ d) < weight ((x ∷ (g ++ (y ∷ h))) ∷ d)
unfolding price values
two-lighter x g y h d a b c n = rw (last-append x g y h) (omega (arith, far-costs x (last_of x g) y (last_of y h) a b c n))

module _ (l : List ℕ) (rising : Rising l) (x : ℕ) (g : List ℕ) (y : ℕ) (h : List ℕ) (d : List (List ℕ)) where
  module _ (e : x ∷ (g ++ (y ∷ (h ++ concat d))) ≡ l) where
    rises : Rises x (g ++ (y ∷ (h ++ concat d)))
    rises = subst Rising (sym e) rising

    low : x ≤ last_of x g
    low = rises-last x g (rises-left x g (y ∷ (h ++ concat d)) rises)

    mid : last_of x g < y
    mid = (rises-mid x g y (h ++ concat d) rises).0

    high : y ≤ last_of y h
    high = rises-last y h (rises-left y h (concat d) (rises-mid x g y (h ++ concat d) rises).1)

  -- the best weighs no more than any other
  not-over : (b c : List (List ℕ)) → best l ≡ b → Cutting l c → weight b ≤ weight c
  not-over b c e p = subst (λ (z : List (List ℕ)). weight z ≤ weight c) e (best-under l c p).0

  -- between the first two vectors, where they have one MAC, there are more than 16 Ignores
  near_first : best l ≡ (x ∷ g) ∷ (y ∷ h) ∷ d → mac y ≡ mac x → last_of x g + 17 < y
  near_first e m = go (leb y (last_of x g + 17)) refl
    where
      p : Cutting l ((x ∷ g) ∷ (y ∷ h) ∷ d)
      p = subst (Cutting l) e (best-cuts l)

      one : Cutting l ((x ∷ (g ++ (y ∷ h))) ∷ d)
      one =
          (ap (λ (z : List ℕ). x ∷ z) (append_assoc g (y ∷ h) (concat d)) ∙ p.0, (shares-join x g y h p.1.0 m p.1.1.0, p.1.1.1))

      go : (t : Bool) → leb y (last_of x g + 17) ≡ t → last_of x g + 17 < y
      go true b =
          absurd
          (omega (
            arith,
            one-lighter x g y h d (low p.0) (mid p.0) (high p.0) (leb-true _ _ b),
            not-over ((x ∷ g) ∷ (y ∷ h) ∷ d) ((x ∷ (g ++ (y ∷ h))) ∷ d) e one,
          ))
      go false b = leb-false _ _ b

  -- the first vector has no more than 22 Ignores in a row
  far-first : best l ≡ (x ∷ (g ++ (y ∷ h))) ∷ d → y ≤ last_of x g + 23
  far-first e = go (leb y (last_of x g + 23)) refl
    where
      p : Cutting l ((x ∷ (g ++ (y ∷ h))) ∷ d)
      p = subst (Cutting l) e (best-cuts l)

      f : x ∷ (g ++ (y ∷ (h ++ concat d))) ≡ l
      f = ap (λ (z : List ℕ). x ∷ z) (sym (append_assoc g (y ∷ h) (concat d))) ∙ p.0

      two : Cutting l ((x ∷ g) ∷ (y ∷ h) ∷ d)
      two = let s = shares-split x g y h p.1.0 in (f, (s.0, (s.1, p.1.1)))

      go : (t : Bool) → leb y (last_of x g + 23) ≡ t → y ≤ last_of x g + 23
      go true b = leb-true _ _ b
      go false b =
          let n : last_of x g + 24 ≤ y = omega (arith, leb-false y (last_of x g + 23) b) in
          absurd
          (omega (arith, two-lighter x g y h d (low f) (mid f) (high f) n, not-over ((x ∷ (g ++ (y ∷ h))) ∷ d) ((x ∷ g) ∷ (y ∷ h) ∷ d) e two))

-- Behind any vectors of the best cutting stands the best cutting of the rest: what is so of the first is so of every one.
best-behind : (c d : List (List ℕ)) (l : List ℕ) → Rising l → best l ≡ c ++ d → (m : List ℕ) × Rising m × (best m ≡ d)
best-behind [] d l rising e = (l, rising, e)
best-behind (g ∷ c) d l rising e =
    best-behind c d (drop (length g) l) (rising-drop (length g) l rising) (sym (best-next l g (c ++ d) e).1)

module _ (l : List ℕ) (rising : Rising l) (c : List (List ℕ)) (x : ℕ) (g : List ℕ) (y : ℕ) (h : List ℕ) (d : List (List ℕ)) where
  -- every cut between two declarations of one MAC has more than 16 StreamIDs between them
  pub near : best l ≡ c ++ ((x ∷ g) ∷ (y ∷ h) ∷ d) → mac y ≡ mac x → last_of x g + 17 < y
  near e = let b = best-behind c ((x ∷ g) ∷ (y ∷ h) ∷ d) l rising e in near_first b.0 b.1 x g y h d b.2

  -- no vector has more than 22 StreamIDs between two neighbouring declarations
  pub far : best l ≡ c ++ ((x ∷ (g ++ (y ∷ h))) ∷ d) → y ≤ last_of x g + 23
  far e = let b = best-behind c ((x ∷ (g ++ (y ∷ h))) ∷ d) l rising e in far-first b.0 b.1 x g y h d b.2

-- where twelve octets for each declaration fit, all fit: there is nothing to search
pub run-whole : (room : ℕ) (l : List ℕ) → length l ≤ 64 → Rising l → 12 * length l ≤ room → run room l ≡ length l
run-whole room l few rising h =
    let r : Longest (fits_in room l) (length l) (run room l) = run-longest room l few rising in
    let t : least (take (length l) l) ≤ room = rw (take-length l) (omega (arith, least-most l few)) in
    omega (arith, r.within, r.most (length l) (omega arith) (le-leb _ _ t))
