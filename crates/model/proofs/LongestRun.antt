-- The least octets never fall when a declaration is added, and what that gives: the longest run that fits.
use mathlib.Core.Path.{◌≡◌, refl, sym, ◌∙◌, ap, subst}
use mathlib.Core.Bool.{Bool, true}
use mathlib.Core.List.{List, [], ◌∷◌, ◌++◌}
use Prim.Native.Nat.{ℕ, zero, suc, ◌+◌, ◌-◌, ◌*◌, ◌≤◌, ◌<◌}
use native.Mathlib.Omega.{arith}
use lib.Dec.{leb}
use lib.ListN.{length, take}
use lib.Seq.{take-take, take-nil}
use borrow.Author.Tests.{leb-true, le-leb}
use Rattle.model.specs.Lists.{All}
use Rattle.model.specs.Frames.{three_length, four_length}
use Rattle.model.specs.Cutting.{Shares, Part, concat, Cutting, last_of, values, octets_for, octets}
use Rattle.model.specs.Best.{bests, best, least, run}
use Rattle.model.proofs.Lists.{Longest, longest-longest}
use Rattle.model.proofs.Ascents.{Rises, Rising, rising-left, rising-right, rising-take, rises-last}
use Rattle.model.proofs.LeastCutting.{best-cuts}
use Rattle.model.proofs.OneCutting.{least-length}

-- a cutting of the first k declarations from one of all: vectors are shortened or left out
put : List ℕ → List (List ℕ) → List (List ℕ)
put [] c = c
put (x ∷ g) c = (x ∷ g) ∷ c

trim : ℕ → List (List ℕ) → List (List ℕ)
trim k [] = []
trim k (g ∷ c) = put (take k g) (trim (k - length g) c)

joined-put : (g : List ℕ) (c : List (List ℕ)) → concat (put g c) ≡ g ++ concat c
unfolding put
joined-put [] c = refl
joined-put (x ∷ g) c = refl

take-append : (k : ℕ) (g r : List ℕ) → take k g ++ take (k - length g) r ≡ take k (g ++ r)
take-append k [] r = let e : k - 0 ≡ k = omega arith in rw (take-nil k, e)
take-append zero (x ∷ g) r = let e : 0 - suc (length g) ≡ 0 = omega arith in rw e
take-append (suc k) (x ∷ g) r =
    let e : suc k - suc (length g) ≡ k - length g = omega arith in
    rw e (ap (λ (z : List ℕ). x ∷ z) (take-append k g r))

joined-trim : (k : ℕ) (c : List (List ℕ)) → concat (trim k c) ≡ take k (concat c)
unfolding trim
joined-trim k [] = sym (take-nil k)
joined-trim k (g ∷ c) =
    joined-put (take k g) (trim (k - length g) c) ∙ ap (λ (z : List ℕ). take k g ++ z) (joined-trim (k - length g) c) ∙ take-append k g (concat c)

shares-take : (k x : ℕ) (g : List ℕ) → Shares x g → Shares x (take k g)
shares-take zero x g s = tt
shares-take (suc k) x [] s = tt
shares-take (suc k) x (y ∷ g) s = (s.0, shares-take k x g s.1)

vectors-put : (k : ℕ) (g : List ℕ) (c : List (List ℕ)) → Part g → All Part c → All Part (put (take k g) c)
unfolding put
vectors-put zero g c v w = w
vectors-put (suc k) [] c v w = w
vectors-put (suc k) (x ∷ g) c v w = (shares-take k x g v, w)

vectors-trim : (k : ℕ) (c : List (List ℕ)) → All Part c → All Part (trim k c)
unfolding trim
vectors-trim k [] v = tt
vectors-trim k (g ∷ c) v = vectors-put k g (trim (k - length g) c) v.0 (vectors-trim (k - length g) c v.1)

-- it takes no more octets
last-take : (k x : ℕ) (g : List ℕ) → Rises x g → last_of x (take k g) ≤ last_of x g
last-take zero x g p = rises-last x g p
last-take (suc k) x [] p = omega arith
last-take (suc k) x (y ∷ g) p = last-take k y g p.1

octets-put : (k : ℕ) (g : List ℕ) (c : List (List ℕ)) → Rising g → octets (put (take k g) c) ≤ octets_for (values g) + octets c
unfolding put values octets_for three_length four_length
octets-put zero g c p = omega arith
octets-put (suc k) [] c p = omega arith
octets-put (suc k) (x ∷ g) c p = omega (arith, last-take k x g p)

octets-trim : (k : ℕ) (c : List (List ℕ)) → Rising (concat c) → octets (trim k c) ≤ octets c
unfolding trim
octets-trim k [] p = omega arith
octets-trim k (g ∷ c) p =
    omega (arith, octets-put k g (trim (k - length g) c) (rising-left g (concat c) p), octets-trim (k - length g) c (rising-right g (concat c) p))

pub length_cut : (k : ℕ) (l : List ℕ) → length (take k l) ≤ length l
length_cut zero l = omega arith
length_cut (suc k) [] = omega arith
length_cut (suc k) (x ∷ l) = omega (arith, length_cut k l)

module _ (l : List ℕ) (few : length l ≤ 64) (rising : Rising l) where
  -- the first k declarations take no more octets than all
  pub least-take : (k : ℕ) → least (take k l) ≤ least l
  unfolding least
  least-take k =
      let p : Cutting l (best l) = best-cuts l in
      let h : length (take k l) ≤ 64 = omega (arith, length_cut k l) in
      let q : Cutting (take k l) (trim k (best l)) = (joined-trim k (best l) ∙ ap (take k) p.0, vectors-trim k (best l) p.1) in
      omega (arith, ((least-length (take k l) h).1 (trim k (best l)) q).0, octets-trim k (best l) (subst Rising (sym p.0) rising))

-- nor do fewer than k declarations take more than k
pub least-rises : (l : List ℕ) → length l ≤ 64 → Rising l → (j k : ℕ) → j ≤ k → least (take j l) ≤ least (take k l)
least-rises l few rising j k h =
    let n : length (take k l) ≤ 64 = omega (arith, length_cut k l) in
    rw (take-take j k l h) at (least-take (take k l) n (rising-take k l rising) j)

-- so the run that is found is the longest that fits
abbrev pub fits_in : ℕ → List ℕ → ℕ → Bool
fits_in room l n = leb (least (take n l)) room

pub run-longest : (room : ℕ) (l : List ℕ) → length l ≤ 64 → Rising l → Longest (fits_in room l) (length l) (run room l)
unfolding run
run-longest room l few rising = longest-longest (fits_in room l) fewer (length l) (unfold least best bests in (le-leb 0 room (omega arith)))
  where
    fewer : (j k : ℕ) → j ≤ k → fits_in room l k ≡ true → fits_in room l j ≡ true
    fewer j k h e = le-leb (least (take j l)) room (omega (arith, least-rises l few rising j k h, leb-true (least (take k l)) room e))

-- A vector's number of values fits its field.

unfoldable pub singles : List ℕ → List (List ℕ)
singles [] = []
singles (x ∷ l) = (x ∷ []) ∷ singles l

pub singles-cut : (l : List ℕ) → Cutting l (singles l)
unfolding singles
singles-cut [] = (refl, tt)
singles-cut (x ∷ l) = (ap (λ (z : List ℕ). x ∷ z) (singles-cut l).0, (tt, (singles-cut l).1))

singles-cost : (l : List ℕ) → octets (singles l) ≡ 12 * length l
unfolding singles values octets_for three_length four_length
singles-cost [] = refl
singles-cost (x ∷ l) = omega (arith, singles-cost l)

-- the least is at most twelve octets for each declaration
pub least-most : (l : List ℕ) → length l ≤ 64 → least l ≤ 12 * length l
unfolding least
least-most l few = omega (arith, ((least-length l few).1 (singles l) (singles-cut l)).0, singles-cost l)

abbrev pub Small : List (List ℕ) → Type 0
Small c = All (λ g. values g < 2048) c

small : (c : List (List ℕ)) → octets c ≤ 768 → Small c
unfolding octets_for three_length four_length
small [] h = tt
small (g ∷ c) h = (omega arith, small c (omega arith))

-- with at most 64 declarations no vector of the best cutting has 2048 values (the field has 13 bits)
pub best-small : (l : List ℕ) → length l ≤ 64 → Small (best l)
unfolding least
best-small l h = small (best l) (omega (arith, least-most l (omega arith)))
