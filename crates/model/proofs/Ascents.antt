-- Ascending lists, neighbour by neighbour.
use mathlib.Core.Path.{sym, subst}
use mathlib.Core.List.{List, [], ◌∷◌, ◌++◌}
use Prim.Native.Nat.{ℕ, zero, suc, ◌≤◌, ◌<◌}
use native.Mathlib.Omega.{arith}
use lib.ListN.{take, drop, take-append-drop}
use Rattle.model.specs.Lists.{All}
use Rattle.model.specs.Cutting.{last_of}
use Rattle.model.specs.Laid.{Ascending}
use Rattle.model.proofs.Lists.{all_take}

-- each is above the one before it
abbrev pub Rises : ℕ → List ℕ → Type 0
Rises x [] = Unit {0}
Rises x (y ∷ l) = (x < y) × Rises y l

abbrev pub Rising : List ℕ → Type 0
Rising [] = Unit {0}
Rising (x ∷ l) = Rises x l

pub ascending-rising : (l : List ℕ) → Ascending l → Rising l
ascending-rising [] a = tt
ascending-rising (x ∷ []) a = tt
ascending-rising (x ∷ y ∷ l) a = (a.0.0, ascending-rising (y ∷ l) a.1)

pub ascending-take : (n : ℕ) (l : List ℕ) → Ascending l → Ascending (take n l)
ascending-take zero l a = tt
ascending-take (suc n) [] a = tt
ascending-take (suc n) (x ∷ l) a = (all_take (λ y. x < y) n l a.0, ascending-take n l a.1)

pub ascending-drop : (n : ℕ) (l : List ℕ) → Ascending l → Ascending (drop n l)
ascending-drop zero l a = a
ascending-drop (suc n) [] a = tt
ascending-drop (suc n) (x ∷ l) a = ascending-drop n l a.1

-- all before one are below it
pub ascending-below : (l : List ℕ) (x : ℕ) (r : List ℕ) → Ascending (l ++ (x ∷ r)) → All (λ y. y < x) l
ascending-below [] x r a = tt
ascending-below (y ∷ l) x r a = (all-behind l a.0, ascending-below l x r a.1)
  where
    all-behind : (l : List ℕ) → All (λ z. y < z) (l ++ (x ∷ r)) → y < x
    all-behind [] b = b.0
    all-behind (z ∷ l) b = all-behind l b.1

-- parts of a list that rises
pub rises-left : (x : ℕ) (g r : List ℕ) → Rises x (g ++ r) → Rises x g
rises-left x [] r p = tt
rises-left x (y ∷ g) r p = (p.0, rises-left y g r p.1)

pub rising-left : (g r : List ℕ) → Rising (g ++ r) → Rising g
rising-left [] r p = tt
rising-left (x ∷ g) r p = rises-left x g r p

pub rising-right : (g r : List ℕ) → Rising (g ++ r) → Rising r
rising-right [] r p = p
rising-right (x ∷ []) [] p = tt
rising-right (x ∷ []) (y ∷ r) p = p.1
rising-right (x ∷ y ∷ g) r p = rising-right (y ∷ g) r p.1

pub rising-take : (k : ℕ) (l : List ℕ) → Rising l → Rising (take k l)
rising-take k l p = rising-left (take k l) (drop k l) (subst Rising (sym (take-append-drop k l)) p)

pub rising-drop : (k : ℕ) (l : List ℕ) → Rising l → Rising (drop k l)
rising-drop k l p = rising-right (take k l) (drop k l) (subst Rising (sym (take-append-drop k l)) p)

-- the last is not below the first
pub rises-last : (x : ℕ) (g : List ℕ) → Rises x g → x ≤ last_of x g
rises-last x [] p = omega arith
rises-last x (y ∷ g) p = omega (arith, rises-last y g p.1)

pub rises-mid : (x : ℕ) (g : List ℕ) (y : ℕ) (r : List ℕ) → Rises x (g ++ (y ∷ r)) → (last_of x g < y) × Rises y r
rises-mid x [] y r p = p
rises-mid x (z ∷ g) y r p = rises-mid z g y r p.1
