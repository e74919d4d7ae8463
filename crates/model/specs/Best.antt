-- The least cutting, computed: for each tail of the list, from the last one back, the best cutting of that tail.
use Rattle.std.specs.Prelude.{cond, List, [], ◌∷◌, ◌++◌, ℕ, ◌+◌, ◌*◌, length, get_or, take, drop, ltb, leb, eqb}
use Rattle.model.specs.Lists.{longest}
use Rattle.model.specs.Cutting.{mac, values, octets_for, octets}

-- Octets and vectors in one number: it adds up over the vectors, and where there are at most 64 of them one comparison
-- orders by octets and then by vectors. (The least for 64 declarations is at most 781 * 64, which is below 2^16.)
unfoldable pub price : ℕ → ℕ
price n = octets_for n * 65 + 1

abbrev pub weight : List (List ℕ) → ℕ
weight [] = 0
weight (g ∷ c) = price (values g) + weight c

-- of two, the second unless it weighs more
unfoldable pub lighter : List (List ℕ) → List (List ℕ) → List (List ℕ)
lighter c d = cond (ltb (weight c) (weight d)) c d

-- The best of c and of all cuttings whose first part is x ∷ g and one or more of what follows it: r follows, and bs has the
-- best cuttings of the tails of r, the longest tail first. On a tie the longer first part is taken, as it comes later.
unfoldable pub longer : ℕ → List ℕ → List ℕ → List (List (List ℕ)) → List (List ℕ) → List (List ℕ)
longer x g [] bs c = c
longer x g (y ∷ r) bs c =
    cond (eqb (mac y) (mac x)) (longer x (g ++ (y ∷ [])) r (drop 1 bs) (lighter c ((x ∷ (g ++ (y ∷ []))) ∷ get_or bs 0 []))) c

-- the best cuttings of the list and of each of its tails, the list's own first
unfoldable pub bests : List ℕ → List (List (List ℕ))
bests [] = [] ∷ []
bests (x ∷ l) = longer x [] l (drop 1 (bests l)) ((x ∷ []) ∷ get_or (bests l) 0 []) ∷ bests l

unfoldable pub best : List ℕ → List (List ℕ)
best l = get_or (bests l) 0 []

-- the least octets
unfoldable pub least : List ℕ → ℕ
least l = octets (best l)

-- how many are in the longest run from a list's front "whose shortest cutting fits" in so many octets
unfoldable pub run : ℕ → List ℕ → ℕ
run room l = longest (λ n. leb (least (take n l)) room) 0 (length l)
