-- Numbers in fields of given widths, one after another.
use Rattle.std.specs.Prelude.{ℕ, ◌+◌, ◌^◌, ◌<◌, List, [], ◌∷◌, ◌++◌}
use Rattle.octets.specs.Be.{be_at, be}

-- the numbers in fields of the widths ws, from place at on
unfoldable pub fields : List ℕ → ℕ → List ℕ → List ℕ
fields [] at s = []
fields (w ∷ ws) at s = be_at w s at ∷ fields ws (at + w) s

-- the octets of numbers in fields of the widths ws
unfoldable pub packed : List ℕ → List ℕ → List ℕ
packed [] vs = []
packed (w ∷ ws) [] = []
packed (w ∷ ws) (v ∷ vs) = be w v ++ packed ws vs

-- a number for each field, and each within its field
unfoldable pub Fit : List ℕ → List ℕ → Type 0
Fit [] [] = Unit {0}
Fit [] (v ∷ vs) = ⊥
Fit (w ∷ ws) [] = ⊥
Fit (w ∷ ws) (v ∷ vs) = (v < 256 ^ w) × Fit ws vs

-- the octets that the fields take
unfoldable pub width : List ℕ → ℕ
width [] = 0
width (w ∷ ws) = w + width ws

-- things of n octets each, one after another, and back
module _ {A : Type 0} where
  unfoldable pub flat : (A → List ℕ) → List A → List ℕ
  flat to [] = []
  flat to (a ∷ l) = to a ++ flat to l
