-- Cuttings of a list of StreamIDs into vectors, what they take, and which comes first (02, xi).
use Rattle.std.specs.Prelude.{◌≡◌, List, [], ◌∷◌, ◌++◌, true, ℕ, ◌+◌, ◌-◌, ◌/◌, ◌≤◌, length}
use Rattle.model.specs.FrameLayout.{listener_length}
use Rattle.model.specs.Lists.{All}
use Rattle.model.specs.Frames.{three_length, four_length}

-- a StreamID is a number of 64 bits: MAC, then Unique ID of 16 bits
unfoldable pub mac : ℕ → ℕ
mac x = x / 65536

-- "StreamIDs with equal MAC in one vector": a part of the list that one vector has is not empty, and all have the first one's MAC
abbrev pub Shares : ℕ → List ℕ → Type 0
Shares x [] = Unit {0}
Shares x (y ∷ g) = (mac y ≡ mac x) × Shares x g

abbrev pub Part : List ℕ → Type 0
Part [] = ⊥
Part (x ∷ g) = Shares x g

-- a cutting of a list: parts that, one behind the other, are the list
abbrev pub concat : List (List ℕ) → List ℕ
concat [] = []
concat (g ∷ c) = g ++ concat c

abbrev pub Cutting : List ℕ → List (List ℕ) → Type 0
Cutting l c = (concat c ≡ l) × All Part c

-- "gaps filled with Ignore (35.2.2.7.2), none beginning or ending a vector": the values of a part's vector, from its first StreamID
-- to its last
abbrev pub last_of : ℕ → List ℕ → ℕ
last_of x [] = x
last_of x (y ∷ g) = last_of y g

unfoldable pub values : List ℕ → ℕ
values [] = 0
values (x ∷ g) = last_of x g - x + 1

-- the octets of a Listener's vector of n values: header, FirstValue, three-packed and four-packed events
unfoldable pub octets_for : ℕ → ℕ
octets_for n = 2 + listener_length + three_length n + four_length true n

abbrev pub octets : List (List ℕ) → ℕ
octets [] = 0
octets (g ∷ c) = octets_for (values g) + octets c

-- "and then the one with most values in the first vector, then in the second and so on": at the first vector whose size differs, c
-- has the larger. (A vector that is missing has no values.)
abbrev pub Wider : (List ℕ → ℕ) → List (List ℕ) → List (List ℕ) → Type 0
Wider size c [] = Unit {0}
Wider size [] (h ∷ d) = ⊥
Wider size (g ∷ c) (h ∷ d) = (size h ≤ size g) × (size g ≡ size h → Wider size c d)

-- "no other cutting into vectors takes fewer octets; on a tie take the fewest vectors, and then ..": the order of cuttings. `size` is
-- `values`, or `length` where only declarations are counted: on the cuttings of one list both give one order.
abbrev pub NotAfter : (List ℕ → ℕ) → List (List ℕ) → List (List ℕ) → Type 0
NotAfter size c d =
    (octets c ≤ octets d)
    × (octets c ≡ octets d → (length c ≤ length d) × (length c ≡ length d → Wider size c d))

-- c is the cutting to write: one of l, and no cutting of l comes before it
abbrev pub Least : (List ℕ → ℕ) → List ℕ → List (List ℕ) → Type 0
Least size l c = Cutting l c × ((d : List (List ℕ)) → Cutting l d → NotAfter size c d)
