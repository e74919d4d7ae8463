-- Lists, as the definitions of the bridge use them.
use Rattle.std.specs.Prelude.{List, [], ◌∷◌, Bool, true, false, cond, ◌&&◌, ℕ, zero, suc, ◌+◌, ◌<◌, take, drop, eqb}

-- what holds of every element
abbrev pub All : {A : Type 0} → (A → Type 0) → List A → Type 0
All P [] = Unit {0}
All P (x ∷ l) = P x × All P l

-- every test of a list holds
unfoldable pub all_true : List Bool → Bool
all_true [] = true
all_true (b ∷ l) = b && all_true l

-- numbers that are all zero
unfoldable pub all_zero : List ℕ → Bool
all_zero [] = true
all_zero (n ∷ l) = eqb n 0 && all_zero l

-- a test that is asked for only where another holds
abbrev pub implies : Bool → Bool → Bool
implies a b = cond a b true

-- an element put before a list, where a test holds
abbrev pub keep : {A : Type 0} → Bool → A → List A → List A
keep true x l = x ∷ l
keep false x l = l

-- the values of f at the places p, p + 1, and so on, n of them
unfoldable pub tabulate : {A : Type 0} → ℕ → ℕ → (ℕ → A) → List A
tabulate zero p f = []
tabulate (suc n) p f = f p ∷ tabulate n (suc p) f

-- what arrived at port p, in its order, of arrivals that each have a port
module _ {X : Type 0} where
  unfoldable pub on : ℕ → List (ℕ × X) → List X
  on p [] = []
  on p (a ∷ f) = keep (eqb a.0 p) a.1 (on p f)

-- the first k parts of n octets, each read
unfoldable pub parts : {A : Type 0} → ℕ → (List ℕ → A) → ℕ → List ℕ → List A
parts n from zero s = []
parts n from (suc k) s = from (take n s) ∷ parts n from k (drop n s)

-- an octet, and octets
abbrev pub Octet : ℕ → Type 0
Octet b = b < 256

abbrev pub Octets : List ℕ → Type 0
Octets s = All Octet s

-- a number as a truth value and back
unfoldable pub bit : Bool → ℕ
bit true = 1
bit false = 0

-- how many numbers below n pass a test
unfoldable pub count_to : (ℕ → Bool) → ℕ → ℕ
count_to f zero = 0
count_to f (suc n) = count_to f n + bit (f n)

unfoldable pub is_one : ℕ → Bool
is_one k = eqb k 1

-- how many there are that pass a test, one more being tried until the first that does not: k pass, and n more are there
unfoldable pub longest : (ℕ → Bool) → ℕ → ℕ → ℕ
longest fits k zero = k
longest fits k (suc n) = cond (fits (k + 1)) (longest fits (k + 1) n) k
