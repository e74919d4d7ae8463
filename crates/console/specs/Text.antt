-- A text put into a line. Assumes nothing.
use Rattle.std.specs.Prelude.{ℕ, zero, suc, ◌+◌, ◌-◌, ◌/◌, ◌%◌, ◌^◌, ◌≤◌, ◌<◌, min, ◌≡◌, List, [], ◌∷◌, ◌++◌, length, take, ltb}
use Rattle.octets.specs.Parts.{patch}
use Rattle.octets.specs.Pick.{pick}
use Rattle.io.specs.Digits.{hex_digit_ascii}

-- a number that stands in so many hexadecimal digits, at most 16
pub record HexGiven (n width : ℕ) : Type 0 where
  pub some : 1 ≤ width
  pub few : width ≤ 16
  pub fits : n < 16 ^ width

-- where a text starts that is put behind the first octets of a line
unfoldable pub start_of : List ℕ → ℕ → ℕ
start_of line at = min at (length line)

-- how much of it fits
unfoldable pub fitting : List ℕ → ℕ → List ℕ → ℕ
fitting line at text = min (length text) (length line - start_of line at)

-- the line with it: what does not fit is left out
unfoldable pub put_in : List ℕ → ℕ → List ℕ → List ℕ
put_in line at text = patch (start_of line at) (fitting line at text) (take (fitting line at text) text) line

-- what putting a text leaves
pub record Put (before : List ℕ) (at : ℕ) (text : List ℕ) (end : ℕ) (after : List ℕ) : Type 0 where
  pub end_is : end ≡ start_of before at + fitting before at text
  pub line_is : after ≡ put_in before at text
  pub within : end ≤ length after

-- a number in at most so many decimal digits, with no zero before them
unfoldable pub decimal_in : ℕ → ℕ → List ℕ
decimal_in zero n = []
decimal_in (suc k) n = pick (ltb n 10) [] (decimal_in k (n / 10)) ++ (hex_digit_ascii (n % 10) ∷ [])

-- a number below 10 ^ 20 in decimal
abbrev pub decimal : ℕ → List ℕ
decimal n = decimal_in 20 n

-- a space, and a number in decimal behind it
abbrev pub spaced : ℕ → List ℕ
spaced n = 32 ∷ decimal n
