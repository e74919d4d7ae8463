-- Adler-32 (RFC 1950), and what it means that a buffer is kept.
use Rattle.std.specs.Prelude.{ℕ, ◌+◌, ◌*◌, ◌%◌, Bool, List, [], ◌∷◌, nat_eq}
use Rattle.std.specs.List.{list_all}

-- the sum of octets that are left: a is 1 and all octets so far, b the sum of every a, both modulo 65,521
unfoldable pub adler_from : ℕ → ℕ → List ℕ → ℕ
adler_from a b [] = b * 65536 + a
adler_from a b (x ∷ s) = adler_from ((a + x) % 65521) ((b + (a + x) % 65521) % 65521) s

abbrev pub adler32 : List ℕ → ℕ
adler32 s = adler_from 1 0 s

-- every octet is A5
abbrev pub filled : List ℕ → Bool
filled s = list_all (λ octet. nat_eq octet 165) s
