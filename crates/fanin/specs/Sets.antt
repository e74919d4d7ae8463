-- A set of ports in one octet: the port at place p has the bit of 2 ^ p.
use Rattle.std.specs.Prelude.{Bool, Option, Some, None, ℕ, zero, suc, ◌+◌, ◌*◌, ◌^◌, ◌<◌}
use Rattle.std.specs.Int.Bits.{bit_or}
use Rattle.model.specs.Lists.{bit}

-- the places below n that pass a test
unfoldable pub set_to : (ℕ → Bool) → ℕ → ℕ
set_to f zero = 0
set_to f (suc n) = bit (f n) * 2 ^ n + set_to f n

-- a set with a stream's Talker port in it
unfoldable pub includes : ℕ → Option ℕ → ℕ
includes set None = set
includes set (Some t) = bit_or set (2 ^ t)

-- a Talker port that is a port
abbrev pub Placed : Option ℕ → Type 0
Placed None = Unit {0}
Placed (Some t) = t < 8
