-- The sizes of srpcalls' arrays.
use Rattle.std.specs.Prelude.{ℕ, ◌+◌, ◌*◌}
use Rattle.model.specs.Layout.{table_length}

-- the table, and some octets more, so that a longer one can be lent
abbrev pub room_octets : ℕ
room_octets = table_length + 64

-- words and numbers, and two digits for each octet of the room
abbrev pub space_octets : ℕ
space_octets = 256 + 2 * room_octets
