-- `srpcalls::blank_room` meets its contract. Assumes nothing.
use Prim.Native.Nat.{ℕ}
use mathlib.Core.Path.{sym}
use lib.ListN.{length-replicate}
use Rattle.srpcalls.specs.Room.{room_octets}
use Rattle.srpcalls.proofs.blank_room.Statement.{statement}
use Rattle.srpcalls.proofs.blank_room.Tie as tie

returns : tie.Need-returns
returns c = sym {A = ℕ} (length-replicate {0} {A = ℕ} room_octets 0)

pub blank_room_spec : {M : Type 1} → statement M
blank_room_spec = tie.close (tie.spec returns)
