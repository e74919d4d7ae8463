-- `srpcalls::blank_space` meets its contract. Assumes nothing.
use Prim.Native.Nat.{ℕ}
use mathlib.Core.Path.{sym}
use lib.ListN.{length-replicate}
use Rattle.srpcalls.specs.Room.{space_octets}
use Rattle.srpcalls.proofs.blank_space.Statement.{statement}
use Rattle.srpcalls.proofs.blank_space.Tie as tie

returns : tie.Need-returns
returns c = sym {A = ℕ} (length-replicate {0} {A = ℕ} space_octets 0)

pub blank_space_spec : {M : Type 1} → statement M
blank_space_spec = tie.close (tie.spec returns)
