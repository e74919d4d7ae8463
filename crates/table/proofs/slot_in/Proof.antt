-- `table::slot_in` meets its contract. Assumes nothing.
use native.Mathlib.Omega.{arith}
use borrow.Author.Rules.{rules}
use Rattle.table.proofs.Header.{laid-length}
use Rattle.table.proofs.OwnParts.{port-of-slot}
use Rattle.table.proofs.slot_in.Statement.{statement}
use Rattle.table.proofs.slot_in.Tie as tie

own-in-requires : tie.Need-own_in-requires
own-in-requires c κs = port-of-slot c.requires

returns : tie.Need-returns
returns c = omega (arith, c.requires.slot, c.requires.port, c.own_in.ensures.0, laid-length _ c.requires.laid)

pub slot_in_spec : {M : Type 1} → statement M
slot_in_spec = tie.close (tie.spec own-in-requires (λ c. search rules) (λ c. search rules) returns)
