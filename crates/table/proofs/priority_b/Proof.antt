-- `table::priority_b` meets its contract. Assumes nothing.
use Prim.Native.Nat.{ℕ, ◌/◌, ◌%◌}
use mathlib.Core.Path.{ap, ◌∙◌}
use native.Mathlib.Omega.{arith}
use Rattle.table.proofs.Header.{laid-length, laid-priority-b}
use Rattle.table.proofs.priority_b.Statement.{statement}
use Rattle.table.proofs.priority_b.Tie as tie
use Rattle.model.specs.Layout.{priority_b_unit}

get-requires : tie.Need-get-requires
get-requires c κs = omega (arith, laid-length _ c.requires)

returns : tie.Need-returns
returns c = ap (λ (w : ℕ). w / priority_b_unit % 8) c.get.ensures.0 ∙ laid-priority-b _ c.requires

pub priority_b_spec : {M : Type 1} → statement M
priority_b_spec = tie.close (tie.spec get-requires returns)
