-- `table::priority_a` meets its contract. Assumes nothing.
use Prim.Native.Nat.{ℕ, ◌/◌, ◌%◌}
use mathlib.Core.Path.{ap, ◌∙◌}
use native.Mathlib.Omega.{arith}
use Rattle.table.proofs.Header.{laid-length, laid-priority-a}
use Rattle.table.proofs.priority_a.Statement.{statement}
use Rattle.table.proofs.priority_a.Tie as tie
use Rattle.model.specs.Layout.{priority_a_unit}

get-requires : tie.Need-get-requires
get-requires c κs = omega (arith, laid-length _ c.requires)

returns : tie.Need-returns
returns c = ap (λ (w : ℕ). w / priority_a_unit % 8) c.get.ensures.0 ∙ laid-priority-a _ c.requires

pub priority_a_spec : {M : Type 1} → statement M
priority_a_spec = tie.close (tie.spec get-requires returns)
