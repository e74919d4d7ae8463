-- `table::leave_time` meets its contract. Assumes nothing.
use Prim.Native.Nat.{ℕ, ◌%◌}
use mathlib.Core.Path.{ap, ◌∙◌}
use native.Mathlib.Omega.{arith}
use Rattle.table.proofs.Header.{laid-length, laid-leave-time}
use Rattle.table.proofs.leave_time.Statement.{statement}
use Rattle.table.proofs.leave_time.Tie as tie
use Rattle.model.specs.Layout.{priority_b_unit}

get-requires : tie.Need-get-requires
get-requires c κs = omega (arith, laid-length _ c.requires)

returns : tie.Need-returns
returns c = (ap (λ (w : ℕ). w % priority_b_unit) c.get.ensures.0 ∙ laid-leave-time _ c.requires, omega arith)

pub leave_time_spec : {M : Type 1} → statement M
leave_time_spec = tie.close (tie.spec get-requires (λ c. omega arith) returns)
