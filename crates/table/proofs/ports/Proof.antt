-- `table::ports` meets its contract. Assumes nothing.
use Prim.Native.Nat.{ℕ, ◌/◌}
use mathlib.Core.Path.{ap, ◌∙◌}
use native.Mathlib.Omega.{arith}
use Rattle.table.proofs.Header.{laid-length, laid-ports, laid-eight}
use Rattle.table.proofs.ports.Statement.{statement}
use Rattle.table.proofs.ports.Tie as tie
use Rattle.model.specs.Layout.{ports_unit}

get-requires : tie.Need-get-requires
get-requires c κs = omega (arith, laid-length _ c.requires)

returns : tie.Need-returns
returns c =
    let e = ap (λ (w : ℕ). w / ports_unit) c.get.ensures.0 ∙ laid-ports _ c.requires in
    (e, omega (arith, e, laid-eight _ c.requires))

pub ports_spec : {M : Type 1} → statement M
ports_spec = tie.close (tie.spec get-requires returns)
