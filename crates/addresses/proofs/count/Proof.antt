-- `addresses::count` meets its contract. Assumes nothing.
use native.Mathlib.Omega.{arith}
use Rattle.model.specs.Layout.{in_own}
use Rattle.addresses.proofs.Records.{held-octet, held-few}
use Rattle.addresses.proofs.count.Statement.{statement}
use Rattle.addresses.proofs.count.Tie as tie

cast-result : tie.Need-overflow_cast-result
cast-result c = omega (arith, c.shared_slice_known-1.given in_own.count)

returns : tie.Need-returns
returns c = (held-octet _, held-few _ c.requires.0)

pub count_spec : {M : Type 1} → statement M
count_spec = tie.close (tie.spec (λ c. omega arith) cast-result returns)
