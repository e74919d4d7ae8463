-- The Domain values of a class among those of a port, and a port's flags.
use Rattle.std.specs.Prelude.{◌≡◌, List, Bool, ℕ, ◌+◌, ◌≤◌, length, take, drop}
use Rattle.model.specs.Layout.{own_size, slots}
use Rattle.model.specs.State.{Domain, Own}
use Rattle.model.specs.Laid.{LaidOwn}

-- what a port holds, and the first slot of a class
pub record ClassIn (s : List ℕ) (from : ℕ) : Type 0 where
  pub laid : LaidOwn s
  pub size : length s ≡ own_size
  pub within : from + 8 ≤ slots

-- by priority 0 to 7
unfoldable pub class_from : ℕ → List Domain → List Domain
class_from from ds = take 8 (drop from ds)

-- the flags of class A and class B as they are decided
abbrev pub flagged : Bool → Bool → Own → Own
flagged a b o = record { domains = o.domains; boundary_a = a; boundary_b = b; addresses = o.addresses }
