-- What loops over a slice keep.
use Prim.Native.Nat.{ℕ, ◌≤◌}
use mathlib.Core.Path.{◌≡◌}
use mathlib.Core.List.{List}
use lib.ListN.{length}

-- at turn i of at most n, where the slice s₀ has become s: it keeps its length, and P holds
pub record Turned (i n : ℕ) (s₀ s : List ℕ) (P : Type 0) : Type 0 where
  pub within : i ≤ n
  pub size : length s ≡ length s₀
  pub holds : P
