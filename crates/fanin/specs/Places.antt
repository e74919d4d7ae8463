-- Where the addresses of a table's streams are read: the first k streams have as settled values their Talkers' fixed values.
use Rattle.std.specs.Prelude.{◌≡◌, List, ℕ, ◌≤◌, ◌<◌, length}
use Rattle.model.specs.State.{stream_at}
use Rattle.model.specs.Settling.{source_of, fixed_of}
use Rattle.model.specs.Table.{decode}
use Rattle.model.specs.Laid.{Laid}
use Rattle.fanin.specs.Failures.{address_of}

pub record SettledTo (t : List ℕ) (k : ℕ) : Type 0 where
  pub laid : Laid t
  pub within : k ≤ length (decode t).streams
  pub values : (j : ℕ) → j < k → (stream_at j (decode t)).settled ≡ fixed_of (source_of (stream_at j (decode t)))

-- what gives the address of each stream up to k
pub record Addresses (t : List ℕ) (k : ℕ) {F : Type 0} (pre : F → ℕ → Type 0) (post : F → ℕ → ℕ → Type 0) (f : F) : Type 0 where
  pub callable : (j : ℕ) → j ≤ k → pre f j
  pub gives : (j a : ℕ) → j ≤ k → post f j a → a ≡ address_of (fixed_of (source_of (stream_at j (decode t))))
