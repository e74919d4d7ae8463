-- What the numbers by importance are asked to be, and what a turn by one of them leaves.
use Rattle.std.specs.Prelude.{◌≡◌, List, ℕ, ◌%◌, ◌≤◌, ◌<◌, length}
use Rattle.model.specs.Lists.{All}
use Rattle.model.specs.State.{Class, Bridge}
use Rattle.model.specs.Table.{decode, encode}
use Rattle.model.specs.Laid.{Laid}
use Rattle.admission.specs.Sharing.{used_next, turn_at, used_on, turns_on}

-- each of the numbers is that of a stream
pub record Numbered (t numbers : List ℕ) : Type 0 where
  pub laid : Laid t
  pub placed : All (λ m. m % 64 < length (decode t).streams) numbers

-- after the turn of stream k of the bridge b, where so much was used before: the table, and what is used
pub record Turned (p : ℕ) (c : Class) (limit k before : ℕ) (b : Bridge) (t : List ℕ) (next : ℕ) : Type 0 where
  pub table : t ≡ encode (turn_at p c limit k before b)
  pub used : next ≡ used_next p c limit k before b
  pub within : next ≤ limit

-- after the turns of these numbers on the bridge b
pub record TookTurns (p : ℕ) (c : Class) (limit : ℕ) (numbers : List ℕ) (b : Bridge) (t : List ℕ) (next : ℕ) : Type 0 where
  pub used : next ≡ used_on p c limit numbers 0 b
  pub table : t ≡ encode (turns_on p c limit numbers 0 b)
  pub within : next ≤ limit
