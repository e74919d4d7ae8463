-- What each function asks for.
use Rattle.std.specs.Prelude.{◌≡◌, List, ℕ, ◌+◌, ◌^◌, ◌≤◌, ◌<◌, length}
use Rattle.octets.specs.Be.{be_at}
use Rattle.model.specs.FrameLayout.{advertise_length, in_first_value}
use Rattle.model.specs.Layout.{cell_size, priority_b_unit}
use Rattle.model.specs.Frames.{registers, first_length}
use Rattle.model.specs.Laid.{LaidCell}
use Rattle.model.specs.Attributes.{talker_kind_of}
use Rattle.model.specs.declared.attribute.TalkerAttribute.{TalkerAttribute}

-- a laid-out cell
pub record CellGiven (s : List ℕ) : Type 0 where
  pub laid : LaidCell s
  pub size : length s ≡ cell_size

-- and a Listener's declaration type
pub record ListenerGiven (s : List ℕ) (four : ℕ) : Type 0 where
  pub laid : LaidCell s
  pub size : length s ≡ cell_size
  pub low : 1 ≤ four
  pub high : four ≤ 3

-- a laid-out cell, and value n of a Talker's FirstValue
pub record TalkerGiven (s : List ℕ) (a : TalkerAttribute) (first : List ℕ) (n : ℕ) : Type 0 where
  pub laid : LaidCell s
  pub size : length s ≡ cell_size
  pub octets : length first ≡ first_length (registers (talker_kind_of a))
  pub destination : be_at 6 first in_first_value.destination + n < 256 ^ 6

-- octets as many as a cell's, and the fixed values of value n
pub record FixedGiven (s first : List ℕ) (n : ℕ) : Type 0 where
  pub size : length s ≡ cell_size
  pub octets : advertise_length ≤ length first
  pub destination : be_at 6 first in_first_value.destination + n < 256 ^ 6

-- octets as many as a cell's, and the values that may vary, with a failure where the type has one
pub record VaryingGiven (s : List ℕ) (a : TalkerAttribute) (first : List ℕ) : Type 0 where
  pub size : length s ≡ cell_size
  pub octets : first_length (registers (talker_kind_of a)) ≤ length first

-- a laid-out cell, and a leave time
pub record ExpiryGiven (s : List ℕ) (leave : ℕ) : Type 0 where
  pub laid : LaidCell s
  pub size : length s ≡ cell_size
  pub leaves : leave < priority_b_unit
