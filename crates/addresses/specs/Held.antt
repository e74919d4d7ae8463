-- What a record is found by among the octets that a port holds by itself: its place k among the addresses held.
use Rattle.std.specs.Prelude.{◌≡◌, List, ℕ, ◌≤◌, ◌<◌, true, length}
use Rattle.model.specs.Layout.{most_addresses, own_size}
use Rattle.model.specs.Settling.{holds_address}
use Rattle.model.specs.Table.{to_own}
use Rattle.model.specs.Laid.{LaidOwn}

pub record AddressIn (s : List ℕ) (k : ℕ) : Type 0 where
  pub laid : LaidOwn s
  pub size : length s ≡ own_size
  pub held : k < length (to_own s).addresses

-- room for one more, at place k
pub record RoomAt (s : List ℕ) (k : ℕ) : Type 0 where
  pub laid : LaidOwn s
  pub size : length s ≡ own_size
  pub few : length (to_own s).addresses < most_addresses
  pub within : k ≤ length (to_own s).addresses

-- an address that has a record
pub record HeldGiven (s : List ℕ) (mac : ℕ) : Type 0 where
  pub laid : LaidOwn s
  pub size : length s ≡ own_size
  pub holds : holds_address mac (to_own s).addresses ≡ true
