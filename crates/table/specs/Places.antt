-- What a part of a table is found by: the place k of a stream that the table holds, the place p of a port.
use Rattle.std.specs.Prelude.{◌≡◌, List, ℕ, ◌≤◌, ◌<◌, length}
use Rattle.model.specs.Layout.{slots, table_length}
use Rattle.model.specs.Table.{decode}
use Rattle.model.specs.Laid.{Laid}

pub record Stands (t : List ℕ) (k : ℕ) : Type 0 where
  pub laid : Laid t
  pub held : k < length (decode t).streams

pub record PortIn (t : List ℕ) (p : ℕ) : Type 0 where
  pub laid : Laid t
  pub port : p < 8

-- its Domain value in slot i
pub record SlotIn (t : List ℕ) (p i : ℕ) : Type 0 where
  pub laid : Laid t
  pub port : p < 8
  pub slot : i < slots

pub record StandsOn (t : List ℕ) (k p : ℕ) : Type 0 where
  pub laid : Laid t
  pub held : k < length (decode t).streams
  pub port : p < 8

-- room for one stream more, at place k
pub record RoomAt (t : List ℕ) (k : ℕ) : Type 0 where
  pub laid : Laid t
  pub few : length (decode t).streams < 64
  pub within : k ≤ length (decode t).streams

-- octets as many as a table's, and the place k of a record up to that of another
pub record RecordTo (t : List ℕ) (k n : ℕ) : Type 0 where
  pub size : length t ≡ table_length
  pub within : k ≤ n
  pub few : n < 64
