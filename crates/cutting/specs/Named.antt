-- Streams that are named by their places in a table, and their StreamIDs.
use Rattle.std.specs.Prelude.{List, map, ℕ, ◌≤◌, ◌<◌, length}
use Rattle.model.specs.Lists.{All}
use Rattle.model.specs.State.{stream_at}
use Rattle.model.specs.Table.{decode}
use Rattle.model.specs.Cutting.{Part}
use Rattle.model.specs.Laid.{Ascending, Laid}

unfoldable pub ids_of : List ℕ → List ℕ → List ℕ
ids_of t places = map (λ k. (stream_at k (decode t)).id) places

-- at most 64 that the table holds, by ascending StreamID
pub record Named (t places : List ℕ) : Type 0 where
  pub laid : Laid t
  pub few : length places ≤ 64
  pub held : All (λ k. k < length (decode t).streams) places
  pub ascending : Ascending (ids_of t places)

-- they are a part of a cutting
pub record PartIn (t places : List ℕ) : Type 0 where
  pub named : Named t places
  pub part : Part (ids_of t places)
