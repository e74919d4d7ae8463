-- A record for a stream: found, or made empty where there is room.
use Rattle.std.specs.Prelude.{ℕ, ◌≤◌, ◌<◌, ◌≡◌, List, true, length, Ok, Option, Some, None}
use Rattle.model.specs.State.{Stream}
use Rattle.model.specs.Registrations.{touch, holding, ids}
use Rattle.model.specs.Table.{encode, decode}
use Rattle.table.specs.Find.{found_at}

-- the streams of a table, with an empty one of this StreamID where it was not held
unfoldable pub enrolled : ℕ → List ℕ → List Stream
enrolled i t = touch true i (λ x. x) (decode t).streams

-- from the table t it leaves the table u, where the record stands at place k
pub record EnrolledAt (i : ℕ) (t : List ℕ) (k : ℕ) (u : List ℕ) : Type 0 where
  pub few : length (enrolled i t) ≤ 64
  pub found : found_at i 0 (ids (enrolled i t)) ≡ Ok k
  pub table : u ≡ encode (holding (decode t) (enrolled i t))

-- there would be more than 64, and the table stays
pub record NoRoom (i : ℕ) (t u : List ℕ) : Type 0 where
  pub many : 64 < length (enrolled i t)
  pub table : u ≡ t

abbrev pub Enrols : ℕ → List ℕ → Option ℕ → List ℕ → Type 0
Enrols i t (Some k) u = EnrolledAt i t k u
Enrols i t None u = NoRoom i t u
