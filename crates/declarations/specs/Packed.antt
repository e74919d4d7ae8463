-- Listeners packed: the streams that say one, named by their places, and the octets of their vectors.
use Rattle.std.specs.Prelude.{◌≡◌, List, [], ◌∷◌, ◌++◌, map, true, ℕ, zero, suc, ◌+◌, ◌≤◌, ◌<◌, length, get_or, take}
use Rattle.octets.specs.Fields.{flat}
use Rattle.model.specs.FrameLayout.{longest_pdu}
use Rattle.model.specs.Lists.{All, tabulate}
use Rattle.model.specs.State.{asking_failed, Bridge, stream_at}
use Rattle.model.specs.Registrations.{listeners}
use Rattle.model.specs.Frames.{registers, three_length, four_length}
use Rattle.model.specs.Cutting.{Part, values, octets_for}
use Rattle.model.specs.Best.{least}
use Rattle.model.specs.Declarations.{listener_declaration, Said, declared_ids}
use Rattle.model.specs.Writing.{leaves_all}
use Rattle.model.specs.WrittenFrames.{said, event_said, three_octet, four_octet, vectors_of, vector_octets}
use Rattle.model.specs.Table.{decode}
use Rattle.table.specs.Places.{PortIn}
use Rattle.cutting.specs.Named.{ids_of, Named}
use Rattle.cutting.specs.Plan.{Counted}
use Rattle.declarations.specs.Vectors.{some}
use Rattle.declarations.specs.Passes.{said_by, said_from, later, MessageIn}

-- what is said of the Listener of the stream at place k, where it has something to say
unfoldable pub first_said : ℕ → List Said → Said
first_said id [] = record { declaration = listener_declaration id asking_failed; event = 0 }
first_said id (d ∷ l) = d

unfoldable pub listener_at : ℕ → Bridge → ℕ → Said
listener_at p b k = first_said (stream_at k b).id (said_by (registers listeners) p b k)

unfoldable pub listeners_at : ℕ → List ℕ → List ℕ → List Said
listeners_at p t places = map (listener_at p (decode t)) places

-- the streams at these places do so, and stand by ascending StreamID
abbrev pub Tells : List ℕ → ℕ → ℕ → Type 0
Tells t p k = some (said_by (registers listeners) p (decode t) k) ≡ true

pub record Telling (t : List ℕ) (p : ℕ) (places : List ℕ) : Type 0 where
  pub port : p < 8
  pub named : Named t places
  pub each : All (Tells t p) places

-- before and after the places of the Listeners to say from a place on are gathered
pub record PlacesIn (t : List ℕ) (p first : ℕ) (places : List ℕ) : Type 0 where
  pub port : PortIn t p
  pub few : length places ≤ 64
  pub enough : length places ≤ length (said_from (registers listeners) p (decode t) first)

pub record Placed (t : List ℕ) (p first : ℕ) (places : List ℕ) : Type 0 where
  pub telling : Telling t p places
  pub are : listeners_at p t places ≡ take (length places) (said_from (registers listeners) p (decode t) first)

-- what one is worth at position i of three packed events, and of four
unfoldable pub three_unit : ℕ → ℕ
three_unit zero = 36
three_unit (suc zero) = 6
three_unit (suc (suc i)) = 1

unfoldable pub four_unit : ℕ → ℕ
four_unit zero = 64
four_unit (suc zero) = 16
four_unit (suc (suc zero)) = 4
four_unit (suc (suc (suc i))) = 1

-- the packed events of n values, of which e tells the events and s the declaration types
unfoldable pub packed_events : ℕ → (ℕ → ℕ) → (ℕ → ℕ) → List ℕ
packed_events n e s = tabulate (three_length n) 0 (three_octet e) ++ tabulate (four_length true n) 0 (four_octet s)

-- of a part, and of its beginning h
unfoldable pub events_by : List Said → List Said → List ℕ
events_by g h =
    packed_events (values (declared_ids g)) (λ i. event_said h (get_or (declared_ids g) 0 0 + i)) (λ i. said h (get_or (declared_ids g) 0 0 + i))

unfoldable pub events_of : List Said → List ℕ
events_of g = events_by g g

-- room for them
pub record ValuesIn (t : List ℕ) (p : ℕ) (places out : List ℕ) : Type 0 where
  pub telling : Telling t p places
  pub part : Part (ids_of t places)
  pub room : length out ≡ three_length (values (ids_of t places)) + four_length true (values (ids_of t places))

-- and for the vector
pub record VectorOfPart (t : List ℕ) (p : ℕ) (places out : List ℕ) : Type 0 where
  pub telling : Telling t p places
  pub part : Part (ids_of t places)
  pub room : length out ≡ octets_for (values (ids_of t places))

unfoldable pub packed_vectors : List Said → List ℕ
packed_vectors l = flat vector_octets (vectors_of (registers listeners) l)

-- Listeners with the plan of their least cutting, and room for its vectors
pub record CutIn (t : List ℕ) (p : ℕ) (places firsts : List ℕ) (room : ℕ) : Type 0 where
  pub telling : Telling t p places
  pub long : length firsts ≡ 65
  pub planned : Counted (ids_of t places) 0 firsts
  pub fits : room ≡ least (ids_of t places)

-- their Message in at most a PDU's octets
pub record ListenersIn (t : List ℕ) (p : ℕ) (places firsts out : List ℕ) : Type 0 where
  pub port : PortIn t p
  pub some : 8 ≤ length out
  pub short : length out ≤ longest_pdu
  pub any : 0 < length places
  pub cut : (room : ℕ) → room + 6 ≡ length out → CutIn t p places firsts room

-- Listeners to say, before those that fit are taken
pub record PackedIn (t : List ℕ) (p : ℕ) (places : List ℕ) (at : ℕ) (b : List ℕ) : Type 0 where
  pub message : MessageIn t p (registers listeners) at b
  pub room : at + 8 + later (leaves_all (decode t) p) (registers listeners) ≤ longest_pdu
  pub any : 0 < length places
  pub telling : Telling t p places
