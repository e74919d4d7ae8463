-- What each step of a walk asks for.
use Rattle.std.specs.Prelude.{ℕ, suc, ◌+◌, ◌*◌, ◌/◌, ◌≤◌, ◌<◌, ◌≡◌, List, true, length, Ok}
use Rattle.octets.specs.Be.{be_at}
use Rattle.model.specs.Attributes.{type_of, kind_of}
use Rattle.model.specs.Frames.{registers, domain_type, known, vectors, walk}
use Rattle.model.specs.Laid.{Laid}
use Rattle.table.specs.Places.{StandsOn, PortIn}
use Rattle.msrpdu.specs.Reader.{typed_read}
use Rattle.msrpdu.specs.declared.VectorHead.{VectorHead}
use Rattle.msrpdu.specs.declared.VectorRead.TheVariants.{Vector}
use Rattle.registrar.specs.declared.ListWalk.{ListWalk}
use Rattle.registrar.specs.declared.StreamWalk.{StreamWalk}
use Rattle.registrar.specs.Acts.{is_found, HasValue, Declares}

-- a laid-out table, the place p of a port, and a well-formed frame
pub record FrameGiven (t : List ℕ) (p : ℕ) (pdu : List ℕ) : Type 0 where
  pub laid : Laid t
  pub port : p < 8
  pub found : is_found (walk pdu) ≡ true

-- a port, and a well-formed list
pub record ListGiven (t : List ℕ) (w : ListWalk) (l : List ℕ) : Type 0 where
  pub walk : PortIn t w.p
  pub found : is_found (vectors (suc (length l)) w.version (type_of w.attribute) l 0) ≡ true

-- a vector that was read at a place of its list
pub record VectorGiven (t : List ℕ) (w : ListWalk) (l : List ℕ) (head : VectorHead) : Type 0 where
  pub walk : PortIn t w.p
  pub at : ℕ
  pub read : typed_read w.version (known (type_of w.attribute)) l at ≡ Ok (Vector head)

-- values within their fields, with their events
pub record ValuesGiven (t : List ℕ) (w : ListWalk) (first three : List ℕ) (count : ℕ) : Type 0 where
  pub walk : PortIn t w.p
  pub events : count ≤ 3 * length three
  pub values : (n : ℕ) → n < count → HasValue (type_of w.attribute) first n

-- one of them
pub record ValueGiven (t : List ℕ) (w : ListWalk) (first three : List ℕ) (n : ℕ) : Type 0 where
  pub walk : PortIn t w.p
  pub event : n / 3 < length three
  pub value : HasValue (type_of w.attribute) first n

-- one that has an event, and its four-packed event; a Listener's is a declaration type
pub record EventGiven (t : List ℕ) (w : ListWalk) (first : List ℕ) (f n : ℕ) : Type 0 where
  pub walk : PortIn t w.p
  pub value : HasValue (type_of w.attribute) first n
  pub four : Declares (type_of w.attribute) f

-- a value that is heard
pub record HearGiven (t : List ℕ) (w : ListWalk) (first : List ℕ) (n : ℕ) : Type 0 where
  pub walk : PortIn t w.p
  pub value : HasValue (type_of w.attribute) first n

-- one of a Domain vector
pub record DomainGiven (t : List ℕ) (p : ℕ) (first : List ℕ) (n : ℕ) : Type 0 where
  pub laid : Laid t
  pub port : p < 8
  pub value : HasValue domain_type first n

-- a join of it, of its StreamID, and for a Listener with a declaration type
pub record JoinGiven (t : List ℕ) (w : StreamWalk) (i : ℕ) (first : List ℕ) (f n : ℕ) : Type 0 where
  pub walk : PortIn t w.p
  pub value : HasValue (registers (kind_of w.attribute)) first n
  pub id : i ≡ be_at 8 first 0 + n
  pub four : Declares (registers (kind_of w.attribute)) f

-- the same on stream k's cell
pub record CellGiven (t : List ℕ) (k : ℕ) (w : StreamWalk) (first : List ℕ) (f n : ℕ) : Type 0 where
  pub stands : StandsOn t k w.p
  pub value : HasValue (registers (kind_of w.attribute)) first n
  pub four : Declares (registers (kind_of w.attribute)) f
