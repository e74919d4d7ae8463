-- What each step of a walk asks for, of the octets s of what a port holds by itself.
use Rattle.std.specs.Prelude.{ℕ, ◌*◌, ◌/◌, ◌^◌, ◌≤◌, ◌<◌, ◌≡◌, List, length, Some, Ok}
use Rattle.model.specs.Registrations.{AddressAct, address_acts}
use Rattle.model.specs.Laid.{LaidOwn}
use Rattle.model.specs.AddressFrames.{mac_list, address_of, list_acts, address_walk}
use Rattle.msrpdu.specs.declared.VectorHead.{VectorHead}
use Rattle.msrpdu.specs.declared.VectorRead.TheVariants.{Vector}
use Rattle.mmrpdu.specs.Reader.{typed_read, address_in}
use Rattle.mmrpdu.specs.declared.MessageHead.{MessageHead}
use Rattle.addresses.specs.Room.{present_only}
use Rattle.mmrp.specs.Run.{held}
use Rattle.mmrp.specs.Walked.{list_read}

-- value n of FirstValue is an address of 48 bits
pub record HasAddress (first : List ℕ) (n : ℕ) : Type 0 where
  pub read : address_in first n ≡ Some (address_of first n)
  pub small : address_of first n < 2 ^ 48

-- one value, with its event
pub record ValueGiven (s first three : List ℕ) (n : ℕ) : Type 0 where
  pub laid : LaidOwn s
  pub event : n / 3 < length three
  pub value : HasAddress first n

-- so many of them
pub record ValuesGiven (s first three : List ℕ) (count : ℕ) : Type 0 where
  pub laid : LaidOwn s
  pub events : count ≤ 3 * length three
  pub values : (n : ℕ) → n < count → HasAddress first n

-- a vector that was read at a place of the PDU
pub record VectorGiven (s pdu : List ℕ) (head : VectorHead) : Type 0 where
  pub laid : LaidOwn s
  pub version : ℕ
  pub at : ℕ
  pub read : typed_read version mac_list pdu at ≡ Ok (Vector head)

-- a well-formed list, which starts within its PDU
pub record ListGiven (s pdu : List ℕ) (version : ℕ) (head : MessageHead) : Type 0 where
  pub laid : LaidOwn s
  pub within : head.list ≤ length pdu
  pub short : length pdu ≤ 1500
  pub acts : List AddressAct
  pub end : ℕ
  pub found : list_read pdu version head ≡ list_acts acts end

-- a well-formed frame
pub record FrameGiven (s pdu : List ℕ) : Type 0 where
  pub laid : LaidOwn s
  pub acts : List AddressAct
  pub found : address_walk pdu ≡ address_acts acts

-- .. on a port that holds no vacant address
pub record ReceiveGiven (s pdu : List ℕ) : Type 0 where
  pub frame : FrameGiven s pdu
  pub present : present_only (held s) ≡ held s
