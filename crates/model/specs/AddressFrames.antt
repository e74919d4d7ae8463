-- The MMRP PDU: octets read as acts on MAC addresses, or refused with a number (02, vi; 10.8, 10.12). Its vectors are those of
-- `Frames`. "A Message has no list length, and its list ends at its EndMark", so a place in a list is one in the PDU.
use Rattle.std.specs.Prelude.{List, [], ◌∷◌, ◌++◌, Bool, true, false, cond, not, ◌&&◌, ℕ, zero, suc, ◌+◌, ◌-◌, ◌/◌, ◌%◌, ◌^◌, length, get_or, ltb, eqb}
use Rattle.octets.specs.Be.{be_at}
use Rattle.octets.specs.Parts.{part}
use Rattle.model.specs.FrameLayout.{longest_pdu, mac_length, service_length}
use Rattle.model.specs.State.{Settings}
use Rattle.model.specs.Registrations.{AddressAct, leave_all_addresses, leave_address, join_address, AddressReading, refused_frame, address_acts}
use Rattle.model.specs.Frames.{three_length, vector_end, InList, bad_vector, list_end, vector_head, passed_over, vector_in, end_mark, event, three_packed, Asking, nothing_asked, join, withdraw, asking, wrong_port}

-- Lists.

-- a list of Service Requirements, of MAC addresses, or of a type that only a higher version knows, with its AttributeLength
pub data AddressList : Type 0 where
  service_list mac_list : AddressList
  unknown_list : (first : ℕ) → AddressList

-- the octets of FirstValue
unfoldable pub first_octets : AddressList → ℕ
first_octets service_list = service_length
first_octets mac_list = mac_length
first_octets (unknown_list first) = first

-- What stands at a place of a PDU.

-- a fault with its number, the end, or a Message, whose list starts behind its header of two octets
pub data InAddressPdu : Type 0 where
  bad_header : ℕ → InAddressPdu
  no_message : InAddressPdu
  address_list_of : AddressList → InAddressPdu

-- by version, type and AttributeLength: type 0 is 4; "Types above 2 are refused with 4 at version 0; at a higher version their
-- vectors are walked by the AttributeLength and dropped"; 5 where the length is not that of a known type
unfoldable pub address_header : ℕ → ℕ → ℕ → InAddressPdu
address_header version zero octets = bad_header 4
address_header version (suc zero) octets = cond (eqb octets service_length) (address_list_of service_list) (bad_header 5)
address_header version (suc (suc zero)) octets = cond (eqb octets mac_length) (address_list_of mac_list) (bad_header 5)
address_header version (suc (suc (suc t))) octets = cond (eqb version 0) (bad_header 4) (address_list_of (unknown_list octets))

-- the next Message, EndMark or the PDU's end; a Message's two header octets (3), its type (4), the length of known types (5): one
-- octet is 3
unfoldable pub address_message_in : ℕ → List ℕ → ℕ → InAddressPdu
address_message_in version s at =
    cond (eqb at (length s)) no_message
    (cond (end_mark s at) no_message
    (cond (ltb (length s) (at + 2)) (bad_header 3)
    (address_header version (get_or s at 0) (get_or s (at + 1) 0))))

-- What stands at a place of a list.

-- past FF-FF-FF-FF-FF-FF, and for Service Requirement past 255: no wrap, all positions count, 0 values don't; the last of n
-- values runs past FirstValue's octets
unfoldable pub runs_out : ℕ → List ℕ → ℕ → Bool
runs_out octets first n = not (eqb n 0) && ltb (256 ^ octets - 1) (be_at octets first 0 + (n - 1))

-- of an unknown type "3 [is] the only check"
unfoldable pub overruns : AddressList → List ℕ → ℕ → Bool
overruns service_list first n = runs_out service_length first n
overruns mac_list first n = runs_out mac_length first n
overruns (unknown_list octets) first n = false

-- the values of a vector are checked last, and those of one that is passed over not at all
unfoldable pub addresses_checked : AddressList → List ℕ → ℕ → InList → InList
addresses_checked t s at (bad_vector n) = bad_vector n
addresses_checked t s at list_end = list_end
addresses_checked t s at (vector_head h) = cond (overruns t (part (at + 2) (first_octets t) s) (h % 8192)) (bad_vector 7) (vector_head h)
addresses_checked t s at (passed_over h) = passed_over h

-- the vector reader of every MRP application, without FourPackedEvents. Above version 0, where alone there are unknown types,
-- it checks 3 only; "3 if the PDU ends first", before the EndMark
unfoldable pub address_vector_in : ℕ → AddressList → List ℕ → ℕ → InList
address_vector_in version t s at = addresses_checked t s at (vector_in version (first_octets t) false s at)

-- What a vector asks for.

pub record AddressVector : Type 0 where
  pub leaves_all : Bool
  pub values : ℕ
  pub first : List ℕ
  pub three : List ℕ

-- the vector whose header, h, stands at a place
unfoldable pub address_vector_at : AddressList → List ℕ → ℕ → ℕ → AddressVector
address_vector_at t s at h = record {
  leaves_all = eqb (h / 8192) 1;
  values = h % 8192;
  first = part (at + 2) (first_octets t) s;
  three = part (at + 2 + first_octets t) (three_length (h % 8192)) s;
}

-- the address of value n: n more than FirstValue
unfoldable pub address_of : List ℕ → ℕ → ℕ
address_of first n = be_at mac_length first 0 + n

-- "the same Registrar rules"
unfoldable pub address_act : ℕ → Asking → List AddressAct
address_act mac nothing_asked = []
address_act mac join = join_address mac ∷ []
address_act mac withdraw = leave_address mac ∷ []

-- what value n asks for
unfoldable pub address_asking : List ℕ → ℕ → Asking
address_asking three n = asking (event (three_packed (get_or three (n / 3) 0) (n % 3)))

-- the k values from value n on
unfoldable pub address_values : AddressVector → ℕ → ℕ → List AddressAct
address_values v n zero = []
address_values v n (suc k) = address_act (address_of v.first n) (address_asking v.three n) ++ address_values v (suc n) k

-- that of type 2: all addresses of that port, first
unfoldable pub all_addresses : Bool → List AddressAct
all_addresses true = leave_all_addresses ∷ []
all_addresses false = []

-- Service Requirements are "read and dropped", with their LeaveAll, and so are unknown types
unfoldable pub address_vector_acts : AddressList → AddressVector → List AddressAct
address_vector_acts service_list v = []
address_vector_acts mac_list v = all_addresses v.leaves_all ++ address_values v 0 v.values
address_vector_acts (unknown_list first) v = []

-- The walk.

-- a list from a place on: the number of the first fault, or its acts and the place behind its EndMark
pub data ListWalk : Type 0 where
  list_fault : ℕ → ListWalk
  list_acts : List AddressAct → (end : ℕ) → ListWalk

unfoldable pub then_list : List AddressAct → ListWalk → ListWalk
then_list es (list_fault n) = list_fault n
then_list es (list_acts ds end) = list_acts (es ++ ds) end

unfoldable pub addresses_from : AddressList → List ℕ → ℕ → InList → (ℕ → ListWalk) → ListWalk
addresses_from t s at (bad_vector n) rest = list_fault n
addresses_from t s at list_end rest = list_acts [] (at + 2)
addresses_from t s at (vector_head h) rest = then_list (address_vector_acts t (address_vector_at t s at h)) (rest (vector_end (first_octets t) false at h))
addresses_from t s at (passed_over h) rest = rest (vector_end (first_octets t) false at h)

-- (The first argument bounds the vectors left.)
unfoldable pub address_vectors : ℕ → ℕ → AddressList → List ℕ → ℕ → ListWalk
address_vectors zero version t s at = list_fault 3
address_vectors (suc f) version t s at = addresses_from t s at (address_vector_in version t s at) (address_vectors f version t s)

unfoldable pub then_frame : List AddressAct → AddressReading → AddressReading
then_frame es (refused_frame n) = refused_frame n
then_frame es (address_acts ds) = address_acts (es ++ ds)

-- what a list gives, and then the Messages from its end on
unfoldable pub after_list : ListWalk → (ℕ → AddressReading) → AddressReading
after_list (list_fault n) rest = refused_frame n
after_list (list_acts es end) rest = then_frame es (rest end)

-- the Messages from a place on, to the EndMark or the end. (The first argument bounds the Messages left.)
unfoldable pub address_messages_from : ℕ → List ℕ → ℕ → InAddressPdu → (ℕ → AddressReading) → AddressReading
address_messages_from version s at (bad_header n) rest = refused_frame n
address_messages_from version s at no_message rest = address_acts []
address_messages_from version s at (address_list_of t) rest = after_list (address_vectors (suc (length s)) version t s (at + 2)) rest

unfoldable pub address_messages : ℕ → ℕ → List ℕ → ℕ → AddressReading
address_messages zero version s at = refused_frame 3
address_messages (suc f) version s at = address_messages_from version s at (address_message_in version s at) (address_messages f version s)

-- a PDU: 2 "has 0 octets or more than 1,500"; then the walk, from behind the ProtocolVersion
unfoldable pub address_walk : List ℕ → AddressReading
address_walk s =
    cond (eqb (length s) 0) (refused_frame 2)
    (cond (ltb longest_pdu (length s)) (refused_frame 2)
    (address_messages (suc (length s)) (get_or s 0 0) s 1))

-- handed over on a port, numbered from 1: 1 "port is 0 or above the bridge's ports", then 2 to 7 "in the same order"
unfoldable pub address_reading : Settings → ℕ → List ℕ → AddressReading
address_reading st p s = cond (wrong_port st p) (refused_frame 1) (address_walk s)
