-- What the reader's answers mean: a refusal for each number of the definitions, and their values.
use Rattle.std.specs.Prelude.{List, false, ℕ, zero, suc, ◌+◌, ◌-◌, get_or, Option, Some, None, Result, Ok, Err}
use Rattle.octets.specs.Parts.{part}
use Rattle.model.specs.FrameLayout.{mac_length}
use Rattle.model.specs.Registrations.{AddressReading, refused_frame, address_acts}
use Rattle.model.specs.AddressFrames.{AddressList, service_list, mac_list, unknown_list, first_octets, InAddressPdu, bad_header, no_message, address_list_of, address_message_in, address_vector_in, AddressVector, ListWalk, list_fault, list_acts}
use Rattle.msrpdu.specs.Reader.{vector_meant, first_part, value_in}
use Rattle.msrpdu.specs.declared.VectorHead.{VectorHead}
use Rattle.msrpdu.specs.declared.VectorRead.{VectorRead}
use Rattle.model.specs.Numbers.{refusal_of}
use Rattle.model.specs.declared.refusal.Refusal.{Refusal}
use Rattle.mmrpdu.specs.declared.MessageHead.{MessageHead}

-- the list of a Message, by its type and AttributeLength
unfoldable pub list_named : ℕ → ℕ → AddressList
list_named zero octets = unknown_list octets
list_named (suc zero) octets = service_list
list_named (suc (suc zero)) octets = mac_list
list_named (suc (suc (suc kind))) octets = unknown_list octets

-- whether a Message's type and AttributeLength are in order
unfoldable pub header_answer : InAddressPdu → Result (Unit {0}) Refusal
header_answer (bad_header n) = Err (refusal_of n)
header_answer no_message = Ok tt
header_answer (address_list_of t) = Ok tt

-- what stands at a place of a PDU: a Message has its type octet, its AttributeLength and the place of its list
unfoldable pub message_meant : List ℕ → ℕ → InAddressPdu → Result (Option MessageHead) Refusal
message_meant s at (bad_header n) = Err (refusal_of n)
message_meant s at no_message = Ok None
message_meant s at (address_list_of t) = Ok (Some record { kind = get_or s at 0; octets = get_or s (at + 1) 0; list = at + 2 })

unfoldable pub message_read : ℕ → List ℕ → ℕ → Result (Option MessageHead) Refusal
message_read version s at = message_meant s at (address_message_in version s at)

-- what stands at a place of a list
unfoldable pub typed_read : ℕ → AddressList → List ℕ → ℕ → Result VectorRead Refusal
typed_read version t s at = vector_meant (first_octets t) false at (address_vector_in version t s at)

-- the vector that a head names in the PDU
unfoldable pub head_vector : List ℕ → VectorHead → AddressVector
head_vector s w = record {
  leaves_all = w.leaves;
  values = w.values;
  first = first_part s w;
  three = part w.three (w.four - w.three) s;
}

-- a list: the place behind its EndMark
unfoldable pub list_answer : ListWalk → Result ℕ Refusal
list_answer (list_fault n) = Err (refusal_of n)
list_answer (list_acts es end) = Ok end

-- 0 where the walk finds no fault
unfoldable pub number_of : AddressReading → ℕ
number_of (refused_frame n) = n
number_of (address_acts es) = 0

-- the same as an answer
unfoldable pub answer_of : AddressReading → Result (Unit {0}) Refusal
answer_of (refused_frame n) = Err (refusal_of n)
answer_of (address_acts es) = Ok tt

-- the address of value n, which any 48 bits are: n more than FirstValue, where that stays within its octets
unfoldable pub address_in : List ℕ → ℕ → Option ℕ
address_in first n = value_in mac_length mac_length 0 first n
