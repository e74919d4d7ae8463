-- What the reader's answers mean: a refusal for each number of 01, and its values.
use Rattle.std.specs.Prelude.{List, [], Bool, cond, ℕ, ◌+◌, ◌-◌, ◌/◌, ◌%◌, ◌^◌, length, get_or, ltb, eqb, Option, Some, None, Result, Ok, Err}
use Rattle.octets.specs.Be.{be_at}
use Rattle.octets.specs.Parts.{part}
use Rattle.model.specs.Numbers.{refusal_of}
use Rattle.model.specs.Attributes.{code_of}
use Rattle.model.specs.declared.attribute.Attribute as attribute
use Rattle.model.specs.declared.refusal.Refusal.{Refusal}
use Rattle.model.specs.declared.refusal.Refusal.TheVariants as refusal
use Rattle.model.specs.declared.event.Event.{Event}
use Rattle.model.specs.declared.event.Event.TheVariants.{New, JoinIn, In, JoinMt, Mt, Lv}
use Rattle.model.specs.Frames.{Attribute, TypeOctet, not_allowed, unknown, known, first_length, three_length, has_four, Vector, vector_end, runs_past, InList, bad_vector, list_end, vector_head, passed_over, vector_in, typed_in, vectors, InPdu, bad_message, pdu_end, list_skipped, list_of, message_end, message_in, Walk, fault, found, three_packed, four_packed, has_slot}
use Rattle.model.specs.FrameLayout.{domain_length}
use Rattle.model.specs.Frames as frames
use Rattle.msrpdu.specs.declared.VectorHead.{VectorHead}
use Rattle.msrpdu.specs.declared.VectorRead.{VectorRead}
use Rattle.msrpdu.specs.declared.VectorRead.TheVariants as vector
use Rattle.msrpdu.specs.declared.MessageRead.{MessageRead}
use Rattle.msrpdu.specs.declared.MessageRead.TheVariants as message
use Rattle.model.specs.State.{slot_of}

-- the type octet: refused, skipped, or known with the octets of its FirstValue
unfoldable pub type_read : TypeOctet → Result (Option (attribute.Attribute × ℕ)) Refusal
type_read not_allowed = Err refusal.AttributeType
type_read unknown = Ok None
type_read (known k) = Ok (Some (code_of k, first_length k))

-- a vector at a place, of header h: LeaveAll, the number of values, the places of its parts, and the place after it
unfoldable pub head_of : ℕ → Bool → ℕ → ℕ → VectorHead
head_of first four at h = record {
  leaves = eqb (h / 8192) 1;
  values = h % 8192;
  first = at + 2;
  three = at + 2 + first;
  four = at + 2 + first + three_length (h % 8192);
  next = vector_end first four at h;
}

-- what stands at a place of an AttributeList, by the octets of FirstValue and whether FourPackedEvents follow; a vector that is
-- passed over has the place after it, "since its layout still gives its length"
unfoldable pub vector_meant : ℕ → Bool → ℕ → InList → Result VectorRead Refusal
vector_meant first four at (bad_vector n) = Err (refusal_of n)
vector_meant first four at list_end = Ok vector.EndMark
vector_meant first four at (vector_head h) = Ok (vector.Vector (head_of first four at h))
vector_meant first four at (passed_over h) = Ok (vector.PassedOver (vector_end first four at h))

unfoldable pub vector_read : ℕ → ℕ → Bool → List ℕ → ℕ → Result VectorRead Refusal
vector_read version first four l at = vector_meant first four at (vector_in version first four l at)

-- a vector that fits and has events that are not known here, by its head
unfoldable pub strange_read : ℕ → VectorHead → Result VectorRead Refusal
strange_read version w = cond (eqb version 0) (Err refusal.Event) (Ok (vector.PassedOver w.next))

-- of a known type; a list of any other type is not read
unfoldable pub typed_read : ℕ → TypeOctet → List ℕ → ℕ → Result VectorRead Refusal
typed_read version not_allowed l at = Err refusal.AttributeType
typed_read version unknown l at = Err refusal.AttributeType
typed_read version (known k) l at = vector_meant (first_length k) (has_four k) at (typed_in version k l at)

-- FirstValue between the places of a head; empty for one with places past the list
unfoldable pub first_part : List ℕ → VectorHead → List ℕ
first_part l w = cond (ltb (length l) w.three) [] (part w.first (w.three - w.first) l)

-- "The vector reader hands back the FirstValue itself, as that part of the caller's frame; where it refuses or meets the
-- EndMark, the part is empty". So it is where it passes over
unfoldable pub first_meant : {E : Type 0} → List ℕ → Result VectorRead E → List ℕ
first_meant l (Err e) = []
first_meant l (Ok vector.EndMark) = []
first_meant l (Ok (vector.PassedOver next)) = []
first_meant l (Ok (vector.Vector w)) = first_part l w

-- the vector that a head names in its list
unfoldable pub head_vector : Attribute → List ℕ → VectorHead → Vector
head_vector k l w = record {
  attribute = k;
  leaves_all = w.leaves;
  values = w.values;
  first = first_part l w;
  three = part w.three (w.four - w.three) l;
  four = part w.four (w.next - w.four) l;
}

-- what stands at a place of a PDU: a Message to read has its type, the place of its list and the place after it
unfoldable pub message_meant : List ℕ → ℕ → InPdu → Result MessageRead Refusal
message_meant s at (bad_message n) = Err (refusal_of n)
message_meant s at pdu_end = Ok message.End
message_meant s at list_skipped = Ok (message.Skipped (message_end s at))
message_meant s at (list_of k) = Ok (message.List record { attribute = code_of k; list = at + 4; next = message_end s at })

unfoldable pub message_read : ℕ → List ℕ → ℕ → Result MessageRead Refusal
message_read version s at = message_meant s at (message_in version s at)

-- the vectors of a list whose type octet is read: those of a known type
unfoldable pub vectors_in : ℕ → TypeOctet → ℕ → List ℕ → ℕ → Walk
vectors_in version not_allowed f l at = fault 4
vectors_in version unknown f l at = fault 4
vectors_in version (known k) f l at = vectors f version k l at

-- 0 where the walk finds no fault
unfoldable pub number_of : Walk → ℕ
number_of (fault n) = n
number_of (found vs) = 0

-- the same as an answer
unfoldable pub answer_of : Walk → Result (Unit {0}) Refusal
answer_of (fault n) = Err (refusal_of n)
answer_of (found vs) = Ok tt

-- the event of value n in ThreePackedEvents octets; none past them
unfoldable pub event_meant : frames.Event → Event
event_meant frames.new = New
event_meant frames.join_in = JoinIn
event_meant frames.is_in = In
event_meant frames.join_mt = JoinMt
event_meant frames.mt = Mt
event_meant frames.lv = Lv

unfoldable pub event_in : List ℕ → ℕ → Option Event
event_in three n =
    cond (ltb (n / 3) (length three)) (Some (event_meant (frames.event (three_packed (get_or three (n / 3) 0) (n % 3))))) None

unfoldable pub four_in : List ℕ → ℕ → ℕ
four_in four n = four_packed (get_or four (n / 4) 0) (n % 4)

-- a growing field of FirstValue at value n: the number of w octets at a place, n more, where it stays within the field of g
-- octets that it ends with
unfoldable pub value_in : ℕ → ℕ → ℕ → List ℕ → ℕ → Option ℕ
value_in w g at first n =
    cond (ltb (length first) (at + w)) None
    (cond (ltb (256 ^ g - 1) (be_at g first (at + w - g) + n)) None (Some (be_at w first at + n)))

-- "Value n adds n to Unique ID and destination": StreamID is 8 octets, and Unique ID its last two
unfoldable pub stream_id_in : List ℕ → ℕ → Option ℕ
stream_id_in first n = value_in 8 2 0 first n

-- "Value n adds n .. for Domain to class ID and priority octets"; "other values are checked and dropped"
unfoldable pub domain_in : List ℕ → ℕ → Option ℕ
domain_in first n =
    let c = be_at 1 first 0 + n in
    let q = be_at 1 first 1 + n in
    cond (ltb (length first) domain_length) None (cond (has_slot c q) (Some (slot_of c q)) None)
