-- The MSRPDU: octets read as vectors or refused with a number, and what the vectors ask for (01, "The PDU"; 10.8, 35.2.2).
use Rattle.std.specs.Prelude.{List, [], ◌∷◌, ◌++◌, map, Bool, true, false, cond, not, ◌&&◌, ◌||◌, ℕ, zero, suc, ◌+◌, ◌-◌, ◌/◌, ◌%◌, length, get_or, ltb, leb, eqb}
use Rattle.octets.specs.Be.{be_at}
use Rattle.octets.specs.Fields.{fields}
use Rattle.octets.specs.Parts.{part}
use Rattle.model.specs.FrameLayout.{advertise_length, advertise_widths, domain_length, domain_widths, failed_length, failed_widths, in_first_value, listener_length, listener_widths, longest_pdu}
use Rattle.model.specs.Machines.{Heard, heard_in, heard_empty, heard_leave}
use Rattle.model.specs.State.{Fixed, TalkerType, talker_advertise, talker_failed, asking_failed, ready, ready_failed, Settings, slot_of}
use Rattle.model.specs.Registrations.{Kind, advertises, faileds, listeners, Act, leave_all, leave, talk, listen, hear_all, hear, of_domain, leave_all_domains, leave_domain, join_domain, hear_all_domains, hear_domain, Reading, refused, acts}

-- Attribute types (Tables 35-1, 35-2).

pub data Attribute : Type 0 where
  registers : Kind → Attribute
  domain_type : Attribute

-- what the AttributeType octet says: refused, a type known here, or one of a higher version
pub data TypeOctet : Type 0 where
  not_allowed unknown : TypeOctet
  known : Attribute → TypeOctet

-- "AttributeType 0; or above 4 with ProtocolVersion 0" is 4
unfoldable pub type_octet : ℕ → ℕ → TypeOctet
type_octet version zero = not_allowed
type_octet version (suc zero) = known (registers advertises)
type_octet version (suc (suc zero)) = known (registers faileds)
type_octet version (suc (suc (suc zero))) = known (registers listeners)
type_octet version (suc (suc (suc (suc zero)))) = known domain_type
type_octet version (suc (suc (suc (suc (suc t))))) = cond (eqb version 0) not_allowed unknown

-- the octet of a type
unfoldable pub type_number : Attribute → ℕ
type_number (registers advertises) = 1
type_number (registers faileds) = 2
type_number (registers listeners) = 3
type_number domain_type = 4

-- the widths of FirstValue's fields, and its octets
unfoldable pub first_widths : Attribute → List ℕ
first_widths (registers advertises) = advertise_widths
first_widths (registers faileds) = failed_widths
first_widths (registers listeners) = listener_widths
first_widths domain_type = domain_widths

unfoldable pub first_length : Attribute → ℕ
first_length (registers advertises) = advertise_length
first_length (registers faileds) = failed_length
first_length (registers listeners) = listener_length
first_length domain_type = domain_length

-- "one ThreePackedEvents octet per three values or part, and for Listener one FourPackedEvents octet per four or part"
unfoldable pub three_length : ℕ → ℕ
three_length n = (n + 2) / 3

unfoldable pub has_four : Attribute → Bool
has_four (registers advertises) = false
has_four (registers faileds) = false
has_four (registers listeners) = true
has_four domain_type = false

unfoldable pub four_length : Bool → ℕ → ℕ
four_length true n = (n + 3) / 4
four_length false n = 0

-- Vectors.

pub record Vector : Type 0 where
  pub attribute : Attribute
  pub leaves_all : Bool
  pub values : ℕ
  pub first : List ℕ
  pub three : List ℕ
  pub four : List ℕ

-- the vector whose header, h, stands at a place of its AttributeList
unfoldable pub vector_at : Attribute → List ℕ → ℕ → ℕ → Vector
vector_at k l at h =
    let n = h % 8192 in
    let first = at + 2 in
    let three = first + first_length k in
    let four = three + three_length n in
    record {
      attribute = k;
      leaves_all = eqb (h / 8192) 1;
      values = n;
      first = part first (first_length k) l;
      three = part three (three_length n) l;
      four = part four (four_length (has_four k) n) l;
    }

-- the place after it, by the octets of its FirstValue and whether it has FourPackedEvents
unfoldable pub vector_end : ℕ → Bool → ℕ → ℕ → ℕ
vector_end first four at h = at + 2 + first + three_length (h % 8192) + four_length four (h % 8192)

-- "a ThreePackedEvents octet above 215"
unfoldable pub overpacked : List ℕ → Bool
overpacked [] = false
overpacked (o ∷ l) = ltb 215 o || overpacked l

-- "Value n adds n to Unique ID and destination; for Listener to Unique ID; for Domain to class ID and priority octets": n
-- more than FirstValue runs past one of these fields
unfoldable pub runs_past : Attribute → List ℕ → ℕ → Bool
runs_past (registers listeners) s n = ltb 65535 (be_at 2 s in_first_value.unique + n)
runs_past (registers advertises) s n = ltb 65535 (be_at 2 s in_first_value.unique + n) || ltb 281474976710655 (be_at 6 s in_first_value.destination + n)
runs_past (registers faileds) s n = ltb 65535 (be_at 2 s in_first_value.unique + n) || ltb 281474976710655 (be_at 6 s in_first_value.destination + n)
runs_past domain_type s n = ltb 255 (get_or s 0 0 + n) || ltb 255 (get_or s 1 0 + n)

-- a value of the vector runs past its field: the last one does
unfoldable pub overflows : Vector → Bool
overflows v = not (eqb v.values 0) && runs_past v.attribute v.first (v.values - 1)

-- What stands at a place of an AttributeList.

-- a fault with its number, the EndMark, or a vector with its header, one that is read or one that is passed over
pub data InList : Type 0 where
  bad_vector : ℕ → InList
  list_end : InList
  vector_head : ℕ → InList
  passed_over : ℕ → InList

-- "LeaveAllEvent above 1", of a header
unfoldable pub strange_leave : ℕ → Bool
strange_leave h = ltb 1 (h / 8192)

-- a vector that has one or the other: "With ProtocolVersion above 0 [it] should be passed over, since its layout still gives its
-- length"; "Version 0 keeps number 6" (02)
unfoldable pub strange_vector : ℕ → ℕ → InList
strange_vector version h = cond (eqb version 0) (bad_vector 6) (passed_over h)

-- "Checks: header (3), LeaveAllEvent (6), fits (3), event octets (6), values (7)"; "Header 00 00 is the EndMark". All but the
-- values are read as in the lists of any MRP application, by the octets of FirstValue and whether FourPackedEvents follow. Where
-- a vector may be passed over, "whether it fits is still checked (3)", so its LeaveAllEvent counts after that
unfoldable pub vector_in : ℕ → ℕ → Bool → List ℕ → ℕ → InList
vector_in version first four l at =
    let h = be_at 2 l at in
    cond (ltb (length l) (at + 2)) (bad_vector 3)
    (cond (eqb h 0) list_end
    (cond (eqb version 0 && strange_leave h) (bad_vector 6)
    (cond (ltb (length l) (vector_end first four at h)) (bad_vector 3)
    (cond (strange_leave h || overpacked (part (at + 2 + first) (three_length (h % 8192)) l)) (strange_vector version h)
    (vector_head h)))))

-- 3 too where "a list's EndMark isn't its last two octets"; and the values, of a type: "Passing over a vector skips its check for
-- number 7 too"
unfoldable pub checked_in : Attribute → List ℕ → ℕ → InList → InList
checked_in k l at (bad_vector n) = bad_vector n
checked_in k l at list_end = cond (eqb (at + 2) (length l)) list_end (bad_vector 3)
checked_in k l at (vector_head h) = cond (overflows (vector_at k l at h)) (bad_vector 7) (vector_head h)
checked_in k l at (passed_over h) = passed_over h

unfoldable pub typed_in : ℕ → Attribute → List ℕ → ℕ → InList
typed_in version k l at = checked_in k l at (vector_in version (first_length k) (has_four k) l at)

-- What stands at a place of a PDU.

-- a fault with its number, the end, or a Message: of a list that is skipped, or of a list to read, of its type
pub data InPdu : Type 0 where
  bad_message : ℕ → InPdu
  pdu_end : InPdu
  list_skipped : InPdu
  list_of : Attribute → InPdu

-- the list of a Message whose header stands at a place, as a part of the PDU, and the place after it
unfoldable pub list_length : List ℕ → ℕ → ℕ
list_length s at = be_at 2 s (at + 2)

unfoldable pub list_at : List ℕ → ℕ → List ℕ
list_at s at = part (at + 4) (list_length s at) s

unfoldable pub message_end : List ℕ → ℕ → ℕ
message_end s at = at + 4 + list_length s at

-- 00 00
unfoldable pub end_mark : List ℕ → ℕ → Bool
end_mark s at = leb (at + 2) (length s) && eqb (be_at 2 s at) 0

-- "A Message's checks: four header octets (3), type (4), length (5, known types), list within PDU (3)"; "types above 4 are
-- skipped unread by their list length"
unfoldable pub header_in : TypeOctet → List ℕ → ℕ → InPdu
header_in not_allowed s at = bad_message 4
header_in unknown s at = cond (ltb (length s) (message_end s at)) (bad_message 3) list_skipped
header_in (known k) s at =
    cond (not (eqb (get_or s (at + 1) 0) (first_length k))) (bad_message 5)
    (cond (ltb (length s) (message_end s at)) (bad_message 3) (list_of k))

unfoldable pub message_in : ℕ → List ℕ → ℕ → InPdu
message_in version s at =
    cond (eqb at (length s)) pdu_end
    (cond (end_mark s at) pdu_end
    (cond (ltb (length s) (at + 4)) (bad_message 3)
    (header_in (type_octet version (get_or s at 0)) s at)))

-- The walk.

-- what is found from a place on: the number of the first fault, or all vectors
pub data Walk : Type 0 where
  fault : ℕ → Walk
  found : List Vector → Walk

unfoldable pub also : Vector → Walk → Walk
also v (fault n) = fault n
also v (found vs) = found (v ∷ vs)

unfoldable pub both : Walk → Walk → Walk
both (fault n) w = fault n
both (found vs) (fault n) = fault n
both (found vs) (found ws) = found (vs ++ ws)

-- an AttributeList, from a place on: a vector that is passed over is none, and "the vectors after it should be read". (The first
-- argument bounds the vectors left.)
unfoldable pub vectors_from : Attribute → List ℕ → ℕ → InList → (ℕ → Walk) → Walk
vectors_from k l at (bad_vector n) rest = fault n
vectors_from k l at list_end rest = found []
vectors_from k l at (vector_head h) rest = also (vector_at k l at h) (rest (vector_end (first_length k) (has_four k) at h))
vectors_from k l at (passed_over h) rest = rest (vector_end (first_length k) (has_four k) at h)

unfoldable pub vectors : ℕ → ℕ → Attribute → List ℕ → ℕ → Walk
vectors zero version k l at = fault 3
vectors (suc f) version k l at = vectors_from k l at (typed_in version k l at) (vectors f version k l)

-- the Messages from a place on, to the EndMark or the end. (The first argument bounds the Messages left.)
unfoldable pub messages_from : ℕ → List ℕ → ℕ → InPdu → Walk → Walk
messages_from version s at (bad_message n) rest = fault n
messages_from version s at pdu_end rest = found []
messages_from version s at list_skipped rest = rest
messages_from version s at (list_of k) rest = both (vectors (suc (list_length s at)) version k (list_at s at) 0) rest

unfoldable pub messages : ℕ → ℕ → List ℕ → ℕ → Walk
messages zero version s at = fault 3
messages (suc f) version s at = messages_from version s at (message_in version s at) (messages f version s (message_end s at))

-- a PDU: 2 "has 0 octets or more than 1,500"; then the walk, from behind the ProtocolVersion
unfoldable pub walk : List ℕ → Walk
walk s =
    cond (eqb (length s) 0) (fault 2)
    (cond (ltb longest_pdu (length s)) (fault 2)
    (messages (suc (length s)) (get_or s 0 0) s 1))

-- Events.

pub data Event : Type 0 where
  new join_in is_in join_mt mt lv : Event

unfoldable pub event : ℕ → Event
event zero = new
event (suc zero) = join_in
event (suc (suc zero)) = is_in
event (suc (suc (suc zero))) = join_mt
event (suc (suc (suc (suc zero)))) = mt
event (suc (suc (suc (suc (suc n))))) = lv

-- "Events e1, e2, e3 are (e1 x 6 + e2) x 6 + e3": the one at place i, 0 to 2
unfoldable pub three_packed : ℕ → ℕ → ℕ
three_packed o zero = o / 36
three_packed o (suc zero) = o / 6 % 6
three_packed o (suc (suc i)) = o % 6

-- "Four-packed: two bits each, first highest": the one at place i, 0 to 3
unfoldable pub four_packed : ℕ → ℕ → ℕ
four_packed o zero = o / 64
four_packed o (suc zero) = o / 16 % 4
four_packed o (suc (suc zero)) = o / 4 % 4
four_packed o (suc (suc (suc i))) = o % 4

-- of value n
unfoldable pub event_of : Vector → ℕ → Event
event_of v n = event (three_packed (get_or v.three (n / 3) 0) (n % 3))

unfoldable pub four_of : Vector → ℕ → ℕ
four_of v n = four_packed (get_or v.four (n / 4) 0) (n % 4)

-- What a value asks for.

-- what an event does: a join, a leave, or nothing
pub data Asking : Type 0 where
  nothing_asked join withdraw : Asking

-- "Ignore, In and Mt do nothing"; "New, JoinIn, JoinMt register"
unfoldable pub asking : Event → Asking
asking new = join
asking join_in = join
asking is_in = nothing_asked
asking join_mt = join
asking mt = nothing_asked
asking lv = withdraw

-- the octet of priority (3 bits), rank (1 bit) and four reserved bits, which are ignored
unfoldable pub priority_of : ℕ → ℕ
priority_of o = o / 32

unfoldable pub rank_of : ℕ → ℕ
rank_of o = o / 16 % 2

-- FirstValue's numbers as a Talker's fixed values at value n
unfoldable pub fixed_value : List ℕ → ℕ → Fixed
fixed_value vs n = record {
  destination = get_or vs 1 0 + n;
  vlan = get_or vs 2 0;
  size = get_or vs 3 0;
  frames = get_or vs 4 0;
  priority = priority_of (get_or vs 5 0);
  rank = rank_of (get_or vs 5 0);
}

unfoldable pub talker_type_value : Kind → List ℕ → TalkerType
talker_type_value advertises vs = talker_advertise
talker_type_value faileds vs = talker_failed (get_or vs 7 0) (get_or vs 8 0)
talker_type_value listeners vs = talker_advertise

unfoldable pub id_value : List ℕ → ℕ → ℕ
id_value vs n = get_or vs 0 0 + n

-- "Ignore 0, Asking Failed 1, Ready 2, Ready Failed 3"
unfoldable pub hearing : ℕ → ℕ → List Act
hearing id zero = []
hearing id (suc zero) = listen id asking_failed ∷ []
hearing id (suc (suc zero)) = listen id ready ∷ []
hearing id (suc (suc (suc f))) = listen id ready_failed ∷ []

-- the acts of one value: an attribute's event and, for a Listener, its four-packed event
unfoldable pub talker_act : Kind → List ℕ → ℕ → Asking → List Act
talker_act k vs n nothing_asked = []
talker_act k vs n join = talk (id_value vs n) (fixed_value vs n) record { type = talker_type_value k vs; latency = get_or vs 6 0 } ∷ []
talker_act k vs n withdraw = leave k (id_value vs n) ∷ []

unfoldable pub listener_act : List ℕ → ℕ → Asking → ℕ → List Act
listener_act vs n nothing_asked f = []
listener_act vs n join f = hearing (id_value vs n) f
listener_act vs n withdraw f = cond (eqb f 0) [] (leave listeners (id_value vs n) ∷ [])

-- what an Applicant of the same AttributeType and key hears (02, xiv): "In and Mt count now"; rNew! moves nothing
unfoldable pub heard_of : Event → List Heard
heard_of new = []
heard_of join_in = heard_in ∷ []
heard_of is_in = heard_in ∷ []
heard_of join_mt = heard_empty ∷ []
heard_of mt = heard_empty ∷ []
heard_of lv = heard_leave ∷ []

unfoldable pub talker_heard : Kind → ℕ → Event → List Act
talker_heard k id e = map (hear k id) (heard_of e)

-- "FourPackedType (but Ignore) .. don't matter"
unfoldable pub listener_heard : ℕ → Event → ℕ → List Act
listener_heard id e f = cond (eqb f 0) [] (map (hear listeners id) (heard_of e))

-- 02: "IDs 5 and 6, priorities 0 to 7; other values are checked and dropped"
unfoldable pub has_slot : ℕ → ℕ → Bool
has_slot c q = leb 5 c && (leb c 6 && leb q 7)

unfoldable pub slot_act : ℕ → ℕ → Asking → List Act
slot_act i vlan nothing_asked = []
slot_act i vlan join = of_domain (join_domain i vlan) ∷ []
slot_act i vlan withdraw = of_domain (leave_domain i) ∷ []

unfoldable pub slot_heard : ℕ → Event → List Act
slot_heard i e = map (λ h. of_domain (hear_domain i h)) (heard_of e)

unfoldable pub domain_act : List ℕ → ℕ → Event → List Act
domain_act vs n e =
    let c = get_or vs 0 0 + n in
    let q = get_or vs 1 0 + n in
    cond (has_slot c q) (slot_act (slot_of c q) (get_or vs 2 0) (asking e) ++ slot_heard (slot_of c q) e) []

unfoldable pub value_acts : Vector → ℕ → List Act
value_acts v n = go v.attribute
  where
    vs : List ℕ
    vs = fields (first_widths v.attribute) 0 v.first

    go : Attribute → List Act
    go (registers advertises) = talker_act advertises vs n (asking (event_of v n)) ++ talker_heard advertises (id_value vs n) (event_of v n)
    go (registers faileds) = talker_act faileds vs n (asking (event_of v n)) ++ talker_heard faileds (id_value vs n) (event_of v n)
    go (registers listeners) = listener_act vs n (asking (event_of v n)) (four_of v n) ++ listener_heard (id_value vs n) (event_of v n) (four_of v n)
    go domain_type = domain_act vs n (event_of v n)

-- the k values from value n on
unfoldable pub values_acts : Vector → ℕ → ℕ → List Act
values_acts v n zero = []
values_acts v n (suc k) = value_acts v n ++ values_acts v (suc n) k

-- "LeaveAll first starts leaving all registrations of that type on that port"
unfoldable pub leave_all_acts : Attribute → Bool → List Act
leave_all_acts (registers k) true = leave_all k ∷ hear_all k ∷ []
leave_all_acts (registers k) false = []
leave_all_acts domain_type true = of_domain leave_all_domains ∷ of_domain hear_all_domains ∷ []
leave_all_acts domain_type false = []

unfoldable pub vector_acts : Vector → List Act
vector_acts v = leave_all_acts v.attribute v.leaves_all ++ values_acts v 0 v.values

unfoldable pub frame_acts : List Vector → List Act
frame_acts [] = []
frame_acts (v ∷ vs) = vector_acts v ++ frame_acts vs

unfoldable pub walked : Walk → Reading
walked (fault n) = refused n
walked (found vs) = acts (frame_acts vs)

-- a PDU handed over on a port, numbered from 1: 1 "port is 0 or above the bridge's ports", then 2 to 7
unfoldable pub wrong_port : Settings → ℕ → Bool
wrong_port st p = eqb p 0 || ltb (length st.ports) p

unfoldable pub reading : Settings → ℕ → List ℕ → Reading
reading st p s = cond (wrong_port st p) (refused 1) (walked (walk s))
