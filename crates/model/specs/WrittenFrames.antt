-- The octets of a written PDU (01, "Writing" and "The PDU").
use Rattle.std.specs.Prelude.{List, [], ◌∷◌, ◌++◌, map, Bool, true, false, cond, ℕ, ◌+◌, ◌*◌, length, get_or, take, drop, eqb}
use Rattle.octets.specs.Be.{be}
use Rattle.octets.specs.Fields.{packed, flat}
use Rattle.octets.specs.Parts.{zeros}
use Rattle.model.specs.FrameLayout.{listener_widths}
use Rattle.model.specs.Lists.{tabulate, bit}
use Rattle.model.specs.State.{Fixed, TalkerType, talker_advertise, talker_failed, ready_number, Ready, asking_failed, ready, ready_failed}
use Rattle.model.specs.Registrations.{advertises, faileds, listeners}
use Rattle.model.specs.Frames.{Attribute, registers, domain_type, priority_of, rank_of, type_number, first_widths, first_length, three_length, four_length, Vector}
use Rattle.model.specs.Cutting.{values}
use Rattle.model.specs.Best.{best}
use Rattle.model.specs.Declarations.{Declaration, talker_declaration, listener_declaration, domain_declaration, attribute_of, Said, declared_id, declared_ids, having}

-- the octet of priority (3 bits), rank (1 bit) and four reserved bits, written 0
unfoldable pub priority_octet : Fixed → ℕ
priority_octet f = f.priority * 32 + f.rank * 16

unfoldable pub fixed_numbers : Fixed → List ℕ
fixed_numbers f = f.destination ∷ f.vlan ∷ f.size ∷ f.frames ∷ priority_octet f ∷ []

-- five numbers as fixed values
unfoldable pub fixed_from : ℕ → List ℕ → Fixed
fixed_from i vs = record {
  destination = get_or vs i 0;
  vlan = get_or vs (i + 1) 0;
  size = get_or vs (i + 2) 0;
  frames = get_or vs (i + 3) 0;
  priority = priority_of (get_or vs (i + 4) 0);
  rank = rank_of (get_or vs (i + 4) 0);
}

unfoldable pub failure_numbers : TalkerType → List ℕ
failure_numbers talker_advertise = []
failure_numbers (talker_failed b c) = b ∷ c ∷ []

-- FirstValue's numbers, in fields of `first_widths`
unfoldable pub first_numbers : Declaration → List ℕ
first_numbers (talker_declaration id f v) = id ∷ (fixed_numbers f ++ (v.latency ∷ failure_numbers v.type))
first_numbers (listener_declaration id r) = id ∷ []
first_numbers (domain_declaration id q v) = id ∷ q ∷ v ∷ []

unfoldable pub to_ready : ℕ → Ready
to_ready k = cond (eqb k 1) asking_failed (cond (eqb k 2) ready ready_failed)

-- one four-packed event, first highest, the spare positions 0
unfoldable pub four_octets : Declaration → List ℕ
four_octets (talker_declaration id f v) = []
four_octets (listener_declaration id r) = (ready_number r * 64) ∷ []
four_octets (domain_declaration id q v) = []

-- "one value per vector": the event e is (e x 6 + 0) x 6 + 0; a Listener too that is alone in its vector
unfoldable pub declaration_vector : Said → Vector
declaration_vector d = record {
  attribute = attribute_of d.declaration;
  leaves_all = false;
  values = 1;
  first = packed (first_widths (attribute_of d.declaration)) (first_numbers d.declaration);
  three = (d.event * 36) ∷ [];
  four = four_octets d.declaration;
}

-- Listeners packed (02).

-- what the Listeners in a vector say of a StreamID: their declaration type, and their event. "gaps filled with Ignore", of event 0, "set to
-- zero on transmit and ignored on receive"; a quiet Listener between two that are written is a gap (02, xiv)
unfoldable pub listener_number : Declaration → ℕ
listener_number (talker_declaration id f v) = 0
listener_number (listener_declaration id r) = ready_number r
listener_number (domain_declaration id q v) = 0

unfoldable pub said : List Said → ℕ → ℕ
said [] id = 0
said (d ∷ g) id = cond (eqb (declared_id d.declaration) id) (listener_number d.declaration) (said g id)

unfoldable pub event_said : List Said → ℕ → ℕ
event_said [] id = 0
event_said (d ∷ g) id = cond (eqb (declared_id d.declaration) id) d.event (event_said g id)

-- octet i of the events e 0, e 1 .. : "(e1 x 6 + e2) x 6 + e3"; "two bits each, first highest"
unfoldable pub three_octet : (ℕ → ℕ) → ℕ → ℕ
three_octet e i = (e (i * 3) * 6 + e (i * 3 + 1)) * 6 + e (i * 3 + 2)

unfoldable pub four_octet : (ℕ → ℕ) → ℕ → ℕ
four_octet e i = ((e (i * 4) * 4 + e (i * 4 + 1)) * 4 + e (i * 4 + 2)) * 4 + e (i * 4 + 3)

-- the vector of a part: FirstValue is its first StreamID
unfoldable pub packed_vector : List Said → Vector
packed_vector g =
    let first = get_or (declared_ids g) 0 0 in
    let n = values (declared_ids g) in
    record {
      attribute = registers listeners;
      leaves_all = false;
      values = n;
      first = packed listener_widths (first ∷ []);
      three = tabulate (three_length n) 0 (three_octet (λ i. event_said g (first + i)));
      four = tabulate (four_length true n) 0 (four_octet (λ i. said g (first + i)));
    }

-- declarations cut as their StreamIDs are
unfoldable pub cut_as : List (List ℕ) → List Said → List (List Said)
cut_as [] l = []
cut_as (g ∷ c) l = take (length g) l ∷ cut_as c (drop (length g) l)

unfoldable pub listener_parts : List Said → List (List Said)
listener_parts l = cut_as (best (declared_ids l)) l

-- the vectors of declarations of one type
unfoldable pub vectors_of : Attribute → List Said → List Vector
vectors_of (registers advertises) l = map declaration_vector l
vectors_of (registers faileds) l = map declaration_vector l
vectors_of (registers listeners) l = map packed_vector (listener_parts l)
vectors_of domain_type l = map declaration_vector l

unfoldable pub vector_octets : Vector → List ℕ
vector_octets v = be 2 (bit v.leaves_all * 8192 + v.values) ++ (v.first ++ (v.three ++ v.four))

-- "The list length counts the list's own EndMark"
unfoldable pub message_of : Attribute → List ℕ → List ℕ
message_of k list = type_number k ∷ first_length k ∷ (be 2 (length list) ++ list)

-- LeaveAll (02, xiv): "LeaveAllEvent 1 in each type's first vector", and for a type without a declaration here a vector without values
unfoldable pub with_leave_all : Vector → Vector
with_leave_all v = record { attribute = v.attribute; leaves_all = true; values = v.values; first = v.first; three = v.three; four = v.four }

unfoldable pub empty_vector : Attribute → Vector
empty_vector k = record { attribute = k; leaves_all = true; values = 0; first = zeros (first_length k); three = []; four = [] }

unfoldable pub leaving_all : Attribute → List Vector → List Vector
leaving_all k [] = empty_vector k ∷ []
leaving_all k (v ∷ vs) = with_leave_all v ∷ vs

unfoldable pub vectors_said : Bool → Attribute → List Said → List Vector
vectors_said all k l = cond all (leaving_all k (vectors_of k l)) (vectors_of k l)

-- a type with no vector has no Message
unfoldable pub message_octets : Attribute → List Vector → List ℕ
message_octets k [] = []
message_octets k (v ∷ vs) = message_of k (flat vector_octets (v ∷ vs) ++ (0 ∷ 0 ∷ []))

-- ProtocolVersion 0, "one Message per type", "and the EndMark after the last Message"
unfoldable pub pdu_octets : Bool → List Said → List ℕ
pdu_octets all l =
    let of : Attribute → List ℕ = λ k. message_octets k (vectors_said all k (having k l)) in
    0 ∷ (of (registers advertises) ++ (of (registers faileds) ++ (of (registers listeners) ++ (of domain_type ++ (0 ∷ 0 ∷ [])))))
