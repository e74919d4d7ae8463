-- Declarations: what a port writes, and what one PDU takes of it (01, "Writing").
use Rattle.std.specs.Prelude.{List, [], ◌∷◌, ◌++◌, map, Bool, false, cond, ℕ, suc, ◌+◌, ◌*◌, ◌/◌, ◌%◌, length, get_or, take, leb, eqb}
use Rattle.model.specs.FrameLayout.{advertise_length, domain_length, failed_length, listener_length, longest_pdu}
use Rattle.model.specs.Lists.{keep, longest}
use Rattle.model.specs.Applicant.{opportunity, spoken}
use Rattle.model.specs.Machines.{Heard, Listed, Applicant, no_applicant, applicant}
use Rattle.model.specs.State.{Settings, Fixed, TalkerType, talker_advertise, talker_failed, Varying, Ready, no_domain, Offer, Failure, Sends, Stream, Bridge, cell_at, sends_at, sender_at, own_at, slot_of}
use Rattle.model.specs.Registrations.{Kind, advertises, faileds, listeners, Act, talk, listen, leave, hear, of_domain, join_domain, leave_domain, hear_domain, registered_in, domain_stays}
use Rattle.model.specs.Frames.{Attribute, registers, domain_type, type_number, first_length, event, Asking, nothing_asked, join, withdraw, asking, heard_of}
use Rattle.model.specs.Best.{least}

-- a declaration is a join of the neighbour's table
pub data Declaration : Type 0 where
  talker_declaration : (id : ℕ) → Fixed → Varying → Declaration
  listener_declaration : (id : ℕ) → Ready → Declaration
  domain_declaration : (id priority vlan : ℕ) → Declaration

unfoldable pub talker_kind : TalkerType → Kind
talker_kind talker_advertise = advertises
talker_kind (talker_failed b c) = faileds

unfoldable pub attribute_of : Declaration → Attribute
attribute_of (talker_declaration id f v) = registers (talker_kind v.type)
attribute_of (listener_declaration id r) = registers listeners
attribute_of (domain_declaration id q v) = domain_type

-- what a neighbour reads of a join
unfoldable pub join_of : Declaration → Act
join_of (talker_declaration id f v) = talk id f v
join_of (listener_declaration id r) = listen id r
join_of (domain_declaration id q v) = of_domain (join_domain (slot_of id q) v)

-- "Declarations of a port: Advertise, Failed, Listener; in each by ascending StreamID", those with an unsent Lv included (02, xiv), with the
-- octets last declared; then "a Domain value per class it supports, written after the Listeners, by ascending class ID, from start on"

module _ {A : Type 0} where
  -- a machine in the list, as the declaration that its value makes
  unfoldable pub listed_as : (A → Declaration) → Applicant A → List (Listed Declaration)
  listed_as f no_applicant = []
  listed_as f (applicant x) = record { state = x.state; value = f x.value } ∷ []

unfoldable pub advertise_of : ℕ → Offer → Declaration
advertise_of id o = talker_declaration id o.fixed record { type = talker_advertise; latency = o.latency }

unfoldable pub failed_of : ℕ → Offer × Failure → Declaration
failed_of id o = talker_declaration id o.0.fixed record { type = talker_failed o.1.bridge o.1.code; latency = o.0.latency }

unfoldable pub declarations_of : Kind → ℕ → Sends → List (Listed Declaration)
declarations_of advertises id s = listed_as (advertise_of id) s.advertising
declarations_of faileds id s = listed_as (failed_of id) s.failing
declarations_of listeners id s = listed_as (listener_declaration id) s.listening

unfoldable pub of_kind : Kind → ℕ → List Stream → List (Listed Declaration)
of_kind k p [] = []
of_kind k p (x ∷ s) = declarations_of k x.id (sends_at x p) ++ of_kind k p s

-- the Domain value of slot i
unfoldable pub domain_of : Settings → ℕ → Declaration
domain_of st i = domain_declaration (5 + i / 8) (i % 8) st.vlan

-- of the slots from i on
unfoldable pub domain_values : Settings → ℕ → List (Applicant (Unit {0})) → List (Listed Declaration)
domain_values st i [] = []
domain_values st i (a ∷ l) = listed_as (λ u. domain_of st i) a ++ domain_values st (suc i) l

unfoldable pub declarations : Bridge → ℕ → List (Listed Declaration)
declarations b p =
    of_kind advertises p b.streams
    ++ (of_kind faileds p b.streams
    ++ (of_kind listeners p b.streams
    ++ domain_values b.settings 0 (sender_at b.senders p).domains))

-- Whether the Registrar of a declaration is IN, of the same AttributeType and key on that port, as it stands now (02, xiv).

unfoldable pub registered_of : Kind → ℕ → ℕ → List Stream → Bool
registered_of k p id [] = false
registered_of k p id (x ∷ s) = cond (eqb x.id id) (registered_in k (cell_at x p)) (registered_of k p id s)

unfoldable pub is_registered : Bridge → ℕ → Declaration → Bool
is_registered b p (talker_declaration id f v) = registered_of (talker_kind v.type) p id b.streams
is_registered b p (listener_declaration id r) = registered_of listeners p id b.streams
is_registered b p (domain_declaration id q v) = domain_stays (get_or (own_at b.owns p).domains (slot_of id q) no_domain)

-- A declaration in a PDU, with the number of its event.
pub record Said : Type 0 where
  pub declaration : Declaration
  pub event : ℕ

-- what a write, with LeaveAll or without, says of a declaration in the list
unfoldable pub say : Bool → (Declaration → Bool) → Listed Declaration → Said
say all registered x = record { declaration = x.value; event = spoken (registered x.value) (opportunity all) x.state }

-- what a neighbour reads of it: of Registrars what the event asks for, and what an Applicant hears
unfoldable pub leave_of : Declaration → Act
leave_of (talker_declaration id f v) = leave (talker_kind v.type) id
leave_of (listener_declaration id r) = leave listeners id
leave_of (domain_declaration id q v) = of_domain (leave_domain (slot_of id q))

unfoldable pub hear_of : Declaration → Heard → Act
hear_of (talker_declaration id f v) h = hear (talker_kind v.type) id h
hear_of (listener_declaration id r) h = hear listeners id h
hear_of (domain_declaration id q v) h = of_domain (hear_domain (slot_of id q) h)

unfoldable pub asked_of : Declaration → Asking → List Act
asked_of d nothing_asked = []
asked_of d join = join_of d ∷ []
asked_of d withdraw = leave_of d ∷ []

unfoldable pub said_acts : Said → List Act
said_acts d = asked_of d.declaration (asking (event d.event)) ++ map (hear_of d.declaration) (heard_of (event d.event))

-- the StreamID, and of a Domain value the class ID
unfoldable pub declared_id : Declaration → ℕ
declared_id (talker_declaration id f v) = id
declared_id (listener_declaration id r) = id
declared_id (domain_declaration id q v) = id

unfoldable pub declared_ids : List Said → List ℕ
declared_ids l = map (λ (d : Said). declared_id d.declaration) l

unfoldable pub same_attribute : Attribute → Attribute → Bool
same_attribute j k = eqb (type_number j) (type_number k)

-- the declarations of one type
unfoldable pub having : Attribute → List Said → List Said
having k [] = []
having k (d ∷ l) = keep (same_attribute (attribute_of d.declaration) k) d (having k l)

-- "From a place (0 based) one PDU takes as many as fit in 1,500 octets whole, one Message per type, one value per vector"; only of
-- Listeners are there more values in one, since they are packed (02, xi)

-- the octets of a vector of one value: header, FirstValue, an octet of three-packed events, and for a Listener one of four-packed
unfoldable pub vector_size : Attribute → ℕ
vector_size (registers advertises) = 2 + advertise_length + 1
vector_size (registers faileds) = 2 + failed_length + 1
vector_size (registers listeners) = 2 + listener_length + 1 + 1
vector_size domain_type = 2 + domain_length + 1

-- of all vectors of declarations of one type; of Listeners "no other cutting into vectors takes fewer octets" (02)
unfoldable pub vectors_size : Attribute → List Said → ℕ
vectors_size (registers advertises) l = length l * vector_size (registers advertises)
vectors_size (registers faileds) l = length l * vector_size (registers faileds)
vectors_size (registers listeners) l = least (declared_ids l)
vectors_size domain_type l = length l * vector_size domain_type

-- of their Message, with 4 octets of header and 2 of EndMark. A type with no declaration has no Message; with LeaveAll one of a vector
-- without values, a header and a FirstValue
unfoldable pub empty_size : Bool → Attribute → ℕ
empty_size all k = cond all (6 + (2 + first_length k)) 0

unfoldable pub message_size : Bool → Attribute → List Said → ℕ
message_size all k [] = empty_size all k
message_size all k (d ∷ l) = 6 + vectors_size k (d ∷ l)

-- of the Messages of declarations, one for each type
unfoldable pub messages_size : Bool → List Said → ℕ
messages_size all l = of (registers advertises) + of (registers faileds) + of (registers listeners) + of domain_type
  where
    of : Attribute → ℕ
    of k = message_size all k (having k l)

-- "A PDU takes the longest run from its place whose shortest cutting fits" (02): how many declarations, with so many octets used
unfoldable pub fitting : Bool → ℕ → List Said → ℕ
fitting all used l = longest (λ n. leb (used + messages_size all (take n l)) longest_pdu) 0 (length l)

-- ProtocolVersion and EndMark are three octets
unfoldable pub takes : Bool → List Said → ℕ
takes all l = fitting all 3 l
