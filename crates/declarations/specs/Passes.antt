-- Writing in passes, one for each type of declaration: what a pass finds, takes and leaves.
use Rattle.model.specs.Attributes.{type_of}
use Rattle.std.specs.Prelude.{◌≡◌, List, [], ◌∷◌, ◌++◌, map, Bool, true, false, cond, ℕ, zero, suc, ◌+◌, ◌-◌, ◌/◌, ◌≤◌, ◌<◌, length, get_or, take, drop, ltb}
use Rattle.octets.specs.Parts.{patch}
use Rattle.octets.specs.Fields.{flat}
use Rattle.model.specs.FrameLayout.{longest_pdu}
use Rattle.model.specs.Machines.{Listed, no_applicant}
use Rattle.model.specs.Places.{saying, reached}
use Rattle.model.specs.State.{Bridge, cell_at, sends_at, sender_at, own_at, no_domain, stream_at}
use Rattle.model.specs.Registrations.{advertises, faileds, listeners, registered_in, domain_stays}
use Rattle.model.specs.Frames as frames
use Rattle.model.specs.Frames.{registers, domain_type}
use Rattle.model.specs.Sending.{standing_number}
use Rattle.model.specs.Declarations as model
use Rattle.model.specs.Declarations.{Declaration, Said, listed_as, declarations_of, of_kind, domain_of, domain_values, vector_size, empty_size}
use Rattle.model.specs.Writing.{leaves_all, port_way, say_on, wrote_on, end_on}
use Rattle.model.specs.WrittenFrames.{declaration_vector, vector_octets, vectors_said, message_octets, pdu_octets}
use Rattle.model.specs.Table.{decode}
use Rattle.model.specs.Laid.{Laid}
use Rattle.table.specs.Places.{PortIn}
use Rattle.declarations.specs.declared.Run.{Run}
use Rattle.declarations.specs.declared.Start.{Start}
use Rattle.declarations.specs.declared.Message.{Message}
use Rattle.declarations.specs.declared.Progress.{Progress}
use Rattle.declarations.specs.declared.Taken.{Taken}
use Rattle.declarations.specs.Vectors.{some}

-- What may declare something of a type, by its place: each stream, or each Domain slot of the port.

unfoldable pub declarers : frames.Attribute → ℕ → Bridge → ℕ
declarers (registers k) p b = length b.streams
declarers domain_type p b = length (sender_at b.senders p).domains

-- its declaration with the state of its Applicant, one or none
unfoldable pub machine_by : frames.Attribute → ℕ → Bridge → ℕ → List (Listed Declaration)
machine_by (registers j) p b k = declarations_of j (stream_at k b).id (sends_at (stream_at k b) p)
machine_by domain_type p b k = listed_as (λ u. domain_of b.settings k) (get_or (sender_at b.senders p).domains k no_applicant)

-- the octet of the state
unfoldable pub state_number : List (Listed Declaration) → ℕ
state_number [] = 0
state_number (x ∷ l) = standing_number x.state

-- whether the port now has a registration of its type and key that is not leaving
unfoldable pub registered_by : frames.Attribute → ℕ → Bridge → ℕ → Bool
registered_by (registers j) p b k = registered_in j (cell_at (stream_at k b) p)
registered_by domain_type p b k = domain_stays (get_or (own_at b.owns p).domains k no_domain)

-- what a write says of declarations: those with something to say, each with its event
unfoldable pub said_of : Bridge → ℕ → List (Listed Declaration) → List Said
said_of b p l = map (say_on b p) (saying (port_way b p).says l)

unfoldable pub said_by : frames.Attribute → ℕ → Bridge → ℕ → List Said
said_by j p b k = said_of b p (machine_by j p b k)

-- What n of them give, from place k on.
module _ {A : Type 0} where
  unfoldable pub gathered : (ℕ → List A) → ℕ → ℕ → List A
  gathered here zero k = []
  gathered here (suc n) k = here k ++ gathered here n (suc k)

-- the declarations of those from place k on, and what is said of these
unfoldable pub machines_from : frames.Attribute → ℕ → Bridge → ℕ → List (Listed Declaration)
machines_from j p b k = gathered (machine_by j p b) (declarers j p b - k) k

unfoldable pub said_from : frames.Attribute → ℕ → Bridge → ℕ → List Said
said_from j p b k = gathered (said_by j p b) (declarers j p b - k) k

-- the declarations of a type in the port's list
unfoldable pub all_of : frames.Attribute → ℕ → Bridge → List (Listed Declaration)
all_of (registers k) p b = of_kind k p b.streams
all_of domain_type p b = domain_values b.settings 0 (sender_at b.senders p).domains

unfoldable pub vectors : List Said → List ℕ
vectors l = flat (λ d. vector_octets (declaration_vector d)) l

-- the types of which a vector has "one value"; Listeners are packed (02, xi)
abbrev pub Single : frames.Attribute → Type 0
Single (registers advertises) = Unit {0}
Single (registers faileds) = Unit {0}
Single (registers listeners) = ⊥
Single domain_type = Unit {0}

-- a declarer of a type stands at place k
pub record Declarer (t : List ℕ) (k p : ℕ) (j : frames.Attribute) : Type 0 where
  pub laid : Laid t
  pub held : k < declarers j p (decode t)
  pub port : p < 8

-- it has something to say
pub record Saying (t : List ℕ) (k p : ℕ) (j : frames.Attribute) : Type 0 where
  pub places : Declarer t k p j
  pub one : some (said_by j p (decode t) k) ≡ true

-- the number of its event
unfoldable pub event_in : List Said → ℕ
event_in [] = 0
event_in (d ∷ l) = d.event

-- room for its vector
pub record VectorIn (t : List ℕ) (k p : ℕ) (j : frames.Attribute) (out : List ℕ) : Type 0 where
  pub says : Saying t k p j
  pub room : length out ≡ vector_size j
  pub single : Single j

-- Where a pass starts: behind so many declarations of its type, of which there may be fewer.
pub record StartsAt (t : List ℕ) (p : ℕ) (j : frames.Attribute) (n : ℕ) (s : Start) : Type 0 where
  pub within : s.first ≤ declarers j p (decode t)
  pub rest : machines_from j p (decode t) s.first ≡ drop n (all_of j p (decode t))
  pub left : s.skip ≡ n - length (all_of j p (decode t))

-- Declarations to say, of a type, one per vector: not none, and there are so many from a place on.
pub record RunIn (t : List ℕ) (p : ℕ) (r : Run) : Type 0 where
  pub port : PortIn t p
  pub any : 0 < r.count
  pub single : Single (type_of r.attribute)
  pub enough : r.count ≤ length (said_from (type_of r.attribute) p (decode t) r.first)

abbrev pub run_of : List ℕ → ℕ → Run → List Said
run_of t p r = take r.count (said_from (type_of r.attribute) p (decode t) r.first)

-- how many vectors of a size fit into 1,500 octets, of so many, with so many octets used
unfoldable pub fits : ℕ → ℕ → ℕ → ℕ
fits used size left = cond (ltb longest_pdu used) 0 (cond (ltb ((longest_pdu - used) / size) left) ((longest_pdu - used) / size) left)

-- With LeaveAll each type has a Message: the octets of those of the types before one, and of those after it, where they are empty.
unfoldable pub earlier : Bool → frames.Attribute → ℕ
earlier all (registers advertises) = 0
earlier all (registers faileds) = empty_size all (registers advertises)
earlier all (registers listeners) = empty_size all (registers advertises) + empty_size all (registers faileds)
earlier all domain_type = empty_size all (registers advertises) + empty_size all (registers faileds) + empty_size all (registers listeners)

unfoldable pub later : Bool → frames.Attribute → ℕ
later all (registers advertises) = empty_size all (registers faileds) + (empty_size all (registers listeners) + empty_size all domain_type)
later all (registers faileds) = empty_size all (registers listeners) + empty_size all domain_type
later all (registers listeners) = empty_size all domain_type
later all domain_type = 0

-- how many declarations of a type fit behind so many octets, the EndMark and the later Messages counted
unfoldable pub fitting : Bool → frames.Attribute → ℕ → List Said → ℕ
fitting all k at l = model.fitting all (at + 2 - earlier all k) l

-- the Message of declarations of a type
unfoldable pub message : Bool → frames.Attribute → List Said → List ℕ
message all k l = message_octets k (vectors_said all k l)

-- What the Message of a pass takes, of declarations to say, behind so many octets; and leaves in the buffer.
unfoldable pub fit : Bool → frames.Attribute → ℕ → List Said → List Said
fit all k at l = take (fitting all k at l) l

pub record MessageWritten (all : Bool) (k : frames.Attribute) (l : List Said) (at : ℕ) (before : List ℕ) (r : Message) (now : List ℕ) : Type 0 where
  pub count : r.count ≡ fitting all k at l
  pub end : r.end ≡ at + length (message all k (fit all k at l))
  pub buffer : now ≡ patch at (length (message all k (fit all k at l))) (message all k (fit all k at l)) before
  pub after : earlier all k + empty_size all k ≤ r.end
  pub room : r.end + (2 + later all k) ≤ longest_pdu

-- before it: the Messages of the types before, room for its own empty Message, where there must be one, and for what follows
abbrev pub Room : Bool → frames.Attribute → ℕ → Type 0
Room all k at = at + empty_size all k + (2 + later all k) ≤ longest_pdu

pub record MessageIn (t : List ℕ) (p : ℕ) (k : frames.Attribute) (at : ℕ) (b : List ℕ) : Type 0 where
  pub port : PortIn t p
  pub after : earlier (leaves_all (decode t) p) k ≤ at
  pub room : Room (leaves_all (decode t) p) k at
  pub buffer : longest_pdu ≤ length b

-- all that is to say of a type from a place on
pub record RestIn (t : List ℕ) (p : ℕ) (r : Run) : Type 0 where
  pub few : r.count ≤ 64
  pub all : r.count ≡ length (said_from (type_of r.attribute) p (decode t) r.first)

-- What a pass takes of the declarations of its type, how far the PDU then is, and what is written. The first declaration that has
-- something to say and finds no room ends the PDU, but for the Messages that LeaveAll needs.
unfoldable pub rest : Bridge → ℕ → frames.Attribute → Progress → List Said
rest b p k s = cond s.full [] (said_of b p (drop s.skip (all_of k p b)))

unfoldable pub taken : Bridge → ℕ → frames.Attribute → Progress → List Said
taken b p k s = fit (leaves_all b p) k s.at (rest b p k s)

unfoldable pub said : Bridge → ℕ → frames.Attribute → Progress → List ℕ
said b p k s = message (leaves_all b p) k (taken b p k s)

unfoldable pub passed : Bridge → ℕ → frames.Attribute → Progress → Progress
passed b p k s = record {
  at = s.at + length (said b p k s);
  skip = cond s.full 0 (s.skip - length (all_of k p b));
  end = s.end + cond s.full 0 (length (reached (port_way b p).says (length (taken b p k s)) (drop s.skip (all_of k p b))));
  full = cond s.full true (ltb (length (taken b p k s)) (length (rest b p k s)));
}

unfoldable pub written : Bridge → ℕ → frames.Attribute → Progress → List ℕ → List ℕ
written b p k s before = patch s.at (length (said b p k s)) (said b p k s) before

-- before a pass
pub record PassIn (t : List ℕ) (p : ℕ) (k : frames.Attribute) (s : Progress) (b : List ℕ) : Type 0 where
  pub message : MessageIn t p k s.at b
  pub end : s.end ≤ 1000

-- after it
pub record PassLeaves (t : List ℕ) (p : ℕ) (k : frames.Attribute) (s : Progress) (before : List ℕ) (r : Progress) (now : List ℕ) : Type 0 where
  pub progress : r ≡ passed (decode t) p k s
  pub buffer : now ≡ written (decode t) p k s before
  pub after : earlier (leaves_all (decode t) p) k + empty_size (leaves_all (decode t) p) k ≤ r.at
  pub room : r.at + (2 + later (leaves_all (decode t) p) k) ≤ longest_pdu
  pub end : r.end ≤ s.end + 64

-- before the first pass: ProtocolVersion is there
unfoldable pub begun : ℕ → Progress
begun place = record { at = 1; skip = place; end = place; full = false }

-- what write_pdu is asked with: a place in the list, and a buffer that the longest PDU fits into
pub record WriteIn (t : List ℕ) (p place : ℕ) (b : List ℕ) : Type 0 where
  pub port : PortIn t p
  pub within : place ≤ 256
  pub buffer : longest_pdu ≤ length b

-- The PDU that a write of the port at place p gives, from a place on: its run and its octets.
unfoldable pub run_on : Bridge → ℕ → ℕ → List Said
run_on b p place = map (say_on b p) (wrote_on b p place).run

unfoldable pub pdu_on : Bridge → ℕ → ℕ → List ℕ
pdu_on b p place = pdu_octets (leaves_all b p) (run_on b p place)

-- what write_pdu leaves: the PDU's length, the end that it reached, whether it has LeaveAll; the PDU, and the buffer's own octets behind it
pub record PduWritten (b : Bridge) (p place : ℕ) (before : List ℕ) (answer : Taken) (after : List ℕ) : Type 0 where
  pub size : answer.length ≡ length (pdu_on b p place)
  pub end : answer.end ≡ end_on b p place
  pub all : answer.all ≡ leaves_all b p
  pub buffer : after ≡ pdu_on b p place ++ drop (length (pdu_on b p place)) before
