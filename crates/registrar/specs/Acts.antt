-- What the vectors of a frame, and a value of one, ask for.
use Rattle.std.specs.Prelude.{ℕ, ◌+◌, ◌≤◌, ◌≡◌, List, [], ◌∷◌, ◌++◌, Bool, true, false, cond, length, eqb, Option, Some, None}
use Rattle.octets.specs.Be.{be_at}
use Rattle.octets.specs.Fields.{fields}
use Rattle.model.specs.Machines.{heard_leave}
use Rattle.model.specs.State.{Stream}
use Rattle.model.specs.Registrations.{Kind, advertises, faileds, listeners, Act, leave, listen, hear, of_domain, leave_domain, join_domain, hear_domain, at, change, hears}
use Rattle.model.specs.Frames.{Attribute, registers, domain_type, first_widths, first_length, has_four, runs_past, Vector, Walk, fault, found, frame_acts, id_value}
use Rattle.model.specs.Events.{asked_by}
use Rattle.model.specs.declared.event.Asked.{Asked}
use Rattle.model.specs.declared.event.Asked.TheVariants.{Join, Leave}
use Rattle.model.specs.declared.event.Event.{Event}
use Rattle.model.specs.declared.event.Event.TheVariants.{New, JoinIn, In, JoinMt, Mt, Lv}
use Rattle.msrpdu.specs.Reader.{event_in, four_in, domain_in}
use Rattle.cells.specs.Acts.{talk_of}
use Rattle.hearing.specs.Hears.{meant}
use Rattle.hearing.specs.declared.Heard.{Heard}
use Rattle.hearing.specs.declared.Heard.TheVariants as heard
use Rattle.model.specs.WrittenFrames.{to_ready}

-- A frame.

-- the walk over it meets no fault
unfoldable pub is_found : Walk → Bool
is_found (fault n) = false
is_found (found vs) = true

-- the acts of the vectors that it finds
unfoldable pub acts_of : Walk → List Act
acts_of (fault n) = []
acts_of (found vs) = frame_acts vs

-- A vector.

-- of a type with its parts
unfoldable pub vector_of : Attribute → Bool → ℕ → List ℕ → List ℕ → List ℕ → Vector
vector_of k leaves values first three four = record {
  attribute = k;
  leaves_all = leaves;
  values = values;
  first = first;
  three = three;
  four = four;
}

-- A value.

-- value n of a FirstValue is within its fields
pub record HasValue (k : Attribute) (first : List ℕ) (n : ℕ) : Type 0 where
  pub octets : length first ≡ first_length k
  pub within : runs_past k first n ≡ false

-- a Listener's four-packed event is a declaration type
abbrev pub Declares : Attribute → ℕ → Type 0
Declares (registers advertises) f = Unit {0}
Declares (registers faileds) f = Unit {0}
Declares (registers listeners) f = (1 ≤ f) × (f ≤ 3)
Declares domain_type f = Unit {0}

-- a join of it, with a Listener's four-packed event
unfoldable pub join_of : Kind → List ℕ → ℕ → ℕ → Act
join_of advertises first four n = talk_of advertises first n
join_of faileds first four n = talk_of faileds first n
join_of listeners first four n = listen (id_value (fields (first_widths (registers listeners)) 0 first) n) (to_ready four)

-- its event; a Listener's is none where its four-packed event is Ignore
unfoldable pub event_for : Attribute → List ℕ → List ℕ → ℕ → Option Event
event_for k three four n = cond (has_four k) (cond (eqb (four_in four n) 0) None (event_in three n)) (event_in three n)

-- What it asks of a Registrar.

-- of a stream
unfoldable pub acts_asked : Kind → List ℕ → ℕ → ℕ → Option Asked → List Act
acts_asked k first four n None = []
acts_asked k first four n (Some Join) = join_of k first four n ∷ []
acts_asked k first four n (Some Leave) = leave k (be_at 8 first 0 + n) ∷ []

-- of a Domain value, which has a slot or is dropped
unfoldable pub slot_asked : Option ℕ → ℕ → Option Asked → List Act
slot_asked (Some i) vlan None = []
slot_asked (Some i) vlan (Some Join) = of_domain (join_domain i vlan) ∷ []
slot_asked (Some i) vlan (Some Leave) = of_domain (leave_domain i) ∷ []
slot_asked None vlan a = []

-- of either, by its type
unfoldable pub register_acts : Attribute → List ℕ → Event → ℕ → ℕ → List Act
register_acts (registers k) first e four n = acts_asked k first four n (asked_by e)
register_acts domain_type first e four n = slot_asked (domain_in first n) (be_at 2 first 2) (asked_by e)

-- What the Applicant of its type and key hears.

-- "In and Mt count now"; rNew! moves nothing
unfoldable pub overheard_by : Event → Option Heard
overheard_by New = None
overheard_by JoinIn = Some heard.In
overheard_by In = Some heard.In
overheard_by JoinMt = Some heard.Empty
overheard_by Mt = Some heard.Empty
overheard_by Lv = Some heard.Leave

unfoldable pub slot_hears : Option ℕ → Heard → List Act
slot_hears (Some i) h = of_domain (hear_domain i (meant h)) ∷ []
slot_hears None h = []

unfoldable pub acts_heard : Attribute → List ℕ → ℕ → Option Heard → List Act
acts_heard k first n None = []
acts_heard (registers k) first n (Some h) = hear k (be_at 8 first 0 + n) (meant h) ∷ []
acts_heard domain_type first n (Some h) = slot_hears (domain_in first n) h

unfoldable pub hear_acts : Attribute → List ℕ → Event → ℕ → List Act
hear_acts k first e n = acts_heard k first n (overheard_by e)

-- Both; a value without an event asks for nothing, and nothing is heard of it.

unfoldable pub event_acts : Attribute → List ℕ → Option Event → ℕ → ℕ → List Act
event_acts k first None four n = []
event_acts k first (Some e) four n = register_acts k first e four n ++ hear_acts k first e n

-- a stream whose Applicant of a type on the port at place p heard LeaveAll
abbrev pub leave_heard : ℕ → Kind → Stream → Stream
leave_heard p k = change (λ l. l) (at p (hears k heard_leave))
