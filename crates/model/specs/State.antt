-- What a bridge holds: its settings, the registrations of each stream on each port, and what the last advance decided.
use Rattle.std.specs.Prelude.{List, [], Bool, true, false, cond, ◌&&◌, ◌||◌, ℕ, ◌+◌, ◌-◌, ◌*◌, get_or, replicate, length, ltb, eqb}
use Rattle.model.specs.Layout.{slots}
use Rattle.model.specs.Lists.{tabulate}
use Rattle.model.specs.Machines.{Applicant, no_applicant, born}
use Rattle.model.specs.LeaveAll.{LeaveAll, begun}

-- Settings (01, "Numbers given back": "Settings, fields most significant bit first"; 02, ii, vi and x).

pub record Port : Type 0 where
  pub supports_a : Bool
  pub supports_b : Bool
  pub sends_twice : Bool
  pub overhead : ℕ
  pub largest : ℕ
  pub limit_a : ℕ
  pub limit_b : ℕ
  pub latency_a : ℕ
  pub latency_b : ℕ

pub record Settings : Type 0 where
  pub bridge_id : ℕ
  pub priority_a : ℕ
  pub priority_b : ℕ
  pub leave_time : ℕ
  -- "Add talkerPruning (35.2.4.3.1), the top bit of the VLAN setting's two octets" (02, vi)
  pub pruning : Bool
  -- of the Domain values that each port declares: "with a VLAN from a new setting of two octets after the leave time" (02, ii)
  pub vlan : ℕ
  -- "Add msrpMaxFanInPorts (0 means no limit; 1 to 8) as one octet of its own before the first port's settings" (02, x)
  pub fan_in : ℕ
  pub ports : List Port

-- Registrations (01, "Registering"; 35.2.2.8).

-- a registration stays, or has been leaving since a time
pub data Leaving : Type 0 where
  stays : Leaving
  since : ℕ → Leaving

-- what a Talker's later joins must not change: destination, VLAN, TSpec, priority and rank
pub record Fixed : Type 0 where
  pub destination : ℕ
  pub vlan : ℕ
  pub size : ℕ
  pub frames : ℕ
  pub priority : ℕ
  pub rank : ℕ

-- what they may: the type, Talker Advertise, or Talker Failed with a Bridge ID and a code; and the accumulated latency
pub data TalkerType : Type 0 where
  talker_advertise : TalkerType
  talker_failed : (bridge code : ℕ) → TalkerType

pub record Varying : Type 0 where
  pub type : TalkerType
  pub latency : ℕ

-- what a port has registered of a Talker; 02, v: "Keep with each Talker registration the latency of its first join"
pub record Registration : Type 0 where
  pub fixed : Fixed
  pub varying : Varying
  pub first_latency : ℕ
  pub changed : Bool
  pub leaving : Leaving

pub data Talker : Type 0 where
  no_talker : Talker
  talker : Registration → Talker

-- the three declaration types of a Listener
pub data Ready : Type 0 where
  asking_failed ready ready_failed : Ready

-- "Asking Failed 1, Ready 2, Ready Failed 3"
unfoldable pub ready_number : Ready → ℕ
ready_number asking_failed = 1
ready_number ready = 2
ready_number ready_failed = 3

pub data Listener : Type 0 where
  no_listener : Listener
  listener : Ready → Leaving → Listener

-- one stream on one port: at most one Talker and one Listener
pub record Cell : Type 0 where
  pub talks : Talker
  pub hears : Listener

-- Domain values (02, ii; 35.2.2.9): registered on a port by class ID and priority, with the VLAN of the last join.

pub data Domain : Type 0 where
  no_domain : Domain
  domain : (vlan : ℕ) → Leaving → Domain

-- MAC addresses (02, vi; MMRP): registered on a port. One is vacant while a frame that joins it has only been given room.

pub data Presence : Type 0 where
  vacant : Presence
  present : Leaving → Presence

pub record Address : Type 0 where
  pub mac : ℕ
  pub presence : Presence

-- what a port holds by itself: its Domain values, those of class ID 5 by priority 0 to 7, then those of class ID 6; as the last
-- advance decided, whether it is a boundary port of class A and of class B (35.2.1.4 h); and its addresses, ascending
pub record Own : Type 0 where
  pub domains : List Domain
  pub boundary_a : Bool
  pub boundary_b : Bool
  pub addresses : List Address

-- Results (01, "Settling"): what the last advance decided for one stream on one port.

pub data Column : Type 0 where
  none advertise : Column
  failed : (bridge code : ℕ) → Column

pub data Entry : Type 0 where
  no_entry filters forwards : Entry

-- a Listener declaration, or none
pub data Declared : Type 0 where
  nothing : Declared
  tells : Ready → Declared

pub record Result : Type 0 where
  pub column : Column
  pub latency : ℕ
  pub entry : Entry
  pub age : ℕ
  pub declares : Declared

-- What is sent (02, xiv): a machine for each declaration in a port's list, with the octets last declared.

-- a Talker's values behind its StreamID, in the order of a FirstValue; and for Failed the Bridge ID and code behind them
pub record Offer : Type 0 where
  pub fixed : Fixed
  pub latency : ℕ

pub record Failure : Type 0 where
  pub bridge : ℕ
  pub code : ℕ

-- what a port sends of one stream: "Advertise and Failed of one StreamID are two declarations"
pub record Sends : Type 0 where
  pub advertising : Applicant Offer
  pub failing : Applicant (Offer × Failure)
  pub listening : Applicant Ready

-- what it sends by itself: an Applicant for each Domain value, by the slots of `Own`, and its LeaveAll machine
pub record Sender : Type 0 where
  pub domains : List (Applicant (Unit {0}))
  pub leave_all : LeaveAll

-- a held stream: its registrations, its results and what is sent of it on the eight ports that a table has room for, and the fixed
-- values of its Talker as the last advance took them
pub record Stream : Type 0 where
  pub id : ℕ
  pub settled : Fixed
  pub cells : List Cell
  pub results : List Result
  pub sends : List Sends

pub record Totals : Type 0 where
  pub total_a : ℕ
  pub total_b : ℕ

-- the bridge; streams stand by ascending StreamID
pub record Bridge : Type 0 where
  pub settings : Settings
  pub clock : ℕ
  pub totals : List Totals
  pub owns : List Own
  pub senders : List Sender
  pub streams : List Stream

-- What is there before anything is registered or decided.

unfoldable pub empty : Cell
empty = record { talks = no_talker; hears = no_listener }

unfoldable pub unsettled : Result
unsettled = record { column = none; latency = 0; entry = no_entry; age = 0; declares = nothing }

unfoldable pub no_fixed : Fixed
no_fixed = record { destination = 0; vlan = 0; size = 0; frames = 0; priority = 0; rank = 0 }

unfoldable pub no_totals : Totals
no_totals = record { total_a = 0; total_b = 0 }

unfoldable pub no_own : Own
no_own = record { domains = replicate slots no_domain; boundary_a = false; boundary_b = false; addresses = [] }

unfoldable pub no_sends : Sends
no_sends = record { advertising = no_applicant; failing = no_applicant; listening = no_applicant }

unfoldable pub no_sender : Sender
no_sender = record { domains = replicate slots no_applicant; leave_all = begun 0 }

unfoldable pub blank : List Cell
blank = replicate 8 empty

unfoldable pub fresh : ℕ → Stream
fresh i = record { id = i; settled = no_fixed; cells = blank; results = replicate 8 unsettled; sends = replicate 8 no_sends }

-- Places. Ports are numbered from 1 by callers, and from 0 in lists.

unfoldable pub no_port : Port
no_port = record {
  supports_a = false;
  supports_b = false;
  sends_twice = false;
  overhead = 0;
  largest = 0;
  limit_a = 0;
  limit_b = 0;
  latency_a = 0;
  latency_b = 0;
}

unfoldable pub port_at : Settings → ℕ → Port
port_at st p = get_or st.ports p no_port

unfoldable pub is_port : Settings → ℕ → Bool
is_port st p = ltb p (length st.ports)

unfoldable pub cell_at : Stream → ℕ → Cell
cell_at x p = get_or x.cells p empty

unfoldable pub result_at : Stream → ℕ → Result
result_at x p = get_or x.results p unsettled

-- the stream at place k; past the last one stands one that has no StreamID and no results
abbrev pub stream_at : ℕ → Bridge → Stream
stream_at k b = get_or b.streams k (fresh 0)

-- the totals of the port at place p
abbrev pub totals_at : ℕ → Bridge → Totals
totals_at p b = get_or b.totals p no_totals

-- what a port sends of a stream, and by itself
unfoldable pub sends_at : Stream → ℕ → Sends
sends_at x p = get_or x.sends p no_sends

unfoldable pub sender_at : List Sender → ℕ → Sender
sender_at l p = get_or l p no_sender

-- what the port at place p holds by itself
abbrev pub own_at : List Own → ℕ → Own
own_at o p = get_or o p no_own

-- Classes (01, settings' class priorities; 35.2.2.9.2).

pub data Class : Type 0 where
  no_class class_a class_b : Class

unfoldable pub class_of : Settings → ℕ → Class
class_of st q = cond (eqb q st.priority_a) class_a (cond (eqb q st.priority_b) class_b no_class)

unfoldable pub is_no_class : Class → Bool
is_no_class no_class = true
is_no_class class_a = false
is_no_class class_b = false

unfoldable pub same_class : Class → Class → Bool
same_class no_class d = false
same_class class_a no_class = false
same_class class_a class_a = true
same_class class_a class_b = false
same_class class_b no_class = false
same_class class_b class_a = false
same_class class_b class_b = true

-- a priority that is no class is not one that a port fails to support
unfoldable pub supports : Port → Class → Bool
supports q no_class = true
supports q class_a = q.supports_a
supports q class_b = q.supports_b

-- what both classes together may reserve on a port (02, i): "limit A counts as 0 there if the port doesn't support A"
unfoldable pub both_limits : Port → ℕ
both_limits q = cond q.supports_a q.limit_a 0 + q.limit_b

-- the limit in force, where class A reserves so much on the port: A's own, and for B "limit A plus limit B less A's total"
unfoldable pub in_force : Port → ℕ → Class → ℕ
in_force q used_by_a no_class = 0
in_force q used_by_a class_a = q.limit_a
in_force q used_by_a class_b = both_limits q - used_by_a

unfoldable pub class_latency : Port → Class → ℕ
class_latency q no_class = 0
class_latency q class_a = q.latency_a
class_latency q class_b = q.latency_b

unfoldable pub class_priority : Settings → Class → ℕ
class_priority st no_class = 0
class_priority st class_a = st.priority_a
class_priority st class_b = st.priority_b

-- Table 35-7: SR class ID 6 is class A, 5 is class B
unfoldable pub class_id : Class → ℕ
class_id no_class = 0
class_id class_a = 6
class_id class_b = 5

-- A Domain value's slot among those of a port: class ID 5 by priority, then 6 (02: "IDs 5 and 6, priorities 0 to 7").
unfoldable pub slot_of : ℕ → ℕ → ℕ
slot_of c q = (c - 5) * 8 + q

-- "a Domain value per class it supports": the slot is that of a class that the port supports, with the bridge's priority
unfoldable pub is_own_slot : Settings → Port → Class → ℕ → Bool
is_own_slot st q c i = supports q c && eqb i (slot_of (class_id c) (class_priority st c))

unfoldable pub declares_slot : Settings → ℕ → ℕ → Bool
declares_slot st p i = is_own_slot st (port_at st p) class_b i || is_own_slot st (port_at st p) class_a i

-- start: no streams, clock 0, nothing reserved, no Domain value registered, no boundary, no address; Domain values are declared "from start
-- on", and each LeaveAll timer is started
unfoldable pub started_sender : Settings → ℕ → Sender
started_sender st p = record { domains = tabulate slots 0 (λ i. cond (declares_slot st p i) (born tt) no_applicant); leave_all = begun 0 }

unfoldable pub started : Settings → Bridge
started st = record {
  settings = st;
  clock = 0;
  totals = replicate 8 no_totals;
  owns = replicate 8 no_own;
  senders = tabulate 8 0 (started_sender st);
  streams = [];
}
