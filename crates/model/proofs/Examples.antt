-- 01's marked examples P1 to P13 and its worked example, computed by the definitions and compared with what 01 prints; then
-- examples of what 01 says of registering and of ages, of the near misses that it shuts out, of the domain's edge, of class B's
-- limit in force, of latency that grows, of inbound ports and shared addresses, of talker pruning, of what an unimportant stream can't
-- touch, of why a stream was refused, of the order of a PDU's checks, and of vectors that are passed over.
use mathlib.Core.Path.{◌≡◌, refl}
use mathlib.Core.List.{List, [], ◌∷◌, ◌++◌, map}
use mathlib.Core.Bool.{Bool, true, false, cond, ◌&&◌}
use Prim.Native.Nat.{ℕ, zero, suc, ◌+◌, ◌-◌}
use lib.ListN.{length, get_or, take, replicate}
use lib.Dec.{eqb}
use Rattle.octets.specs.Be
use Rattle.octets.specs.Fields
use Rattle.model.specs.Layout.{cell_index}
use Rattle.model.specs.Lists.{All}
use Rattle.model.specs.Lists
use Rattle.model.specs.State.{Port, Settings, Fixed, ready, asking_failed, tells, Stream, Bridge}
use Rattle.model.specs.State
use Rattle.model.specs.Registrations.{Kind, advertises, faileds, listeners, Reading, refused, acts, Answer}
use Rattle.model.specs.Registrations
use Rattle.model.specs.Frames.{Attribute, registers, domain_type, Event, new, join_in, is_in, join_mt, mt, lv}
use Rattle.model.specs.Frames
use Rattle.model.specs.Bandwidth
use Rattle.model.specs.Settling
use Rattle.model.specs.Reports.{ColumnWord, none_word, advertise_word, failed_word, Report}
use Rattle.model.specs.Reports
use Rattle.model.specs.WrittenFrames
use Rattle.model.specs.Table
use Rattle.model.specs.Why
use Rattle.model.specs.Calls
use Rattle.model.proofs.Opened.{opened}
use Rattle.model.proofs.ComingIn
use Rattle.model.proofs.Untouched.{remaining, scene_at}

-- what the definitions compute, and what 01 prints
pub record Example : Type 0 where
  pub computed : List ℕ
  pub printed : List ℕ

abbrev pub Holds : Example → Type 0
Holds e = e.computed ≡ e.printed

-- The bridge of the worked example: "Two ports, both classes, overhead 42, largest 1522, limits 75000000 and 0, latency 0,
-- priorities 3 and 2, leave time 60", VLAN 2, no limit of inbound ports; with another limit for class A where an example asks for one.

port : ℕ → Port
port limit = record {
  supports_a = true;
  supports_b = true;
  sends_twice = false;
  overhead = 42;
  largest = 1522;
  limit_a = limit;
  limit_b = 0;
  latency_a = 0;
  latency_b = 0;
}

settings_of : Bool → (ports fan_in limit : ℕ) → Settings
settings_of pruning ports fan_in limit = record {
  bridge_id = 7;
  priority_a = 3;
  priority_b = 2;
  leave_time = 60;
  pruning = pruning;
  vlan = 2;
  fan_in = fan_in;
  ports = replicate ports (port limit);
}

settings_with : ℕ → ℕ → Settings
settings_with fan_in limit = settings_of false 2 fan_in limit

pub settings : ℕ → Settings
settings limit = settings_with 0 limit

-- what is handed over: a PDU on a port, an MMRP PDU on one, or a time
pub data Handed : Type 0 where
  pdu : ℕ → List ℕ → Handed
  mmrp : ℕ → List ℕ → Handed
  time : ℕ → Handed

-- each must be accepted: a refusal would leave a bridge with nothing in it
accepted : Answer → Bridge
accepted a = cond (eqb a.number 0) a.bridge (State.started a.bridge.settings)

pub from : Bridge → List Handed → Bridge
from b [] = b
from b (pdu p s ∷ l) = from (accepted (Calls.receive b p s)) l
from b (mmrp p s ∷ l) = from (accepted (Calls.receive_mmrp b p s)) l
from b (time now ∷ l) = from (accepted (Settling.advance b now)) l

-- PDUs of one Message.

message_of : Attribute → List ℕ → List ℕ
message_of k vectors = 0 ∷ (WrittenFrames.message_of k (vectors ++ (0 ∷ 0 ∷ [])) ++ (0 ∷ 0 ∷ []))

message : Kind → List ℕ → List ℕ
message k vectors = message_of (registers k) vectors

-- n Domain values from a class ID and a priority on, of VLAN 2, with their events; "matching Domain joins": {5, 2} and {6, 3}
domains_of : ℕ → ℕ → ℕ → List ℕ → List ℕ
domains_of class_id priority n three = message_of domain_type (Be.be 2 n ++ (class_id ∷ priority ∷ 0 ∷ 2 ∷ three))

matching : List ℕ
matching = domains_of 5 2 2 (126 ∷ [])

-- the bridge with this limit, after matching Domain joins on each port and what is handed over
bridge_with : ℕ → ℕ → List Handed → Bridge
bridge_with fan_in limit l = from (State.started (settings_with fan_in limit)) (pdu 1 matching ∷ pdu 2 matching ∷ l)

bridge : ℕ → List Handed → Bridge
bridge limit l = bridge_with 0 limit l

-- FirstValues like those of the worked example: a StreamID by its Unique ID; the last two octets of the destination, and the VLAN, which
-- is 2 unless an example has another; MaxFrameSize, one frame per interval, and the octet of priority and rank
stream_id : ℕ → List ℕ
stream_id unique = 0x02 ∷ 0 ∷ 0 ∷ 0 ∷ 0 ∷ 0x01 ∷ Be.be 2 unique

talker_in : (vlan destination latency unique size octet : ℕ) → List ℕ
talker_in vlan destination latency unique size octet =
    stream_id unique
    ++ (0x91 ∷ 0xE0 ∷ 0xF0 ∷ 0
    ∷ (Be.be 2 destination ++ (Be.be 2 vlan ++ (Be.be 2 size ++ (0 ∷ 0x01 ∷ octet ∷ Be.be 4 latency)))))

talker_of : (destination latency unique size octet : ℕ) → List ℕ
talker_of = talker_in 2

talker_to : ℕ → ℕ → ℕ → ℕ → List ℕ
talker_to unique destination size octet = talker_of destination 0 unique size octet

-- each stream with a destination of its own
delayed_first : ℕ → ℕ → ℕ → ℕ → List ℕ
delayed_first latency unique size octet = talker_of (0xFE00 + unique - 1) latency unique size octet

talker_first : ℕ → ℕ → ℕ → List ℕ
talker_first = delayed_first 0

-- what a Talker Failed adds: Bridge ID 9 and code 2
failure : List ℕ
failure = 0 ∷ 0 ∷ 0 ∷ 0 ∷ 0 ∷ 0 ∷ 0 ∷ 0x09 ∷ 0x02 ∷ []

-- priority 3, which is class A, with rank 1 or 0
rank1 : ℕ
rank1 = 0x70

rank0 : ℕ
rank0 = 0x60

-- n values from a Unique ID on, with their events
advertises_of : ℕ → ℕ → ℕ → ℕ → List ℕ → List ℕ
advertises_of unique size octet n three = message advertises (Be.be 2 n ++ (talker_first unique size octet ++ three))

failed_of : ℕ → ℕ → ℕ → ℕ → List ℕ → List ℕ
failed_of unique size octet n three =
    message faileds (Be.be 2 n ++ (talker_first unique size octet ++ (failure ++ three)))

listener_vector : ℕ → ℕ → List ℕ → List ℕ → List ℕ
listener_vector unique n three four = Be.be 2 n ++ (stream_id unique ++ (three ++ four))

listeners_of : ℕ → ℕ → List ℕ → List ℕ → List ℕ
listeners_of unique n three four = message listeners (listener_vector unique n three four)

-- one stream joins; Ready is 128, Asking Failed 64. (JoinMt is 108, two are 126, three 129; Mt is 144, Lv 180.)
talks : ℕ → ℕ → ℕ → List ℕ
talks unique size octet = advertises_of unique size octet 1 (108 ∷ [])

pub hears : ℕ → ℕ → List ℕ
hears unique four = listeners_of unique 1 (108 ∷ []) (four ∷ [])

-- What is shown. Columns are 0 none, 1 Advertise, 2 Failed, each with its code; Listeners 0 none, 1 Asking Failed, 2 Ready, 3
-- Ready Failed; entries 0 none, 1 filter, 2 forward.

-- the columns on port 2, by StreamID
columns : Bridge → List ℕ
columns b = Fields.flat (λ (x : Stream). let c = (State.result_at x 1).column in Table.column_number c ∷ Table.column_code c ∷ []) b.streams

-- port 2's total and limit of class A
reserves : Bridge → List ℕ
reserves b = (get_or b.totals 1 State.no_totals).total_a ∷ (State.port_at b.settings 1).limit_a ∷ []

count : Bridge → List ℕ
count b = length b.streams ∷ []

-- the Talker of the first stream on the port at place p: kind, changed mark, leaving, since, destination, .., code; its
-- Listener: kind, leaving, since
talker : ℕ → Bridge → List ℕ
talker p b = take (cell_index.code + 1) (Table.talker_numbers (State.cell_at (State.stream_at 0 b) p).talks)

listener : ℕ → Bridge → List ℕ
listener p b = Table.listener_numbers (State.cell_at (State.stream_at 0 b) p).hears

-- a PDU on port 1: its number, and the StreamIDs that it asks to join
read : List ℕ → List ℕ
read s = go (Frames.reading (settings 75000000) 1 s)
  where
    go : Reading → List ℕ
    go (refused n) = n ∷ []
    go (acts es) = 0 ∷ Registrations.joins es

event_number : Event → ℕ
event_number new = 0
event_number join_in = 1
event_number is_in = 2
event_number join_mt = 3
event_number mt = 4
event_number lv = 5

-- the three events of an octet
events : ℕ → List ℕ
events o = map (λ (i : ℕ). event_number (Frames.event (Frames.three_packed o i))) (0 ∷ 1 ∷ 2 ∷ [])

word_number : ColumnWord → ℕ
word_number none_word = 0
word_number advertise_word = 1
word_number failed_word = 2

-- a port's totals and limits, then StreamID, column, code, Listener and entry of the stream at place 0
reported : Report → List ℕ
reported r =
    r.total_a ∷ r.limit_a ∷ r.total_b ∷ r.limit_b ∷ r.id ∷ word_number r.column ∷ r.code
    ∷ Table.declared_number r.listener ∷ Table.entry_number r.entry ∷ []

-- The marked examples.

size224 : Fixed
size224 = record { destination = 0; vlan = 0; size = 224; frames = 1; priority = 3; rank = 1 }

-- the worked example's stream on a bridge with this limit
pub one : ℕ → Bridge
one limit = bridge limit (pdu 1 (talks 1 224 rank1) ∷ pdu 2 (hears 1 128) ∷ time 100 ∷ [])

-- four such, all Ready, settled at 100; then a fifth, Ready, of this rank, settled at 200
four : Bridge
four =
    bridge 75000000
    (pdu 1 (advertises_of 1 224 rank1 4 (129 ∷ 108 ∷ [])) ∷ pdu 2 (listeners_of 1 4 (129 ∷ 108 ∷ []) (0xAA ∷ [])) ∷ time 100 ∷ [])

with_fifth : ℕ → Bridge
with_fifth octet = from four (pdu 1 (talks 5 224 octet) ∷ pdu 2 (hears 5 128) ∷ time 200 ∷ [])

-- a Talker registered before time 100, and what is handed over then; one that begins to leave then
settled_talker : List Handed → Bridge
settled_talker l = bridge 75000000 (pdu 1 (talks 1 224 rank1) ∷ time 100 ∷ l)

pub lv_pdu : List ℕ
lv_pdu = advertises_of 1 224 rank1 1 (180 ∷ [])

-- to unfold `handed` is to unfold what is handed over, for examples that stand elsewhere
unfoldable pub handed : Unit {0}
unfolding opened port settings_of settings_with settings accepted from message_of message domains_of matching bridge_with bridge stream_id talker_to talker_in talker_of delayed_first talker_first failure rank1 rank0 advertises_of failed_of listener_vector listeners_of talks hears one lv_pdu
handed = tt

leaver : Bridge
leaver = settled_talker (pdu 1 lv_pdu ∷ [])

worked_talker : List ℕ
worked_talker =
    0x00 ∷ 0x01 ∷ 0x19 ∷ 0x00 ∷ 0x1E ∷ 0x00 ∷ 0x01 ∷ 0x02 ∷ 0x00 ∷ 0x00 ∷ 0x00 ∷ 0x00 ∷ 0x01 ∷ 0x00 ∷ 0x01 ∷ 0x91 ∷ 0xE0 ∷ 0xF0
    ∷ 0x00 ∷ 0xFE ∷ 0x00 ∷ 0x00 ∷ 0x02 ∷ 0x00 ∷ 0xE0 ∷ 0x00 ∷ 0x01 ∷ 0x70 ∷ 0x00 ∷ 0x00 ∷ 0x00 ∷ 0x00 ∷ 0x6C ∷ 0x00 ∷ 0x00 ∷ 0x00 ∷ 0x00 ∷ []

worked_listener : List ℕ
worked_listener =
    0x00 ∷ 0x03 ∷ 0x08 ∷ 0x00 ∷ 0x0E ∷ 0x00 ∷ 0x01 ∷ 0x02 ∷ 0x00 ∷ 0x00 ∷ 0x00 ∷ 0x00 ∷ 0x01 ∷ 0x00 ∷ 0x01 ∷ 0x6C ∷ 0x80
    ∷ 0x00 ∷ 0x00 ∷ 0x00 ∷ 0x00 ∷ []

worked : Bridge
worked = bridge 75000000 (pdu 1 worked_talker ∷ pdu 2 worked_listener ∷ time 100 ∷ [])

pub examples : List Example
examples =
    -- P1: octet 215 is Lv Lv Lv
    record { computed = events 215; printed = 5 ∷ 5 ∷ 5 ∷ [] }
    -- P2: 216 refused 6
    ∷ record { computed = read (advertises_of 1 224 rank1 3 (216 ∷ [])); printed = 6 ∷ [] }
    -- P3: size 224, overhead 42, one frame: 267 octets, 17,088,000 bit/s in A
    ∷ record {
      computed = (Bandwidth.demand (port 0) size224).octets ∷ (Bandwidth.rate_of_a (Bandwidth.demand (port 0) size224)).bits ∷ [];
      printed = 267 ∷ 17088000 ∷ [];
    }
    -- P4: 8,544,000 in B
    ∷ record { computed = (Bandwidth.rate_of_b (Bandwidth.demand (port 0) size224)).bits ∷ []; printed = 8544000 ∷ [] }
    -- P5: limit 17,088,000 admits
    ∷ record { computed = columns (one 17088000); printed = 1 ∷ 0 ∷ [] }
    -- P6: 17,087,999 gives 1
    ∷ record { computed = columns (one 17087999); printed = 2 ∷ 1 ∷ [] }
    -- P7: Ready with Asking Failed is Ready Failed
    ∷ record { computed = Table.declared_number (Settling.merge (tells ready) (tells asking_failed)) ∷ []; printed = 3 ∷ [] }
    -- P8: four such, Ready, reserve 68,352,000 of 75,000,000
    ∷ record { computed = reserves four; printed = 68352000 ∷ 75000000 ∷ [] }
    -- P9: a less important fifth gets 1
    ∷ record { computed = columns (with_fifth rank1); printed = 1 ∷ 0 ∷ 1 ∷ 0 ∷ 1 ∷ 0 ∷ 1 ∷ 0 ∷ 2 ∷ 1 ∷ [] }
    -- P10: a Ready fifth of rank 0 is in, and the least important of rank 1 gets 1
    ∷ record { computed = columns (with_fifth rank0); printed = 1 ∷ 0 ∷ 1 ∷ 0 ∷ 1 ∷ 0 ∷ 2 ∷ 1 ∷ 1 ∷ 0 ∷ [] }
    -- P11: Unique ID FFFF with 2 values is 7
    ∷ record { computed = read (advertises_of 0xFFFF 224 rank1 2 (126 ∷ [])); printed = 7 ∷ [] }
    -- P12: with 1 is read
    ∷ record { computed = read (advertises_of 0xFFFF 224 rank1 1 (108 ∷ [])); printed = 0 ∷ 0x020000000001FFFF ∷ [] }
    -- P13: leave time 60 begun at 100: held at 159, gone at 160
    ∷ record { computed = count (from leaver (time 159 ∷ [])) ++ count (from leaver (time 160 ∷ [])); printed = 1 ∷ 0 ∷ [] }
    -- the worked example, port 1: A 0/75000000 B 0/0; 0200000000010001 none 0 ready none
    ∷ record {
      computed = reported (Reports.report worked 1 0);
      printed = 0 ∷ 75000000 ∷ 0 ∷ 0 ∷ 0x0200000000010001 ∷ 0 ∷ 0 ∷ 2 ∷ 0 ∷ [];
    }
    -- the worked example, port 2: A 17088000/75000000 B 0/0; 0200000000010001 advertise 0 none forward
    ∷ record {
      computed = reported (Reports.report worked 2 0);
      printed = 17088000 ∷ 75000000 ∷ 0 ∷ 0 ∷ 0x0200000000010001 ∷ 1 ∷ 0 ∷ 0 ∷ 2 ∷ [];
    }
    ∷ []

-- to unfold this is to unfold the examples' own definitions
shown : Unit {0}
unfolding opened port settings_of settings_with settings accepted from message_of message domains_of matching bridge_with bridge stream_id talker_to talker_in talker_of delayed_first talker_first failure rank1 rank0 advertises_of failed_of listener_vector listeners_of talks hears columns reserves count talker listener read event_number events word_number reported size224 one four with_fifth settled_talker lv_pdu leaver worked_talker worked_listener worked
shown = tt

pub marked-examples : All Holds examples
unfolding shown examples
marked-examples =
    (refl, (refl, (refl, (refl, (refl, (refl, (refl, (refl, (refl, (refl, (refl, (refl, (refl, (refl, (refl, tt)))))))))))))))

-- Further examples, of sentences of 01: registering, where the theorems say little of what happens inside one registration; ages;
-- and the near misses that 01 shuts out, each where it would give something else.

-- LeaveAll without values, and Mt, of that Talker
leave_all_pdu : List ℕ
leave_all_pdu = advertises_of 1 224 rank1 8192 []

mt_pdu : List ℕ
mt_pdu = advertises_of 1 224 rank1 1 (144 ∷ [])

-- Talker and Listener on port 1 and a Listener on port 2; LeaveAll of Listeners on port 1
left_on_port1 : Bridge
left_on_port1 = settled_talker (pdu 1 (hears 1 128) ∷ pdu 2 (hears 1 128) ∷ pdu 1 (listeners_of 1 8192 [] []) ∷ [])

-- two streams with room for one: the higher StreamID has its entry from 100, the lower from 199
same_second : Bridge
same_second =
    bridge 17088000
    (pdu 1 (talks 5 224 rank1) ∷ pdu 2 (hears 5 128) ∷ time 100 ∷ pdu 1 (talks 1 224 rank1) ∷ pdu 2 (hears 1 128)
    ∷ time 199 ∷ time 200 ∷ [])

-- the second of three does not fit, the third does: 17,088,000 and 2,816,000
one_too_large : Bridge
one_too_large =
    bridge 20000000
    (pdu 1 (advertises_of 1 224 rank1 2 (126 ∷ [])) ∷ pdu 1 (talks 3 1 rank1)
    ∷ pdu 2 (listeners_of 1 3 (129 ∷ []) (0xA8 ∷ [])) ∷ time 100 ∷ [])

-- room for one; the more important has this Listener on port 2, the other a Ready one
less_ready : ℕ → Bridge
less_ready kind =
    bridge 17088000
    (pdu 1 (advertises_of 1 224 rank1 2 (126 ∷ [])) ∷ pdu 2 (hears 1 kind) ∷ pdu 2 (hears 2 128) ∷ time 100 ∷ [])

-- 63 streams held; a PDU that joins the 64th twice, and one that joins two more
held63 : Bridge
held63 = bridge 75000000 (pdu 2 (listeners_of 1 63 (replicate 21 129) (replicate 16 0xAA)) ∷ [])

twice_pdu : List ℕ
twice_pdu =
    let v = listener_vector 64 1 (108 ∷ []) (128 ∷ []) in
    message listeners (v ++ v)

answered : Bridge → List ℕ → ℕ
answered b s = (Calls.receive b 2 s).number

ages : Bridge → List ℕ
ages b = map (λ (x : Stream). (State.result_at x 1).age) b.streams

pub further : List Example
further =
    -- Lv starts leaving at the held clock: Advertise, not marked, leaving since 100
    record { computed = take 4 (talker 0 leaver); printed = 1 ∷ 0 ∷ 1 ∷ 100 ∷ [] }
    -- a second Lv, at 130, and a LeaveAll keep the first time; Mt does nothing
    ∷ record { computed = take 4 (talker 0 (from leaver (time 130 ∷ pdu 1 lv_pdu ∷ []))); printed = 1 ∷ 0 ∷ 1 ∷ 100 ∷ [] }
    ∷ record { computed = take 4 (talker 0 (from leaver (time 130 ∷ pdu 1 leave_all_pdu ∷ []))); printed = 1 ∷ 0 ∷ 1 ∷ 100 ∷ [] }
    ∷ record { computed = take 4 (talker 0 (from leaver (pdu 1 mt_pdu ∷ []))); printed = 1 ∷ 0 ∷ 1 ∷ 100 ∷ [] }
    -- a join ends leaving, also one whose values differ
    ∷ record { computed = take 4 (talker 0 (from leaver (pdu 1 (talks 1 224 rank1) ∷ []))); printed = 1 ∷ 0 ∷ 0 ∷ 0 ∷ [] }
    ∷ record { computed = take 4 (talker 0 (from leaver (pdu 1 (talks 1 225 rank1) ∷ []))); printed = 1 ∷ 1 ∷ 0 ∷ 0 ∷ [] }
    -- Lv and LeaveAll of Talker Failed do not touch a held Advertise
    ∷ record {
      computed = take 4 (talker 0 (settled_talker (pdu 1 (failed_of 1 224 rank1 1 (180 ∷ [])) ∷ [])));
      printed = 1 ∷ 0 ∷ 0 ∷ 0 ∷ [];
    }
    ∷ record {
      computed = take 4 (talker 0 (settled_talker (pdu 1 (failed_of 1 224 rank1 8192 []) ∷ [])));
      printed = 1 ∷ 0 ∷ 0 ∷ 0 ∷ [];
    }
    -- a Talker join with another size, here a Failed, keeps the held type and values and sets the mark
    ∷ record {
      computed = talker 0 (settled_talker (pdu 1 (failed_of 1 225 rank1 1 (108 ∷ [])) ∷ []));
      printed = 1 ∷ 1 ∷ 0 ∷ 0 ∷ 0x91E0F000FE00 ∷ 2 ∷ 224 ∷ 1 ∷ 0x70 ∷ 0 ∷ 0 ∷ 0 ∷ [];
    }
    -- an equal one then clears the mark and replaces type and failure fields
    ∷ record {
      computed = talker 0 (settled_talker (pdu 1 (talks 1 225 rank1) ∷ pdu 1 (failed_of 1 224 rank1 1 (108 ∷ [])) ∷ []));
      printed = 2 ∷ 0 ∷ 0 ∷ 0 ∷ 0x91E0F000FE00 ∷ 2 ∷ 224 ∷ 1 ∷ 0x70 ∷ 0 ∷ 9 ∷ 2 ∷ [];
    }
    -- a Listener join replaces the declaration type; with Ignore it does nothing
    ∷ record { computed = listener 1 (settled_talker (pdu 2 (hears 1 128) ∷ pdu 2 (hears 1 64) ∷ [])); printed = 1 ∷ 0 ∷ 0 ∷ [] }
    ∷ record { computed = listener 1 (settled_talker (pdu 2 (hears 1 128) ∷ pdu 2 (hears 1 0) ∷ [])); printed = 2 ∷ 0 ∷ 0 ∷ [] }
    -- LeaveAll is about its own type and port
    ∷ record {
      computed = take 4 (talker 0 left_on_port1) ++ (listener 0 left_on_port1 ++ listener 1 left_on_port1);
      printed = 1 ∷ 0 ∷ 0 ∷ 0 ∷ 2 ∷ 1 ∷ 100 ∷ 2 ∷ 0 ∷ 0 ∷ [];
    }
    -- entries made at 100 and at 199 count from the same second, so that StreamID decides; at 200 their ages as (now - start)/100
    -- would be 1 and 0
    ∷ record { computed = ages same_second; printed = 1 ∷ 1 ∷ [] }
    ∷ record { computed = columns same_second; printed = 1 ∷ 0 ∷ 2 ∷ 1 ∷ [] }
    -- a stream that does not fit takes nothing, and the next is tried
    ∷ record { computed = columns one_too_large ++ reserves one_too_large; printed = 1 ∷ 0 ∷ 2 ∷ 1 ∷ 1 ∷ 0 ∷ 19904000 ∷ 20000000 ∷ [] }
    -- a stream without a Ready Listener, or with Asking Failed, has no share
    ∷ record { computed = columns (less_ready 0) ++ reserves (less_ready 0); printed = 1 ∷ 0 ∷ 1 ∷ 0 ∷ 17088000 ∷ 17088000 ∷ [] }
    ∷ record { computed = columns (less_ready 64) ++ reserves (less_ready 64); printed = 1 ∷ 0 ∷ 1 ∷ 0 ∷ 17088000 ∷ 17088000 ∷ [] }
    -- with 63 held, joining the 64th twice is accepted, joining two more is refused with 8
    ∷ record {
      computed = length held63.streams ∷ answered held63 twice_pdu ∷ answered held63 (listeners_of 64 2 (126 ∷ []) (0xA0 ∷ [])) ∷ [];
      printed = 63 ∷ 0 ∷ 8 ∷ [];
    }
    ∷ []

pub registering-examples : All Holds further
unfolding shown further leave_all_pdu mt_pdu left_on_port1 same_second one_too_large less_ready held63 twice_pdu answered ages
registering-examples =
    (refl, (refl, (refl, (refl, (refl, (refl, (refl, (refl, (refl, (refl, (refl, (refl, (refl, (refl, (refl, (refl, (refl, (refl, (refl, tt)))))))))))))))))))

-- The edge of the domain.

-- no Domain value heard; a stream of this size and priority octet, Ready
alone : ℕ → ℕ → Bridge
alone size octet = from (State.started (settings 75000000)) (pdu 1 (talks 1 size octet) ∷ pdu 2 (hears 1 128) ∷ time 100 ∷ [])

-- the worked example's stream; then port 2's neighbour changes class A's priority from 3 to 4 at 100, withdrawing the old value
changed : List Handed → Bridge
changed l =
    bridge 75000000
    (pdu 1 (talks 1 224 rank1) ∷ pdu 2 (hears 1 128) ∷ time 100 ∷ pdu 2 (domains_of 6 3 1 (180 ∷ [])) ∷ pdu 2 (domains_of 6 4 1 (108 ∷ [])) ∷ l)

-- what the port at place p has registered: the slots that are held, and the flags of class A and class B
slots_held : ℕ → List State.Domain → List ℕ
slots_held i [] = []
slots_held i (State.no_domain ∷ ds) = slots_held (suc i) ds
slots_held i (State.domain v l ∷ ds) = i ∷ slots_held (suc i) ds

edge : ℕ → Bridge → List ℕ
edge p b = let o = State.own_at b.owns p in slots_held 0 o.domains ++ (Lists.bit o.boundary_a ∷ Lists.bit o.boundary_b ∷ [])

pub edges : List Example
edges =
    -- without a Domain value every port is at the edge, and the stream fails with 8
    record { computed = edge 1 (alone 224 rank1) ++ columns (alone 224 rank1); printed = 1 ∷ 1 ∷ 2 ∷ 8 ∷ [] }
    -- 13 comes before 8, and 8 before 14
    ∷ record { computed = columns (alone 224 0x10); printed = 2 ∷ 13 ∷ [] }
    ∷ record { computed = columns (alone 1523 rank1); printed = 2 ∷ 8 ∷ [] }
    -- {4, 1} with 4 values holds (5, 2) and (6, 3)
    ∷ record { computed = edge 0 (from (State.started (settings 0)) (pdu 1 (domains_of 4 1 4 (129 ∷ 108 ∷ [])) ∷ [])); printed = 2 ∷ 11 ∷ 0 ∷ 0 ∷ [] }
    -- a neighbour that changes its priority is outside until its old value has expired, and then it is one of another priority
    ∷ record { computed = edge 1 (changed (time 159 ∷ [])); printed = 2 ∷ 11 ∷ 12 ∷ 1 ∷ 0 ∷ [] }
    ∷ record { computed = edge 1 (changed (time 160 ∷ [])) ++ columns (changed (time 160 ∷ [])); printed = 2 ∷ 12 ∷ 1 ∷ 0 ∷ 2 ∷ 8 ∷ [] }
    -- with the bridge's own value joined again and the other withdrawn, it is inside once that has expired, in the same advance
    ∷ record {
      computed = edge 1 (changed (pdu 2 matching ∷ pdu 2 (domains_of 6 4 1 (180 ∷ [])) ∷ time 160 ∷ []));
      printed = 2 ∷ 11 ∷ 0 ∷ 0 ∷ [];
    }
    -- LeaveAll of another type leaves Domain values alone, that of type 4 all of them on its port
    ∷ record { computed = edge 0 (bridge 0 (pdu 1 leave_all_pdu ∷ time 60 ∷ [])); printed = 2 ∷ 11 ∷ 0 ∷ 0 ∷ [] }
    ∷ record { computed = edge 0 (bridge 0 (pdu 1 (domains_of 5 2 8192 []) ∷ time 60 ∷ [])); printed = 1 ∷ 1 ∷ [] }
    ∷ []

pub edge-examples : All Holds edges
unfolding shown edges alone changed slots_held edge leave_all_pdu
edge-examples = (refl, (refl, (refl, (refl, (refl, (refl, (refl, (refl, (refl, tt)))))))))

-- Class B takes what class A leaves (02, i): limit A 75,000,000, limit B 0; a stream of B asks for 8,544,000.

-- priority 2, which is class B, with rank 0
in_b : ℕ
in_b = 0x40

-- an intercom in class B, Ready; then what is handed over
intercom : List Handed → Bridge
intercom l = bridge 75000000 (pdu 1 (talks 9 224 in_b) ∷ pdu 2 (hears 9 128) ∷ time 100 ∷ l)

-- four streams of class A, of rank 1, Ready, settled at 200
show : List Handed
show = pdu 1 (advertises_of 1 224 rank1 4 (129 ∷ 108 ∷ [])) ∷ pdu 2 (listeners_of 1 4 (129 ∷ 108 ∷ []) (0xAA ∷ [])) ∷ time 200 ∷ []

-- the bridge whose port 2 does not support class A, with this limit for class B there, and the intercom
without_a : ℕ → Bridge
without_a limit =
    from (State.started record {
      bridge_id = 7;
      priority_a = 3;
      priority_b = 2;
      leave_time = 60;
      pruning = false;
      vlan = 2;
      fan_in = 0;
      ports =
          port 75000000
          ∷ record {
            supports_a = false;
            supports_b = true;
            sends_twice = false;
            overhead = 42;
            largest = 1522;
            limit_a = 75000000;
            limit_b = limit;
            latency_a = 0;
            latency_b = 0;
          }
          ∷ [];
    })
    (pdu 1 matching ∷ pdu 2 matching ∷ pdu 1 (talks 9 224 in_b) ∷ pdu 2 (hears 9 128) ∷ time 100 ∷ [])

-- port 2's columns, and its totals
decided : Bridge → List ℕ
decided b = let t = State.totals_at 1 b in columns b ++ (t.total_a ∷ t.total_b ∷ [])

pub borrowing : List Example
borrowing =
    -- with no stream of A the intercom is admitted on A's idle share
    record { computed = decided (intercom []); printed = 1 ∷ 0 ∷ 0 ∷ 8544000 ∷ [] }
    -- when A grows, it gives way to later streams of lower rank, and gets 1
    ∷ record { computed = decided (intercom show); printed = 1 ∷ 0 ∷ 1 ∷ 0 ∷ 1 ∷ 0 ∷ 1 ∷ 0 ∷ 2 ∷ 1 ∷ 68352000 ∷ 0 ∷ [] }
    -- on a port without A, limit A counts as 0
    ∷ record { computed = decided (without_a 8544000); printed = 1 ∷ 0 ∷ 0 ∷ 8544000 ∷ [] }
    ∷ record { computed = decided (without_a 8543999); printed = 2 ∷ 1 ∷ 0 ∷ 0 ∷ [] }
    ∷ []

pub borrowing-examples : All Holds borrowing
unfolding shown borrowing in_b intercom show without_a decided
borrowing-examples = (refl, (refl, (refl, (refl, tt))))

-- Latency that grows.

-- the worked example's stream, of this latency: of another MaxFrameSize too; as Talker Failed
delayed : ℕ → ℕ → List ℕ
delayed latency size = message advertises (Be.be 2 1 ++ (delayed_first latency 1 size rank1 ++ (108 ∷ [])))

delayed_failed : ℕ → List ℕ
delayed_failed latency = message faileds (Be.be 2 1 ++ (delayed_first latency 1 224 rank1 ++ (failure ++ (108 ∷ []))))

-- its latency is 100 at first; then joins follow on port 1, and an advance
joined : List (List ℕ) → List Handed
joined l = map (pdu 1) l ++ (time 100 ∷ [])

grown : List (List ℕ) → Bridge
grown l = bridge 75000000 (pdu 1 (delayed 100 224) ∷ joined l)

-- the latency declared on port 2
latencies : Bridge → List ℕ
latencies b = map (λ (x : Stream). (State.result_at x 1).latency) b.streams

pub growths : List Example
growths =
    -- above the first latency the stream fails with 7 and declares the present one; as high as the first it does not
    record { computed = columns (grown (delayed 101 224 ∷ [])) ++ latencies (grown (delayed 101 224 ∷ [])); printed = 2 ∷ 7 ∷ 101 ∷ [] }
    ∷ record { computed = columns (grown (delayed 100 224 ∷ [])); printed = 1 ∷ 0 ∷ [] }
    -- falling back clears it at the next advance, and leaves no trace before
    ∷ record { computed = columns (from (grown (delayed 101 224 ∷ [])) (joined (delayed 100 224 ∷ []))); printed = 1 ∷ 0 ∷ [] }
    ∷ record { computed = columns (grown (delayed 101 224 ∷ delayed 99 224 ∷ [])); printed = 1 ∷ 0 ∷ [] }
    -- a lower latency does not become the first
    ∷ record { computed = columns (grown (delayed 50 224 ∷ delayed 100 224 ∷ [])); printed = 1 ∷ 0 ∷ [] }
    -- a join while leaving keeps the first; removal forgets it
    ∷ record { computed = columns (grown (lv_pdu ∷ delayed 101 224 ∷ [])); printed = 2 ∷ 7 ∷ [] }
    ∷ record { computed = columns (from (grown []) (pdu 1 lv_pdu ∷ time 159 ∷ pdu 1 (delayed 101 224) ∷ time 160 ∷ [])); printed = 2 ∷ 7 ∷ [] }
    ∷ record { computed = columns (from (grown []) (pdu 1 lv_pdu ∷ time 160 ∷ pdu 1 (delayed 101 224) ∷ time 160 ∷ [])); printed = 1 ∷ 0 ∷ [] }
    -- Talker Failed keeps it too, and is passed on with its own code
    ∷ record { computed = columns (grown (delayed_failed 101 ∷ [])); printed = 2 ∷ 2 ∷ [] }
    ∷ record { computed = columns (grown (delayed_failed 101 ∷ delayed 101 224 ∷ [])); printed = 2 ∷ 7 ∷ [] }
    -- a join of other values alters neither latency, and 16 comes before 7
    ∷ record { computed = columns (grown (delayed 101 225 ∷ [])) ++ latencies (grown (delayed 101 225 ∷ [])); printed = 2 ∷ 16 ∷ 100 ∷ [] }
    ∷ record { computed = columns (grown (delayed 101 225 ∷ delayed 100 224 ∷ [])); printed = 1 ∷ 0 ∷ [] }
    ∷ record { computed = columns (grown (delayed 101 224 ∷ delayed 101 225 ∷ [])); printed = 2 ∷ 16 ∷ [] }
    -- 7 comes before 4
    ∷ record { computed = columns (from (grown []) (pdu 2 (delayed 300 224) ∷ joined (delayed 101 224 ∷ []))); printed = 2 ∷ 7 ∷ [] }
    ∷ []

pub growth-examples : All Holds growths
unfolding shown growths delayed delayed_failed joined grown latencies
growth-examples = (refl, (refl, (refl, (refl, (refl, (refl, (refl, (refl, (refl, (refl, (refl, (refl, (refl, (refl, tt))))))))))))))

-- Inbound ports and shared addresses.

-- with a limit of inbound ports, a stream with its Talker on port 1, another of this size and destination with its Talker on port 2
inbound : ℕ → ℕ → ℕ → List Handed → Bridge
inbound fan_in size destination l =
    bridge_with fan_in 75000000
    (pdu 1 (talks 1 224 rank1) ∷ pdu 2 (message advertises (Be.be 2 1 ++ (talker_to 2 destination size rank1 ++ (108 ∷ [])))) ∷ time 100 ∷ l)

-- the same without a limit, the second with the destination of the first, in this VLAN and with this octet of priority and rank
sharing : ℕ → ℕ → List Handed
sharing vlan octet =
    pdu 1 (talks 1 224 rank1) ∷ pdu 2 (message advertises (Be.be 2 1 ++ (talker_in vlan 0xFE00 0 2 224 octet ++ (108 ∷ [])))) ∷ time 100 ∷ []

-- the column of the first on port 2, and of the second on port 1
across : Bridge → List ℕ
across b =
    let c = (State.result_at (State.stream_at 0 b) 1).column in
    let d = (State.result_at (State.stream_at 1 b) 0).column in
    Table.column_number c ∷ Table.column_code c ∷ Table.column_number d ∷ Table.column_code d ∷ []

pub fan_ins : List Example
fan_ins =
    -- with a limit of 1 the higher of two inbound ports brings nothing in; a limit of 2, and none, lets both
    record { computed = across (inbound 1 224 0 []); printed = 1 ∷ 0 ∷ 2 ∷ 15 ∷ [] }
    ∷ record { computed = across (inbound 2 224 0 []) ++ across (inbound 0 224 0 []); printed = 1 ∷ 0 ∷ 1 ∷ 0 ∷ 1 ∷ 0 ∷ 1 ∷ 0 ∷ [] }
    -- a Talker that is leaving makes its port an inbound one until it is removed
    ∷ record { computed = across (inbound 1 224 0 (pdu 1 lv_pdu ∷ time 159 ∷ [])); printed = 1 ∷ 0 ∷ 2 ∷ 15 ∷ [] }
    ∷ record {
      computed = let c = (State.result_at (State.stream_at 0 (inbound 1 224 0 (pdu 1 lv_pdu ∷ time 160 ∷ []))) 0).column in Table.column_number c ∷ [];
      printed = 1 ∷ [];
    }
    -- the higher StreamID with the address of a lower one fails with 5, whichever ports their Talkers are on; 5 comes before 15, and
    -- 15 before 14
    ∷ record { computed = across (inbound 0 224 0xFE00 []); printed = 1 ∷ 0 ∷ 2 ∷ 5 ∷ [] }
    ∷ record { computed = across (inbound 1 224 0xFE00 []); printed = 1 ∷ 0 ∷ 2 ∷ 5 ∷ [] }
    ∷ record { computed = across (inbound 1 1523 0 []); printed = 1 ∷ 0 ∷ 2 ∷ 15 ∷ [] }
    -- in another VLAN the same destination is another address
    ∷ record { computed = across (bridge 75000000 (sharing 2 rank1)); printed = 1 ∷ 0 ∷ 2 ∷ 5 ∷ [] }
    ∷ record { computed = across (bridge 75000000 (sharing 3 rank1)); printed = 1 ∷ 0 ∷ 1 ∷ 0 ∷ [] }
    -- where no Domain value is heard: 8 comes before 5, and 13 before both
    ∷ record { computed = across (from (State.started (settings 75000000)) (sharing 2 rank1)); printed = 2 ∷ 8 ∷ 2 ∷ 8 ∷ [] }
    ∷ record { computed = across (from (State.started (settings 75000000)) (sharing 2 0x10)); printed = 2 ∷ 8 ∷ 2 ∷ 13 ∷ [] }
    ∷ []

pub fan-in-examples : All Holds fan_ins
unfolding shown fan_ins inbound sharing across
fan-in-examples = (refl, (refl, (refl, (refl, (refl, (refl, (refl, (refl, (refl, (refl, (refl, tt)))))))))))

-- Talker pruning (02, vi).

-- an MMRP PDU of n addresses, from the one with these last two octets on, with their events
asks_for : ℕ → ℕ → List ℕ → List ℕ
asks_for octets n three = 0x00 ∷ 0x02 ∷ 0x06 ∷ (Be.be 2 n ++ (0x91 ∷ 0xE0 ∷ 0xF0 ∷ 0x00 ∷ (Be.be 2 octets ++ (three ++ (0x00 ∷ 0x00 ∷ [])))))

-- these ports, by their places, ask for the destination of stream 1
asking : List ℕ → List Handed
asking [] = []
asking (p ∷ l) = mmrp (p + 1) (asks_for 0xFE00 1 (108 ∷ [])) ∷ asking l

-- matching Domain joins on so many ports
matching_on : ℕ → List Handed
matching_on zero = []
matching_on (suc n) = pdu (suc n) matching ∷ matching_on n

-- a bridge with so many ports, where pruning is on or not, these ask for stream 1, and then what is handed over
hall_of : Bool → ℕ → List ℕ → List Handed → Bridge
hall_of pruning ports l more = from (State.started (settings_of pruning ports 0 75000000)) (matching_on ports ++ (asking l ++ more))

hall : ℕ → List ℕ → Bridge
hall ports l = hall_of true ports l (pdu 1 (talks 1 224 rank1) ∷ [])

-- the column of stream 1 on each port, and its code
everywhere : Bridge → List ℕ
everywhere b =
    Fields.flat (λ (p : ℕ). let c = (State.result_at (State.stream_at 0 b) p).column in Table.column_number c ∷ Table.column_code c ∷ [])
    (Lists.tabulate (length b.settings.ports) 0 (λ p. p))

-- 64 addresses, JoinMt each
sixty_four : List ℕ
sixty_four = asks_for 0 64 (replicate 21 129 ++ (108 ∷ []))

-- a port that holds 64, and the number that an MMRP PDU gets there
full : List Handed → Bridge
full l = from (State.started (settings 0)) (mmrp 1 sixty_four ∷ l)

answer : Bridge → ℕ → List ℕ → ℕ
answer b p s = (Calls.receive_mmrp b p s).number

pub prunings : List Example
prunings =
    -- a hall of six ports where two asked for the address: Talkers go there only; with pruning off, to all but the Talker's own
    record { computed = everywhere (from (hall 6 (2 ∷ 4 ∷ [])) (time 100 ∷ [])); printed = 0 ∷ 0 ∷ 0 ∷ 0 ∷ 1 ∷ 0 ∷ 0 ∷ 0 ∷ 1 ∷ 0 ∷ 0 ∷ 0 ∷ [] }
    ∷ record {
      computed = everywhere (hall_of false 6 (2 ∷ 4 ∷ []) (pdu 1 (talks 1 224 rank1) ∷ time 100 ∷ []));
      printed = 0 ∷ 0 ∷ 1 ∷ 0 ∷ 1 ∷ 0 ∷ 1 ∷ 0 ∷ 1 ∷ 0 ∷ 1 ∷ 0 ∷ [];
    }
    -- an address that is leaving is held until it is removed; LeaveAll makes it leave, and that of Service Requirement does not
    ∷ record {
      computed =
          everywhere (from (hall 2 (1 ∷ [])) (time 100 ∷ mmrp 2 (asks_for 0xFE00 1 (180 ∷ [])) ∷ time 159 ∷ []))
          ++ everywhere (from (hall 2 (1 ∷ [])) (time 100 ∷ mmrp 2 (asks_for 0xFE00 1 (180 ∷ [])) ∷ time 160 ∷ []));
      printed = 0 ∷ 0 ∷ 1 ∷ 0 ∷ 0 ∷ 0 ∷ 0 ∷ 0 ∷ [];
    }
    ∷ record {
      computed =
          everywhere (from (hall 2 (1 ∷ [])) (time 100 ∷ mmrp 2 (asks_for 0 0x2000 []) ∷ time 160 ∷ []))
          ++ everywhere (from (hall 2 (1 ∷ [])) (time 100 ∷ mmrp 2 (0x00 ∷ 0x01 ∷ 0x01 ∷ 0x20 ∷ 0x00 ∷ 0x00 ∷ 0x00 ∷ 0x00 ∷ []) ∷ time 160 ∷ []));
      printed = 0 ∷ 0 ∷ 0 ∷ 0 ∷ 0 ∷ 0 ∷ 1 ∷ 0 ∷ [];
    }
    -- pruned comes before Failed: a Failed stream is declared only where its address is held
    ∷ record {
      computed = everywhere (hall_of true 3 (2 ∷ []) (pdu 1 (failed_of 1 224 rank1 1 (108 ∷ [])) ∷ time 100 ∷ []));
      printed = 0 ∷ 0 ∷ 0 ∷ 0 ∷ 2 ∷ 2 ∷ [];
    }
    -- the 65th address of a port; those of another port, and those that are held, take no room
    ∷ record {
      computed =
          answer (full []) 1 (asks_for 64 1 (108 ∷ [])) ∷ answer (full []) 2 (asks_for 64 1 (108 ∷ [])) ∷ answer (full []) 1 (asks_for 63 1 (108 ∷ []))
          ∷ answer (full []) 1 (asks_for 63 2 (126 ∷ [])) ∷ answer (full []) 1 (asks_for 64 1 (180 ∷ [])) ∷ [];
      printed = 14 ∷ 0 ∷ 0 ∷ 14 ∷ 0 ∷ [];
    }
    -- leaving ones take room until they are removed
    ∷ record {
      computed =
          answer (full (mmrp 1 (asks_for 0 1 (180 ∷ [])) ∷ time 59 ∷ [])) 1 (asks_for 64 1 (108 ∷ []))
          ∷ answer (full (mmrp 1 (asks_for 0 1 (180 ∷ [])) ∷ time 60 ∷ [])) 1 (asks_for 64 1 (108 ∷ [])) ∷ [];
      printed = 14 ∷ 0 ∷ [];
    }
    ∷ []

pub pruning-examples : All Holds prunings
unfolding shown prunings asks_for asking matching_on hall_of hall everywhere sixty_four full answer
pruning-examples = (refl, (refl, (refl, (refl, (refl, (refl, (refl, tt)))))))

-- What an unimportant stream can't touch (02, xii): each premise of `Alike` is needed. Of two bridges, and of the streams at places k and
-- k' of those that an advance to 200 leaves: 1 for each premise that holds, in their order, and 0 for one that does not; then the
-- column and code of either on the port at place p.

equal : List ℕ → List ℕ → Bool
equal [] [] = true
equal [] (n ∷ m) = false
equal (n ∷ l) [] = false
equal (n ∷ l) (i ∷ m) = eqb n i && equal l m

claim_numbers : Bandwidth.Claim → List ℕ
claim_numbers c = c.id ∷ c.rank ∷ c.age ∷ c.demand ∷ Lists.bit c.ready ∷ []

-- the facts, each as numbers
premises : ℕ → Bridge → Stream → List (List ℕ)
premises p b x =
    let s = remaining 200 b in
    let sc = scene_at 200 b in
    let c = Settling.stream_class b.settings x in
    (Table.head_numbers b.settings ++ Fields.flat Table.port_numbers b.settings.ports)
    ∷ Fields.flat Table.cell_numbers x.cells
    ∷ Fields.flat claim_numbers (Bandwidth.above (Bandwidth.key (Settling.claim b.settings 200 p x)) (Settling.claims sc 200 p c s))
    ∷ cond (State.same_class c State.class_b) (Settling.total_on sc 200 s p State.class_a ∷ []) []
    ∷ (Lists.bit (ComingIn.sharing sc.inbound x.id (Settling.source_of x)) ∷ [])
    ∷ (Lists.bit (Settling.boundary (State.own_at sc.owns p) c) ∷ [])
    ∷ (Lists.bit (ComingIn.kept_out b.settings.fan_in sc.inbound (Settling.source_of x)) ∷ [])
    ∷ cond b.settings.pruning
    (Lists.bit (Settling.holds_address (Settling.fixed_of (Settling.source_of x)).destination (State.own_at sc.owns p).addresses) ∷ []) []
    ∷ []

agreements : List (List ℕ) → List (List ℕ) → List ℕ
agreements [] m = []
agreements (f ∷ l) [] = []
agreements (f ∷ l) (g ∷ m) = Lists.bit (equal f g) ∷ agreements l m

compared : ℕ → Bridge → ℕ → Bridge → ℕ → List ℕ
compared p b k b' k' =
    let x = get_or (remaining 200 b) k (State.fresh 0) in
    let x' = get_or (remaining 200 b') k' (State.fresh 0) in
    let c = Settling.column_of (scene_at 200 b) 200 (remaining 200 b) p x in
    let c' = Settling.column_of (scene_at 200 b') 200 (remaining 200 b') p x' in
    agreements (premises p b x) (premises p b' x')
    ++ (Table.column_number c ∷ Table.column_code c ∷ Table.column_number c' ∷ Table.column_code c' ∷ [])

-- streams of class A, Ready on port 2: those with these Unique IDs, on a bridge with this limit
ready_ones : List ℕ → List Handed
ready_ones [] = []
ready_ones (u ∷ us) = pdu 1 (talks u 224 rank1) ∷ pdu 2 (hears u 128) ∷ ready_ones us

held : ℕ → List ℕ → Bridge
held limit us = bridge limit (ready_ones us)

-- streams 1 and 2, of which stream 1 has this destination
addressed : ℕ → Bridge
addressed destination =
    bridge 75000000 (pdu 1 (message advertises (Be.be 2 1 ++ (talker_to 1 destination 224 rank1 ++ (108 ∷ [])))) ∷ pdu 1 (talks 2 224 rank1) ∷ [])

-- stream 2 with its Talker on port 2, where one port may bring streams in; then what is handed over
second : List Handed → Bridge
second l = bridge_with 1 75000000 (pdu 2 (talks 2 224 rank1) ∷ l)

-- of two streams, Ready on port 2, the first with this MaxFrameSize and Listener
before : ℕ → ℕ → ℕ → Bridge
before limit size four =
    bridge limit (pdu 1 (talks 1 size rank1) ∷ pdu 2 (hears 1 four) ∷ ready_ones (2 ∷ []))

-- stream u with this MaxFrameSize and octet of priority and rank, Ready on port 2
ready_of : ℕ → ℕ → ℕ → List Handed
ready_of u size octet = pdu 1 (talks u size octet) ∷ pdu 2 (hears u 128) ∷ []

-- streams 1 and 2 with demands of 8,192,000 and 12,288,000 bit/s, stream 3 with 4,096,000, and a limit of 12,288,000: stream 3 is
-- admitted where stream 1 is the more important of the two before it
by_rank : ℕ → Bridge
by_rank octet = bridge 12288000 (ready_of 1 85 rank1 ++ (ready_of 2 149 octet ++ ready_of 3 21 rank1))

by_age : List Handed → Bridge
by_age l = bridge 12288000 (l ++ (time 100 ∷ ready_of 3 21 rank1))

pub needs : List Example
needs =
    -- the settings: a lower limit
    record { computed = compared 1 (held 17088000 (1 ∷ [])) 0 (held 17087999 (1 ∷ [])) 0; printed = 0 ∷ 1 ∷ 1 ∷ 1 ∷ 1 ∷ 1 ∷ 1 ∷ 1 ∷ 1 ∷ 0 ∷ 2 ∷ 1 ∷ [] }
    -- its own registrations: a join of another MaxFrameSize
    ∷ record {
      computed = compared 1 (held 75000000 (1 ∷ [])) 0 (from (held 75000000 (1 ∷ [])) (pdu 1 (talks 1 225 rank1) ∷ [])) 0;
      printed = 1 ∷ 0 ∷ 1 ∷ 1 ∷ 1 ∷ 1 ∷ 1 ∷ 1 ∷ 1 ∷ 0 ∷ 2 ∷ 16 ∷ [];
    }
    -- a more important stream of its class
    ∷ record { computed = compared 1 (held 17088000 (2 ∷ [])) 0 (held 17088000 (1 ∷ 2 ∷ [])) 1; printed = 1 ∷ 1 ∷ 0 ∷ 1 ∷ 1 ∷ 1 ∷ 1 ∷ 1 ∷ 1 ∷ 0 ∷ 2 ∷ 1 ∷ [] }
    -- of such a stream its steps before bandwidth: a changed join; its demand; its Listener; its rank, and its age, beside another's
    ∷ record {
      computed = compared 1 (before 17088000 224 128) 1 (from (before 17088000 224 128) (pdu 1 (talks 1 225 rank1) ∷ [])) 1;
      printed = 1 ∷ 1 ∷ 0 ∷ 1 ∷ 1 ∷ 1 ∷ 1 ∷ 1 ∷ 2 ∷ 1 ∷ 1 ∷ 0 ∷ [];
    }
    ∷ record { computed = compared 1 (before 34176000 224 128) 1 (before 34176000 225 128) 1; printed = 1 ∷ 1 ∷ 0 ∷ 1 ∷ 1 ∷ 1 ∷ 1 ∷ 1 ∷ 1 ∷ 0 ∷ 2 ∷ 1 ∷ [] }
    ∷ record { computed = compared 1 (before 17088000 224 128) 1 (before 17088000 224 64) 1; printed = 1 ∷ 1 ∷ 0 ∷ 1 ∷ 1 ∷ 1 ∷ 1 ∷ 1 ∷ 2 ∷ 1 ∷ 1 ∷ 0 ∷ [] }
    ∷ record { computed = compared 1 (by_rank rank1) 2 (by_rank rank0) 2; printed = 1 ∷ 1 ∷ 0 ∷ 1 ∷ 1 ∷ 1 ∷ 1 ∷ 1 ∷ 1 ∷ 0 ∷ 2 ∷ 1 ∷ [] }
    ∷ record {
      computed =
          compared 1 (by_age (ready_of 1 85 rank1 ++ (time 50 ∷ ready_of 2 149 rank1))) 2 (by_age (ready_of 2 149 rank1 ++ (time 50 ∷ ready_of 1 85 rank1))) 2;
      printed = 1 ∷ 1 ∷ 0 ∷ 1 ∷ 1 ∷ 1 ∷ 1 ∷ 1 ∷ 1 ∷ 0 ∷ 2 ∷ 1 ∷ [];
    }
    -- class A's total, for a stream of class B
    ∷ record { computed = compared 1 (intercom []) 0 (intercom show) 4; printed = 1 ∷ 1 ∷ 1 ∷ 0 ∷ 1 ∷ 1 ∷ 1 ∷ 1 ∷ 1 ∷ 0 ∷ 2 ∷ 1 ∷ [] }
    -- the address of a lower StreamID
    ∷ record { computed = compared 1 (addressed 0xFE00) 1 (addressed 0xFE01) 1; printed = 1 ∷ 1 ∷ 1 ∷ 1 ∷ 0 ∷ 1 ∷ 1 ∷ 1 ∷ 1 ∷ 0 ∷ 2 ∷ 5 ∷ [] }
    -- the domain's edge
    ∷ record {
      computed = compared 1 (held 75000000 (1 ∷ [])) 0 (from (State.started (settings 75000000)) (pdu 1 (talks 1 224 rank1) ∷ pdu 2 (hears 1 128) ∷ [])) 0;
      printed = 1 ∷ 1 ∷ 1 ∷ 1 ∷ 1 ∷ 0 ∷ 1 ∷ 1 ∷ 1 ∷ 0 ∷ 2 ∷ 8 ∷ [];
    }
    -- an inbound port below its own
    ∷ record { computed = compared 0 (second []) 0 (second (pdu 1 (talks 1 224 rank1) ∷ [])) 1; printed = 1 ∷ 1 ∷ 1 ∷ 1 ∷ 1 ∷ 1 ∷ 0 ∷ 1 ∷ 1 ∷ 0 ∷ 2 ∷ 15 ∷ [] }
    -- the stream's destination, where pruning is on
    ∷ record {
      computed = compared 1 (hall 2 (1 ∷ [])) 0 (hall 2 []) 0;
      printed = 1 ∷ 1 ∷ 1 ∷ 1 ∷ 1 ∷ 1 ∷ 1 ∷ 0 ∷ 1 ∷ 0 ∷ 0 ∷ 0 ∷ [];
    }
    ∷ []

pub need-examples : All Holds needs
unfolding shown needs ComingIn.at_talker Table.head_numbers Table.head_word Table.port_numbers Table.cell_numbers equal claim_numbers premises agreements compared ready_ones held addressed second before ready_of by_rank by_age in_b intercom show asks_for asking matching_on hall_of hall
need-examples = (refl, (refl, (refl, (refl, (refl, (refl, (refl, (refl, (refl, (refl, (refl, (refl, (refl, tt)))))))))))))

-- Why a stream was refused (02, ix): of the stream at place k on port 2 the letter of the step, how many streams are listed, the limit
-- in force and the shortfall, then each StreamID listed with its demand; from what is registered, whether an advance followed or not.

told : ℕ → Bridge → List ℕ
told k b =
    let r = Why.reason b 1 (State.stream_at k b) in
    Why.letter r.step ∷ length r.streams ∷ r.limit ∷ r.shortfall
    ∷ Fields.flat (λ (c : Bandwidth.Claim). c.id ∷ c.demand ∷ []) r.streams

-- a fifth beside the four, of this rank, that no advance has decided
as_fifth : ℕ → Bridge
as_fifth octet = from four (pdu 1 (talks 5 224 octet) ∷ pdu 2 (hears 5 128) ∷ [])

-- a stream on a bridge whose neighbours have declared no Domain value, and what is handed over then
unheard : List Handed → Bridge
unheard l = from (State.started (settings 75000000)) (pdu 1 (talks 1 224 rank1) ∷ l)

pub reasons : List Example
reasons =
    -- h: of 75,000,000 bit/s four reserve 68,352,000, and 10,440,000 are missing for the fifth
    record {
      computed = told 4 (as_fifth rank1);
      printed =
          104 ∷ 4 ∷ 75000000 ∷ 10440000 ∷ 0x0200000000010001 ∷ 17088000 ∷ 0x0200000000010002 ∷ 17088000 ∷ 0x0200000000010003 ∷ 17088000
          ∷ 0x0200000000010004 ∷ 17088000 ∷ [];
    }
    -- the most important first: one of rank 0 stands before those of rank 1, and is admitted itself (i)
    ∷ record {
      computed = told 3 (as_fifth rank0) ++ told 4 (as_fifth rank0);
      printed =
          104 ∷ 4 ∷ 75000000 ∷ 10440000 ∷ 0x0200000000010005 ∷ 17088000 ∷ 0x0200000000010001 ∷ 17088000 ∷ 0x0200000000010002 ∷ 17088000
          ∷ 0x0200000000010003 ∷ 17088000 ∷ 105 ∷ 0 ∷ 0 ∷ 0 ∷ [];
    }
    -- a stream whose Listener is not ready reserves nothing, and is not listed
    ∷ record {
      computed =
          told 2
          (bridge 30000000
          (pdu 1 (advertises_of 1 224 rank1 3 (129 ∷ [])) ∷ pdu 2 (listeners_of 1 3 (129 ∷ []) (0x68 ∷ [])) ∷ []));
      printed = 104 ∷ 1 ∷ 30000000 ∷ 4176000 ∷ 0x0200000000010002 ∷ 17088000 ∷ [];
    }
    -- class B's limit in force is what class A leaves, and A's streams are not listed
    ∷ record { computed = told 4 (intercom show); printed = 104 ∷ 0 ∷ 6648000 ∷ 1896000 ∷ [] }
    -- j by the Domain values that are registered: before the first advance, and after one that found none, once a neighbour is heard (i)
    ∷ record {
      computed = told 0 (unheard []) ++ told 0 (unheard (time 100 ∷ pdu 2 matching ∷ []));
      printed = 106 ∷ 0 ∷ 0 ∷ 0 ∷ 105 ∷ 0 ∷ 0 ∷ 0 ∷ [];
    }
    -- d by what is registered: a changed join since the advance that admitted the stream; c for a registered Failed, and a on t
    ∷ record {
      computed =
          told 0 (settled_talker (pdu 1 (talks 1 225 rank1) ∷ []))
          ++ (told 0 (bridge 75000000 (pdu 1 (failed_of 1 224 rank1 1 (108 ∷ [])) ∷ [])) ++ told 0 (bridge 75000000 (pdu 2 (talks 1 224 rank1) ∷ [])));
      printed = 100 ∷ 0 ∷ 0 ∷ 0 ∷ 99 ∷ 0 ∷ 0 ∷ 0 ∷ 97 ∷ 0 ∷ 0 ∷ 0 ∷ [];
    }
    ∷ []

pub why-examples : All Holds reasons
unfolding shown reasons told as_fifth unheard in_b intercom show
why-examples = (refl, (refl, (refl, (refl, (refl, (refl, tt))))))

-- PDUs with two faults, at neighbouring checks, and each with the first fault mended: the first that the walk meets gives the
-- number.
pub two_faults : List Example
two_faults =
    -- 2, then the walk: 1,501 octets of AttributeType 5 (4)
    record { computed = read (0x00 ∷ 0x05 ∷ replicate 1499 0xFF) ++ read (0x00 ∷ 0x05 ∷ replicate 1498 0xFF); printed = 2 ∷ 4 ∷ [] }
    -- a Message's header (3), type (4): three octets of AttributeType 5
    ∷ record {
      computed =
          read (0x00 ∷ 0x05 ∷ 0x08 ∷ 0x00 ∷ [])
          ++ read (0x00 ∷ 0x05 ∷ 0x08 ∷ 0x00 ∷ 0x02 ∷ 0x00 ∷ 0x00 ∷ []);
      printed = 3 ∷ 4 ∷ [];
    }
    -- type (4), length (5): AttributeType 5 with length 9; Listener with length 9
    ∷ record {
      computed =
          read (0x00 ∷ 0x05 ∷ 0x09 ∷ 0x00 ∷ 0x02 ∷ 0x00 ∷ 0x00 ∷ [])
          ++ read (0x00 ∷ 0x03 ∷ 0x09 ∷ 0x00 ∷ 0x02 ∷ 0x00 ∷ 0x00 ∷ []);
      printed = 4 ∷ 5 ∷ [];
    }
    -- type (4), list within the PDU (3): AttributeType 5; with version 1 it is no fault
    ∷ record {
      computed =
          read (0x00 ∷ 0x05 ∷ 0x08 ∷ 0xFF ∷ 0xFF ∷ [])
          ++ read (0x01 ∷ 0x05 ∷ 0x08 ∷ 0xFF ∷ 0xFF ∷ []);
      printed = 4 ∷ 3 ∷ [];
    }
    -- length (5), list within the PDU (3)
    ∷ record {
      computed =
          read (0x00 ∷ 0x03 ∷ 0x07 ∷ 0xFF ∷ 0xFF ∷ [])
          ++ read (0x00 ∷ 0x03 ∷ 0x08 ∷ 0xFF ∷ 0xFF ∷ []);
      printed = 5 ∷ 3 ∷ [];
    }
    -- list within the PDU (3), then what is in it: LeaveAllEvent 2 (6)
    ∷ record {
      computed =
          read (0x00 ∷ 0x03 ∷ 0x08 ∷ 0x00 ∷ 0x0F ∷ 0x40 ∷ 0x01 ∷ (stream_id 1 ++ (0x6C ∷ 0x80 ∷ 0x00 ∷ 0x00 ∷ [])))
          ++ read (0x00 ∷ 0x03 ∷ 0x08 ∷ 0x00 ∷ 0x0E ∷ 0x40 ∷ 0x01 ∷ (stream_id 1 ++ (0x6C ∷ 0x80 ∷ 0x00 ∷ 0x00 ∷ [])));
      printed = 3 ∷ 6 ∷ [];
    }
    -- a vector's header (3), LeaveAllEvent (6): one octet, whose bits say 2
    ∷ record {
      computed =
          read (0x00 ∷ 0x03 ∷ 0x08 ∷ 0x00 ∷ 0x01 ∷ 0x40 ∷ [])
          ++ read (0x00 ∷ 0x03 ∷ 0x08 ∷ 0x00 ∷ 0x0E ∷ 0x40 ∷ 0x01 ∷ (stream_id 1 ++ (0x6C ∷ 0x80 ∷ 0x00 ∷ 0x00 ∷ [])));
      printed = 3 ∷ 6 ∷ [];
    }
    -- LeaveAllEvent (6), fits (3)
    ∷ record {
      computed =
          read (0x00 ∷ 0x03 ∷ 0x08 ∷ 0x00 ∷ 0x02 ∷ 0x40 ∷ 0x01 ∷ 0x00 ∷ 0x00 ∷ [])
          ++ read (0x00 ∷ 0x03 ∷ 0x08 ∷ 0x00 ∷ 0x02 ∷ 0x00 ∷ 0x01 ∷ 0x00 ∷ 0x00 ∷ []);
      printed = 6 ∷ 3 ∷ [];
    }
    -- fits (3), event octets (6): FourPackedEvents are missing, ThreePackedEvents are 216
    ∷ record {
      computed =
          read (0x00 ∷ 0x03 ∷ 0x08 ∷ 0x00 ∷ 0x0B ∷ 0x00 ∷ 0x01 ∷ (stream_id 1 ++ (0xD8 ∷ 0x00 ∷ 0x00 ∷ [])))
          ++ read (0x00 ∷ 0x03 ∷ 0x08 ∷ 0x00 ∷ 0x0E ∷ 0x00 ∷ 0x01 ∷ (stream_id 1 ++ (0xD8 ∷ 0x80 ∷ 0x00 ∷ 0x00 ∷ 0x00 ∷ 0x00 ∷ [])));
      printed = 3 ∷ 6 ∷ [];
    }
    -- event octets (6), values (7): 216, and Unique ID FFFF with 2 values
    ∷ record {
      computed =
          read (0x00 ∷ 0x03 ∷ 0x08 ∷ 0x00 ∷ 0x0E ∷ 0x00 ∷ 0x02 ∷ (stream_id 0xFFFF ++ (0xD8 ∷ 0x80 ∷ 0x00 ∷ 0x00 ∷ 0x00 ∷ 0x00 ∷ [])))
          ++ read (0x00 ∷ 0x03 ∷ 0x08 ∷ 0x00 ∷ 0x0E ∷ 0x00 ∷ 0x02 ∷ (stream_id 0xFFFF ++ (0x6C ∷ 0x80 ∷ 0x00 ∷ 0x00 ∷ 0x00 ∷ 0x00 ∷ [])));
      printed = 6 ∷ 7 ∷ [];
    }
    -- values (7), then the list's EndMark, which is not last (3)
    ∷ record {
      computed =
          read (0x00 ∷ 0x03 ∷ 0x08 ∷ 0x00 ∷ 0x10 ∷ 0x00 ∷ 0x02 ∷ (stream_id 0xFFFF ++ (0x6C ∷ 0xA0 ∷ 0x00 ∷ 0x00 ∷ 0x00 ∷ 0x00 ∷ 0x00 ∷ 0x00 ∷ [])))
          ++ read (0x00 ∷ 0x03 ∷ 0x08 ∷ 0x00 ∷ 0x10 ∷ 0x00 ∷ 0x02 ∷ (stream_id 0xFFFE ++ (0x6C ∷ 0xA0 ∷ 0x00 ∷ 0x00 ∷ 0x00 ∷ 0x00 ∷ 0x00 ∷ 0x00 ∷ [])));
      printed = 7 ∷ 3 ∷ [];
    }
    -- values (7) of the first vector, LeaveAllEvent 2 (6) of the second
    ∷ record {
      computed =
          read (0x00 ∷ 0x03 ∷ 0x08 ∷ 0x00 ∷ 0x1A ∷ 0x00 ∷ 0x02 ∷ 0x02 ∷ 0x00 ∷ 0x00 ∷ 0x00 ∷ 0x00 ∷ 0x01 ∷ 0xFF ∷ 0xFF ∷ 0x6C ∷ 0xA0 ∷ 0x40 ∷ 0x01 ∷ (stream_id 1 ++ (0x6C ∷ 0x80 ∷ 0x00 ∷ 0x00 ∷ 0x00 ∷ 0x00 ∷ [])))
          ++ read (0x00 ∷ 0x03 ∷ 0x08 ∷ 0x00 ∷ 0x1A ∷ 0x00 ∷ 0x02 ∷ 0x02 ∷ 0x00 ∷ 0x00 ∷ 0x00 ∷ 0x00 ∷ 0x01 ∷ 0xFF ∷ 0xFE ∷ 0x6C ∷ 0xA0 ∷ 0x40 ∷ 0x01 ∷ (stream_id 1 ++ (0x6C ∷ 0x80 ∷ 0x00 ∷ 0x00 ∷ 0x00 ∷ 0x00 ∷ [])));
      printed = 7 ∷ 6 ∷ [];
    }
    -- 3 in the first Message, its EndMark not last, 6 in the second, octet 216
    ∷ record {
      computed =
          read (0x00 ∷ 0x03 ∷ 0x08 ∷ 0x00 ∷ 0x04 ∷ 0x00 ∷ 0x00 ∷ 0x00 ∷ 0x00 ∷ 0x03 ∷ 0x08 ∷ 0x00 ∷ 0x0E ∷ 0x00 ∷ 0x01 ∷ (stream_id 1 ++ (0xD8 ∷ 0x80 ∷ 0x00 ∷ 0x00 ∷ 0x00 ∷ 0x00 ∷ [])))
          ++ read (0x00 ∷ 0x03 ∷ 0x08 ∷ 0x00 ∷ 0x02 ∷ 0x00 ∷ 0x00 ∷ 0x03 ∷ 0x08 ∷ 0x00 ∷ 0x0E ∷ 0x00 ∷ 0x01 ∷ (stream_id 1 ++ (0xD8 ∷ 0x80 ∷ 0x00 ∷ 0x00 ∷ 0x00 ∷ 0x00 ∷ [])));
      printed = 3 ∷ 6 ∷ [];
    }
    -- and 6 in the first, 3 in the second
    ∷ record {
      computed =
          read (0x00 ∷ 0x03 ∷ 0x08 ∷ 0x00 ∷ 0x0E ∷ 0x00 ∷ 0x01 ∷ (stream_id 1 ++ (0xD8 ∷ 0x80 ∷ 0x00 ∷ 0x00 ∷ 0x03 ∷ 0x08 ∷ 0x00 ∷ 0x04 ∷ 0x00 ∷ 0x00 ∷ 0x00 ∷ 0x00 ∷ 0x00 ∷ 0x00 ∷ [])))
          ++ read (0x00 ∷ 0x03 ∷ 0x08 ∷ 0x00 ∷ 0x0E ∷ 0x00 ∷ 0x01 ∷ (stream_id 1 ++ (0xD7 ∷ 0x80 ∷ 0x00 ∷ 0x00 ∷ 0x03 ∷ 0x08 ∷ 0x00 ∷ 0x04 ∷ 0x00 ∷ 0x00 ∷ 0x00 ∷ 0x00 ∷ 0x00 ∷ 0x00 ∷ [])));
      printed = 6 ∷ 3 ∷ [];
    }
    ∷ []

pub order-examples : All Holds two_faults
unfolding shown two_faults
order-examples = (refl, (refl, (refl, (refl, (refl, (refl, (refl, (refl, (refl, (refl, (refl, (refl, (refl, (refl, tt))))))))))))))

-- Vectors with events that are not known here: 6 at version 0; passed over at a higher one.

-- a PDU at another version
versioned : ℕ → List ℕ → List ℕ
versioned v [] = []
versioned v (o ∷ s) = v ∷ s

-- a Listener vector of this header from Unique ID 1 on, and one that joins 5 behind it
before5 : ℕ → List ℕ → List ℕ → List ℕ
before5 header three four = message listeners (listener_vector 1 header three four ++ listener_vector 5 1 (108 ∷ []) (128 ∷ []))

-- LeaveAllEvent 2, with 1 value, and with none; 2 values from Unique ID FFFF on
leave_event2 : List ℕ
leave_event2 = before5 16385 (108 ∷ []) (128 ∷ [])

past : ℕ → List ℕ
past octet = listener_vector 0xFFFF 2 (octet ∷ []) (0xA0 ∷ [])

id5 : ℕ
id5 = 0x0200000000010005

pub newer_versions : List Example
newer_versions =
    -- LeaveAllEvent 2, and the vector behind it
    record { computed = read leave_event2 ++ (read (versioned 1 leave_event2) ++ read (versioned 255 leave_event2)); printed = 6 ∷ 0 ∷ id5 ∷ 0 ∷ id5 ∷ [] }
    -- of 0 values FirstValue is there
    ∷ record { computed = read (versioned 1 (before5 16384 [] [])); printed = 0 ∷ id5 ∷ [] }
    -- octet 216, and 4 values with a good octet beside it and their FourPackedEvents
    ∷ record { computed = read (before5 1 (216 ∷ []) (128 ∷ [])) ++ read (versioned 1 (before5 1 (216 ∷ []) (128 ∷ []))); printed = 6 ∷ 0 ∷ id5 ∷ [] }
    ∷ record { computed = read (versioned 1 (before5 4 (129 ∷ 216 ∷ []) (0xAA ∷ []))); printed = 0 ∷ id5 ∷ [] }
    -- FourPackedEvents have no bound
    ∷ record { computed = read (versioned 1 (listeners_of 5 1 (108 ∷ []) (0xFF ∷ []))); printed = 0 ∷ id5 ∷ [] }
    -- the other types
    ∷ record {
      computed =
          read (versioned 1 (advertises_of 1 224 rank1 1 (216 ∷ [])))
          ++ (read (versioned 1 (failed_of 1 224 rank1 1 (216 ∷ []))) ++ read (versioned 1 (domains_of 5 2 1 (216 ∷ []))));
      printed = 0 ∷ 0 ∷ 0 ∷ [];
    }
    -- its LeaveAll is not applied: the Listener held is not leaving
    ∷ record {
      computed = listener 1 (bridge 0 (time 100 ∷ pdu 2 (hears 1 128) ∷ pdu 2 (versioned 1 (listeners_of 1 8193 (216 ∷ []) (128 ∷ []))) ∷ []));
      printed = 2 ∷ 0 ∷ 0 ∷ [];
    }
    -- values past their field: 7, and none where the vector is passed over
    ∷ record { computed = read (versioned 1 (message listeners (past 108))) ++ read (versioned 1 (message listeners (past 216))); printed = 7 ∷ 0 ∷ [] }
    -- whether it fits counts first
    ∷ record {
      computed =
          read (0x00 ∷ 0x03 ∷ 0x08 ∷ 0x00 ∷ 0x02 ∷ 0x40 ∷ 0x01 ∷ 0x00 ∷ 0x00 ∷ [])
          ++ read (0x01 ∷ 0x03 ∷ 0x08 ∷ 0x00 ∷ 0x02 ∷ 0x40 ∷ 0x01 ∷ 0x00 ∷ 0x00 ∷ []);
      printed = 6 ∷ 3 ∷ [];
    }
    -- a later fault refuses the whole PDU
    ∷ record {
      computed = read (versioned 1 (message listeners (listener_vector 1 1 (216 ∷ []) (128 ∷ []) ++ (listener_vector 5 1 (108 ∷ []) (128 ∷ []) ++ past 108))));
      printed = 7 ∷ [];
    }
    ∷ []

pub newer-examples : All Holds newer_versions
unfolding shown newer_versions versioned before5 leave_event2 past id5
newer-examples = (refl, (refl, (refl, (refl, (refl, (refl, (refl, (refl, (refl, (refl, tt))))))))))
