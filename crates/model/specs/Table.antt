-- The lent table and the settings, as octets and back, and the rules of their form (docs/TABLE.md; 01, "Numbers given back":
-- 11 and 12). A table is: settings, clock, streams held, totals of eight ports, what each of them holds and what it sends by itself, 64
-- stream records. A stream record is: StreamID, settled values, eight cells, eight results, what eight ports send. What is not used is
-- zero. The number behind a rule is its number in docs/TABLE.md.
use Rattle.std.specs.Prelude.{List, [], ◌∷◌, ◌++◌, Bool, true, false, cond, not, ◌&&◌, ◌||◌, ℕ, zero, suc, ◌+◌, ◌*◌, ◌-◌, ◌/◌, ◌%◌, length, get_or, take, drop, replicate, ltb, leb, eqb}
use Rattle.octets.specs.Be.{be_at}
use Rattle.octets.specs.Parts.{part, zeros}
use Rattle.octets.specs.Fields.{fields, packed, flat}
use Rattle.model.specs.Layout.{address_count_widths, address_size, address_widths, all_sends_size, boundary_widths, cell_fields, cell_index, cell_size, cell_widths, cells_size, clock_widths, head_widths, in_address, in_cell, in_head, in_own, in_record, in_sends, in_table, in_totals, most_addresses, name_widths, own_size, owns_size, port_place, port_size, port_widths, ports_unit, priority_a_unit, priority_b_unit, pruning_unit, record_size, result_index, result_size, result_widths, results_size, sender_size, senders_size, sends_size, settings_size, slot_index, slot_size, slot_widths, slots, slots_size, table_length, total_size, totals_size, totals_widths, address_index, width_of}
use Rattle.model.specs.Lists.{all_true, all_zero, implies, parts, bit, is_one}
use Rattle.model.specs.Applicant.{Standing, very_anxious_passive, very_anxious_new, anxious_new, anxious_active, quiet_active, leaving_active}
use Rattle.model.specs.Machines.{Applicant, no_applicant, applicant}
use Rattle.model.specs.State.{Port, Settings, Leaving, stays, since, TalkerType, talker_advertise, talker_failed, Registration, Talker, no_talker, talker, Domain, no_domain, domain, Presence, vacant, present, Address, Own, Listener, no_listener, listener, Cell, Column, none, advertise, failed, Entry, no_entry, filters, forwards, Declared, nothing, tells, Result, Sends, Stream, Totals, Bridge, class_b, in_force, declares_slot, ready_number}
use Rattle.model.specs.Settling.{is_talking, is_hearing, is_advertise, held}
use Rattle.model.specs.WrittenFrames.{fixed_numbers, fixed_from, to_ready}
use Rattle.model.specs.Sending.{sends_octets, to_sends, sends_formed, sender_octets, to_sender, sender_formed}

-- Settings: Bridge ID; one field of ports 4 bits, class priorities 3 and 3, leave time 14; one of talkerPruning and the Domain
-- values' VLAN; msrpMaxFanInPorts; then each port.

unfoldable pub port_numbers : Port → List ℕ
port_numbers q =
    (bit q.supports_a * 128 + bit q.supports_b * 64 + bit q.sends_twice * 32)
    ∷ q.overhead ∷ q.largest ∷ q.limit_a ∷ q.limit_b ∷ q.latency_a ∷ q.latency_b ∷ []

unfoldable pub port_from : List ℕ → Port
port_from vs = record {
  supports_a = is_one (get_or vs 0 0 / 128);
  supports_b = is_one (get_or vs 0 0 / 64 % 2);
  sends_twice = is_one (get_or vs 0 0 / 32 % 2);
  overhead = get_or vs 1 0;
  largest = get_or vs 2 0;
  limit_a = get_or vs 3 0;
  limit_b = get_or vs 4 0;
  latency_a = get_or vs 5 0;
  latency_b = get_or vs 6 0;
}

unfoldable pub port_octets : Port → List ℕ
port_octets q = packed port_widths (port_numbers q)

unfoldable pub to_port : List ℕ → Port
to_port s = port_from (fields port_widths 0 s)

unfoldable pub head_word : Settings → ℕ
head_word st = ((length st.ports * 8 + st.priority_a) * 8 + st.priority_b) * priority_b_unit + st.leave_time

-- talkerPruning is "the top bit of the VLAN setting's two octets"
unfoldable pub vlan_word : Settings → ℕ
vlan_word st = bit st.pruning * pruning_unit + st.vlan

unfoldable pub head_numbers : Settings → List ℕ
head_numbers st = st.bridge_id ∷ head_word st ∷ vlan_word st ∷ st.fan_in ∷ []

-- as they are handed to start
unfoldable pub settings_octets : Settings → List ℕ
settings_octets st = packed head_widths (head_numbers st) ++ flat port_octets st.ports

-- the field of ports, class priorities and leave time, and that of talkerPruning and VLAN
abbrev pub word_field : List ℕ → ℕ
word_field s = be_at width_of.word s in_head.word

abbrev pub vlan_field : List ℕ → ℕ
vlan_field s = be_at width_of.vlan s in_head.vlan

unfoldable pub ports_field : List ℕ → ℕ
ports_field s = word_field s / ports_unit

unfoldable pub to_settings : List ℕ → Settings
to_settings s = record {
  bridge_id = be_at width_of.bridge_id s 0;
  priority_a = word_field s / priority_a_unit % 8;
  priority_b = word_field s / priority_b_unit % 8;
  leave_time = word_field s % priority_b_unit;
  pruning = is_one (vlan_field s / pruning_unit);
  vlan = vlan_field s % pruning_unit;
  fan_in = be_at width_of.fan_in s in_head.fan_in;
  ports = parts port_size to_port (ports_field s) (drop in_table.ports s);
}

-- "zero 5": the five bits after a port's flags
unfoldable pub port_rule : List ℕ → Bool
port_rule s = eqb (get_or s 0 0 % 32) 0

unfoldable pub every_part : ℕ → (List ℕ → Bool) → ℕ → List ℕ → Bool
every_part n rule zero s = true
every_part n rule (suc k) s = rule (take n s) && every_part n rule k (drop n s)

-- "ports 4 (1 to 8), class A priority 3, class B priority 3 (different), leave time 14 (1 or more, hundredths)"
unfoldable pub settings_rules : List ℕ → List Bool
settings_rules s =
    leb 1 (ports_field s)  -- 2
    ∷ leb (ports_field s) 8  -- 2
    ∷ not (eqb (word_field s / priority_a_unit % 8) (word_field s / priority_b_unit % 8))  -- 3
    ∷ leb 1 (word_field s % priority_b_unit)  -- 4
    ∷ every_part port_size port_rule (ports_field s) (drop in_table.ports s)  -- 5
    ∷ leb 1 (vlan_field s % pruning_unit)  -- 30
    ∷ leb (vlan_field s % pruning_unit) 4094  -- 30
    ∷ leb (be_at width_of.fan_in s in_head.fan_in) 8  -- 36
    ∷ []

-- 11: settings as long as their head and their ports (01: "Length 11 + 22 x ports"; 02's settings are three octets more), and as laid
-- out; 02: "11 where the VLAN setting is 0 or 4,095, or one of the upper four bits is set", but for talkerPruning, "the top bit ..,
-- which 11 then allows"; "11 for a limit above 8"
unfoldable pub settings_formed : List ℕ → Bool
settings_formed s = eqb (length s) (port_place (ports_field s)) && all_true (settings_rules s)

-- A cell: Talker, then Listener.

unfoldable pub leaving_number : Leaving → ℕ
leaving_number stays = 0
leaving_number (since t) = 1

unfoldable pub since_number : Leaving → ℕ
since_number stays = 0
since_number (since t) = t

unfoldable pub to_leaving : ℕ → ℕ → Leaving
to_leaving k t = cond (eqb k 0) stays (since t)

unfoldable pub talker_type_number : TalkerType → ℕ
talker_type_number talker_advertise = 1
talker_type_number (talker_failed b c) = 2

unfoldable pub bridge_number : TalkerType → ℕ
bridge_number talker_advertise = 0
bridge_number (talker_failed b c) = b

unfoldable pub code_number : TalkerType → ℕ
code_number talker_advertise = 0
code_number (talker_failed b c) = c

unfoldable pub to_talker_type : ℕ → ℕ → ℕ → TalkerType
to_talker_type k b c = cond (eqb k 1) talker_advertise (talker_failed b c)

unfoldable pub talker_numbers : Talker → List ℕ
talker_numbers no_talker = replicate cell_index.listener 0
talker_numbers (talker r) =
    let v = r.varying in
    talker_type_number v.type ∷ bit r.changed ∷ leaving_number r.leaving ∷ since_number r.leaving
    ∷ (fixed_numbers r.fixed ++ (v.latency ∷ bridge_number v.type ∷ code_number v.type ∷ r.first_latency ∷ []))

unfoldable pub listener_numbers : Listener → List ℕ
listener_numbers no_listener = replicate (cell_fields - cell_index.listener) 0
listener_numbers (listener r l) = ready_number r ∷ leaving_number l ∷ since_number l ∷ []

unfoldable pub cell_numbers : Cell → List ℕ
cell_numbers c = talker_numbers c.talks ++ listener_numbers c.hears

unfoldable pub registration_from : List ℕ → Registration
registration_from vs = record {
  fixed = fixed_from cell_index.fixed vs;
  varying = record { type = to_talker_type (get_or vs cell_index.talker 0) (get_or vs cell_index.bridge 0) (get_or vs cell_index.code 0); latency = get_or vs cell_index.latency 0 };
  first_latency = get_or vs cell_index.first_latency 0;
  changed = is_one (get_or vs cell_index.changed 0);
  leaving = to_leaving (get_or vs cell_index.talker_leaves 0) (get_or vs cell_index.talker_since 0);
}

unfoldable pub talker_from : List ℕ → Talker
talker_from vs = cond (eqb (get_or vs cell_index.talker 0) 0) no_talker (talker (registration_from vs))

unfoldable pub listener_from : List ℕ → Listener
listener_from vs =
    cond (eqb (get_or vs cell_index.listener 0) 0) no_listener
    (listener (to_ready (get_or vs cell_index.listener 0)) (to_leaving (get_or vs cell_index.listener_leaves 0) (get_or vs cell_index.listener_since 0)))

unfoldable pub cell_from : List ℕ → Cell
cell_from vs = record { talks = talker_from vs; hears = listener_from vs }

unfoldable pub cell_octets : Cell → List ℕ
cell_octets c = packed cell_widths (cell_numbers c)

unfoldable pub to_cell : List ℕ → Cell
to_cell s = cell_from (fields cell_widths 0 s)

-- the numbers of the fields from a on, up to b
abbrev pub between : ℕ → ℕ → List ℕ → List ℕ
between a b vs = take (b - a) (drop a vs)

-- "each leaving begun less than the leave time before the held clock"; not leaving, no time
unfoldable pub leaving_rule : ℕ → ℕ → ℕ → ℕ → Bool
leaving_rule clock leave k t =
    cond (eqb k 0) (eqb t 0) (eqb k 1 && (leb t clock && ltb clock (t + leave)))

-- the rules of a cell's numbers
unfoldable pub cell_rules : ℕ → ℕ → List ℕ → List Bool
cell_rules clock leave vs =
    let at : ℕ → ℕ = λ i. get_or vs i 0 in
    leb (at cell_index.talker) 2  -- 14
    ∷ leb (at cell_index.changed) 1  -- 15
    ∷ leaving_rule clock leave (at cell_index.talker_leaves) (at cell_index.talker_since)  -- 16
    ∷ eqb (at cell_index.priority % 16) 0  -- 17
    ∷ implies (eqb (at cell_index.talker) 0) (all_zero (between cell_index.changed cell_index.listener vs))  -- 18
    ∷ implies (eqb (at cell_index.talker) 1) (all_zero (at cell_index.bridge ∷ at cell_index.code ∷ []))  -- 19
    ∷ leb (at cell_index.listener) 3  -- 14
    ∷ leaving_rule clock leave (at cell_index.listener_leaves) (at cell_index.listener_since)  -- 16
    ∷ implies (eqb (at cell_index.listener) 0) (all_zero (at cell_index.listener_leaves ∷ at cell_index.listener_since ∷ []))  -- 18
    ∷ []

unfoldable pub cell_formed : ℕ → ℕ → List ℕ → Bool
cell_formed clock leave s = all_true (cell_rules clock leave (fields cell_widths 0 s))

-- A result: column (0 none, 1 Advertise, 2 Failed), latency out, Bridge ID, code, entry (0 none, 1 filter, 2 forward), the second
-- its age counts from, Listener declared.

unfoldable pub column_number : Column → ℕ
column_number none = 0
column_number advertise = 1
column_number (failed b c) = 2

unfoldable pub column_bridge : Column → ℕ
column_bridge none = 0
column_bridge advertise = 0
column_bridge (failed b c) = b

unfoldable pub column_code : Column → ℕ
column_code none = 0
column_code advertise = 0
column_code (failed b c) = c

unfoldable pub entry_number : Entry → ℕ
entry_number no_entry = 0
entry_number filters = 1
entry_number forwards = 2

unfoldable pub declared_number : Declared → ℕ
declared_number nothing = 0
declared_number (tells r) = ready_number r

unfoldable pub result_numbers : Result → List ℕ
result_numbers r =
    column_number r.column ∷ r.latency ∷ column_bridge r.column ∷ column_code r.column
    ∷ entry_number r.entry ∷ r.age ∷ declared_number r.declares ∷ []

unfoldable pub to_column : ℕ → ℕ → ℕ → Column
to_column k b c = cond (eqb k 0) none (cond (eqb k 1) advertise (failed b c))

unfoldable pub to_entry : ℕ → Entry
to_entry k = cond (eqb k 0) no_entry (cond (eqb k 1) filters forwards)

unfoldable pub to_declared : ℕ → Declared
to_declared k = cond (eqb k 0) nothing (tells (to_ready k))

unfoldable pub result_from : List ℕ → Result
result_from vs = record {
  column = to_column (get_or vs 0 0) (get_or vs 2 0) (get_or vs 3 0);
  latency = get_or vs 1 0;
  entry = to_entry (get_or vs 4 0);
  age = get_or vs 5 0;
  declares = to_declared (get_or vs 6 0);
}

unfoldable pub result_octets : Result → List ℕ
result_octets r = packed result_widths (result_numbers r)

unfoldable pub to_result : List ℕ → Result
to_result s = result_from (fields result_widths 0 s)

-- the rules of a result's numbers
unfoldable pub result_rules : ℕ → List ℕ → List Bool
result_rules clock vs =
    let at : ℕ → ℕ = λ i. get_or vs i 0 in
    leb (at result_index.column) 2  -- 20
    ∷ implies (eqb (at result_index.column) 0) (eqb (at result_index.latency) 0)  -- 21
    ∷ implies (leb (at result_index.column) 1) (all_zero (at result_index.bridge ∷ at result_index.code ∷ []))  -- 22
    ∷ leb (at result_index.entry) 2  -- 20
    ∷ implies (not (eqb (at result_index.column) 0)) (leb 1 (at result_index.entry))  -- 23
    ∷ implies (not (eqb (at result_index.column) 1)) (leb (at result_index.entry) 1)  -- 23
    ∷ implies (eqb (at result_index.entry) 0) (eqb (at result_index.age) 0)  -- 24
    ∷ leb (at result_index.age) (clock / 100)  -- 24
    ∷ leb (at result_index.declared) 3  -- 20
    ∷ []

unfoldable pub result_formed : ℕ → List ℕ → Bool
result_formed clock s = all_true (result_rules clock (fields result_widths 0 s))

-- A stream record of 901 octets: StreamID and settled values, 21 octets; cells of 43; results of 20; what is sent, 47.

unfoldable pub stream_octets : Stream → List ℕ
stream_octets x =
    packed name_widths (x.id ∷ fixed_numbers x.settled)
    ++ (flat cell_octets x.cells ++ (flat result_octets x.results ++ flat sends_octets x.sends))

unfoldable pub cells_part : List ℕ → List ℕ
cells_part s = part in_record.cells cells_size s

unfoldable pub results_part : List ℕ → List ℕ
results_part s = part in_record.results results_size s

unfoldable pub all_sends_part : List ℕ → List ℕ
all_sends_part s = part in_record.sends all_sends_size s

unfoldable pub to_stream : List ℕ → Stream
to_stream s = record {
  id = be_at width_of.stream_id s 0;
  settled = fixed_from 1 (fields name_widths 0 s);
  cells = parts cell_size to_cell 8 (cells_part s);
  results = parts result_size to_result 8 (results_part s);
  sends = parts sends_size to_sends 8 (all_sends_part s);
}

-- some port has a registration: a kind that is not 0, of a Talker or of a Listener
unfoldable pub holds : ℕ → List ℕ → Bool
holds zero s = false
holds (suc k) s = not (eqb (get_or s 0 0) 0) || not (eqb (get_or s in_cell.listener 0) 0) || holds k (drop cell_size s)

-- some port sends: an Applicant octet that is not 0
unfoldable pub sends : ℕ → List ℕ → Bool
sends zero s = false
sends (suc k) s =
    not (eqb (get_or s in_sends.advertising 0) 0) || not (eqb (get_or s in_sends.failing 0) 0) || not (eqb (get_or s in_sends.listening 0) 0)
    || sends k (drop sends_size s)

-- What the last advance stored, beside the registrations: only advance removes one, and then decides anew.

-- how many of the first k ports have a Talker
unfoldable pub talkers : ℕ → List Cell → ℕ
talkers zero cs = 0
talkers (suc k) [] = 0
talkers (suc k) (c ∷ cs) = bit (is_talking c) + talkers k cs

unfoldable pub has_column : Column → Bool
has_column none = false
has_column advertise = true
has_column (failed b c) = true

unfoldable pub declares : Declared → Bool
declares nothing = false
declares (tells r) = true

-- how many of the first k ports declare a Listener
unfoldable pub declarers : ℕ → List Result → ℕ
declarers zero rs = 0
declarers (suc k) [] = 0
declarers (suc k) (r ∷ rs) = bit (declares r.declares) + declarers k rs

-- an entry that stands for a Listener: without a column, or forwarding
unfoldable pub for_listener : Column → Entry → Bool
for_listener k no_entry = false
for_listener none filters = true
for_listener advertise filters = false
for_listener (failed b c) filters = false
for_listener k forwards = true

-- the rules of a result beside its port's cell, where n ports have a Talker: another port, where they are more than this one's own
unfoldable pub stored_rules : ℕ → Cell → Result → List Bool
stored_rules n c r =
    implies (has_column r.column) (ltb (bit (is_talking c)) n)  -- 26
    ∷ implies (declares r.declares) (not (has_column r.column) && is_talking c)  -- 27
    ∷ implies (for_listener r.column r.entry) (is_hearing c)  -- 28
    ∷ []

unfoldable pub stored_formed : ℕ → Cell → Result → Bool
stored_formed n c r = all_true (stored_rules n c r)

-- a rule of each of the first k ports, of two things that stand at its place
module _ {A B : Type 0} where
  unfoldable pub every_port : (A → B → Bool) → ℕ → List A → List B → Bool
  every_port rule zero cs rs = true
  every_port rule (suc k) [] rs = true
  every_port rule (suc k) (c ∷ cs) [] = true
  every_port rule (suc k) (c ∷ cs) (r ∷ rs) = rule c r && every_port rule k cs rs

-- a declaration, not an unsent Lv: VP, VN, AN, AA or QA
unfoldable pub is_standing : Standing → Bool
is_standing very_anxious_passive = true
is_standing very_anxious_new = true
is_standing anxious_new = true
is_standing anxious_active = true
is_standing quiet_active = true
is_standing leaving_active = false

module _ {D : Type 0} where
  unfoldable pub stands : Applicant D → Bool
  stands no_applicant = false
  stands (applicant x) = is_standing x.state

unfoldable pub is_failed : Column → Bool
is_failed none = false
is_failed advertise = false
is_failed (failed b c) = true

unfoldable pub alike : Bool → Bool → Bool
alike a b = cond a b (not b)

-- what a port sends beside its result: a declaration stands exactly where the result has one (46)
unfoldable pub sent_rules : Result → Sends → List Bool
sent_rules r s =
    alike (stands s.advertising) (is_advertise r.column)  -- 46
    ∷ alike (stands s.failing) (is_failed r.column)  -- 46
    ∷ alike (stands s.listening) (declares r.declares)  -- 46
    ∷ []

unfoldable pub sent_formed : Result → Sends → Bool
sent_formed r s = all_true (sent_rules r s)

-- at a bridge of so many ports; what belongs to no port is zero
unfoldable pub stream_rules : ℕ → ℕ → ℕ → List ℕ → List Bool
stream_rules ports clock leave s =
    let x = to_stream s in
    let n = talkers ports x.cells in
    eqb (get_or s in_record.priority 0 % 16) 0  -- 11
    ∷ implies (eqb n 0) (all_zero (drop 1 (fields name_widths 0 s)))  -- 25
    ∷ every_part cell_size (cell_formed clock leave) ports (cells_part s)  -- 14 to 19
    ∷ (holds ports (cells_part s) || sends ports (all_sends_part s))  -- 12
    ∷ all_zero (drop (ports * cell_size) (cells_part s))  -- 13
    ∷ every_part result_size (result_formed clock) ports (results_part s)  -- 20 to 24
    ∷ every_port (stored_formed n) ports x.cells x.results  -- 26 to 28
    ∷ leb (declarers ports x.results) 1  -- 27
    ∷ all_zero (drop (ports * result_size) (results_part s))  -- 13
    ∷ every_part sends_size sends_formed ports (all_sends_part s)  -- 42 to 45
    ∷ every_port sent_formed ports x.results x.sends  -- 46
    ∷ all_zero (drop (ports * sends_size) (all_sends_part s))  -- 47
    ∷ []

unfoldable pub stream_formed : ℕ → ℕ → ℕ → List ℕ → Bool
stream_formed ports clock leave s = all_true (stream_rules ports clock leave s)

-- What a port holds by itself, of 899 octets: 16 Domain values of 8, then its two flags, the number of its addresses, and room for
-- 64 of 12.

unfoldable pub domain_numbers : Domain → List ℕ
domain_numbers no_domain = replicate 4 0
domain_numbers (domain v l) = 1 ∷ leaving_number l ∷ since_number l ∷ v ∷ []

unfoldable pub domain_from : List ℕ → Domain
domain_from vs =
    cond (eqb (get_or vs slot_index.registered 0) 0) no_domain
    (domain (get_or vs slot_index.vlan 0) (to_leaving (get_or vs slot_index.leaves 0) (get_or vs slot_index.since 0)))

unfoldable pub domain_octets : Domain → List ℕ
domain_octets d = packed slot_widths (domain_numbers d)

unfoldable pub to_domain : List ℕ → Domain
to_domain s = domain_from (fields slot_widths 0 s)

-- the rules of a Domain value's numbers
unfoldable pub domain_rules : ℕ → ℕ → List ℕ → List Bool
domain_rules clock leave vs =
    let at : ℕ → ℕ = λ i. get_or vs i 0 in
    leb (at slot_index.registered) 1  -- 31
    ∷ leaving_rule clock leave (at slot_index.leaves) (at slot_index.since)  -- 32
    ∷ implies (eqb (at slot_index.registered) 0) (all_zero (at slot_index.leaves ∷ at slot_index.since ∷ at slot_index.vlan ∷ []))  -- 33
    ∷ []

unfoldable pub domain_formed : ℕ → ℕ → List ℕ → Bool
domain_formed clock leave s = all_true (domain_rules clock leave (fields slot_widths 0 s))

unfoldable pub presence_numbers : Presence → List ℕ
presence_numbers vacant = 0 ∷ 0 ∷ 0 ∷ []
presence_numbers (present l) = 1 ∷ leaving_number l ∷ since_number l ∷ []

unfoldable pub address_numbers : Address → List ℕ
address_numbers a = presence_numbers a.presence ++ (a.mac ∷ [])

unfoldable pub address_from : List ℕ → Address
address_from vs = record {
  mac = get_or vs address_index.mac 0;
  presence =
      cond (eqb (get_or vs address_index.registered 0) 0) vacant
      (present (to_leaving (get_or vs address_index.leaves 0) (get_or vs address_index.since 0)));
}

unfoldable pub address_octets : Address → List ℕ
address_octets a = packed address_widths (address_numbers a)

unfoldable pub to_address : List ℕ → Address
to_address s = address_from (fields address_widths 0 s)

-- the rules of an address record's numbers
unfoldable pub address_rules : ℕ → ℕ → List ℕ → List Bool
address_rules clock leave vs =
    let at : ℕ → ℕ = λ i. get_or vs i 0 in
    eqb (at address_index.registered) 1  -- 38
    ∷ leaving_rule clock leave (at address_index.leaves) (at address_index.since)  -- 39
    ∷ []

unfoldable pub address_formed : ℕ → ℕ → List ℕ → Bool
address_formed clock leave s = all_true (address_rules clock leave (fields address_widths 0 s))

unfoldable pub own_octets : Own → List ℕ
own_octets o =
    flat domain_octets o.domains
    ++ (packed boundary_widths (bit o.boundary_a ∷ bit o.boundary_b ∷ [])
    ++ (packed address_count_widths (length o.addresses ∷ [])
    ++ (flat address_octets o.addresses ++ zeros ((most_addresses - length o.addresses) * address_size))))

unfoldable pub slots_part : List ℕ → List ℕ
slots_part s = part 0 slots_size s

unfoldable pub addresses_held : List ℕ → ℕ
addresses_held s = get_or s in_own.count 0

unfoldable pub addresses_part : List ℕ → List ℕ
addresses_part s = drop in_own.addresses s

unfoldable pub to_own : List ℕ → Own
to_own s = record {
  domains = parts slot_size to_domain slots (slots_part s);
  boundary_a = is_one (get_or s in_own.boundary_a 0);
  boundary_b = is_one (get_or s in_own.boundary_b 0);
  addresses = parts address_size to_address (addresses_held s) (addresses_part s);
}

-- numbers that rise: StreamIDs, addresses
unfoldable pub rising : List ℕ → Bool
rising [] = true
rising (i ∷ []) = true
rising (i ∷ j ∷ l) = ltb i j && rising (j ∷ l)

unfoldable pub mac_of : List ℕ → ℕ
mac_of s = be_at width_of.mac s in_address.mac

unfoldable pub own_rules : ℕ → ℕ → List ℕ → List Bool
own_rules clock leave s =
    let n = addresses_held s in
    every_part slot_size (domain_formed clock leave) slots (slots_part s)  -- 31 to 33
    ∷ leb (get_or s in_own.boundary_a 0) 1  -- 34
    ∷ leb (get_or s in_own.boundary_b 0) 1  -- 34
    ∷ leb n most_addresses  -- 37
    ∷ every_part address_size (address_formed clock leave) n (addresses_part s)  -- 38, 39
    ∷ rising (parts address_size mac_of n (addresses_part s))  -- 40
    ∷ all_zero (drop (n * address_size) (addresses_part s))  -- 41
    ∷ []

unfoldable pub own_formed : ℕ → ℕ → List ℕ → Bool
own_formed clock leave s = all_true (own_rules clock leave s)

-- The table: settings, clock, streams held, totals, what the ports hold, what they send, records.

unfoldable pub totals_octets : Totals → List ℕ
totals_octets t = packed totals_widths (t.total_a ∷ t.total_b ∷ [])

unfoldable pub to_totals : List ℕ → Totals
to_totals s = record { total_a = be_at width_of.total_a s 0; total_b = be_at width_of.total_b s in_totals.total_b }

unfoldable pub encode : Bridge → List ℕ
encode b =
    settings_octets b.settings
    ++ (zeros ((8 - length b.settings.ports) * port_size)
    ++ (packed clock_widths (b.clock ∷ length b.streams ∷ [])
    ++ (flat totals_octets b.totals
    ++ (flat own_octets b.owns
    ++ (flat sender_octets b.senders
    ++ (flat stream_octets b.streams
    ++ zeros ((64 - length b.streams) * record_size)))))))

unfoldable pub settings_part : List ℕ → List ℕ
settings_part t = part 0 settings_size t

unfoldable pub clock_field : List ℕ → ℕ
clock_field t = be_at width_of.clock t in_table.clock

unfoldable pub count_field : List ℕ → ℕ
count_field t = get_or t in_table.count 0

unfoldable pub totals_part : List ℕ → List ℕ
totals_part t = part in_table.totals totals_size t

unfoldable pub owns_part : List ℕ → List ℕ
owns_part t = part in_table.owns owns_size t

unfoldable pub senders_part : List ℕ → List ℕ
senders_part t = part in_table.senders senders_size t

unfoldable pub records_part : List ℕ → List ℕ
records_part t = drop in_table.records t

unfoldable pub decode : List ℕ → Bridge
decode t = record {
  settings = to_settings (settings_part t);
  clock = clock_field t;
  totals = parts total_size to_totals 8 (totals_part t);
  owns = parts own_size to_own 8 (owns_part t);
  senders = parts sender_size to_sender 8 (senders_part t);
  streams = parts record_size to_stream (count_field t) (records_part t);
}

unfoldable pub id_of : List ℕ → ℕ
id_of s = be_at width_of.stream_id s 0

-- some stream has a registration; and one of the first n records
unfoldable pub any_held : List Stream → Bool
any_held [] = false
any_held (x ∷ s) = held x.cells || any_held s

unfoldable pub any_holds : ℕ → ℕ → List ℕ → Bool
any_holds ports zero s = false
any_holds ports (suc n) s = holds ports (cells_part (take record_size s)) || any_holds ports n (drop record_size s)

-- what a class total may be: the limit in force, where some stream has a registration and the port supports the class
unfoldable pub at_most : Bool → Bool → ℕ → ℕ
at_most some supports limit = cond (some && supports) limit 0

-- no class total above that, port by port; a place that is no port has none
unfoldable pub totals_within : Bool → List Totals → List Port → Bool
totals_within some [] qs = true
totals_within some (t ∷ ts) [] = eqb t.total_a 0 && eqb t.total_b 0 && totals_within some ts []
totals_within some (t ∷ ts) (q ∷ qs) =
    leb t.total_a (at_most some q.supports_a q.limit_a)
    && leb t.total_b (at_most some q.supports_b (in_force q t.total_a class_b))
    && totals_within some ts qs

-- what each port sends by itself, from place p on
unfoldable pub senders_formed : Settings → ℕ → ℕ → ℕ → List ℕ → Bool
senders_formed st clock p zero s = true
senders_formed st clock p (suc k) s = sender_formed (declares_slot st p) clock (take sender_size s) && senders_formed st clock (suc p) k (drop sender_size s)

unfoldable pub table_rules : List ℕ → List Bool
table_rules t =
    let s = settings_part t in
    let n = count_field t in
    all_true (settings_rules s)  -- 2 to 5, 30, 36
    ∷ all_zero (drop (port_place (ports_field s)) s)  -- 6
    ∷ totals_within (any_holds (ports_field s) n (records_part t)) (parts total_size to_totals 8 (totals_part t)) (to_settings s).ports  -- 7, 29
    ∷ every_part own_size (own_formed (clock_field t) (to_settings s).leave_time) (ports_field s) (owns_part t)  -- 31 to 34, 37 to 41
    ∷ all_zero (drop (ports_field s * own_size) (owns_part t))  -- 35
    ∷ senders_formed (to_settings s) (clock_field t) 0 (ports_field s) (senders_part t)  -- 48 to 50
    ∷ all_zero (drop (ports_field s * sender_size) (senders_part t))  -- 47
    ∷ leb n 64  -- 8
    ∷ every_part record_size (stream_formed (ports_field s) (clock_field t) (to_settings s).leave_time) n (records_part t)  -- 11 to 28, 42 to 47
    ∷ rising (parts record_size id_of n (records_part t))  -- 9
    ∷ all_zero (drop (n * record_size) (records_part t))  -- 10
    ∷ []

-- 12: "table has the wrong length (one length for every port count) or breaks a form rule"
unfoldable pub formed : List ℕ → Bool
formed t = eqb (length t) table_length && all_true (table_rules t)
