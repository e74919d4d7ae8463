-- The layout of the lent table (docs/TABLE.md): the widths of its fields, and every size and place, computed from them. The code has
-- them in crate table's constants.
use Rattle.std.specs.Prelude.{ℕ, zero, suc, ◌+◌, ◌-◌, ◌*◌, ◌^◌, List, [], ◌∷◌}

-- the octets of fields, and of those before the field with an index
abbrev pub sum : List ℕ → ℕ
sum [] = 0
sum (w ∷ ws) = w + sum ws

abbrev pub before : ℕ → List ℕ → ℕ
before zero ws = 0
before (suc i) [] = 0
before (suc i) (w ∷ ws) = w + before i ws

-- Widths of fields, in octets; those by name that are asked for one by one.

abbrev pub width_of : record { bridge_id : ℕ; word : ℕ; vlan : ℕ; fan_in : ℕ; clock : ℕ; total_a : ℕ; total_b : ℕ; mac : ℕ; stream_id : ℕ }
width_of = record { bridge_id = 8; word = 3; vlan = 2; fan_in = 1; clock = 4; total_a = 5; total_b = 6; mac = 6; stream_id = 8 }

-- settings: Bridge ID; one word of ports 4 bits, class priorities 3 and 3, leave time 14; talkerPruning 1 bit, with the VLAN of the
-- Domain values declared; msrpMaxFanInPorts
abbrev pub head_widths : List ℕ
head_widths = width_of.bridge_id ∷ width_of.word ∷ width_of.vlan ∷ width_of.fan_in ∷ []

-- a port's settings: flags (supports A, supports B, sends twice, five zeros), overhead, largest frame, limits, latencies
abbrev pub port_widths : List ℕ
port_widths = 1 ∷ 1 ∷ 2 ∷ 5 ∷ 5 ∷ 4 ∷ 4 ∷ []

-- clock, streams held
abbrev pub clock_widths : List ℕ
clock_widths = width_of.clock ∷ 1 ∷ []

-- a port's totals of class A and class B; that of B may come up to both limits
abbrev pub totals_widths : List ℕ
totals_widths = width_of.total_a ∷ width_of.total_b ∷ []

-- a Domain value of a port: registered, leaving, since, VLAN
abbrev pub slot_widths : List ℕ
slot_widths = 1 ∷ 1 ∷ 4 ∷ 2 ∷ []

-- whether a port is at the edge of class A's domain, and of class B's
abbrev pub boundary_widths : List ℕ
boundary_widths = 1 ∷ 1 ∷ []

-- how many addresses a port holds; and one of them: registered, leaving, since, address
abbrev pub address_count_widths : List ℕ
address_count_widths = 1 ∷ []

abbrev pub address_widths : List ℕ
address_widths = 1 ∷ 1 ∷ 4 ∷ width_of.mac ∷ []

-- a Talker's fixed values: destination, VLAN, MaxFrameSize, MaxIntervalFrames, priority and rank
abbrev pub fixed_widths : List ℕ
fixed_widths = 6 ∷ 2 ∷ 2 ∷ 2 ∷ 1 ∷ []

-- a stream's StreamID and settled values
abbrev pub name_widths : List ℕ
name_widths = width_of.stream_id ∷ fixed_widths

-- leaving, since
abbrev pub leaving_widths : List ℕ
leaving_widths = 1 ∷ 4 ∷ []

-- Bridge ID and code of a failure
abbrev pub failure_widths : List ℕ
failure_widths = 8 ∷ 1 ∷ []

-- what varies in a Talker, behind its fixed values: latency and failure
abbrev pub varying_widths : List ℕ
varying_widths = 4 ∷ failure_widths

-- a cell. Talker: kind (0 none, 1 Advertise, 2 Failed), changed mark, leaving, since, fixed values, latency, Bridge ID, code, first
-- latency. Listener: kind (0 none, 1 Asking Failed, 2 Ready, 3 Ready Failed), leaving, since
abbrev pub cell_widths : List ℕ
cell_widths = 1 ∷ 1 ∷ 1 ∷ 4 ∷ 6 ∷ 2 ∷ 2 ∷ 2 ∷ 1 ∷ 4 ∷ 8 ∷ 1 ∷ 4 ∷ 1 ∷ 1 ∷ 4 ∷ []

-- a result: column (0 none, 1 Advertise, 2 Failed), latency out, Bridge ID, code, entry (0 none, 1 filter, 2 forward), the second
-- that its age counts from, Listener declared
abbrev pub result_widths : List ℕ
result_widths = 1 ∷ 4 ∷ 8 ∷ 1 ∷ 1 ∷ 4 ∷ 1 ∷ []

-- what a port sends of a stream (02, xiv): an Applicant is one octet of its state, then the values last declared. Of an Advertise they are
-- destination, VLAN, MaxFrameSize, MaxIntervalFrames, priority and rank, latency out, in the order of a FirstValue; of a Failed these, Bridge
-- ID and code; of a Listener its declaration type
abbrev pub applicant_widths : List ℕ
applicant_widths = 1 ∷ []

abbrev pub offer_widths : List ℕ
offer_widths = 6 ∷ 2 ∷ 2 ∷ 2 ∷ 1 ∷ 4 ∷ []

abbrev pub ready_widths : List ℕ
ready_widths = 1 ∷ []

-- a port's LeaveAll machine: active, the clock at which its timer was started
abbrev pub leave_all_widths : List ℕ
leave_all_widths = 1 ∷ 4 ∷ []

-- Sizes.

abbrev pub head_size : ℕ
head_size = sum head_widths

abbrev pub port_size : ℕ
port_size = sum port_widths

abbrev pub settings_size : ℕ
settings_size = head_size + 8 * port_size

abbrev pub clock_size : ℕ
clock_size = sum clock_widths

abbrev pub total_size : ℕ
total_size = sum totals_widths

abbrev pub totals_size : ℕ
totals_size = 8 * total_size

abbrev pub slot_size : ℕ
slot_size = sum slot_widths

-- two classes of eight priorities
abbrev pub slots : ℕ
slots = 16

abbrev pub slots_size : ℕ
slots_size = slots * slot_size

abbrev pub address_size : ℕ
address_size = sum address_widths

-- "Up to 64 addresses per port"
abbrev pub most_addresses : ℕ
most_addresses = 64

abbrev pub addresses_size : ℕ
addresses_size = most_addresses * address_size

-- what a port holds by itself
abbrev pub own_size : ℕ
own_size = slots_size + sum boundary_widths + sum address_count_widths + addresses_size

abbrev pub owns_size : ℕ
owns_size = 8 * own_size

abbrev pub fixed_size : ℕ
fixed_size = sum fixed_widths

abbrev pub name_size : ℕ
name_size = sum name_widths

abbrev pub cell_size : ℕ
cell_size = sum cell_widths

abbrev pub leaving_size : ℕ
leaving_size = sum leaving_widths

abbrev pub failure_size : ℕ
failure_size = sum failure_widths

abbrev pub cells_size : ℕ
cells_size = 8 * cell_size

abbrev pub result_size : ℕ
result_size = sum result_widths

abbrev pub results_size : ℕ
results_size = 8 * result_size

-- the values of an Advertise, of a Failed, of a Listener; and with the octet of the Applicant's state
abbrev pub applicant_size : ℕ
applicant_size = sum applicant_widths

abbrev pub offer_size : ℕ
offer_size = sum offer_widths

abbrev pub failed_size : ℕ
failed_size = offer_size + failure_size

abbrev pub ready_size : ℕ
ready_size = sum ready_widths

abbrev pub advertising_size : ℕ
advertising_size = applicant_size + offer_size

abbrev pub failing_size : ℕ
failing_size = applicant_size + failed_size

abbrev pub listening_size : ℕ
listening_size = applicant_size + ready_size

-- what a port sends of a stream
abbrev pub sends_size : ℕ
sends_size = advertising_size + (failing_size + listening_size)

abbrev pub all_sends_size : ℕ
all_sends_size = 8 * sends_size

-- what a port sends by itself: an Applicant for each Domain value, and its LeaveAll machine
abbrev pub sender_size : ℕ
sender_size = slots * applicant_size + sum leave_all_widths

abbrev pub senders_size : ℕ
senders_size = 8 * sender_size

abbrev pub record_size : ℕ
record_size = name_size + cells_size + results_size + all_sends_size

abbrev pub records_size : ℕ
records_size = 64 * record_size

-- Places in the settings, behind the Bridge ID: the word of ports, class priorities and leave time; talkerPruning and the Domain
-- values' VLAN; msrpMaxFanInPorts.

abbrev pub in_head : record { word : ℕ; vlan : ℕ; fan_in : ℕ }
in_head = record { word = before 1 head_widths; vlan = before 2 head_widths; fan_in = before 3 head_widths }

-- Places in the table: the settings of the ports, the clock, the number of streams held, the totals, what the ports hold and
-- what they send by themselves, the records.

abbrev pub in_table : record { ports : ℕ; clock : ℕ; count : ℕ; totals : ℕ; owns : ℕ; senders : ℕ; records : ℕ }
in_table = record {
  ports = head_size;
  clock = settings_size;
  count = settings_size + before 1 clock_widths;
  totals = settings_size + clock_size;
  owns = settings_size + clock_size + totals_size;
  senders = settings_size + clock_size + totals_size + owns_size;
  records = settings_size + clock_size + totals_size + owns_size + senders_size;
}

abbrev pub table_length : ℕ
table_length = in_table.records + records_size

-- the settings, the totals, what is held and what is sent by the port at place p, the record of stream k
abbrev pub port_place : ℕ → ℕ
port_place p = in_table.ports + p * port_size

abbrev pub total_place : ℕ → ℕ
total_place p = in_table.totals + p * total_size

abbrev pub own_place : ℕ → ℕ
own_place p = in_table.owns + p * own_size

abbrev pub sender_place : ℕ → ℕ
sender_place p = in_table.senders + p * sender_size

abbrev pub record_place : ℕ → ℕ
record_place k = in_table.records + k * record_size

-- Places in what a port holds by itself: behind the Domain values the flags, then how many addresses are held, and the addresses.

abbrev pub in_own : record { boundary_a : ℕ; boundary_b : ℕ; count : ℕ; addresses : ℕ }
in_own = record {
  boundary_a = slots_size;
  boundary_b = slots_size + before 1 boundary_widths;
  count = slots_size + sum boundary_widths;
  addresses = slots_size + sum boundary_widths + sum address_count_widths;
}

-- the Domain value in slot i, and address i
abbrev pub slot_in : ℕ → ℕ
slot_in i = i * slot_size

abbrev pub address_in : ℕ → ℕ
address_in i = in_own.addresses + i * address_size

-- the Domain value in slot i of the port at place p
abbrev pub slot_place : ℕ → ℕ → ℕ
slot_place p i = own_place p + slot_in i

-- Places in what a port sends by itself: the Applicant of slot i, the LeaveAll machine and its timer.

abbrev pub applicant_in : ℕ → ℕ
applicant_in i = i * applicant_size

abbrev pub in_sender : record { leave_all : ℕ; timer : ℕ }
in_sender = record { leave_all = slots * applicant_size; timer = slots * applicant_size + before 1 leave_all_widths }

-- Places in a record: the settled values and their priority, the cells, the results and what is sent.

abbrev pub in_record : record { settled : ℕ; priority : ℕ; cells : ℕ; results : ℕ; sends : ℕ }
in_record = record {
  settled = before 1 name_widths;
  priority = before 5 name_widths;
  cells = name_size;
  results = name_size + cells_size;
  sends = name_size + cells_size + results_size;
}

abbrev pub cell_in : ℕ → ℕ
cell_in p = in_record.cells + p * cell_size

abbrev pub result_in : ℕ → ℕ
result_in p = in_record.results + p * result_size

abbrev pub sends_in : ℕ → ℕ
sends_in p = in_record.sends + p * sends_size

-- Places in what is sent of a stream on a port: the Applicants of its Advertise, its Failed and its Listener.

abbrev pub in_sends : record { advertising : ℕ; failing : ℕ; listening : ℕ }
in_sends = record { advertising = 0; failing = advertising_size; listening = advertising_size + failing_size }

-- Places in the table of stream k's settled values, and of its cell, its result and what is sent of it on the port at place p.

abbrev pub settled_of : ℕ → ℕ
settled_of k = record_place k + in_record.settled

abbrev pub cell_place : ℕ → ℕ → ℕ
cell_place k p = record_place k + cell_in p

abbrev pub result_place : ℕ → ℕ → ℕ
result_place k p = record_place k + result_in p

abbrev pub sends_place : ℕ → ℕ → ℕ
sends_place k p = record_place k + sends_in p

-- Places in a port's settings, and in its totals.

abbrev pub in_port : record { overhead : ℕ; largest : ℕ; limit_a : ℕ; limit_b : ℕ; latency_a : ℕ; latency_b : ℕ }
in_port = record {
  overhead = before 1 port_widths;
  largest = before 2 port_widths;
  limit_a = before 3 port_widths;
  limit_b = before 4 port_widths;
  latency_a = before 5 port_widths;
  latency_b = before 6 port_widths;
}

abbrev pub in_totals : record { total_b : ℕ }
in_totals = record { total_b = before 1 totals_widths }

-- Fields of a cell by their index among its numbers, and their places; the Talker's stand before the Listener's.

pub record OfCell : Type 0 where
  pub talker : ℕ
  pub changed : ℕ
  pub talker_leaves : ℕ
  pub talker_since : ℕ
  pub fixed : ℕ
  pub vlan : ℕ
  pub priority : ℕ
  pub latency : ℕ
  pub bridge : ℕ
  pub code : ℕ
  pub first_latency : ℕ
  pub listener : ℕ
  pub listener_leaves : ℕ
  pub listener_since : ℕ

abbrev pub cell_index : OfCell
cell_index = record {
  talker = 0;
  changed = 1;
  talker_leaves = 2;
  talker_since = 3;
  fixed = 4;
  vlan = 5;
  priority = 8;
  latency = 9;
  bridge = 10;
  code = 11;
  first_latency = 12;
  listener = 13;
  listener_leaves = 14;
  listener_since = 15;
}

abbrev pub in_cell : OfCell
in_cell = record {
  talker = before cell_index.talker cell_widths;
  changed = before cell_index.changed cell_widths;
  talker_leaves = before cell_index.talker_leaves cell_widths;
  talker_since = before cell_index.talker_since cell_widths;
  fixed = before cell_index.fixed cell_widths;
  vlan = before cell_index.vlan cell_widths;
  priority = before cell_index.priority cell_widths;
  latency = before cell_index.latency cell_widths;
  bridge = before cell_index.bridge cell_widths;
  code = before cell_index.code cell_widths;
  first_latency = before cell_index.first_latency cell_widths;
  listener = before cell_index.listener cell_widths;
  listener_leaves = before cell_index.listener_leaves cell_widths;
  listener_since = before cell_index.listener_since cell_widths;
}

-- all fields of a cell, and the octets of its Listener's
abbrev pub cell_fields : ℕ
cell_fields = 16

abbrev pub listener_size : ℕ
listener_size = cell_size - in_cell.listener

-- Fields of a result by their index among its numbers, and their places.

pub record OfResult : Type 0 where
  pub column : ℕ
  pub latency : ℕ
  pub bridge : ℕ
  pub code : ℕ
  pub entry : ℕ
  pub age : ℕ
  pub declared : ℕ

abbrev pub result_index : OfResult
result_index = record { column = 0; latency = 1; bridge = 2; code = 3; entry = 4; age = 5; declared = 6 }

abbrev pub in_result : OfResult
in_result = record {
  column = before result_index.column result_widths;
  latency = before result_index.latency result_widths;
  bridge = before result_index.bridge result_widths;
  code = before result_index.code result_widths;
  entry = before result_index.entry result_widths;
  age = before result_index.age result_widths;
  declared = before result_index.declared result_widths;
}

-- Fields of a Domain value and of an address by their index among their numbers, and those places in them that are not the first.

abbrev pub slot_index : record { registered : ℕ; leaves : ℕ; since : ℕ; vlan : ℕ }
slot_index = record { registered = 0; leaves = 1; since = 2; vlan = 3 }

abbrev pub in_slot : record { leaves : ℕ; vlan : ℕ }
in_slot = record { leaves = before slot_index.leaves slot_widths; vlan = before slot_index.vlan slot_widths }

abbrev pub address_index : record { registered : ℕ; leaves : ℕ; since : ℕ; mac : ℕ }
address_index = record { registered = 0; leaves = 1; since = 2; mac = 3 }

abbrev pub in_address : record { leaves : ℕ; mac : ℕ }
in_address = record { leaves = before address_index.leaves address_widths; mac = before address_index.mac address_widths }

-- The unit of talkerPruning in its field, above the VLAN.
abbrev pub pruning_unit : ℕ
pruning_unit = 2 ^ 15

-- Units of the settings' word, from its lowest field up (14 bits, 3, 3): its number divided by one gives the fields above, its
-- remainder those below.

abbrev pub priority_b_unit : ℕ
priority_b_unit = 2 ^ 14

abbrev pub priority_a_unit : ℕ
priority_a_unit = 8 * priority_b_unit

abbrev pub ports_unit : ℕ
ports_unit = 8 * priority_a_unit
