-- Settling: what advance decides (01, "Settling"; 35.2.4).
use Rattle.std.specs.Prelude.{List, [], ◌∷◌, map, Bool, true, false, cond, not, ◌&&◌, ◌||◌, ℕ, suc, ◌+◌, ◌/◌, take, drop, ltb, leb, eqb}
use Rattle.model.specs.Lists.{keep, tabulate, count_to}
use Rattle.model.specs.State.{Port, Settings, Leaving, stays, since, Fixed, TalkerType, talker_advertise, talker_failed, Registration, Talker, no_talker, talker, Ready, asking_failed, ready, ready_failed, Listener, no_listener, listener, Cell, Domain, no_domain, domain, Presence, vacant, present, Address, Own, Column, none, advertise, failed, Entry, no_entry, filters, forwards, Declared, nothing, tells, Offer, Failure, Sends, Sender, Result, Stream, Totals, Bridge, no_fixed, port_at, is_port, cell_at, result_at, sends_at, sender_at, own_at, Class, no_class, class_a, class_b, class_of, is_no_class, same_class, supports, in_force, class_latency, class_priority, ready_number}
use Rattle.model.specs.Machines.{Applicant, no_applicant, applicant, Decided, undeclared, declared, decided}
use Rattle.model.specs.LeaveAll.{timed_out}
use Rattle.model.specs.Registrations.{Answer, same_fixed}
use Rattle.model.specs.Bandwidth.{Claim, demand, rate_of, fits, remains, total}

-- Removal: "removes every registration leaving for at least the leave time".

unfoldable pub expired : Settings → ℕ → Leaving → Bool
expired st now stays = false
expired st now (since t) = leb (t + st.leave_time) now

unfoldable pub expire_talker : Settings → ℕ → Talker → Talker
expire_talker st now no_talker = no_talker
expire_talker st now (talker r) = cond (expired st now r.leaving) no_talker (talker r)

unfoldable pub expire_listener : Settings → ℕ → Listener → Listener
expire_listener st now no_listener = no_listener
expire_listener st now (listener r l) = cond (expired st now l) no_listener (listener r l)

unfoldable pub expire_cell : Settings → ℕ → Cell → Cell
expire_cell st now c = record { talks = expire_talker st now c.talks; hears = expire_listener st now c.hears }

unfoldable pub expire : Settings → ℕ → Stream → Stream
expire st now x = record { id = x.id; settled = x.settled; cells = map (expire_cell st now) x.cells; results = x.results; sends = x.sends }

unfoldable pub is_talking : Cell → Bool
is_talking c = elim c.talks [ no_talker ↦ false | talker r ↦ true ]

unfoldable pub is_hearing : Cell → Bool
is_hearing c = elim c.hears [ no_listener ↦ false | listener r l ↦ true ]

-- some port has a registration
unfoldable pub held : List Cell → Bool
held [] = false
held (c ∷ cs) = is_talking c || is_hearing c || held cs

unfoldable pub is_applicant : {D : Type 0} → Applicant D → Bool
is_applicant no_applicant = false
is_applicant (applicant x) = true

-- some port has a declaration, an unsent Lv included
unfoldable pub is_sending : Sends → Bool
is_sending s = is_applicant s.advertising || is_applicant s.failing || is_applicant s.listening

unfoldable pub any_sending : List Sends → Bool
any_sending [] = false
any_sending (s ∷ ss) = is_sending s || any_sending ss

-- "A stream is held while some port has a registration of its StreamID", or an unsent Lv (02, xiv)
unfoldable pub is_held : Stream → Bool
is_held x = held x.cells || any_sending x.sends

unfoldable pub drop_unheld : List Stream → List Stream
drop_unheld [] = []
drop_unheld (x ∷ s) = keep (is_held x) x (drop_unheld s)

-- what remains of each stream; unheld ones are dropped at the end, when their Lv! was decided
unfoldable pub remain : Settings → ℕ → List Stream → List Stream
remain st now s = map (expire st now) s

-- The Talker: "The Talker port t of a stream is the lowest port with a Talker registration"; with what is registered there.

-- the Talker port
pub record Origin : Type 0 where
  pub port : ℕ
  pub registration : Registration

pub data Source : Type 0 where
  nowhere : Source
  from : Origin → Source

unfoldable pub source : ℕ → List Cell → Source
source p [] = nowhere
source p (c ∷ cs) = elim c.talks [ no_talker ↦ source (suc p) cs | talker r ↦ from record { port = p; registration = r } ]

unfoldable pub source_of : Stream → Source
source_of x = source 0 x.cells

unfoldable pub is_source : Source → ℕ → Bool
is_source nowhere p = false
is_source (from o) p = eqb o.port p

unfoldable pub fixed_of : Source → Fixed
fixed_of nowhere = no_fixed
fixed_of (from o) = o.registration.fixed

unfoldable pub latency_of : Source → ℕ
latency_of nowhere = 0
latency_of (from o) = o.registration.varying.latency

unfoldable pub first_latency_of : Source → ℕ
first_latency_of nowhere = 0
first_latency_of (from o) = o.registration.first_latency

unfoldable pub talker_type_of : Source → TalkerType
talker_type_of nowhere = talker_advertise
talker_type_of (from o) = o.registration.varying.type

unfoldable pub stream_class : Settings → Stream → Class
stream_class st x = class_of st (fixed_of (source_of x)).priority

-- the Listener registered in a cell
unfoldable pub registered : Cell → Declared
registered c = elim c.hears [ no_listener ↦ nothing | listener r l ↦ tells r ]

unfoldable pub is_ready : Declared → Bool
is_ready nothing = false
is_ready (tells asking_failed) = false
is_ready (tells ready) = true
is_ready (tells ready_failed) = true

unfoldable pub is_advertise : Column → Bool
is_advertise none = false
is_advertise advertise = true
is_advertise (failed b c) = false

-- The edge of the domain: "The boundary flag, clear at start, follows 35.2.1.4 h) and is decided in advance after the removals".

unfoldable pub expire_domain : Settings → ℕ → Domain → Domain
expire_domain st now no_domain = no_domain
expire_domain st now (domain v l) = cond (expired st now l) no_domain (domain v l)

unfoldable pub is_domain : Domain → Bool
is_domain no_domain = false
is_domain (domain v l) = true

-- of the Domain values of a class, by priority from q on: one is registered; one of another priority than the bridge's is
unfoldable pub any_domain : List Domain → Bool
any_domain [] = false
any_domain (d ∷ ds) = is_domain d || any_domain ds

unfoldable pub other_priority : ℕ → ℕ → List Domain → Bool
other_priority priority q [] = false
other_priority priority q (d ∷ ds) = (is_domain d && not (eqb q priority)) || other_priority priority (suc q) ds

-- a port's Domain values of a class: class ID 5 before 6
unfoldable pub domains_of : Class → List Domain → List Domain
domains_of no_class ds = []
domains_of class_a ds = drop 8 ds
domains_of class_b ds = take 8 ds

unfoldable pub any_supports : Class → List Port → Bool
any_supports c [] = false
any_supports c (q ∷ qs) = supports q c || any_supports c qs

-- h): a port that declares the class (here: supports it) is at its edge where no Domain value of the class is registered, or one
-- of another priority is; any other port where some port declares it
unfoldable pub is_edge : Settings → ℕ → Class → List Domain → Bool
is_edge st p c ds =
    let values = domains_of c ds in
    cond (supports (port_at st p) c) (not (any_domain values) || other_priority (class_priority st c) 0 values) (any_supports c st.ports)

-- a place that is no port has no flag
unfoldable pub flag_of : Settings → ℕ → Class → List Domain → Bool
flag_of st p c ds = is_port st p && is_edge st p c ds

-- Addresses: removed as every registration is.

-- it is registered, and not for so long leaving that the removals end it
unfoldable pub outlasts : Settings → ℕ → Presence → Bool
outlasts st now vacant = false
outlasts st now (present l) = not (expired st now l)

unfoldable pub remain_addresses : Settings → ℕ → List Address → List Address
remain_addresses st now [] = []
remain_addresses st now (a ∷ l) = keep (outlasts st now a.presence) a (remain_addresses st now l)

-- an address that a port holds; one that is leaving is held too
unfoldable pub holds_address : ℕ → List Address → Bool
holds_address m [] = false
holds_address m (a ∷ l) = eqb m a.mac || holds_address m l

unfoldable pub decide_own : Settings → ℕ → List Own → ℕ → Own
decide_own st now o p =
    let ds = map (expire_domain st now) (own_at o p).domains in
    record { domains = ds; boundary_a = flag_of st p class_a ds; boundary_b = flag_of st p class_b ds; addresses = remain_addresses st now (own_at o p).addresses }

unfoldable pub decide_owns : Settings → ℕ → List Own → List Own
decide_owns st now o = tabulate 8 0 (decide_own st now o)

-- the flag of a class
unfoldable pub boundary : Own → Class → Bool
boundary o no_class = false
boundary o class_a = o.boundary_a
boundary o class_b = o.boundary_b

-- What the other streams' columns ask of a stream with a Talker: its StreamID, and its Talker port with what is registered there.
pub record Inbound : Type 0 where
  pub id : ℕ
  pub origin : Origin

-- the stream with StreamID n, if it has a Talker, before those behind it
unfoldable pub add_inbound : ℕ → Source → List Inbound → List Inbound
add_inbound n nowhere l = l
add_inbound n (from o) l = record { id = n; origin = o } ∷ l

unfoldable pub inbounds_of : List Stream → List Inbound
inbounds_of [] = []
inbounds_of (x ∷ s) = add_inbound x.id (source_of x) (inbounds_of s)

-- Inbound ports (02, x; msrpMaxFanInPorts): "such a port is one that is t for some stream"
unfoldable pub is_inbound : List Inbound → ℕ → Bool
is_inbound [] p = false
is_inbound (i ∷ l) p = eqb i.origin.port p || is_inbound l p

-- "the number of ports with an inbound Talker among those numbered below it"
unfoldable pub inbound_below : List Inbound → ℕ → ℕ
inbound_below l p = count_to (is_inbound l) p

-- "A port may bring streams in if .. is less than the limit"; "0 means no limit"
unfoldable pub may_bring : ℕ → List Inbound → ℕ → Bool
may_bring limit l p = eqb limit 0 || ltb (inbound_below l p) limit

-- the stream comes in on another port
unfoldable pub is_kept_out : ℕ → List Inbound → Origin → Bool
is_kept_out limit l o = not (may_bring limit l o.port)

-- Shared addresses (02, x): "a stream whose destination and VLAN at its t equal those of a lower StreamID at that one's t"
unfoldable pub same_address : Fixed → Fixed → Bool
same_address f g = eqb f.destination g.destination && eqb f.vlan g.vlan

unfoldable pub same_address_at : Origin → Origin → Bool
same_address_at o q = same_address o.registration.fixed q.registration.fixed

unfoldable pub shares : List Inbound → Inbound → Bool
shares [] i = false
shares (j ∷ l) i = (ltb j.id i.id && same_address_at j.origin i.origin) || shares l i

-- What the columns of all streams are decided by, beside the streams: the settings, what the ports hold by themselves, and what
-- comes in.
pub record Scene : Type 0 where
  pub settings : Settings
  pub owns : List Own
  pub inbound : List Inbound

-- of a bridge as it stands
abbrev pub scene_of : Bridge → Scene
scene_of b = record { settings = b.settings; owns = b.owns; inbound = inbounds_of b.streams }

-- The column: "first that applies".

-- what a step gives: column none, the failure registered at t, Advertise, or an own failure of some code
pub data Outcome : Type 0 where
  column_none as_registered as_advertise : Outcome
  own_failure : (code : ℕ) → Outcome

-- 01's letters of the steps, later ones by landing (02, ix); and none, for what no step decides
pub data StepName : Type 0 where
  no_step step_a step_b step_c step_d step_e step_f step_g step_h step_i step_j step_k step_l step_m step_n : StepName

-- each step's letter, by its octet in ASCII, and what it gives
pub record About : Type 0 where
  pub letter : ℕ
  pub outcome : Outcome

abbrev pub about : StepName → About
about no_step = record { letter = 0; outcome = column_none }
about step_a = record { letter = 97; outcome = column_none }
about step_b = record { letter = 98; outcome = column_none }
about step_c = record { letter = 99; outcome = as_registered }
about step_d = record { letter = 100; outcome = own_failure 16 }
about step_e = record { letter = 101; outcome = own_failure 4 }
about step_f = record { letter = 102; outcome = own_failure 13 }
about step_g = record { letter = 103; outcome = own_failure 14 }
about step_h = record { letter = 104; outcome = own_failure 1 }
about step_i = record { letter = 105; outcome = as_advertise }
about step_j = record { letter = 106; outcome = own_failure 8 }
about step_k = record { letter = 107; outcome = own_failure 7 }
about step_l = record { letter = 108; outcome = own_failure 5 }
about step_m = record { letter = 109; outcome = own_failure 15 }
about step_n = record { letter = 110; outcome = column_none }

-- a step of a list: whether it applies
pub record Step : Type 0 where
  pub name : StepName
  pub test : Bool

abbrev pub outcome_of : Step → Outcome
outcome_of s = (about s.name).outcome

unfoldable pub first : (Outcome → Column) → List Step → Column → Column
first says [] c = c
first says (s ∷ l) c = cond s.test (says (outcome_of s)) (first says l c)

-- none of the steps applies
unfoldable pub clear : List Step → Bool
clear [] = true
clear (s ∷ l) = not s.test && clear l

unfoldable pub is_talker_failed : TalkerType → Bool
is_talker_failed talker_advertise = false
is_talker_failed (talker_failed b c) = true

unfoldable pub failed_column : TalkerType → Column
failed_column talker_advertise = none
failed_column (talker_failed b c) = failed b c

-- the column that an outcome is; "Own failures carry this Bridge ID"
unfoldable pub outcome_column : Settings → Source → Outcome → Column
outcome_column st s column_none = none
outcome_column st s as_registered = failed_column (talker_type_of s)
outcome_column st s as_advertise = advertise
outcome_column st s (own_failure code) = failed st.bridge_id code

-- talkerPruning (35.2.4.3.1; 02, vi): "With pruning on, a port without the stream's destination gets column none"
unfoldable pub is_pruned : Settings → Own → Fixed → Bool
is_pruned st o f = st.pruning && not (holds_address f.destination o.addresses)

-- the steps before h in their order, on the port at place p whose cell is here, of the stream with StreamID n: without a Talker a
-- alone; 02, v: "While the present one is larger, an Advertise is declared Failed with code 7", and x: "Test 5, then 15"
unfoldable pub steps_from : Scene → ℕ → Cell → ℕ → Source → List Step
steps_from sc p here n nowhere = record { name = step_a; test = true } ∷ []
steps_from sc p here n (from o) =
    let st = sc.settings in
    let r = o.registration in
    let c = class_of st r.fixed.priority in
    record { name = step_a; test = eqb p o.port }
    ∷ record { name = step_b; test = not (supports (port_at st p) c) }
    ∷ record { name = step_n; test = is_pruned st (own_at sc.owns p) r.fixed }
    ∷ record { name = step_c; test = is_talker_failed r.varying.type }
    ∷ record { name = step_d; test = r.changed }
    ∷ record { name = step_k; test = ltb r.first_latency r.varying.latency }
    ∷ record { name = step_e; test = is_talking here }
    ∷ record { name = step_f; test = is_no_class c }
    ∷ record { name = step_j; test = boundary (own_at sc.owns p) c }
    ∷ record { name = step_l; test = shares sc.inbound record { id = n; origin = o } }
    ∷ record { name = step_m; test = is_kept_out st.fan_in sc.inbound o }
    ∷ record { name = step_g; test = ltb (port_at st p).largest r.fixed.size }
    ∷ []

-- a place that is no port of this bridge has column none
unfoldable pub steps : Scene → ℕ → Stream → List Step
steps sc p x = record { name = step_a; test = not (is_port sc.settings p) } ∷ steps_from sc p (cell_at x p) x.id (source_of x)

-- "Age is counted from the whole second, clock / 100 rounded down, of the advance that first made an entry"; "An entry made
-- by this advance counts from this advance in the order above"
unfoldable pub age_of : ℕ → Result → ℕ
age_of now r = elim r.entry [ no_entry ↦ now / 100 | filters ↦ r.age | forwards ↦ r.age ]

-- the stream as it stands at step h on the port at place p
unfoldable pub claim : Settings → ℕ → ℕ → Stream → Claim
claim st now p x =
    let f = fixed_of (source_of x) in
    record {
      id = x.id;
      rank = f.rank;
      age = age_of now (result_at x p);
      demand = (rate_of (class_of st f.priority) (demand (port_at st p) f)).bits;
      ready = is_ready (registered (cell_at x p));
    }

-- the streams of a class that reach step h on a port
unfoldable pub claims : Scene → ℕ → ℕ → Class → List Stream → List Claim
claims sc now p c [] = []
claims sc now p c (x ∷ s) = keep (clear (steps sc p x) && same_class (stream_class sc.settings x) c) (claim sc.settings now p x) (claims sc now p c s)

-- A's total, "Settle A first as now": no other class plays a part in it
unfoldable pub reserved_a : Scene → ℕ → List Stream → ℕ → ℕ
reserved_a sc now s p = total (port_at sc.settings p).limit_a (claims sc now p class_a s)

-- the limit in force: class B may use what class A leaves on the port in this same advance
unfoldable pub limit_on : Scene → ℕ → List Stream → ℕ → Class → ℕ
limit_on sc now s p c = in_force (port_at sc.settings p) (reserved_a sc now s p) c

-- what is left for a stream on a port
unfoldable pub left_for : Scene → ℕ → List Stream → ℕ → Stream → ℕ
left_for sc now s p x =
    let c = stream_class sc.settings x in
    remains (limit_on sc now s p c) (claims sc now p c s) (claim sc.settings now p x)

-- behind the steps h, "demand above what is left", and i; a list of their own, since what is left is found from the lists above of
-- all streams of the class
unfoldable pub bandwidth_steps : ℕ → ℕ → List Step
bandwidth_steps demand left = record { name = step_h; test = not (fits demand left) } ∷ record { name = step_i; test = true } ∷ []

unfoldable pub by_bandwidth : Settings → ℕ → ℕ → Column
by_bandwidth st demand left = first (outcome_column st nowhere) (bandwidth_steps demand left) none

unfoldable pub column_of : Scene → ℕ → List Stream → ℕ → Stream → Column
column_of sc now s p x =
    let st = sc.settings in
    first (outcome_column st (source_of x)) (steps sc p x) (by_bandwidth st (claim st now p x).demand (left_for sc now s p x))

-- "Latency out is latency in plus the class latency of p (0 without a class), at most 2^32 - 1"
unfoldable pub capped : ℕ → ℕ
capped n = cond (ltb 4294967295 n) 4294967295 n

unfoldable pub latency_out : Settings → ℕ → Stream → ℕ
latency_out st p x = capped (latency_of (source_of x) + class_latency (port_at st p) (stream_class st x))

-- Entries and Listeners.

-- Table 35-12: "with column none, no entry without a Listener, else filtering; Advertise with Ready or Ready Failed forwards;
-- all else filters"
unfoldable pub entry_of : Column → Declared → Entry
entry_of none nothing = no_entry
entry_of none (tells r) = filters
entry_of advertise d = cond (is_ready d) forwards filters
entry_of (failed b c) d = filters

-- "it is forgotten when the entry goes"
unfoldable pub age_kept : Entry → ℕ → ℕ
age_kept no_entry a = 0
age_kept filters a = a
age_kept forwards a = a

unfoldable pub latency_kept : Column → ℕ → ℕ
latency_kept none n = 0
latency_kept advertise n = n
latency_kept (failed b c) n = n

-- "Listener passed on from p: none for column none or no Listener; as registered for Advertise; Asking Failed for Failed"
unfoldable pub passed : Column → Declared → Declared
passed none d = nothing
passed advertise d = d
passed (failed b c) nothing = nothing
passed (failed b c) (tells r) = tells asking_failed

unfoldable pub same_ready : Ready → Ready → Bool
same_ready r q = eqb (ready_number r) (ready_number q)

-- "Merged on t (35-14): alike gives itself; none gives the other; any two unlike give Ready Failed"
unfoldable pub merge : Declared → Declared → Declared
merge nothing d = d
merge (tells r) nothing = tells r
merge (tells r) (tells q) = cond (same_ready r q) (tells r) (tells ready_failed)

unfoldable pub merge_all : List Declared → Declared
merge_all [] = nothing
merge_all (d ∷ l) = merge d (merge_all l)

unfoldable pub merged : Scene → ℕ → List Stream → Stream → Declared
merged sc now s x = merge_all (tabulate 8 0 (λ q. passed (column_of sc now s q x) (registered (cell_at x q))))

-- The decision.

unfoldable pub decide_at : Scene → ℕ → List Stream → Stream → ℕ → Result
decide_at sc now s x p =
    let column = column_of sc now s p x in
    let entry = entry_of column (registered (cell_at x p)) in
    record {
      column = column;
      latency = latency_kept column (latency_out sc.settings p x);
      entry = entry;
      age = age_kept entry (age_of now (result_at x p));
      declares = cond (is_source (source_of x) p) (merged sc now s x) nothing;
    }

unfoldable pub decide : Scene → ℕ → List Stream → Stream → Stream
decide sc now s x = record {
  id = x.id;
  settled = fixed_of (source_of x);
  cells = x.cells;
  results = tabulate 8 0 (decide_at sc now s x);
  sends = x.sends;
}

-- Declarations (02, xiv): Join! of what is decided, Lv! of what is not. A port declares what its result says, with the settled values.

unfoldable pub advertised_by : Fixed → Result → Column → Decided Offer
advertised_by f r none = undeclared
advertised_by f r advertise = declared record { fixed = f; latency = r.latency }
advertised_by f r (failed b c) = undeclared

unfoldable pub failed_by : Fixed → Result → Column → Decided (Offer × Failure)
failed_by f r none = undeclared
failed_by f r advertise = undeclared
failed_by f r (failed b c) = declared (record { fixed = f; latency = r.latency }, record { bridge = b; code = c })

unfoldable pub listened_by : Declared → Decided Ready
listened_by nothing = undeclared
listened_by (tells r) = declared r

-- "other content": any octet of a Talker's FirstValue, a Listener's declaration type
unfoldable pub same_offer : Offer → Offer → Bool
same_offer x y = same_fixed x.fixed y.fixed && eqb x.latency y.latency

unfoldable pub same_failed : Offer × Failure → Offer × Failure → Bool
same_failed x y = same_offer x.0 y.0 && (eqb x.1.bridge y.1.bridge && eqb x.1.code y.1.code)

unfoldable pub declare_sends : Fixed → Result → Sends → Sends
declare_sends f r s = record {
  advertising = decided same_offer (advertised_by f r r.column) s.advertising;
  failing = decided same_failed (failed_by f r r.column) s.failing;
  listening = decided same_ready (listened_by r.declares) s.listening;
}

unfoldable pub declare : Stream → Stream
declare x = record {
  id = x.id;
  settled = x.settled;
  cells = x.cells;
  results = x.results;
  sends = tabulate 8 0 (λ p. declare_sends x.settled (result_at x p) (sends_at x p));
}

-- leavealltimer! of each port
unfoldable pub time_sender : Settings → ℕ → List Sender → ℕ → Sender
time_sender st now l p =
    let s = sender_at l p in
    cond (is_port st p) record { domains = s.domains; leave_all = timed_out now s.leave_all } s

unfoldable pub total_on : Scene → ℕ → List Stream → ℕ → Class → ℕ
total_on sc now s p c = total (limit_on sc now s p c) (claims sc now p c s)

unfoldable pub totals_on : Scene → ℕ → List Stream → ℕ → Totals
totals_on sc now s p = record { total_a = total_on sc now s p class_a; total_b = total_on sc now s p class_b }

-- "Advance sets the clock, removes every registration leaving for at least the leave time .., then decides"
unfoldable pub deciding : ℕ → Bridge → Bridge
deciding now b =
    let st = b.settings in
    let s = remain st now b.streams in
    let sc : Scene = record { settings = st; owns = decide_owns st now b.owns; inbound = inbounds_of s } in
    record {
      settings = st;
      clock = now;
      totals = tabulate 8 0 (totals_on sc now s);
      owns = sc.owns;
      senders = b.senders;
      streams = map (decide sc now s) s;
    }

-- then Lv! and Join!, unheld streams are dropped, and last leavealltimer! (02, xiv)
unfoldable pub declaring : Bridge → Bridge
declaring b = record {
  settings = b.settings;
  clock = b.clock;
  totals = b.totals;
  owns = b.owns;
  senders = tabulate 8 0 (time_sender b.settings b.clock b.senders);
  streams = drop_unheld (map declare b.streams);
}

unfoldable pub settle : ℕ → Bridge → Bridge
settle now b = declaring (deciding now b)

-- 9: "time is below the held clock"
unfoldable pub advance : Bridge → ℕ → Answer
advance b now = cond (ltb now b.clock) record { number = 9; bridge = b } record { number = 0; bridge = settle now b }
