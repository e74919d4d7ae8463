-- Registering: what the acts of a frame do to the streams held (01, "Registering", and number 8).
use Rattle.std.specs.Prelude.{List, [], ◌∷◌, map, Bool, true, false, cond, ◌&&◌, ℕ, zero, suc, ◌-◌, length, ltb, leb, eqb}
use Rattle.model.specs.Layout.{most_addresses}
use Rattle.model.specs.Applicant.{Standing, becomes}
use Rattle.model.specs.Machines.{Applicant, Heard, heard_leave, heard_event, moved, heard}
use Rattle.model.specs.LeaveAll.{r_la, leave_all_next}
use Rattle.model.specs.State.{Leaving, stays, since, Presence, vacant, present, Address, Fixed, TalkerType, talker_advertise, talker_failed, Varying, Registration, Talker, no_talker, talker, Ready, Listener, no_listener, listener, Cell, Domain, no_domain, domain, Own, Sends, Sender, Stream, Bridge, fresh, own_at}

-- the AttributeTypes that register a stream
pub data Kind : Type 0 where
  advertises faileds listeners : Kind

-- what one event of a Domain value asks for; a value is named by its slot among a port's Domain values. The last two are heard by
-- Applicants.
pub data DomainAct : Type 0 where
  leave_all_domains : DomainAct
  leave_domain : (slot : ℕ) → DomainAct
  join_domain : (slot vlan : ℕ) → DomainAct
  hear_all_domains : DomainAct
  hear_domain : (slot : ℕ) → Heard → DomainAct

-- what one event of a MAC address asks for (02, vi: "the same Registrar rules")
pub data AddressAct : Type 0 where
  leave_all_addresses : AddressAct
  leave_address : (mac : ℕ) → AddressAct
  join_address : (mac : ℕ) → AddressAct

-- an MMRP frame is refused with a number, or read as a list of acts, whatever is held
pub data AddressReading : Type 0 where
  refused_frame : ℕ → AddressReading
  address_acts : List AddressAct → AddressReading

-- what one event of a frame asks for: of Registrars, and (`hear`, `hear_all`) of the Applicants of that AttributeType and key
pub data Act : Type 0 where
  leave_all : Kind → Act
  leave : Kind → (id : ℕ) → Act
  talk : (id : ℕ) → Fixed → Varying → Act
  listen : (id : ℕ) → Ready → Act
  hear_all : Kind → Act
  hear : Kind → (id : ℕ) → Heard → Act
  of_domain : DomainAct → Act

-- "if already leaving, by Lv or LeaveAll, the first time stays"
unfoldable pub begin : ℕ → Leaving → Leaving
begin now stays = since now
begin now (since t) = since t

-- a held Talker is of the AttributeType that it is held as
unfoldable pub talks_as : Kind → TalkerType → Bool
talks_as advertises talker_advertise = true
talks_as advertises (talker_failed b c) = false
talks_as faileds talker_advertise = false
talks_as faileds (talker_failed b c) = true
talks_as listeners h = false

unfoldable pub hears_as : Kind → Bool
hears_as advertises = false
hears_as faileds = false
hears_as listeners = true

unfoldable pub with_leaving : Leaving → Registration → Registration
with_leaving l r = record { fixed = r.fixed; varying = r.varying; first_latency = r.first_latency; changed = r.changed; leaving = l }

-- "Lv starts leaving, at the held clock, what is held of that StreamID and type"
unfoldable pub quit_talker : ℕ → Kind → Talker → Talker
quit_talker now k no_talker = no_talker
quit_talker now k (talker r) = talker (with_leaving (cond (talks_as k r.varying.type) (begin now r.leaving) r.leaving) r)

unfoldable pub quit_listener : ℕ → Kind → Listener → Listener
quit_listener now k no_listener = no_listener
quit_listener now k (listener r l) = listener r (cond (hears_as k) (begin now l) l)

unfoldable pub quit : ℕ → Kind → Cell → Cell
quit now k c = record { talks = quit_talker now k c.talks; hears = quit_listener now k c.hears }

unfoldable pub same_fixed : Fixed → Fixed → Bool
same_fixed f g =
    eqb f.destination g.destination && eqb f.vlan g.vlan && eqb f.size g.size
    && eqb f.frames g.frames && eqb f.priority g.priority && eqb f.rank g.rank

-- the join that makes the registration
unfoldable pub first_join : Fixed → Varying → Registration
first_join f v = record { fixed = f; varying = v; first_latency = v.latency; changed = false; leaving = stays }

-- "A Talker join whose destination, VLAN, TSpec, priority and rank equal the held ones replaces type, latency and failure
-- fields and clears the changed mark"
unfoldable pub same_join : Varying → Registration → Registration
same_join v r = record { fixed = r.fixed; varying = v; first_latency = r.first_latency; changed = false; leaving = stays }

-- "else the held type and values stay, leaving ends all the same, and the mark is set"
unfoldable pub other_join : Registration → Registration
other_join r = record { fixed = r.fixed; varying = r.varying; first_latency = r.first_latency; changed = true; leaving = stays }

unfoldable pub join_talker : Fixed → Varying → Talker → Talker
join_talker f v no_talker = talker (first_join f v)
join_talker f v (talker r) = talker (cond (same_fixed f r.fixed) (same_join v r) (other_join r))

-- what an act does to the one cell that it is about; "A Listener join replaces the declaration type"
unfoldable pub does : ℕ → Act → Cell → Cell
does now (leave_all k) c = quit now k c
does now (leave k i) c = quit now k c
does now (talk i f v) c = record { talks = join_talker f v c.talks; hears = c.hears }
does now (listen i r) c = record { talks = c.talks; hears = listener r stays }
does now (hear_all k) c = c
does now (hear k i h) c = c
does now (of_domain a) c = c

-- a stream's Applicant of a type on one port moved
unfoldable pub move_kind : Kind → (Standing → List Standing) → Sends → Sends
move_kind advertises f s = record { advertising = moved f s.advertising; failing = s.failing; listening = s.listening }
move_kind faileds f s = record { advertising = s.advertising; failing = moved f s.failing; listening = s.listening }
move_kind listeners f s = record { advertising = s.advertising; failing = s.failing; listening = moved f s.listening }

unfoldable pub hears : Kind → Heard → Sends → Sends
hears k h s = move_kind k (becomes false (heard_event h)) s

-- what an act does to the one place of what is sent that it is about: "Key: AttributeType and StreamID"
unfoldable pub moves : Act → Sends → Sends
moves (leave_all k) s = s
moves (leave k i) s = s
moves (talk i f v) s = s
moves (listen i r) s = s
moves (hear_all k) s = hears k heard_leave s
moves (hear k i h) s = hears k h s
moves (of_domain a) s = s

-- Whether a Registrar is IN: held, and not leaving.

unfoldable pub is_staying : Leaving → Bool
is_staying stays = true
is_staying (since t) = false

unfoldable pub talker_stays : Kind → Talker → Bool
talker_stays k no_talker = false
talker_stays k (talker r) = talks_as k r.varying.type && is_staying r.leaving

unfoldable pub listener_stays : Listener → Bool
listener_stays no_listener = false
listener_stays (listener r l) = is_staying l

unfoldable pub domain_stays : Domain → Bool
domain_stays no_domain = false
domain_stays (domain v l) = is_staying l

-- of an AttributeType in a cell
unfoldable pub registered_in : Kind → Cell → Bool
registered_in advertises c = talker_stays advertises c.talks
registered_in faileds c = talker_stays faileds c.talks
registered_in listeners c = listener_stays c.hears

-- a list with what stands at place p changed
unfoldable pub at : {A : Type 0} → ℕ → (A → A) → List A → List A
at p u [] = []
at zero u (c ∷ cs) = u c ∷ cs
at (suc p) u (c ∷ cs) = c ∷ at p u cs

-- only registrations and Applicants change: StreamID and results stay
unfoldable pub change : (List Cell → List Cell) → (List Sends → List Sends) → Stream → Stream
change u m x = record { id = x.id; settled = x.settled; cells = u x.cells; results = x.results; sends = m x.sends }

-- the stream i changed; where it is not held, a join makes it, in its place by StreamID, and anything else does nothing
unfoldable pub begun : Bool → ℕ → (Stream → Stream) → List Stream → List Stream
begun true i u s = u (fresh i) ∷ s
begun false i u s = s

unfoldable pub touch : Bool → ℕ → (Stream → Stream) → List Stream → List Stream
touch join i u [] = begun join i u []
touch join i u (x ∷ s) =
    cond (ltb i x.id) (begun join i u (x ∷ s))
    (cond (eqb i x.id) (u x ∷ s) (x ∷ touch join i u s))

-- which streams an act is about
unfoldable pub reach : Act → (Stream → Stream) → List Stream → List Stream
reach (leave_all k) u s = map u s
reach (leave k i) u s = touch false i u s
reach (talk i f v) u s = touch true i u s
reach (listen i r) u s = touch true i u s
reach (hear_all k) u s = map u s
reach (hear k i h) u s = touch false i u s
reach (of_domain a) u s = s

-- an act on the port at place p, at time now; then the acts of a frame, in their order
unfoldable pub apply : ℕ → ℕ → Act → List Stream → List Stream
apply now p a s = reach a (change (at p (does now a)) (at p (moves a))) s

unfoldable pub apply_all : ℕ → ℕ → List Act → List Stream → List Stream
apply_all now p [] s = s
apply_all now p (a ∷ es) s = apply_all now p es (apply now p a s)

-- Domain values: "the same joining, leaving and LeaveAll apply".

unfoldable pub quit_domain : ℕ → Domain → Domain
quit_domain now no_domain = no_domain
quit_domain now (domain v l) = domain v (begin now l)

-- "with the VLAN of the last join"
unfoldable pub does_domain : ℕ → DomainAct → List Domain → List Domain
does_domain now leave_all_domains ds = map (quit_domain now) ds
does_domain now (leave_domain i) ds = at i (quit_domain now) ds
does_domain now (join_domain i v) ds = at i (λ d. domain v stays) ds
does_domain now hear_all_domains ds = ds
does_domain now (hear_domain i h) ds = ds

-- only Domain values change: flags and addresses stay
unfoldable pub change_domains : (List Domain → List Domain) → Own → Own
change_domains u o = record { domains = u o.domains; boundary_a = o.boundary_a; boundary_b = o.boundary_b; addresses = o.addresses }

-- an act on the port at place p, of what the ports hold by themselves; then the acts of a frame, in their order
unfoldable pub apply_own : ℕ → ℕ → Act → List Own → List Own
apply_own now p (leave_all k) o = o
apply_own now p (leave k i) o = o
apply_own now p (talk i f v) o = o
apply_own now p (listen i r) o = o
apply_own now p (hear_all k) o = o
apply_own now p (hear k i h) o = o
apply_own now p (of_domain a) o = at p (change_domains (does_domain now a)) o

unfoldable pub apply_owns : ℕ → ℕ → List Act → List Own → List Own
apply_owns now p [] o = o
apply_owns now p (a ∷ es) o = apply_owns now p es (apply_own now p a o)

-- What a port sends by itself: Applicants of Domain values by class ID and priority; and "any type's" LeaveAll "stops and restarts the
-- port's one LeaveAll machine" (rLA!).

unfoldable pub hears_leave_all : ℕ → (List (Applicant (Unit {0})) → List (Applicant (Unit {0}))) → Sender → Sender
hears_leave_all now u s = record { domains = u s.domains; leave_all = leave_all_next now r_la s.leave_all }

unfoldable pub moves_sender : ℕ → Act → Sender → Sender
moves_sender now (leave_all k) s = s
moves_sender now (leave k i) s = s
moves_sender now (talk i f v) s = s
moves_sender now (listen i r) s = s
moves_sender now (hear_all k) s = hears_leave_all now (λ ds. ds) s
moves_sender now (hear k i h) s = s
moves_sender now (of_domain leave_all_domains) s = s
moves_sender now (of_domain (leave_domain i)) s = s
moves_sender now (of_domain (join_domain i v)) s = s
moves_sender now (of_domain hear_all_domains) s = hears_leave_all now (map (heard heard_leave)) s
moves_sender now (of_domain (hear_domain i h)) s = record { domains = at i (heard h) s.domains; leave_all = s.leave_all }

unfoldable pub apply_senders : ℕ → ℕ → List Act → List Sender → List Sender
apply_senders now p [] l = l
apply_senders now p (a ∷ es) l = apply_senders now p es (at p (moves_sender now a) l)

-- Receiving. A frame is refused with a number, or read as a list of acts, whatever is held.

pub data Reading : Type 0 where
  refused : ℕ → Reading
  acts : List Act → Reading

-- the answer of a call that changes the bridge
pub record Answer : Type 0 where
  pub number : ℕ
  pub bridge : Bridge

unfoldable pub holding : Bridge → List Stream → Bridge
holding b s = record { settings = b.settings; clock = b.clock; totals = b.totals; owns = b.owns; senders = b.senders; streams = s }

unfoldable pub owning : Bridge → List Own → Bridge
owning b o = record { settings = b.settings; clock = b.clock; totals = b.totals; owns = o; senders = b.senders; streams = b.streams }

unfoldable pub sending : Bridge → List Sender → Bridge
sending b l = record { settings = b.settings; clock = b.clock; totals = b.totals; owns = b.owns; senders = l; streams = b.streams }

-- a frame on port p, numbered from 1; 8: "streams held plus different new ones joined by this PDU exceed 64"
unfoldable pub received : Bridge → ℕ → Reading → Answer
received b p (refused n) = record { number = n; bridge = b }
received b p (acts es) =
    let s = apply_all b.clock (p - 1) es b.streams in
    let o = apply_owns b.clock (p - 1) es b.owns in
    let l = apply_senders b.clock (p - 1) es b.senders in
    cond (leb (length s) 64) record { number = 0; bridge = sending (owning (holding b s) o) l } record { number = 8; bridge = b }

-- Addresses: "Up to 64 addresses per port are held with the same Registrar rules".

unfoldable pub quit_presence : ℕ → Presence → Presence
quit_presence now vacant = vacant
quit_presence now (present l) = present (begin now l)

unfoldable pub quit_address : ℕ → Address → Address
quit_address now a = record { mac = a.mac; presence = quit_presence now a.presence }

-- an address that was joined last
unfoldable pub joined_address : ℕ → Address
joined_address m = record { mac = m; presence = present stays }

-- joined at its place, and leaving where it is held
unfoldable pub with_joined : ℕ → List Address → List Address
with_joined m [] = joined_address m ∷ []
with_joined m (a ∷ l) = cond (ltb m a.mac) (joined_address m ∷ a ∷ l) (cond (eqb m a.mac) (joined_address m ∷ l) (a ∷ with_joined m l))

unfoldable pub with_left : ℕ → ℕ → List Address → List Address
with_left now m [] = []
with_left now m (a ∷ l) = cond (eqb m a.mac) (quit_address now a ∷ l) (a ∷ with_left now m l)

unfoldable pub does_address : ℕ → AddressAct → List Address → List Address
does_address now leave_all_addresses l = map (quit_address now) l
does_address now (leave_address m) l = with_left now m l
does_address now (join_address m) l = with_joined m l

-- the acts of a frame, in their order
unfoldable pub does_addresses : ℕ → List AddressAct → List Address → List Address
does_addresses now [] l = l
does_addresses now (a ∷ es) l = does_addresses now es (does_address now a l)

-- only addresses change: Domain values and flags stay
unfoldable pub change_addresses : (List Address → List Address) → Own → Own
change_addresses u o = record { domains = o.domains; boundary_a = o.boundary_a; boundary_b = o.boundary_b; addresses = u o.addresses }

-- an MMRP frame on port p, numbered from 1; 14, "tested last, where a port would need a 65th address"
unfoldable pub received_addresses : Bridge → ℕ → AddressReading → Answer
received_addresses b p (refused_frame n) = record { number = n; bridge = b }
received_addresses b p (address_acts es) =
    let u : List Address → List Address = does_addresses b.clock es in
    cond (leb (length (u (own_at b.owns (p - 1)).addresses)) most_addresses)
    record { number = 0; bridge = owning b (at (p - 1) (change_addresses u) b.owns) }
    record { number = 14; bridge = b }

-- The different StreamIDs of an ascending list and of others.

unfoldable pub add : ℕ → List ℕ → List ℕ
add i [] = i ∷ []
add i (x ∷ l) = cond (ltb i x) (i ∷ x ∷ l) (cond (eqb i x) (x ∷ l) (x ∷ add i l))

unfoldable pub together : List ℕ → List ℕ → List ℕ
together held [] = held
together held (i ∷ is) = together (add i held) is

unfoldable pub ids : List Stream → List ℕ
ids s = map (λ (x : Stream). x.id) s

-- the StreamIDs that a frame asks to join
unfoldable pub joins : List Act → List ℕ
joins [] = []
joins (leave_all k ∷ es) = joins es
joins (leave k i ∷ es) = joins es
joins (talk i f v ∷ es) = i ∷ joins es
joins (listen i r ∷ es) = i ∷ joins es
joins (hear_all k ∷ es) = joins es
joins (hear k i h ∷ es) = joins es
joins (of_domain a ∷ es) = joins es

unfoldable pub asks : Reading → List ℕ
asks (refused n) = []
asks (acts es) = joins es

-- the addresses of a list, and those that an MMRP frame asks to join
unfoldable pub macs : List Address → List ℕ
macs l = map (λ (a : Address). a.mac) l

unfoldable pub address_joins : List AddressAct → List ℕ
address_joins [] = []
address_joins (leave_all_addresses ∷ es) = address_joins es
address_joins (leave_address m ∷ es) = address_joins es
address_joins (join_address m ∷ es) = m ∷ address_joins es

unfoldable pub asks_addresses : AddressReading → List ℕ
asks_addresses (refused_frame n) = []
asks_addresses (address_acts es) = address_joins es
