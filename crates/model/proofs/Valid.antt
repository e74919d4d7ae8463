-- The form rules as facts about a bridge, for proofs: what `formed` tests on octets.
use mathlib.Core.Path.{◌≡◌}
use mathlib.Core.List.{List, [], ◌∷◌}
use mathlib.Core.Bool.{Bool, true}
use Prim.Native.Nat.{ℕ, suc, ◌+◌, ◌/◌, ◌^◌, ◌≤◌, ◌<◌}
use lib.ListN.{length, drop}
use Rattle.model.specs.Layout.{most_addresses, priority_b_unit, slots}
use Rattle.model.specs.Lists.{All}
use Rattle.model.specs.Machines.{Applicant, no_applicant, applicant}
use Rattle.model.specs.LeaveAll.{LeaveAll, leave_all_time}
use Rattle.model.specs.State.{Port, Settings, Leaving, stays, since, Fixed, TalkerType, talker_advertise, talker_failed, Varying, Registration, Talker, no_talker, talker, Listener, no_listener, listener, Cell, Domain, no_domain, domain, Presence, vacant, present, Address, Own, Column, none, advertise, failed, Entry, no_entry, filters, forwards, Result, Offer, Failure, Sends, Sender, Stream, Bridge, empty, unsettled, no_own, no_sends, no_sender, no_fixed, cell_at, result_at, sends_at, sender_at, declares_slot}
use Rattle.model.specs.Registrations.{ids, macs}
use Rattle.model.specs.Settling.{is_held}
use Rattle.model.specs.Sending.{standing_number, domain_standing}
use Rattle.model.specs.Table.{talkers, declarers, stored_formed, sent_formed, totals_within, any_held}

pub record ValidPort (q : Port) : Type 0 where
  pub overhead : q.overhead < 256
  pub largest : q.largest < 65536
  pub limit_a : q.limit_a < 256 ^ 5
  pub limit_b : q.limit_b < 256 ^ 5
  pub latency_a : q.latency_a < 2 ^ 32
  pub latency_b : q.latency_b < 2 ^ 32

pub record ValidSettings (st : Settings) : Type 0 where
  pub bridge_id : st.bridge_id < 2 ^ 64
  pub priority_a : st.priority_a < 8
  pub priority_b : st.priority_b < 8
  pub different : st.priority_a ≡ st.priority_b → ⊥
  pub leaves : 1 ≤ st.leave_time
  pub leave_time : st.leave_time < priority_b_unit
  pub some-vlan : 1 ≤ st.vlan
  pub vlan : st.vlan ≤ 4094
  pub fan_in : st.fan_in ≤ 8
  pub some-port : 1 ≤ length st.ports
  pub eight_ports : length st.ports ≤ 8
  pub ports : All ValidPort st.ports

-- at a bridge with this clock and leave time
abbrev pub ValidLeaving : ℕ → ℕ → Leaving → Type 0
ValidLeaving clock leave stays = Unit {0}
ValidLeaving clock leave (since t) = (t ≤ clock) × (clock < t + leave)

pub record ValidFixed (f : Fixed) : Type 0 where
  pub destination : f.destination < 256 ^ 6
  pub vlan : f.vlan < 65536
  pub size : f.size < 65536
  pub frames : f.frames < 65536
  pub priority : f.priority < 8
  pub rank : f.rank < 2

abbrev pub ValidTalkerType : TalkerType → Type 0
ValidTalkerType talker_advertise = Unit {0}
ValidTalkerType (talker_failed b c) = (b < 2 ^ 64) × (c < 256)

pub record ValidVarying (v : Varying) : Type 0 where
  pub type : ValidTalkerType v.type
  pub latency : v.latency < 2 ^ 32

pub record ValidRegistration (clock leave : ℕ) (r : Registration) : Type 0 where
  pub fixed : ValidFixed r.fixed
  pub varying : ValidVarying r.varying
  pub first_latency : r.first_latency < 2 ^ 32
  pub leaving : ValidLeaving clock leave r.leaving

-- it stays so with another changed mark, and with a leaving that is valid, at whatever time
pub again-valid : (clock leave : ℕ) (r : Registration) → ValidRegistration clock leave r → (now time : ℕ) (mark : Bool) (l : Leaving) → ValidLeaving now time l
    → ValidRegistration now time record { fixed = r.fixed; varying = r.varying; first_latency = r.first_latency; changed = mark; leaving = l }
again-valid clock leave r v now time mark l w = record { fixed = v.fixed; varying = v.varying; first_latency = v.first_latency; leaving = w }

abbrev pub ValidTalker : ℕ → ℕ → Talker → Type 0
ValidTalker clock leave no_talker = Unit {0}
ValidTalker clock leave (talker r) = ValidRegistration clock leave r

abbrev pub ValidListener : ℕ → ℕ → Listener → Type 0
ValidListener clock leave no_listener = Unit {0}
ValidListener clock leave (listener r l) = ValidLeaving clock leave l

pub record ValidCell (clock leave : ℕ) (c : Cell) : Type 0 where
  pub talks : ValidTalker clock leave c.talks
  pub hears : ValidListener clock leave c.hears

abbrev pub ValidDomain : ℕ → ℕ → Domain → Type 0
ValidDomain clock leave no_domain = Unit {0}
ValidDomain clock leave (domain v l) = (v < 65536) × ValidLeaving clock leave l

-- a vacant address is in no table between calls
abbrev pub ValidPresence : ℕ → ℕ → Presence → Type 0
ValidPresence clock leave vacant = ⊥
ValidPresence clock leave (present l) = ValidLeaving clock leave l

pub record ValidAddress (clock leave : ℕ) (a : Address) : Type 0 where
  pub mac : a.mac < 256 ^ 6
  pub presence : ValidPresence clock leave a.presence

-- StreamIDs rise, and addresses
unfoldable pub Rising : List ℕ → Type 0
Rising [] = Unit {0}
Rising (i ∷ l) = All (λ j. i < j) l × Rising l

pub record ValidAddresses (clock leave : ℕ) (l : List Address) : Type 0 where
  pub at_most_64 : length l ≤ most_addresses
  pub each : All (ValidAddress clock leave) l
  pub ascending : Rising (macs l)

pub record ValidOwn (clock leave : ℕ) (o : Own) : Type 0 where
  pub slotted : length o.domains ≡ slots
  pub domains : All (ValidDomain clock leave) o.domains
  pub addresses : ValidAddresses clock leave o.addresses

-- which entry, and which latency, goes with a column
abbrev pub ValidColumn : Column → ℕ → Entry → Type 0
ValidColumn none latency no_entry = latency ≡ 0
ValidColumn none latency filters = latency ≡ 0
ValidColumn none latency forwards = ⊥
ValidColumn advertise latency no_entry = ⊥
ValidColumn advertise latency filters = Unit {0}
ValidColumn advertise latency forwards = Unit {0}
ValidColumn (failed b c) latency no_entry = ⊥
ValidColumn (failed b c) latency filters = (b < 2 ^ 64) × (c < 256)
ValidColumn (failed b c) latency forwards = ⊥

-- an age goes with an entry
abbrev pub ValidAge : ℕ → Entry → ℕ → Type 0
ValidAge clock no_entry age = age ≡ 0
ValidAge clock filters age = age ≤ clock / 100
ValidAge clock forwards age = age ≤ clock / 100

pub record ValidResult (clock : ℕ) (r : Result) : Type 0 where
  pub column : ValidColumn r.column r.latency r.entry
  pub latency : r.latency < 2 ^ 32
  pub age : ValidAge clock r.entry r.age

-- what a port sends of a stream: a machine with valid values, or none
abbrev pub GoodApplicant : {A : Type 0} → (A → Type 0) → Applicant A → Type 0
GoodApplicant Good no_applicant = Unit {0}
GoodApplicant Good (applicant x) = Good x.value

pub record ValidOffer (x : Offer) : Type 0 where
  pub fixed : ValidFixed x.fixed
  pub latency : x.latency < 256 ^ 4

pub record ValidFailure (x : Failure) : Type 0 where
  pub bridge : x.bridge < 256 ^ 8
  pub code : x.code < 256 ^ 1

abbrev pub ValidFailed : Offer × Failure → Type 0
ValidFailed y = ValidOffer y.0 × ValidFailure y.1

pub record ValidSends (x : Sends) : Type 0 where
  pub advertising : GoodApplicant ValidOffer x.advertising
  pub failing : GoodApplicant ValidFailed x.failing

pub record ValidStream (ports clock leave : ℕ) (x : Stream) : Type 0 where
  pub id : x.id < 2 ^ 64
  pub settled : ValidFixed x.settled
  pub eight_cells : length x.cells ≡ 8
  pub cells : All (ValidCell clock leave) x.cells
  pub no-other-cells : All (λ c. c ≡ empty) (drop ports x.cells)
  pub is-held : is_held x ≡ true
  pub eight_results : length x.results ≡ 8
  pub results : All (ValidResult clock) x.results
  pub no-other-results : All (λ r. r ≡ unsettled) (drop ports x.results)
  pub idle : talkers ports x.cells ≡ 0 → x.settled ≡ no_fixed
  pub stored : (p : ℕ) → p < ports → stored_formed (talkers ports x.cells) (cell_at x p) (result_at x p) ≡ true
  pub one-declares : declarers ports x.results ≤ 1
  pub eight_sends : length x.sends ≡ 8
  pub sends : All ValidSends x.sends
  pub sent : (p : ℕ) → p < ports → sent_formed (result_at x p) (sends_at x p) ≡ true
  pub no-other-sends : All (λ s. s ≡ no_sends) (drop ports x.sends)

-- What a port sends by itself. The octet of an Applicant's state, 0 where there is none.
unfoldable pub applicant_number : {A : Type 0} → Applicant A → ℕ
applicant_number no_applicant = 0
applicant_number (applicant x) = standing_number x.state

-- the slots from i on: VP, AA or QA in those whose Domain value the port declares, none in the others
abbrev pub ValidSlots : (ℕ → Bool) → ℕ → List (Applicant (Unit {0})) → Type 0
ValidSlots own i [] = Unit {0}
ValidSlots own i (a ∷ l) = (domain_standing (own i) (applicant_number a) ≡ true) × ValidSlots own (suc i) l

-- its LeaveAll timer was started at most at the clock, and less than LeaveAllTime before it
pub record ValidLeaveAll (clock : ℕ) (m : LeaveAll) : Type 0 where
  pub past : m.start ≤ clock
  pub recent : clock < m.start + leave_all_time

pub record ValidSender (own : ℕ → Bool) (clock : ℕ) (x : Sender) : Type 0 where
  pub slotted : length x.domains ≡ slots
  pub domains : ValidSlots own 0 x.domains
  pub leave_all : ValidLeaveAll clock x.leave_all

pub record Valid (b : Bridge) : Type 0 where
  pub settings : ValidSettings b.settings
  pub clock : b.clock < 2 ^ 32
  pub eight_totals : length b.totals ≡ 8
  pub totals : totals_within (any_held b.streams) b.totals b.settings.ports ≡ true
  pub eight_owns : length b.owns ≡ 8
  pub owns : All (ValidOwn b.clock b.settings.leave_time) b.owns
  pub no-other-owns : All (λ o. o ≡ no_own) (drop (length b.settings.ports) b.owns)
  pub eight_senders : length b.senders ≡ 8
  pub senders : (p : ℕ) → p < length b.settings.ports → ValidSender (declares_slot b.settings p) b.clock (sender_at b.senders p)
  pub no-other-senders : All (λ x. x ≡ no_sender) (drop (length b.settings.ports) b.senders)
  pub at_most_64 : length b.streams ≤ 64
  pub streams : All (ValidStream (length b.settings.ports) b.clock b.settings.leave_time) b.streams
  pub ascending : Rising (ids b.streams)
