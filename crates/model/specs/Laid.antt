-- A table that is laid out as docs/TABLE.md says: the octets of some bridge whose numbers fit their fields. It may hold streams
-- without a registration, as it does while room is made for a frame.
use Rattle.std.specs.Prelude.{◌≡◌, List, [], ◌∷◌, ℕ, ◌≤◌, ◌<◌, ◌^◌, length}
use Rattle.octets.specs.Fields.{Fit}
use Rattle.model.specs.Layout.{address_widths, cell_widths, failure_widths, most_addresses, name_widths, offer_widths, port_widths, priority_b_unit, pruning_unit, result_widths, slot_widths, slots, width_of}
use Rattle.model.specs.Lists.{All}
use Rattle.model.specs.Machines.{Applicant, no_applicant, applicant}
use Rattle.model.specs.State.{Settings, Talker, no_talker, talker, Cell, Address, Own, Result, Offer, Failure, Sends, Sender, Stream, Totals, Bridge}
use Rattle.model.specs.Registrations.{ids, macs}
use Rattle.model.specs.WrittenFrames.{fixed_numbers}
use Rattle.model.specs.Sending.{offer_numbers, sends_octets, sender_octets}
use Rattle.model.specs.Table.{address_numbers, address_octets, cell_numbers, cell_octets, domain_numbers, domain_octets, own_octets, result_numbers, result_octets, port_numbers, encode}

-- a rank is one bit: it shares its octet with the priority, so that the octet's width alone does not say it
abbrev pub FitRank : Talker → Type 0
FitRank no_talker = Unit {0}
FitRank (talker r) = r.fixed.rank < 2

pub record FitCell (c : Cell) : Type 0 where
  pub numbers : Fit cell_widths (cell_numbers c)
  pub rank : FitRank c.talks

abbrev pub FitResult : Result → Type 0
FitResult r = Fit result_widths (result_numbers r)

-- what a port sends of a stream
pub record FitOffer (x : Offer) : Type 0 where
  pub numbers : Fit offer_widths (offer_numbers x)
  pub rank : x.fixed.rank < 2

abbrev pub FitFailure : Failure → Type 0
FitFailure x = Fit failure_widths (x.bridge ∷ x.code ∷ [])

abbrev pub FitApplicant : {D : Type 0} → (D → Type 0) → Applicant D → Type 0
FitApplicant Fits no_applicant = Unit {0}
FitApplicant Fits (applicant x) = Fits x.value

pub record FitSends (x : Sends) : Type 0 where
  pub advertising : FitApplicant FitOffer x.advertising
  pub failing : FitApplicant (λ y. FitOffer y.0 × FitFailure y.1) x.failing

-- and by itself
pub record FitSender (x : Sender) : Type 0 where
  pub slotted : length x.domains ≡ slots
  pub start : x.leave_all.start < 2 ^ 32

pub record FitStream (x : Stream) : Type 0 where
  pub name : Fit name_widths (x.id ∷ fixed_numbers x.settled)
  pub rank : x.settled.rank < 2
  pub eight_cells : length x.cells ≡ 8
  pub cells : All FitCell x.cells
  pub eight_results : length x.results ≡ 8
  pub results : All FitResult x.results
  pub eight_sends : length x.sends ≡ 8
  pub sends : All FitSends x.sends

-- StreamIDs rise, and addresses
abbrev pub Ascending : List ℕ → Type 0
Ascending [] = Unit {0}
Ascending (i ∷ l) = All (λ j. i < j) l × Ascending l

-- the addresses of a port
pub record FitAddresses (l : List Address) : Type 0 where
  pub at_most_64 : length l ≤ most_addresses
  pub each : All (λ a. Fit address_widths (address_numbers a)) l
  pub ascending : Ascending (macs l)

-- what a port holds by itself
pub record FitOwn (o : Own) : Type 0 where
  pub slotted : length o.domains ≡ slots
  pub domains : All (λ d. Fit slot_widths (domain_numbers d)) o.domains
  pub addresses : FitAddresses o.addresses

pub record FitSettings (st : Settings) : Type 0 where
  pub bridge_id : st.bridge_id < 2 ^ 64
  pub priority_a : st.priority_a < 8
  pub priority_b : st.priority_b < 8
  pub leave_time : st.leave_time < priority_b_unit
  pub vlan : st.vlan < pruning_unit
  pub fan_in : st.fan_in < 256
  pub eight_ports : length st.ports ≤ 8
  pub ports : All (λ q. Fit port_widths (port_numbers q)) st.ports

abbrev pub FitTotals : Totals → Type 0
FitTotals t = (t.total_a < 256 ^ width_of.total_a) × (t.total_b < 256 ^ width_of.total_b)

pub record FitBridge (b : Bridge) : Type 0 where
  pub settings : FitSettings b.settings
  pub clock : b.clock < 2 ^ 32
  pub eight_totals : length b.totals ≡ 8
  pub totals : All FitTotals b.totals
  pub eight_owns : length b.owns ≡ 8
  pub owns : All FitOwn b.owns
  pub eight_senders : length b.senders ≡ 8
  pub senders : All FitSender b.senders
  pub at_most_64 : length b.streams ≤ 64
  pub streams : All FitStream b.streams
  pub ascending : Ascending (ids b.streams)

-- the octets of some thing that fits
pub record LaidOut {A : Type 0} (octets : A → List ℕ) (Fits : A → Type 0) (s : List ℕ) : Type 0 where
  pub thing : A
  pub fits : Fits thing
  pub is : s ≡ octets thing

-- of a cell, of a result, of a bridge
abbrev pub LaidCell : List ℕ → Type 0
LaidCell = LaidOut cell_octets FitCell

abbrev pub LaidResult : List ℕ → Type 0
LaidResult = LaidOut result_octets FitResult

-- of what a port sends of a stream, and by itself
abbrev pub LaidSends : List ℕ → Type 0
LaidSends = LaidOut sends_octets FitSends

abbrev pub LaidSender : List ℕ → Type 0
LaidSender = LaidOut sender_octets FitSender

-- of a Domain value, of an address, of what a port holds
abbrev pub LaidDomain : List ℕ → Type 0
LaidDomain = LaidOut domain_octets (λ d. Fit slot_widths (domain_numbers d))

abbrev pub LaidAddress : List ℕ → Type 0
LaidAddress = LaidOut address_octets (λ a. Fit address_widths (address_numbers a))

abbrev pub LaidOwn : List ℕ → Type 0
LaidOwn = LaidOut own_octets FitOwn

abbrev pub Laid : List ℕ → Type 0
Laid = LaidOut encode FitBridge
