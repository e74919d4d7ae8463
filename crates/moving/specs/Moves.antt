-- What a write does to the machines of a port (02, xiv), machine by machine, with the place of each in the port's list.
use Rattle.std.specs.Prelude.{◌≡◌, List, [], ◌∷◌, Bool, true, false, cond, ◌&&◌, ℕ, ◌+◌, ◌≤◌, ◌<◌, length, get_or, set, leb, ltb, eqb}
use Rattle.octets.specs.Parts.{patch, zeros}
use Rattle.model.specs.Layout.{in_sends, sender_size, sends_size, slots}
use Rattle.model.specs.Lists.{bit}
use Rattle.model.specs.Applicant.{Standing, tx_laf, opportunity, step}
use Rattle.model.specs.LeaveAll as timer
use Rattle.model.specs.Machines.{Applicant, no_applicant, moved}
use Rattle.model.specs.State.{Domain, no_domain, Sends, Sender, Stream, Bridge, cell_at, sends_at, sender_at, own_at, stream_at}
use Rattle.model.specs.Registrations.{Kind, advertises, faileds, listeners, at, change, move_kind, registered_in, domain_stays, holding, owning, apply_all, apply_owns}
use Rattle.model.specs.Settling.{is_applicant, drop_unheld}
use Rattle.model.specs.Writing.{moved_at, machines, machines_of, moved_kind, moved_streams, moved_slots, moved_sender, own_leave_all}
use Rattle.model.specs.Sending.{sends_octets, to_sends, sender_octets, to_sender}
use Rattle.model.specs.Table.{encode, decode}
use Rattle.model.specs.Laid.{FitBridge, LaidSends, LaidSender}
use Rattle.table.specs.Updates.{with_stream, with_sender}
use Rattle.table.specs.Places.{StandsOn, PortIn, SlotIn}
use Rattle.moving.specs.declared.Span.{Span}
use Rattle.moving.specs.declared.Met.{Met}

-- One machine, at place i of the list: what is left of it, and on its octet.

unfoldable pub moved_by : Span → ℕ → Bool → Standing → List Standing
moved_by w i registered q = moved_at w.all w.place w.end i registered q

unfoldable pub octet_by : Span → ℕ → Bool → ℕ → ℕ
octet_by w i registered n =
    cond (leb w.place i && ltb i w.end) (step registered (opportunity w.all) n) (cond w.all (step registered tx_laf n) n)

-- its octet stored; where there is none left, zeros in its place and for the values behind it
unfoldable pub state_at : ℕ → ℕ → ℕ → List ℕ → List ℕ
state_at place values n s = cond (eqb n 0) (patch place (values + 1) (zeros (values + 1)) s) (set s place n)

-- where the Applicant of a type stands, and how many octets of values are behind it
unfoldable pub in_kind : Kind → ℕ
in_kind advertises = in_sends.advertising
in_kind faileds = in_sends.failing
in_kind listeners = in_sends.listening

unfoldable pub behind_kind : Kind → ℕ
behind_kind advertises = 17
behind_kind faileds = 26
behind_kind listeners = 1

-- How far the moves are behind a place with a machine or none, before and after: it is met, and counted where it stands before the end
-- and is left.
unfoldable pub met_by : Span → Met → ℕ → ℕ → Met
met_by w m before after = record { count = m.count + before; left = m.left + cond (ltb m.count w.end) after 0 }

-- The machine of a type that a stream has on the port at place p.

unfoldable pub stream_moved : Span → ℕ → Kind → ℕ → Stream → Stream
stream_moved w i j p x = change (λ cs. cs) (at p (move_kind j (moved_by w i (registered_in j (cell_at x p))))) x

unfoldable pub met_sends : Span → Met → Kind → Bool → Sends → Met
met_sends w m j registered y = met_by w m (machines j y) (machines j (move_kind j (moved_by w m.count registered) y))

unfoldable pub met_stream : Span → Met → Kind → ℕ → Stream → Met
met_stream w m j p x = met_sends w m j (registered_in j (cell_at x p)) (sends_at x p)

unfoldable pub met_kind : Span → Met → Kind → ℕ → List Stream → Met
met_kind w m j p [] = m
met_kind w m j p (x ∷ s) = met_kind w (met_stream w m j p x) j p s

-- octets of a bridge whose numbers fit their fields
pub record Encodes (b : Bridge) (u : List ℕ) : Type 0 where
  pub fits : FitBridge b
  pub is : u ≡ encode b

-- counts that are far from any bound
pub record Few (m : Met) (n : ℕ) : Type 0 where
  pub count : m.count ≤ n
  pub left : m.left ≤ n

pub record MovedSends (w : Span) (m : Met) (j : Kind) (registered : Bool) (s : List ℕ) (r : Met) (u : List ℕ) : Type 0 where
  pub octets : u ≡ sends_octets (move_kind j (moved_by w m.count registered) (to_sends s))
  pub met : r ≡ met_sends w m j registered (to_sends s)

pub record MovedStream (w : Span) (m : Met) (j : Kind) (k p : ℕ) (t : List ℕ) (r : Met) (u : List ℕ) : Type 0 where
  pub table : u ≡ encode (with_stream k (stream_moved w m.count j p (stream_at k (decode t))) (decode t))
  pub met : r ≡ met_stream w m j p (stream_at k (decode t))

pub record MovedKind (w : Span) (m : Met) (j : Kind) (p : ℕ) (t : List ℕ) (r : Met) (u : List ℕ) : Type 0 where
  pub table : Encodes (holding (decode t) (moved_kind (moved_by w) j p m.count (decode t).streams)) u
  pub met : r ≡ met_kind w m j p (decode t).streams

-- The machine of a Domain value of the port, by its slot.

unfoldable pub slot_moved : Span → ℕ → Bool → ℕ → Sender → Sender
slot_moved w i registered slot x = record { domains = at slot (moved (moved_by w i registered)) x.domains; leave_all = x.leave_all }

unfoldable pub met_slot : Span → Met → Bool → Applicant (Unit {0}) → Met
met_slot w m registered a = met_by w m (bit (is_applicant a)) (bit (is_applicant (moved (moved_by w m.count registered) a)))

unfoldable pub met_slots : Span → Met → List Domain → List (Applicant (Unit {0})) → Met
met_slots w m [] l = m
met_slots w m (d ∷ ds) [] = m
met_slots w m (d ∷ ds) (a ∷ l) = met_slots w (met_slot w m (domain_stays d) a) ds l

unfoldable pub slots_moved : Span → ℕ → List Domain → Sender → Sender
slots_moved w i ds x = record { domains = moved_slots (moved_by w) i ds x.domains; leave_all = x.leave_all }

pub record MovedSender (w : Span) (m : Met) (registered : Bool) (slot : ℕ) (s : List ℕ) (r : Met) (u : List ℕ) : Type 0 where
  pub octets : u ≡ sender_octets (slot_moved w m.count registered slot (to_sender s))
  pub met : r ≡ met_slot w m registered (get_or (to_sender s).domains slot no_applicant)

pub record MovedSlot (w : Span) (m : Met) (p slot : ℕ) (t : List ℕ) (r : Met) (u : List ℕ) : Type 0 where
  pub table : u ≡ encode (with_sender p (slot_moved w m.count (domain_stays (get_or (own_at (decode t).owns p).domains slot no_domain)) slot) (decode t))
  pub met : r
      ≡ met_slot w m (domain_stays (get_or (own_at (decode t).owns p).domains slot no_domain)) (get_or (sender_at (decode t).senders p).domains slot no_applicant)

pub record MovedDomains (w : Span) (m : Met) (p : ℕ) (t : List ℕ) (r : Met) (u : List ℕ) : Type 0 where
  pub table : Encodes (with_sender p (slots_moved w m.count (own_at (decode t).owns p).domains) (decode t)) u
  pub met : r ≡ met_slots w m (own_at (decode t).owns p).domains (sender_at (decode t).senders p).domains

-- LeaveAll was sent: the LeaveAll machine is passive, and the port's own registrations begin to leave.

unfoldable pub all_sent : ℕ → Sender → Sender
all_sent now x = record { domains = x.domains; leave_all = timer.leave_all_next now timer.tx x.leave_all }

unfoldable pub own_left : ℕ → Bridge → Bridge
own_left p b =
    owning (holding b (apply_all b.clock p (own_leave_all true) b.streams)) (apply_owns b.clock p (own_leave_all true) b.owns)

unfoldable pub leave_all_sent : Bool → ℕ → Bridge → Bridge
leave_all_sent true p b = own_left p (with_sender p (all_sent b.clock) b)
leave_all_sent false p b = b

-- All of them, and what LeaveAll begins: the bridge after the write, and the next place.

unfoldable pub after_moves : Span → ℕ → Bridge → Bridge
after_moves w p b =
    let f : ℕ → Bool → Standing → List Standing = moved_by w in
    let s = b.streams in
    let n = machines_of advertises p s + machines_of faileds p s + machines_of listeners p s in
    record {
      settings = b.settings;
      clock = b.clock;
      totals = b.totals;
      owns = apply_owns b.clock p (own_leave_all w.all) b.owns;
      senders = at p (moved_sender f b.clock w.all (own_at b.owns p) n) b.senders;
      streams = drop_unheld (apply_all b.clock p (own_leave_all w.all) (moved_streams f p s));
    }

-- none met yet
abbrev pub none_met : Met
none_met = record { count = 0; left = 0 }

-- how many are left of those before the end: of each type in turn, each as the moves before it leave the streams
unfoldable pub met_types : Span → ℕ → List Stream → Met
met_types w p s =
    let a = met_kind w none_met advertises p s in
    let s₁ = moved_kind (moved_by w) advertises p 0 s in
    let f = met_kind w a faileds p s₁ in
    let s₂ = moved_kind (moved_by w) faileds p a.count s₁ in
    met_kind w f listeners p s₂

pub record MovedTypes (w : Span) (p : ℕ) (t : List ℕ) (r : Met) (u : List ℕ) : Type 0 where
  pub table : Encodes (holding (decode t) (moved_streams (moved_by w) p (decode t).streams)) u
  pub met : r ≡ met_types w p (decode t).streams
  pub few : Few r 192

unfoldable pub left_before : Span → ℕ → Bridge → ℕ
left_before w p b = (met_slots w (met_types w p b.streams) (own_at b.owns p).domains (sender_at b.senders p).domains).left

pub record ListMoved (w : Span) (p : ℕ) (t : List ℕ) (r : ℕ) (u : List ℕ) : Type 0 where
  pub table : u ≡ encode (after_moves w p (decode t))
  pub next : r ≡ left_before w p (decode t)

-- What each asks for.

pub record SendsGiven (s : List ℕ) (m : Met) : Type 0 where
  pub laid : LaidSends s
  pub size : length s ≡ sends_size
  pub few : Few m 256

pub record SenderGiven (s : List ℕ) (i : ℕ) (m : Met) : Type 0 where
  pub laid : LaidSender s
  pub size : length s ≡ sender_size
  pub slot : i < slots
  pub few : Few m 256

pub record StreamGiven (t : List ℕ) (k p : ℕ) (m : Met) : Type 0 where
  pub stands : StandsOn t k p
  pub few : Few m 256

pub record KindGiven (t : List ℕ) (p : ℕ) (m : Met) : Type 0 where
  pub port : PortIn t p
  pub few : Few m 128

pub record SlotGiven (t : List ℕ) (p i : ℕ) (m : Met) : Type 0 where
  pub slot : SlotIn t p i
  pub few : Few m 256

pub record DomainsGiven (t : List ℕ) (p : ℕ) (m : Met) : Type 0 where
  pub port : PortIn t p
  pub few : Few m 192
