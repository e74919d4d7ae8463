-- A write (01, "Writing"; 02, xiv): what one PDU says, how the machines of the port move by it, and the next place.
use Rattle.std.specs.Prelude.{List, [], ◌∷◌, map, Bool, true, false, cond, ◌&&◌, ℕ, ◌+◌, ◌-◌, length, drop, ltb, leb}
use Rattle.model.specs.Lists.{bit}
use Rattle.model.specs.Applicant.{tx_laf, opportunity, Standing, becomes}
use Rattle.model.specs.LeaveAll as timer
use Rattle.model.specs.Places.{Way, Wrote, saying, reached, write_from}
use Rattle.model.specs.Machines.{Listed, Applicant, moved, way}
use Rattle.model.specs.State.{Domain, Own, Sends, Sender, Stream, Bridge, cell_at, sends_at, sender_at, own_at}
use Rattle.model.specs.Registrations.{Kind, advertises, faileds, listeners, Act, leave_all, of_domain, leave_all_domains, at, move_kind, change, apply_all, apply_owns, registered_in, domain_stays}
use Rattle.model.specs.Settling.{is_applicant, drop_unheld}
use Rattle.model.specs.Declarations.{Declaration, Said, say, takes, declarations, is_registered}

-- LeaveAll is sent by "the first accepted write while Active"
unfoldable pub leaves_all : Bridge → ℕ → Bool
leaves_all b p = timer.is_active (sender_at b.senders p).leave_all.state

-- the port's list written from a place: "of the declarations from its place on whose entry has a message without brackets, the first ones,
-- as many as fit, none skipped"
unfoldable pub port_way : Bridge → ℕ → Way (Listed Declaration)
port_way b p = way (leaves_all b p) (is_registered b p)

unfoldable pub say_on : Bridge → ℕ → Listed Declaration → Said
say_on b p x = say (leaves_all b p) (is_registered b p) x

unfoldable pub takes_on : Bridge → ℕ → List (Listed Declaration) → ℕ
takes_on b p l = takes (leaves_all b p) (map (say_on b p) l)

unfoldable pub wrote_on : Bridge → ℕ → ℕ → Wrote (Listed Declaration)
wrote_on b p place = write_from (port_way b p) (takes_on b p) place (declarations b p)

-- the place behind the last declaration that the PDU reaches
unfoldable pub end_on : Bridge → ℕ → ℕ → ℕ
end_on b p place =
    let l = drop place (declarations b p) in
    place + length (reached (port_way b p).says (takes_on b p (saying (port_way b p).says l)) l)

-- What a write does to the machine at place i of the list: tx! or txLA! from its place up to that end, and elsewhere, with LeaveAll, txLAF!.
unfoldable pub moved_at : Bool → ℕ → ℕ → ℕ → Bool → Standing → List Standing
moved_at all place end i registered q =
    cond (leb place i && ltb i end) (becomes registered (opportunity all) q) (cond all (becomes registered tx_laf q) (q ∷ []))

-- how many machines of a type a stream has on a port, and all streams
unfoldable pub machines : Kind → Sends → ℕ
machines advertises s = bit (is_applicant s.advertising)
machines faileds s = bit (is_applicant s.failing)
machines listeners s = bit (is_applicant s.listening)

unfoldable pub machines_of : Kind → ℕ → List Stream → ℕ
machines_of k p [] = 0
machines_of k p (x ∷ s) = machines k (sends_at x p) + machines_of k p s

-- the machines of a type on a port moved, each by its place in the list and by its Registrar; the first has place i
unfoldable pub moved_kind : (ℕ → Bool → Standing → List Standing) → Kind → ℕ → ℕ → List Stream → List Stream
moved_kind f k p i [] = []
moved_kind f k p i (x ∷ s) =
    change (λ cs. cs) (at p (move_kind k (f i (registered_in k (cell_at x p))))) x
    ∷ moved_kind f k p (i + machines k (sends_at x p)) s

unfoldable pub moved_streams : (ℕ → Bool → Standing → List Standing) → ℕ → List Stream → List Stream
moved_streams f p s =
    let failed = machines_of advertises p s in
    let listener = failed + machines_of faileds p s in
    moved_kind f listeners p listener (moved_kind f faileds p failed (moved_kind f advertises p 0 s))

-- those of Domain values, the first at place i, each by what is registered in its slot
unfoldable pub moved_slots : (ℕ → Bool → Standing → List Standing) → ℕ → List Domain → List (Applicant (Unit {0})) → List (Applicant (Unit {0}))
moved_slots f i [] l = l
moved_slots f i (d ∷ ds) [] = []
moved_slots f i (d ∷ ds) (a ∷ l) = moved (f i (domain_stays d)) a ∷ moved_slots f (i + bit (is_applicant a)) ds l

unfoldable pub moved_sender : (ℕ → Bool → Standing → List Standing) → ℕ → Bool → Own → ℕ → Sender → Sender
moved_sender f now all o i s = record {
  domains = moved_slots f i o.domains s.domains;
  leave_all = cond all (timer.leave_all_next now timer.tx s.leave_all) s.leave_all;
}

-- Registrar txLA!: "Talkers, Listeners and Domain records of that port start leaving at the held clock", as by a LeaveAll of each type
unfoldable pub own_leave_all : Bool → List Act
own_leave_all true = leave_all advertises ∷ leave_all faileds ∷ leave_all listeners ∷ of_domain leave_all_domains ∷ []
own_leave_all false = []

-- the bridge after a write of the port at place p from a place; a stream that has neither a registration nor a machine left goes
unfoldable pub after_write : Bridge → ℕ → ℕ → Bridge
after_write b p place =
    let all = leaves_all b p in
    let f : ℕ → Bool → Standing → List Standing = moved_at all place (end_on b p place) in
    let s = b.streams in
    let n = machines_of advertises p s + machines_of faileds p s + machines_of listeners p s in
    record {
      settings = b.settings;
      clock = b.clock;
      totals = b.totals;
      owns = apply_owns b.clock p (own_leave_all all) b.owns;
      senders = at p (moved_sender f b.clock all (own_at b.owns p) n) b.senders;
      streams = drop_unheld (apply_all b.clock p (own_leave_all all) (moved_streams f p s));
    }

-- what write answers and leaves: 13 "place is above the number of declarations", as the write finds them
pub record Written : Type 0 where
  pub number : ℕ
  pub all : Bool
  pub run : List Said
  pub next : ℕ
  pub bridge : Bridge

unfoldable pub write : Bridge → ℕ → ℕ → Written
write b p place =
    let w = wrote_on b (p - 1) place in
    cond (ltb (length (declarations b (p - 1))) place) record { number = 13; all = false; run = []; next = 0; bridge = b }
    record { number = 0; all = leaves_all b (p - 1); run = map (say_on b (p - 1)) w.run; next = w.next; bridge = after_write b (p - 1) place }
