-- Two bridges on a link (02, xiv): what a neighbour has registered there after it received the PDUs of a pass whole is what this port
-- declares; and what is not so.
use mathlib.Core.Path.{◌≡◌, refl, sym, ◌∙◌, ap}
use mathlib.Core.List.{List, [], ◌∷◌, ◌++◌, map, flat_map, flatten}
use mathlib.Core.Bool.{Bool, true, false, cond, false≢true}
use Prim.Native.Nat.{ℕ, zero, suc, ◌+◌, ◌-◌, ◌≤◌, ◌<◌}
use native.Mathlib.Omega.{arith}
use lib.ListN.{length, get_or, take, drop, length-replicate, length-drop, take-append-drop}
use lib.Dec.{eqb, leb}
use borrow.Author.Tests.{le-ltb, le-leb}
use Rattle.model.specs.Lists.{All, keep}
use Rattle.model.specs.Applicant.{tx, quiet_active, leaving_active, becomes, speaks}
use Rattle.model.specs.LeaveAll as timer
use Rattle.model.specs.Places.{is_none, Wrote, itself, each, saying, write_from}
use Rattle.model.specs.Machines.{heard_leave, heard_event, Listed, Applicant, no_applicant, applicant, undeclared, with, applicant_of, after, decided, moved, heard, way}
use Rattle.model.specs.State.{Leaving, stays, since, Fixed, Varying, Registration, Talker, no_talker, talker, Ready, Listener, no_listener, listener, Cell, no_domain, Own, Sends, Sender, Stream, Settings, Bridge, empty, blank, fresh, no_sender, no_own, sends_at, sender_at}
use Rattle.model.specs.Registrations.{Kind, advertises, faileds, Act, apply_own, apply_owns, talks_as, with_leaving, quit_talker, talker_stays, listener_stays, apply, apply_all, apply_senders, Answer, acts, holding, owning, sending, received}
use Rattle.model.specs.Frames.{wrong_port, reading}
use Rattle.model.specs.Settling.{expired, expire_talker, expire_listener, expire_cell}
use Rattle.model.specs.Declarations.{Declaration, declarations, Said, say, said_acts, is_registered}
use Rattle.model.specs.WrittenFrames.{pdu_octets}
use Rattle.model.specs.Writing.{leaves_all, port_way, say_on, takes_on, wrote_on, moved_sender, after_write, Written, write}
use Rattle.model.specs.Calls.{receive}
use Rattle.model.specs.Layout.{slots}
use Rattle.model.proofs.Lists.{all_map, all_take, all_get_or, at_here}
use Rattle.model.proofs.Valid.{Valid, ValidOwn, ValidStream}
use Rattle.model.proofs.PlaceLists.{no_length}
use Rattle.model.proofs.Passing.{left-to-say, taken, run_is, say-next, nothing_left, takes_one}
use Rattle.model.proofs.ReceiveKeepsForm.{right-port}
use Rattle.model.proofs.WritingPasses.{port-takes, next-within}
use Rattle.model.proofs.WrittenList.{ListedPort, write-leaves}
use Rattle.model.proofs.WriteKeepsForm.{after-valid}
use Rattle.model.proofs.ReadBack.{neighbour-reads-events}
use Rattle.model.proofs.ApplicantEntries.{tables}
use Rattle.model.proofs.ToldStreams.{stream_for, cell_for, cell-after, Effect, on_cell, asks_acts, flat_append, saying-asks, run-asks, both-tell, tells, tells_cell, port-tells}
use Rattle.model.proofs.Following.{Registers, stands-map, offered, advertised, failed_offer, failed_as, Known, Follows, cell-follows}
use Rattle.model.proofs.ToldDomains.{domain_for, Slot, slot-after, on_slot, tells_slot, port-tells-slot, KnownSlot, FollowsSlot, slot-follows}

-- The pass of a port, PDU by PDU, without a LeaveAll due.

-- the runs of the writes from a place on, each from the bridge that the one before left and from its next place, until one says nothing.
-- (The first number bounds them.)
unfoldable pub pass_runs : ℕ → Bridge → ℕ → ℕ → List (List Said)
pass_runs zero b p place = []
pass_runs (suc f) b p place =
    let w = write b p place in
    cond (is_none w.run) [] (w.run ∷ pass_runs f w.bridge p w.next)

-- a port whose pass stands at a place
pub record Passing (b : Bridge) (p place : ℕ) : Type 0 where
  pub valid : Valid b
  pub right : wrong_port b.settings p ≡ false
  pub silent : leaves_all b (p - 1) ≡ false
  pub here : place ≤ length (declarations b (p - 1))

unmoved : (r : Declaration → Bool) (l : List (Listed Declaration)) → each (way false r).outside l ≡ l
unfolding each way itself
unmoved r [] = refl
unmoved r (x ∷ l) = ap (λ (m : List (Listed Declaration)). x ∷ m) (unmoved r l)

all_say : {A : Type 0} (f : A → Bool) (l : List A) → All (λ x. f x ≡ true) (saying f l)
unfolding saying
all_say f [] = tt
all_say f (x ∷ l) = go (f x) refl (all_say f l)
  where
    go : (t : Bool) → f x ≡ t → All (λ y. f y ≡ true) (saying f l) → All (λ y. f y ≡ true) (keep t x (saying f l))
    go true e a = (e, a)
    go false e a = a

-- a port of a bridge that keeps the form rules has a slot for each of its Domain machines
listed-port : (b : Bridge) (p : ℕ) → Valid b → wrong_port b.settings p ≡ false → ListedPort b (p - 1)
listed-port b p v e =
    let there : p - 1 < length b.settings.ports = right-port b.settings p e in
    let small : p - 1 < 8 = omega (arith, there, v.settings.eight_ports) in
    record {
      ascending = v.ascending;
      sender = omega (arith, small, v.eight_senders);
      slots = all_get_or (λ o. length o.domains ≡ slots) b.owns (all_map (ValidOwn b.clock b.settings.leave_time) (λ o. length o.domains ≡ slots) (λ o w. w.slotted) b.owns v.owns) no_own (unfold no_own in (length-replicate slots no_domain)) (p - 1)
          ∙ sym (v.senders (p - 1) there).slotted;
    }

module _ (b : Bridge) (p place : ℕ) (h : Passing b p place) where
  list : List (Listed Declaration)
  list = declarations b (p - 1)

  registered : Declaration → Bool
  registered = is_registered b (p - 1)

  wrote : Wrote (Listed Declaration)
  wrote = write_from (way false registered) (takes_on b (p - 1)) place list

  wrote_on_lem : wrote_on b (p - 1) place ≡ wrote
  unfolding wrote_on port_way wrote registered list
  wrote_on_lem = rw h.silent

  written : write b p place
      ≡ record { number = 0; all = false; run = map (say false registered) wrote.run; next = wrote.next; bridge = after_write b (p - 1) place }
  unfolding write say_on registered
  written =
      rw (le-ltb (length (declarations b (p - 1))) place h.here, wrote_on_lem)
      (ap (λ (t : Bool). record { number = 0; all = t; run = map (say t (is_registered b (p - 1))) wrote.run; next = wrote.next; bridge = after_write b (p - 1) place }) h.silent)

  -- what is left to say, and how much of it the PDU takes
  rest : List (Listed Declaration)
  rest = left-to-say (way false registered) (takes_on b (p - 1)) place list

  count : ℕ
  count = taken (way false registered) (takes_on b (p - 1)) place list

  rest-is : rest ≡ saying (λ x. speaks tx x.state) (drop place list)
  unfolding rest left-to-say way
  rest-is = refl

  run_of : wrote.run ≡ take count rest
  unfolding wrote rest count
  run_of = run_is (way false registered) (takes_on b (p - 1)) place list

  all-speak : All (λ x. speaks tx x.state ≡ true) wrote.run
  all-speak = rw (run_of, rest-is) (all_take (λ x. speaks tx x.state ≡ true) count (saying (λ x. speaks tx x.state) (drop place list)) (all_say (λ (x : Listed Declaration). speaks tx x.state) (drop place list)))

  next-bridge : Bridge
  next-bridge = after_write b (p - 1) place

  port-there : p - 1 < length b.settings.ports
  port-there = right-port b.settings p h.right

  next-list : declarations next-bridge (p - 1) ≡ wrote.list
  unfolding next-bridge
  next-list = write-leaves b (p - 1) place (listed-port b p h.valid h.right) h.here ∙ ap (λ (w : Wrote (Listed Declaration)). w.list) wrote_on_lem

  next-silent : leaves_all next-bridge (p - 1) ≡ false
  unfolding leaves_all next-bridge after_write sender_at moved_sender
  next-silent =
      ap (λ (x : Sender). timer.is_active x.leave_all.state) (at_here (p - 1) _ b.senders no_sender (omega (arith, port-there, h.valid.settings.eight_ports, h.valid.eight_senders)))
      ∙ ap (λ (t : Bool). timer.is_active (cond t (timer.leave_all_next b.clock timer.tx (get_or b.senders (p - 1) no_sender).leave_all) (get_or b.senders (p - 1) no_sender).leave_all).state) h.silent
      ∙ h.silent

  next-passing : Passing next-bridge p wrote.next
  next-passing = record {
    valid = unfold next-bridge in (after-valid b h.valid (p - 1) place port-there);
    right = unfold next-bridge after_write in h.right;
    silent = next-silent;
    here = rw next-list (rw wrote_on_lem at (next-within b p place));
  }

  -- what is left to say from there on
  next-rest : saying (λ x. speaks tx x.state) (drop wrote.next (declarations next-bridge (p - 1))) ≡ drop count rest
  unfolding wrote rest count
  next-rest =
      rw next-list
      (unfold left-to-say way in (say-next (way false registered) (takes_on b (p - 1)) (port-takes b (p - 1)) (unmoved registered) place list))

  -- a PDU that says something takes at least one, and one that says nothing leaves nothing to say
  some-taken : is_none wrote.run ≡ false → (1 ≤ count) × (count ≤ length rest)
  unfolding wrote rest count
  some-taken e = takes_one (way false registered) (takes_on b (p - 1)) (port-takes b (p - 1)) (unmoved registered) place list e

  none_rest : is_none wrote.run ≡ true → rest ≡ []
  unfolding wrote rest
  none_rest e = nothing_left (way false registered) (takes_on b (p - 1)) (port-takes b (p - 1)) (unmoved registered) place list e

none-map : {A B : Type 0} (f : A → B) (l : List A) → is_none (map f l) ≡ is_none l
none-map f [] = refl
none-map f (x ∷ l) = refl

abbrev says : Listed Declaration → Bool
says x = speaks tx x.state

no-runs : flat_map said_acts (flatten []) ≡ []
unfolding flat_map flatten
no-runs = refl

more-runs : (run : List Said) (runs : List (List Said)) → flat_map said_acts (flatten (run ∷ runs)) ≡ flat_map said_acts run ++ flat_map said_acts (flatten runs)
unfolding flatten
more-runs run runs = flat_append said_acts run (flatten runs)

-- nothing to say asks nothing
quiet-rest : (l : List (Listed Declaration)) → saying says l ≡ [] → flat_map asks_acts l ≡ []
quiet-rest l e = sym (saying-asks l) ∙ ap (flat_map asks_acts) e ∙ unfold flat_map in refl

-- The whole pass asks what the entries of the machines say, from the place on.
module _ {X : Type 0} (effect : Effect X) (p : ℕ) where
  pub pass-asks : (f : ℕ) (b : Bridge) (place : ℕ) → Passing b p place → length (saying says (drop place (declarations b (p - 1)))) ≤ f → (c : X)
      → effect.after (flat_map said_acts (flatten (pass_runs f b p place))) c ≡ effect.after (flat_map asks_acts (drop place (declarations b (p - 1)))) c
  unfolding pass_runs next-bridge list
  pass-asks zero b place h few c =
      ap (λ (es : List Act). effect.after es c)
      (no-runs ∙ sym (quiet-rest (drop place (declarations b (p - 1))) (no_length (saying says (drop place (declarations b (p - 1)))) few)))
  pass-asks (suc f) b place h few c = rw (written b p place h) (go (is_none (wrote b p place h).run) refl (λ w. pass-asks f (next-bridge b p place h) (wrote b p place h).next (next-passing b p place h) w))
    where
      run : List (Listed Declaration)
      run = (wrote b p place h).run

      said : List Said
      said = map (say false (registered b p place h)) run

      later : List (List Said)
      later = pass_runs f (next-bridge b p place h) p (wrote b p place h).next

      then : List (Listed Declaration)
      then = drop (wrote b p place h).next (declarations (next-bridge b p place h) (p - 1))

      go : (t : Bool) → is_none run ≡ t
          → (length (saying says then) ≤ f → (d : X) → effect.after (flat_map said_acts (flatten later)) d ≡ effect.after (flat_map asks_acts then) d)
          → effect.after (flat_map said_acts (flatten (cond (is_none said) [] (said ∷ later)))) c ≡ effect.after (flat_map asks_acts (drop place (declarations b (p - 1)))) c
      go true e ih =
          rw (none-map (say false (registered b p place h)) run, e)
          (ap (λ (es : List Act). effect.after es c)
          (no-runs ∙ sym (quiet-rest (drop place (declarations b (p - 1))) (sym (rest-is b p place h) ∙ none_rest b p place h e))))
      go false e ih =
          let n = count b p place h in
          let l = rest b p place h in
          let some = some-taken b p place h e in
          let fewer : length (saying says then) ≤ f =
          rw (next-rest b p place h, length-drop n l) (omega (arith, some.0, some.1, ap (λ (m : List (Listed Declaration)). length m) (rest-is b p place h), few)) in
          rw (none-map (say false (registered b p place h)) run, e)
          (ap (λ (es : List Act). effect.after es c) (more-runs said later)
          ∙ effect.append (flat_map said_acts said) (flat_map said_acts (flatten later)) c
          ∙ ap (effect.after (flat_map said_acts (flatten later))) (run-asks effect (registered b p place h) run (all-speak b p place h) c)
          ∙ ih fewer (effect.after (flat_map asks_acts run) c)
          ∙ ap (λ (es : List Act). effect.after es (effect.after (flat_map asks_acts run) c)) (sym (saying-asks then) ∙ ap (flat_map asks_acts) (next-rest b p place h))
          ∙ ap (λ (m : List (Listed Declaration)). effect.after (flat_map asks_acts (drop n l)) (effect.after (flat_map asks_acts m) c)) (run_of b p place h)
          ∙ sym (both-tell effect (take n l) (drop n l) c)
          ∙ ap (λ (m : List (Listed Declaration)). effect.after (flat_map asks_acts m) c) (take-append-drop n l ∙ rest-is b p place h)
          ∙ ap (λ (es : List Act). effect.after es c) (saying-asks (drop place (declarations b (p - 1)))))

-- The neighbour that receives it.

-- after PDUs handed over on port q, one after another; and that it takes each
unfoldable pub receive_all : ℕ → List (List ℕ) → Bridge → Bridge
receive_all q [] b = b
receive_all q (pdu ∷ l) b = receive_all q l (receive b q pdu).bridge

abbrev pub AllTaken : ℕ → List (List ℕ) → Bridge → Type 0
AllTaken q [] b = Unit {0}
AllTaken q (pdu ∷ l) b = ((receive b q pdu).number ≡ 0) × AllTaken q l (receive b q pdu).bridge

-- what it reads of a PDU with these declarations and no LeaveAll
abbrev pub Reads : List Said → Type 0
Reads run = (st : Settings) (q : ℕ) → wrong_port st q ≡ false → reading st q (pdu_octets false run) ≡ acts (flat_map said_acts run)

pass-reads : (f : ℕ) (b : Bridge) (p place : ℕ) → Passing b p place → All Reads (pass_runs f b p place)
unfolding pass_runs next-bridge
pass-reads zero b p place h = tt
pass-reads (suc f) b p place h =
    let more : All Reads (pass_runs f (next-bridge b p place h) p (wrote b p place h).next) = pass-reads f (next-bridge b p place h) p (wrote b p place h).next (next-passing b p place h) in
    go (is_none (write b p place).run)
    (rw (written b p place h) more)
  where
    one : Reads (write b p place).run
    one st q e = neighbour-reads-events b h.valid p place st q e (ap (λ (w : Written). w.all) (written b p place h))

    go : (t : Bool) → All Reads (pass_runs f (write b p place).bridge p (write b p place).next)
        → All Reads (cond t [] ((write b p place).run ∷ pass_runs f (write b p place).bridge p (write b p place).next))
    go true a = tt
    go false a = (one, a)

-- a frame that is taken: what it changes
record Took (b : Bridge) (q : ℕ) (es : List Act) (c : Bridge) : Type 0 where
  settings : c.settings ≡ b.settings
  clock : c.clock ≡ b.clock
  streams : c.streams ≡ apply_all b.clock (q - 1) es b.streams
  owns : c.owns ≡ apply_owns b.clock (q - 1) es b.owns

took_one : (b : Bridge) (q : ℕ) (pdu : List ℕ) (es : List Act) → reading b.settings q pdu ≡ acts es → (receive b q pdu).number ≡ 0 → Took b q es (receive b q pdu).bridge
unfolding receive received
took_one b q pdu es e n = rw e (go (leb (length (apply_all b.clock (q - 1) es b.streams)) 64) (rw e at n))
  where
    answer : Bool → Answer
    answer t =
        cond t record { number = 0; bridge = sending (owning (holding b (apply_all b.clock (q - 1) es b.streams)) (apply_owns b.clock (q - 1) es b.owns)) (apply_senders b.clock (q - 1) es b.senders) }
        record { number = 8; bridge = b }

    go : (t : Bool) → (answer t).number ≡ 0 → Took b q es (answer t).bridge
    go true z = unfold sending owning holding in record { settings = refl; clock = refl; streams = refl; owns = refl }
    go false z = absurd (omega (arith, z))

-- those of several, in their order
acts-then : (now q : ℕ) (es fs : List Act) (s : List Stream) → apply_all now q (es ++ fs) s ≡ apply_all now q fs (apply_all now q es s)
unfolding apply_all
acts-then now q [] fs s = refl
acts-then now q (a ∷ es) fs s = acts-then now q es fs (apply now q a s)

owns-then : (now q : ℕ) (es fs : List Act) (o : List Own) → apply_owns now q (es ++ fs) o ≡ apply_owns now q fs (apply_owns now q es o)
unfolding apply_owns
owns-then now q [] fs o = refl
owns-then now q (a ∷ es) fs o = owns-then now q es fs (apply_own now q a o)

took-all : (runs : List (List Said)) → All Reads runs → (b : Bridge) (q : ℕ) → wrong_port b.settings q ≡ false → AllTaken q (map (pdu_octets false) runs) b
    → Took b q (flat_map said_acts (flatten runs)) (receive_all q (map (pdu_octets false) runs) b)
unfolding receive_all
took-all [] a b q e n = rw no-runs (unfold apply_all apply_owns in record { settings = refl; clock = refl; streams = refl; owns = refl })
took-all (run ∷ runs) a b q e n =
    let pdu : List ℕ = pdu_octets false run in
    let c : Bridge = (receive b q pdu).bridge in
    let es : List Act = flat_map said_acts run in
    let fs : List Act = flat_map said_acts (flatten runs) in
    let t : Took b q es c = took_one b q pdu es (a.0 b.settings q e) n.0 in
    let u : Took c q fs (receive_all q (map (pdu_octets false) runs) c) = took-all runs a.1 c q (rw t.settings e) n.1 in
    let whole : flat_map said_acts (flatten (run ∷ runs)) ≡ es ++ fs = more-runs run runs in
    rw whole record {
      settings = u.settings ∙ t.settings;
      clock = u.clock ∙ t.clock;
      streams = u.streams ∙ rw (t.clock, t.streams) (sym (acts-then b.clock (q - 1) es fs b.streams));
      owns = u.owns ∙ rw (t.clock, t.owns) (sym (owns-then b.clock (q - 1) es fs b.owns));
    }

-- what holds of every stream held, and of one that begins
found_all : (P : Stream → Type 0) (i : ℕ) → P (fresh i) → (s : List Stream) → All P s → P (stream_for i s)
unfolding stream_for
found_all P i f [] a = f
found_all P i f (x ∷ s) a = go (eqb x.id i) (found_all P i f s a.1)
  where
    go : (t : Bool) → P (stream_for i s) → P (cond t x (stream_for i s))
    go true w = a.0
    go false w = w

-- Two bridges: `a` writes its port p from place 0 until nothing is left to say, and `b` takes every PDU on its port q, at the far end of the
-- link. Then what is registered there is what is declared here: of each stream, and of each Domain value.

-- the PDUs of the pass
unfoldable pub pass_pdus : Bridge → ℕ → List (List ℕ)
pass_pdus a p = map (pdu_octets false) (pass_runs (length (saying (λ x. speaks tx x.state) (declarations a (p - 1)))) a p 0)

module _ (a : Bridge) (p : ℕ) (start : Passing a p 0) (b : Bridge) (v : Valid b) (q : ℕ) (right : wrong_port b.settings q ≡ false)
    (all : AllTaken q (pass_pdus a p) b) where
  runs : List (List Said)
  runs = pass_runs (length (saying (λ x. speaks tx x.state) (declarations a (p - 1)))) a p 0

  took : Took b q (flat_map said_acts (flatten runs)) (receive_all q (pass_pdus a p) b)
  unfolding pass_pdus runs
  took = took-all runs (pass-reads (length (saying (λ x. speaks tx x.state) (declarations a (p - 1)))) a p 0 start) b q right all

  place : q - 1 < 8
  place = omega (arith, right-port b.settings q right, v.settings.eight_ports)

  pass-whole : {X : Type 0} (effect : Effect X) (c : X)
      → effect.after (flat_map said_acts (flatten runs)) c ≡ effect.after (flat_map asks_acts (declarations a (p - 1))) c
  unfolding runs
  pass-whole effect c = pass-asks effect p (length (saying (λ x. speaks tx x.state) (declarations a (p - 1)))) a 0 start (omega arith) c

  module _ (i : ℕ) where
    -- what this port sends of a stream
    abbrev pub sends : Sends
    sends = sends_at (stream_for i a.streams) (p - 1)

    wide : q - 1 < length (stream_for i b.streams).cells
    wide =
        let Ok : Stream → Type 0 = ValidStream (length b.settings.ports) b.clock b.settings.leave_time in
        let Wide : Stream → Type 0 = λ x. q - 1 < length x.cells in
        found_all Wide i (unfold fresh blank in (omega (arith, place, length-replicate 8 empty))) b.streams
        (all_map Ok Wide (λ x o. omega (arith, place, o.eight_cells)) b.streams v.streams)

    cell-received : cell_for (q - 1) i (receive_all q (pass_pdus a p) b).streams ≡ tells_cell b.clock i sends (cell_for (q - 1) i b.streams)
    unfolding on_cell
    cell-received =
        ap (cell_for (q - 1) i) took.streams
        ∙ (cell-after b.clock (q - 1) i (flat_map said_acts (flatten runs)) b.streams v.ascending wide).0
        ∙ pass-whole (on_cell b.clock i) (cell_for (q - 1) i b.streams)
        ∙ port-tells b.clock i a start.valid.ascending (p - 1) (cell_for (q - 1) i b.streams)

    pub two-bridges : Known sends (cell_for (q - 1) i b.streams) → Follows sends (cell_for (q - 1) i (receive_all q (pass_pdus a p) b).streams)
    two-bridges k = rw cell-received (cell-follows b.clock i sends (cell_for (q - 1) i b.streams) k)

  module _ (j : ℕ) (slot : j < slots) where
    -- the machine of a Domain value
    abbrev pub sender : Applicant (Unit {0})
    sender = get_or (sender_at a.senders (p - 1)).domains j no_applicant

    there : Slot b.clock j (q - 1) b.owns
    there = (
      omega (arith, place, v.eight_owns),
      omega (arith, slot, all_get_or (λ o. length o.domains ≡ slots) b.owns (all_map (ValidOwn b.clock b.settings.leave_time) (λ o. length o.domains ≡ slots) (λ o w. w.slotted) b.owns v.owns) no_own (unfold no_own in (length-replicate slots no_domain)) (q - 1)),
    )

    domain-received : domain_for (q - 1) j (receive_all q (pass_pdus a p) b).owns ≡ tells_slot b.clock a.settings.vlan sender (domain_for (q - 1) j b.owns)
    unfolding on_slot
    domain-received =
        ap (domain_for (q - 1) j) took.owns
        ∙ (slot-after b.clock j (q - 1) (flat_map said_acts (flatten runs)) b.owns there).0
        ∙ pass-whole (on_slot b.clock j) (domain_for (q - 1) j b.owns)
        ∙ port-tells-slot b.clock j a (p - 1) (domain_for (q - 1) j b.owns)

    pub two-bridges-domains : KnownSlot a.settings.vlan sender (domain_for (q - 1) j b.owns)
        → FollowsSlot a.settings.vlan sender (domain_for (q - 1) j (receive_all q (pass_pdus a p) b).owns)
    two-bridges-domains k = rw domain-received (slot-follows b.clock a.settings.vlan sender (domain_for (q - 1) j b.owns) k)

-- After its leave time what an Lv withdrew has gone: nothing is registered but what stands here.

-- a leaving that began at most at a time
abbrev pub Begun : ℕ → Leaving → Type 0
Begun clock stays = Unit {0}
Begun clock (since t) = t ≤ clock

abbrev pub BegunTalker : ℕ → Talker → Type 0
BegunTalker clock no_talker = Unit {0}
BegunTalker clock (talker r) = Begun clock r.leaving

abbrev pub BegunListener : ℕ → Listener → Type 0
BegunListener clock no_listener = Unit {0}
BegunListener clock (listener r l) = Begun clock l

-- one that is not leaving, where there is one
abbrev pub StaysTalker : Talker → Type 0
StaysTalker no_talker = Unit {0}
StaysTalker (talker r) = r.leaving ≡ stays

abbrev pub StaysListener : Listener → Type 0
StaysListener no_listener = Unit {0}
StaysListener (listener r l) = l ≡ stays

pub record Exactly (s : Sends) (c : Cell) : Type 0 where
  pub follows : Follows s c
  pub talks : StaysTalker c.talks
  pub hears : StaysListener c.hears

module _ (st : Settings) (clock later : ℕ) (long : clock + st.leave_time ≤ later) where
  talker-left : (t : Talker) → BegunTalker clock t → StaysTalker (expire_talker st later t)
  unfolding expire_talker
  talker-left no_talker b = tt
  talker-left (talker r) b = go r.leaving refl b
    where
      go : (l : Leaving) → r.leaving ≡ l → Begun clock l → StaysTalker (cond (expired st later l) no_talker (talker r))
      go stays e w = unfold expired in e
      go (since t) e w = unfold expired in (rw (le-leb (t + st.leave_time) later (omega arith)) tt)

  listener-left : (l : Listener) → BegunListener clock l → StaysListener (expire_listener st later l)
  unfolding expire_listener expired
  listener-left no_listener b = tt
  listener-left (listener r stays) b = refl
  listener-left (listener r (since t)) b = rw (le-leb (t + st.leave_time) later (omega arith)) tt

-- what stays outlasts it
module _ (st : Settings) (later : ℕ) where
  registers-lasts : (f : Fixed) (v : Varying) (t : Talker) → Registers f v t → Registers f v (expire_talker st later t)
  unfolding expire_talker
  registers-lasts f v no_talker h = h
  registers-lasts f v (talker r) h =
      let e : expired st later r.leaving ≡ false = ap (expired st later) h.3 ∙ unfold expired in refl in
      rw e h

  listener-lasts : (r : Ready) (l : Listener) → l ≡ listener r stays → expire_listener st later l ≡ listener r stays
  listener-lasts r l e = ap (expire_listener st later) e ∙ unfold expire_listener expired in refl

  talker-was : (k : Kind) (t : Talker) → talker_stays k (expire_talker st later t) ≡ true → talker_stays k t ≡ true
  unfolding expire_talker
  talker-was k no_talker h = h
  talker-was k (talker r) h = go (expired st later r.leaving) h
    where
      go : (w : Bool) → talker_stays k (cond w no_talker (talker r)) ≡ true → talker_stays k (talker r) ≡ true
      go true e = absurd (false≢true (unfold talker_stays in e))
      go false e = e

  listener-was : (l : Listener) → listener_stays (expire_listener st later l) ≡ true → listener_stays l ≡ true
  unfolding expire_listener
  listener-was no_listener h = h
  listener-was (listener r l) h = go (expired st later l) h
    where
      go : (w : Bool) → listener_stays (cond w no_listener (listener r l)) ≡ true → listener_stays (listener r l) ≡ true
      go true e = absurd (false≢true (unfold listener_stays in e))
      go false e = e

pub after-leave-time : (st : Settings) (clock later : ℕ) → clock + st.leave_time ≤ later → (s : Sends) (c : Cell) → Follows s c
    → BegunTalker clock c.talks → BegunListener clock c.hears → Exactly s (expire_cell st later c)
unfolding expire_cell
after-leave-time st clock later long s c h bt bl = record {
  follows = record {
    advertise =
        stands-map (λ o. Registers (offered o) (advertised o) c.talks) (λ o. Registers (offered o) (advertised o) (expire_talker st later c.talks))
        (λ o r. registers-lasts st later (offered o) (advertised o) c.talks r) s.advertising h.advertise;
    failed =
        stands-map (λ o. Registers (failed_offer o) (failed_as o) c.talks) (λ o. Registers (failed_offer o) (failed_as o) (expire_talker st later c.talks))
        (λ o r. registers-lasts st later (failed_offer o) (failed_as o) c.talks r) s.failing h.failed;
    listener =
        stands-map (λ r. c.hears ≡ listener r stays) (λ r. expire_listener st later c.hears ≡ listener r stays) (λ r e. listener-lasts st later r c.hears e)
        s.listening h.listener;
    advertise-only = λ e. h.advertise-only (talker-was st later advertises c.talks e);
    failed-only = λ e. h.failed-only (talker-was st later faileds c.talks e);
    listener-only = λ e. h.listener-only (listener-was st later c.hears e);
  };
  talks = talker-left st clock later long c.talks bt;
  hears = listener-left st clock later long c.hears bl;
}

-- What is not so.

-- Where other values of a Talker stand (`other-stands`), and its type changed with them, the later Lv of the new type misses it too.
pub other-missed : (now : ℕ) (k : Kind) (r : Registration) → talks_as k r.varying.type ≡ false → quit_talker now k (talker r) ≡ talker r
unfolding quit_talker with_leaving
other-missed now k r n = rw n

-- Until a LeaveAll of either side mends it: a declaration that the neighbour's own Lv turned to VP goes without an Lv where it is withdrawn
-- then, and what has gone says nothing.
pub withdrawn-unsaid : {D : Type 0} (alike : D → D → Bool) (v : D) → decided alike undeclared (heard heard_leave (applicant record { state = quiet_active; value = v })) ≡ no_applicant
unfolding decided heard moved applicant_of after with heard_event tables
withdrawn-unsaid alike v = refl

pub gone-silent : {A : Type 0} (f : A → Declaration) (now i : ℕ) (c : Cell) → tells f now i no_applicant c ≡ c
unfolding tells
gone-silent f now i c = refl

-- And an Lv is sent once, so that one that is lost leaves the registration as it was.
pub lv-once : {D : Type 0} (r : Bool) (v : D) → moved (becomes r tx) (applicant record { state = leaving_active; value = v }) ≡ no_applicant
unfolding moved applicant_of with tables
lv-once r v = refl
