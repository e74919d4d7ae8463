-- Passing of a port, while declarations leave its list: the writes from place 0 by the places given back say all that has something to say
-- once, in order, in at most so many PDUs, and then a PDU has 3 octets; after three passes the port is quiet.
use mathlib.Core.Path.{◌≡◌, refl, sym, ◌∙◌, ap, ap₂, fun_ext}
use mathlib.Core.List.{List, [], ◌∷◌, ◌++◌, map, flatten, map-append}
use mathlib.Core.Bool.{Bool, true, false, cond, not, ◌&&◌, ◌||◌, true≢false, false≢true}
use Prim.Native.Nat.{ℕ, zero, suc, ◌+◌, ◌-◌, ◌≤◌, ◌<◌}
use native.Mathlib.Omega.{arith}
use lib.ListN.{length, length-map, get_or, take, drop, length-append, length-drop, take-append-drop}
use lib.Dec.{eqb}
use borrow.Author.Tests.{le-ltb, eqb-true, ne_eqb}
use Rattle.model.specs.FrameLayout.{longest_pdu}
use Rattle.model.specs.Layout.{slots}
use Rattle.model.specs.Lists.{All, keep}
use Rattle.model.specs.Applicant.{tx, Standing}
use Rattle.model.specs.LeaveAll as timer
use Rattle.model.specs.Places.{is_none, Way, Wrote, each, saying, behind, left_before, write_from, runs, left}
use Rattle.model.specs.Machines.{Listed, after, way}
use Rattle.model.specs.State.{no_domain, Talker, no_talker, talker, Listener, no_listener, listener, Cell, Own, Sender, Stream, Bridge, empty, no_own, no_sender, cell_at, sends_at, sender_at, own_at, slot_of}
use Rattle.model.specs.Registrations.{Kind, advertises, faileds, listeners, change, apply_all, apply_owns, talker_stays, listener_stays, registered_in, domain_stays, ids}
use Rattle.model.specs.Settling.{is_talking, is_hearing, held, any_sending, is_held, drop_unheld}
use Rattle.model.specs.Declarations.{Declaration, talker_declaration, listener_declaration, domain_declaration, talker_kind, declarations, registered_of, is_registered, Said, say, takes}
use Rattle.model.specs.WrittenFrames.{pdu_octets}
use Rattle.model.specs.Writing.{leaves_all, port_way, say_on, takes_on, wrote_on, end_on, moved_at, machines, machines_of, moved_kind, moved_streams, moved_sender, own_leave_all, after_write, Written, write}
use Rattle.model.proofs.Lists.{all-at, and-true, at_here}
use Rattle.model.proofs.Valid.{ValidOwn, Rising, Valid}
use Rattle.model.proofs.AdvanceKeepsForm.{or-false, dropped-all}
use Rattle.model.proofs.PlaceLists.{each-itself, fewer-saying, no_length, some-there}
use Rattle.model.proofs.Passing.{left-to-say, taken, from_next, to-next, run_is, say-next, says_all, all_left}
use Rattle.model.proofs.Quieting.{nothing-moves}
use Rattle.model.proofs.WriteKeepsForm.{moved-ids, after-valid}
use Rattle.model.proofs.WrittenList.{ListedPort, write-leaves}
use Rattle.model.proofs.WritingPasses.{length-pdu, no-declarations, messages-leaving, messages-said, declared, to_say, port-takes, next-within, run_none, run_fits}

-- A bridge that keeps the form rules has what the list of a port asks for.

own-slots : (b : Bridge) (v : Valid b) (p : ℕ) → p < length b.owns → length (own_at b.owns p).domains ≡ slots
own-slots b v p h = (all-at (ValidOwn b.clock b.settings.leave_time) b.owns v.owns p no_own h).slotted

pub listed-port : (b : Bridge) (v : Valid b) (p : ℕ) → p < length b.settings.ports → ListedPort b p
listed-port b v p here =
    let inside : p < 8 = omega (arith, here, v.settings.eight_ports) in
    record {
      ascending = v.ascending;
      sender = omega (arith, inside, v.eight_senders);
      slots = own-slots b v p (omega (arith, inside, v.eight_owns)) ∙ sym (v.senders p here).slotted;
    }

-- A write with no LeaveAll due changes no registration.

no-talker : (k : Kind) (t : Talker) (h : Listener) → is_talking record { talks = t; hears = h } ≡ false → talker_stays k t ≡ false
unfolding is_talking talker_stays
no-talker k no_talker h e = refl
no-talker k (talker r) h e = absurd (true≢false e)

no-listener : (t : Talker) (h : Listener) → is_hearing record { talks = t; hears = h } ≡ false → listener_stays h ≡ false
unfolding is_hearing listener_stays
no-listener t no_listener e = refl
no-listener t (listener r l) e = absurd (true≢false e)

none-registered : (k : Kind) (c : Cell) → (is_talking c || is_hearing c) ≡ false → registered_in k c ≡ false
unfolding registered_in
none-registered advertises c e = no-talker advertises c.talks c.hears (or-false (is_talking c) (is_hearing c) e).0
none-registered faileds c e = no-talker faileds c.talks c.hears (or-false (is_talking c) (is_hearing c) e).0
none-registered listeners c e = no-listener c.talks c.hears (or-false (is_talking c) (is_hearing c) e).1

empty-cell : (is_talking empty || is_hearing empty) ≡ false
unfolding is_talking is_hearing empty
empty-cell = refl

unheld-there : (k : Kind) (p : ℕ) (cs : List Cell) → held cs ≡ false → registered_in k (get_or cs p empty) ≡ false
unfolding held
unheld-there k p [] e = none-registered k empty empty-cell
unheld-there k zero (c ∷ cs) e = none-registered k c (or-false (is_talking c || is_hearing c) (held cs) e).0
unheld-there k (suc p) (c ∷ cs) e = unheld-there k p cs (or-false (is_talking c || is_hearing c) (held cs) e).1

registered-past : (k : Kind) (p id : ℕ) (s : List Stream) → All (λ j. id < j) (ids s) → registered_of k p id s ≡ false
unfolding registered_of ids
registered-past k p id [] a = refl
registered-past k p id (x ∷ s) a = rw (ne_eqb x.id id (λ e. omega (arith, a.0, e))) (registered-past k p id s a.1)

-- a stream that goes had no registration
registered-dropped : (k : Kind) (p id : ℕ) (s : List Stream) → Rising (ids s) → registered_of k p id (drop_unheld s) ≡ registered_of k p id s
unfolding registered_of drop_unheld ids Rising
registered-dropped k p id [] r = refl
registered-dropped k p id (x ∷ s) r = go (is_held x) refl (registered-dropped k p id s r.1)
  where
    unheld : is_held x ≡ false → registered_in k (cell_at x p) ≡ false
    unheld e = unfold is_held cell_at in (unheld-there k p x.cells (or-false (held x.cells) (any_sending x.sends) e).0)

    gone : is_held x ≡ false → (t : Bool) → eqb x.id id ≡ t → registered_of k p id (drop_unheld s) ≡ registered_of k p id s
        → registered_of k p id (drop_unheld s) ≡ cond t (registered_in k (cell_at x p)) (registered_of k p id s)
    gone e true q ih =
        let here : x.id ≡ id = eqb-true x.id id q in
        registered-past k p id (drop_unheld s) (dropped-all (λ j. id < j) s (rw here at r.0)) ∙ sym (unheld e)
    gone e false q ih = ih

    go : (t : Bool) → is_held x ≡ t → registered_of k p id (drop_unheld s) ≡ registered_of k p id s
        → registered_of k p id (keep t x (drop_unheld s)) ≡ cond (eqb x.id id) (registered_in k (cell_at x p)) (registered_of k p id s)
    go true e ih = ap (cond (eqb x.id id) (registered_in k (cell_at x p))) ih
    go false e ih = gone e (eqb x.id id) refl ih

module _ (f : ℕ → Bool → Standing → List Standing) (p : ℕ) (k : Kind) (id : ℕ) where
  kind-registered : (j : Kind) (i : ℕ) (s : List Stream) → registered_of k p id (moved_kind f j p i s) ≡ registered_of k p id s
  unfolding registered_of moved_kind change cell_at
  kind-registered j i [] = refl
  kind-registered j i (x ∷ s) = ap (cond (eqb x.id id) (registered_in k (get_or x.cells p empty))) (kind-registered j (i + machines j (sends_at x p)) s)

  moved-registered : (s : List Stream) → registered_of k p id (moved_streams f p s) ≡ registered_of k p id s
  unfolding moved_streams
  moved-registered s = kind-registered listeners _ _ ∙ kind-registered faileds _ _ ∙ kind-registered advertises 0 s

module _ (now p : ℕ) (all : Bool) (none : all ≡ false) where
  pub no-leaving : (s : List Stream) → apply_all now p (own_leave_all all) s ≡ s
  no-leaving s = go all none
    where
      go : (t : Bool) → t ≡ false → apply_all now p (own_leave_all t) s ≡ s
      go true e = absurd (true≢false e)
      go false e = unfold apply_all own_leave_all in refl

  pub no-own-leaving : (o : List Own) → apply_owns now p (own_leave_all all) o ≡ o
  no-own-leaving o = go all none
    where
      go : (t : Bool) → t ≡ false → apply_owns now p (own_leave_all t) o ≡ o
      go true e = absurd (true≢false e)
      go false e = unfold apply_owns own_leave_all in refl

-- LeaveAll is sent once
sent-once : (now : ℕ) (m : timer.LeaveAll) → timer.is_active (cond (timer.is_active m.state) (timer.leave_all_next now timer.tx m) m).state ≡ false
sent-once now m = go m.state
  where
    go : (q : timer.LeaveAllState)
        → timer.is_active (cond (timer.is_active q) (timer.leave_all_next now timer.tx record { state = q; start = m.start }) record { state = q; start = m.start }).state ≡ false
    go timer.active = unfold timer.is_active timer.leave_all_next timer.leave_all_entry timer.leave_all_row timer.leave_all_column timer.sends_leave_all in refl
    go timer.passive = unfold timer.is_active in refl

module _ (b : Bridge) (v : Valid b) (p : ℕ) (here : p < length b.settings.ports) (place : ℕ) where
  abbrev then : Bridge
  then = after_write b p place

  abbrev f : ℕ → Bool → Standing → List Standing
  f = moved_at (leaves_all b p) place (end_on b p place)

  abbrev domain_place : ℕ
  domain_place = machines_of advertises p b.streams + machines_of faileds p b.streams + machines_of listeners p b.streams

  -- LeaveAll is due no more
  pub then-due : leaves_all then p ≡ false
  unfolding leaves_all after_write sender_at moved_sender
  then-due =
      ap (λ (x : Sender). timer.is_active x.leave_all.state)
      (at_here p (moved_sender f b.clock (leaves_all b p) (own_at b.owns p) domain_place) b.senders no_sender (omega (arith, here, v.eight_senders, v.settings.eight_ports)))
      ∙ sent-once b.clock (get_or b.senders p no_sender).leave_all

  module _ (none : leaves_all b p ≡ false) where
    registered-then : (k : Kind) (id : ℕ) → registered_of k p id then.streams ≡ registered_of k p id b.streams
    unfolding after_write
    registered-then k id =
        let t : List Stream = moved_streams f p b.streams in
        ap (λ (s : List Stream). registered_of k p id (drop_unheld s)) (no-leaving b.clock p (leaves_all b p) none t)
        ∙ registered-dropped k p id t (rw (moved-ids f p b.streams) v.ascending)
        ∙ moved-registered f p k id b.streams

    same-registered : (d : Declaration) → is_registered then p d ≡ is_registered b p d
    unfolding is_registered
    same-registered (talker_declaration id g w) = registered-then (talker_kind w.type) id
    same-registered (listener_declaration id r) = registered-then listeners id
    same-registered (domain_declaration id q w) =
        unfold after_write in (ap (λ (o : List Own). domain_stays (get_or (own_at o p).domains (slot_of id q) no_domain)) (no-own-leaving b.clock p (leaves_all b p) none b.owns))

    registered-same : is_registered then p ≡ is_registered b p
    registered-same = fun_ext same-registered

    -- so what is said, and how, is as before
    pub same_way : port_way then p ≡ port_way b p
    unfolding port_way
    same_way = ap₂ way (then-due ∙ sym none) registered-same

    pub same-say : say_on then p ≡ say_on b p
    unfolding say_on
    same-say = fun_ext (λ x. ap₂ (λ (a : Bool) (r : Declaration → Bool). say a r x) (then-due ∙ sym none) registered-same)

    pub same_takes : takes_on then p ≡ takes_on b p
    unfolding takes_on
    same_takes = fun_ext (λ l. ap₂ (λ (a : Bool) (g : Listed Declaration → Said). takes a (map g l)) (then-due ∙ sym none) same-say)

-- What a write answers.

pub write-gives : (b : Bridge) (p place : ℕ) → place ≤ length (declared b p)
    → write b p place ≡ record {
      number = 0;
      all = leaves_all b (p - 1);
      run = map (say_on b (p - 1)) (wrote_on b (p - 1) place).run;
      next = (wrote_on b (p - 1) place).next;
      bridge = after_write b (p - 1) place;
    }
unfolding write declared
write-gives b p place h = rw (le-ltb (length (declarations b (p - 1))) place h)

-- the PDU says nothing: it has 3 octets
unfoldable pub says_nothing : Written → Bool
says_nothing w = is_none w.run && not w.all

-- Passes: each write's place is the one that the write before gave back, until one says nothing. What is said, what is left, and whether it
-- ended. (The first number bounds the writes.)
unfoldable pub write_all : ℕ → Bridge → ℕ → ℕ → List (List Said)
write_all zero b p place = []
write_all (suc n) b p place =
    let w = write b p place in
    cond (says_nothing w) [] (w.run ∷ write_all n w.bridge p w.next)

unfoldable pub left_all : ℕ → Bridge → ℕ → ℕ → Bridge
left_all zero b p place = b
left_all (suc n) b p place =
    let w = write b p place in
    cond (says_nothing w) w.bridge (left_all n w.bridge p w.next)

unfoldable pub ends : ℕ → Bridge → ℕ → ℕ → Bool
ends zero b p place = false
ends (suc n) b p place =
    let w = write b p place in
    cond (says_nothing w) true (ends n w.bridge p w.next)

-- a port of a bridge that keeps the form rules, with no LeaveAll due, and a place of its list
pub record Calm (b : Bridge) (p place : ℕ) : Type 0 where
  pub valid : Valid b
  pub port : p - 1 < length b.settings.ports
  pub none : leaves_all b (p - 1) ≡ false
  pub within : place ≤ length (declared b p)

is_none-map : {A B : Type 0} (f : A → B) (l : List A) → is_none (map f l) ≡ is_none l
is_none-map f [] = refl
is_none-map f (x ∷ l) = refl

-- One write.
module _ (b : Bridge) (p place : ℕ) (v : Valid b) (port : p - 1 < length b.settings.ports) (h : place ≤ length (declared b p)) where
  abbrev w : Written
  w = write b p place

  after_is : w.bridge ≡ after_write b (p - 1) place
  after_is = ap (λ (x : Written). x.bridge) (write-gives b p place h)

  next_is : w.next ≡ (wrote_on b (p - 1) place).next
  next_is = ap (λ (x : Written). x.next) (write-gives b p place h)

  pub then-declared : declared w.bridge p ≡ (wrote_on b (p - 1) place).list
  unfolding declared
  then-declared =
      ap (λ (c : Bridge). declarations c (p - 1)) after_is
      ∙ write-leaves b (p - 1) place (listed-port b v (p - 1) port) h

  -- the bridge is calm then, LeaveAll having been due or not
  pub then-calm : Calm w.bridge p w.next
  then-calm = record {
    valid = rw after_is (after-valid b v (p - 1) place port);
    port = rw after_is (unfold after_write in port);
    none = rw after_is (then-due b v (p - 1) port place);
    within = rw (then-declared, next_is) (next-within b p place);
  }

  -- From the next place on stands what was behind the run, and nothing else; before it what is left of what was reached.
  abbrev reach : ℕ
  reach = taken (port_way b (p - 1)) (takes_on b (p - 1)) place (declared b p)

  pub next-stands : drop w.next (declared w.bridge p) ≡ each (port_way b (p - 1)).outside (behind (port_way b (p - 1)).says reach (drop place (declared b p)))
  next-stands = rw (next_is, then-declared) (unfold wrote_on declared in (from_next (port_way b (p - 1)) (takes_on b (p - 1)) place (declared b p)))

  pub before-next : take w.next (declared w.bridge p) ≡ left_before (port_way b (p - 1)) reach place (declared b p)
  before-next = rw (next_is, then-declared) (unfold wrote_on declared in (to-next (port_way b (p - 1)) (takes_on b (p - 1)) place (declared b p)))

  module _ (none : leaves_all b (p - 1) ≡ false) where
    nothing_run : says_nothing w ≡ is_none (wrote_on b (p - 1) place).run
    unfolding says_nothing
    nothing_run =
        rw (write-gives b p place h, none, is_none-map (say_on b (p - 1)) (wrote_on b (p - 1) place).run)
        (and-true (is_none (wrote_on b (p - 1) place).run))

    -- the same way on
    way_on : port_way w.bridge (p - 1) ≡ port_way b (p - 1)
    way_on = ap (λ (c : Bridge). port_way c (p - 1)) after_is ∙ same_way b v (p - 1) port place none

    say-on : say_on w.bridge (p - 1) ≡ say_on b (p - 1)
    say-on = ap (λ (c : Bridge). say_on c (p - 1)) after_is ∙ same-say b v (p - 1) port place none

    takes-on : takes_on w.bridge (p - 1) ≡ takes_on b (p - 1)
    takes-on = ap (λ (c : Bridge). takes_on c (p - 1)) after_is ∙ same_takes b v (p - 1) port place none

    -- what is read of the bridge then is what is read of its list
    on_list : {X : Type 0} (F : Way (Listed Declaration) → (List (Listed Declaration) → ℕ) → ℕ → List (Listed Declaration) → X)
        → F (port_way w.bridge (p - 1)) (takes_on w.bridge (p - 1)) w.next (declared w.bridge p)
        ≡ F (port_way b (p - 1)) (takes_on b (p - 1)) (wrote_on b (p - 1) place).next (wrote_on b (p - 1) place).list
    on_list F = rw (way_on, takes-on, next_is, then-declared)

-- without LeaveAll those that a PDU does not reach stay as they are
module _ (b : Bridge) (p : ℕ) (none : leaves_all b p ≡ false) where
  pub calm-way : port_way b p ≡ way false (is_registered b p)
  unfolding port_way
  calm-way = ap (λ (a : Bool). way a (is_registered b p)) none

  stays-outside : (l : List (Listed Declaration)) → each (port_way b p).outside l ≡ l
  stays-outside l = rw calm-way (unfold way in (each-itself l))

-- The writes of a port, and those of its list.

runs-are : (n : ℕ) (b : Bridge) (p place : ℕ) → Calm b p place
    → write_all n b p place ≡ map (map (say_on b (p - 1))) (runs (port_way b (p - 1)) (takes_on b (p - 1)) n place (declared b p))
unfolding write_all runs
runs-are zero b p place c = refl
runs-are (suc n) b p place c =
    go (runs-are n (write b p place).bridge p (write b p place).next (then-calm b p place c.valid c.port c.within))
  where
    r : Wrote (Listed Declaration)
    r = write_from (port_way b (p - 1)) (takes_on b (p - 1)) place (declared b p)

    same : wrote_on b (p - 1) place ≡ r
    same = unfold wrote_on declared in refl

    said : List (List (Listed Declaration)) → List (List Said)
    said l = map (map (say_on b (p - 1))) l

    later : List (List (Listed Declaration))
    later = runs (port_way b (p - 1)) (takes_on b (p - 1)) n r.next r.list

    either : (t : Bool) (x : List Said) (l : List (List Said)) → x ≡ map (say_on b (p - 1)) r.run → l ≡ said later → cond t [] (x ∷ l) ≡ said (cond t [] (r.run ∷ later))
    either true x l e f = refl
    either false x l e f = ap₂ (λ (y : List Said) (m : List (List Said)). y ∷ m) e f

    go : write_all n (write b p place).bridge p (write b p place).next
        ≡ map (map (say_on (write b p place).bridge (p - 1)))
        (runs (port_way (write b p place).bridge (p - 1)) (takes_on (write b p place).bridge (p - 1)) n (write b p place).next (declared (write b p place).bridge p))
        → cond (says_nothing (write b p place)) [] ((write b p place).run ∷ write_all n (write b p place).bridge p (write b p place).next)
        ≡ said (cond (is_none r.run) [] (r.run ∷ later))
    go ih =
        ap (λ (t : Bool). cond t [] ((write b p place).run ∷ write_all n (write b p place).bridge p (write b p place).next))
        (nothing_run b p place c.valid c.port c.within c.none ∙ ap (λ (x : Wrote (Listed Declaration)). is_none x.run) same)
        ∙ either (is_none r.run) (write b p place).run (write_all n (write b p place).bridge p (write b p place).next)
        (ap (λ (x : Written). x.run) (write-gives b p place c.within) ∙ ap (λ (x : Wrote (Listed Declaration)). map (say_on b (p - 1)) x.run) same)
        (ih
        ∙ ap (λ (g : Listed Declaration → Said). map (map g) (runs (port_way (write b p place).bridge (p - 1)) (takes_on (write b p place).bridge (p - 1)) n (write b p place).next (declared (write b p place).bridge p)))
        (say-on b p place c.valid c.port c.within c.none)
        ∙ on_list b p place c.valid c.port c.within c.none (λ W T i l. said (runs W T n i l))
        ∙ ap (λ (x : Wrote (Listed Declaration)). said (runs (port_way b (p - 1)) (takes_on b (p - 1)) n x.next x.list)) same)

pub left-are : (n : ℕ) (b : Bridge) (p place : ℕ) → Calm b p place
    → declared (left_all n b p place) p ≡ left (port_way b (p - 1)) (takes_on b (p - 1)) n place (declared b p)
unfolding left_all left
left-are zero b p place c = refl
left-are (suc n) b p place c =
    go (left-are n (write b p place).bridge p (write b p place).next (then-calm b p place c.valid c.port c.within))
  where
    r : Wrote (Listed Declaration)
    r = write_from (port_way b (p - 1)) (takes_on b (p - 1)) place (declared b p)

    same : wrote_on b (p - 1) place ≡ r
    same = unfold wrote_on declared in refl

    either : (t : Bool) (c d : Bridge) → declared c p ≡ r.list → declared d p ≡ left (port_way b (p - 1)) (takes_on b (p - 1)) n r.next r.list
        → declared (cond t c d) p ≡ cond t r.list (left (port_way b (p - 1)) (takes_on b (p - 1)) n r.next r.list)
    either true c d e f = e
    either false c d e f = f

    go : declared (left_all n (write b p place).bridge p (write b p place).next) p
        ≡ left (port_way (write b p place).bridge (p - 1)) (takes_on (write b p place).bridge (p - 1)) n (write b p place).next (declared (write b p place).bridge p)
        → declared (cond (says_nothing (write b p place)) (write b p place).bridge (left_all n (write b p place).bridge p (write b p place).next)) p
        ≡ cond (is_none r.run) r.list (left (port_way b (p - 1)) (takes_on b (p - 1)) n r.next r.list)
    go ih =
        ap (λ (t : Bool). declared (cond t (write b p place).bridge (left_all n (write b p place).bridge p (write b p place).next)) p)
        (nothing_run b p place c.valid c.port c.within c.none ∙ ap (λ (x : Wrote (Listed Declaration)). is_none x.run) same)
        ∙ either (is_none r.run) (write b p place).bridge (left_all n (write b p place).bridge p (write b p place).next)
        (then-declared b p place c.valid c.port c.within ∙ ap (λ (x : Wrote (Listed Declaration)). x.list) same)
        (ih
        ∙ on_list b p place c.valid c.port c.within c.none (λ W T i l. left W T n i l)
        ∙ ap (λ (x : Wrote (Listed Declaration)). left (port_way b (p - 1)) (takes_on b (p - 1)) n x.next x.list) same)

-- What is left to say.

to-say-is : (b : Bridge) (p place : ℕ) → to_say b p place ≡ map (say_on b (p - 1)) (left-to-say (port_way b (p - 1)) (takes_on b (p - 1)) place (declared b p))
unfolding to_say left-to-say
to-say-is b p place = refl

flatten-said : {A B : Type 0} (g : A → B) (ls : List (List A)) → flatten (map (map g) ls) ≡ map g (flatten ls)
unfolding flatten
flatten-said g [] = refl
flatten-said {B = B} g (l ∷ ls) = ap (λ (r : List B). map g l ++ r) (flatten-said g ls) ∙ sym (map-append g l (flatten ls))

module _ (b : Bridge) (p place : ℕ) (c : Calm b p place) where
  abbrev W : Way (Listed Declaration)
  W = port_way b (p - 1)

  abbrev T : List (Listed Declaration) → ℕ
  T = takes_on b (p - 1)

  abbrev S : List (Listed Declaration)
  S = left-to-say W T place (declared b p)

  abbrev went : Written
  went = write b p place

  listed-few : (n : ℕ) → length (to_say b p place) ≤ n → length S ≤ n
  listed-few n h = rw (to-say-is b p place, length-map S (say_on b (p - 1))) at h

  -- a run, and what is left to say behind it
  pub run-and-rest : went.run ++ to_say went.bridge p went.next ≡ to_say b p place
  run-and-rest =
      ap₂ (λ (x y : List Said). x ++ y)
      (ap (λ (w : Written). w.run) (write-gives b p place c.within) ∙ ap (map (say_on b (p - 1))) run-here)
      (to-say-is went.bridge p went.next
      ∙ ap (λ (g : Listed Declaration → Said). map g (left-to-say (port_way went.bridge (p - 1)) (takes_on went.bridge (p - 1)) went.next (declared went.bridge p)))
      (say-on b p place c.valid c.port c.within c.none)
      ∙ ap (map (say_on b (p - 1))) rest-here)
      ∙ sym (map-append (say_on b (p - 1)) (take n S) (drop n S))
      ∙ ap (map (say_on b (p - 1))) (take-append-drop n S)
      ∙ sym (to-say-is b p place)
    where
      n : ℕ
      n = taken W T place (declared b p)

      run-here : (wrote_on b (p - 1) place).run ≡ take n S
      run-here = unfold wrote_on declared in (run_is W T place (declared b p))

      rest-here : left-to-say (port_way went.bridge (p - 1)) (takes_on went.bridge (p - 1)) went.next (declared went.bridge p) ≡ drop n S
      rest-here =
          on_list b p place c.valid c.port c.within c.none (λ W T i l. left-to-say W T i l)
          ∙ unfold wrote_on declared in (say-next W T (port-takes b (p - 1)) (stays-outside b (p - 1) c.none) place (declared b p))

  -- with no LeaveAll due a write says nothing where its run is none
  no_run : says_nothing went ≡ is_none went.run
  unfolding says_nothing
  no_run =
      ap (λ (t : Bool). is_none went.run && not t) (ap (λ (w : Written). w.all) (write-gives b p place c.within) ∙ c.none)
      ∙ and-true (is_none went.run)

  pub said-some : says_nothing went ≡ false → 1 ≤ length went.run
  said-some e = some-there went.run (sym no_run ∙ e)

  -- and that is where nothing is left to say
  pub said-none : to_say b p place ≡ [] → says_nothing went ≡ true
  said-none e = no_run ∙ ap is_none (run_none b p place e)

-- With no LeaveAll due: the PDUs from a place on say what is to say from there on, once, in order.
pub passes-all : (n : ℕ) (b : Bridge) (p place : ℕ) → Calm b p place → length (to_say b p place) ≤ n → flatten (write_all n b p place) ≡ to_say b p place
passes-all n b p place c h =
    ap flatten (runs-are n b p place c)
    ∙ flatten-said (say_on b (p - 1)) (runs (port_way b (p - 1)) (takes_on b (p - 1)) n place (declared b p))
    ∙ ap (map (say_on b (p - 1)))
    (says_all (port_way b (p - 1)) (takes_on b (p - 1)) (port-takes b (p - 1)) (stays-outside b (p - 1) c.none) n place (declared b p) (listed-few b p place c n h))
    ∙ sym (to-say-is b p place)

-- Then one says nothing.
pub pass-ends : (n : ℕ) (b : Bridge) (p place : ℕ) → Calm b p place → length (to_say b p place) ≤ n → ends (suc n) b p place ≡ true
pass-ends zero b p place c h =
    unfold ends in (ap (λ (t : Bool). cond t true (ends zero (write b p place).bridge p (write b p place).next)) (said-none b p place c (no_length (to_say b p place) h)))
pass-ends (suc n) b p place c h =
    unfold-ends (go (says_nothing (write b p place)) refl (pass-ends n (write b p place).bridge p (write b p place).next (then-calm b p place c.valid c.port c.within)))
  where
    unfold-ends : cond (says_nothing (write b p place)) true (ends (suc n) (write b p place).bridge p (write b p place).next) ≡ true → ends (suc (suc n)) b p place ≡ true
    unfold-ends e = unfold ends in e

    go : (t : Bool) → says_nothing (write b p place) ≡ t
        → (length (to_say (write b p place).bridge p (write b p place).next) ≤ n → ends (suc n) (write b p place).bridge p (write b p place).next ≡ true)
        → cond t true (ends (suc n) (write b p place).bridge p (write b p place).next) ≡ true
    go true e ih = refl
    go false e ih =
        let run : List Said = (write b p place).run in
        let rest : List Said = to_say (write b p place).bridge p (write b p place).next in
        let whole : length run + length rest ≡ length (to_say b p place) = sym (length-append run rest) ∙ ap length (run-and-rest b p place c) in
        ih (omega (arith, said-some b p place c e, whole, h))

-- Each PDU before it has at least one declaration, and at most 1,500 octets; so there are not more of them than declarations.
abbrev pub Filled : List Said → Type 0
Filled run = (1 ≤ length run) × (length (pdu_octets false run) ≤ longest_pdu)

pub all-filled : (n : ℕ) (b : Bridge) (p place : ℕ) → Calm b p place → All Filled (write_all n b p place)
unfolding write_all
all-filled zero b p place c = tt
all-filled (suc n) b p place c =
    go (says_nothing (write b p place)) refl (all-filled n (write b p place).bridge p (write b p place).next (then-calm b p place c.valid c.port c.within))
  where
    rest : List (List Said)
    rest = write_all n (write b p place).bridge p (write b p place).next

    fits : length (pdu_octets false (write b p place).run) ≤ longest_pdu
    fits =
        let due : (write b p place).all ≡ false = ap (λ (w : Written). w.all) (write-gives b p place c.within) ∙ c.none in
        rw due at (run_fits b p place)

    go : (t : Bool) → says_nothing (write b p place) ≡ t → All Filled rest → All Filled (cond t [] ((write b p place).run ∷ rest))
    go true e a = tt
    go false e a = ((said-some b p place c e, fits), a)

few-filled : (ls : List (List Said)) → All Filled ls → length ls ≤ length (flatten ls)
unfolding flatten
few-filled [] a = omega arith
few-filled (l ∷ ls) a = omega (arith, a.0.0, few-filled ls a.1, length-append l (flatten ls))

pub few-pdus : (n : ℕ) (b : Bridge) (p place : ℕ) → Calm b p place → length (to_say b p place) ≤ n → length (write_all n b p place) ≤ length (to_say b p place)
few-pdus n b p place c h =
    omega (arith, few-filled (write_all n b p place) (all-filled n b p place c), ap length (passes-all n b p place c h))

-- The end of a pass is seen by the length: a PDU that says nothing is 00 00 00, and any other is longer.

pub three-octets : (w : Written) → says_nothing w ≡ true → pdu_octets w.all w.run ≡ 0 ∷ 0 ∷ 0 ∷ []
unfolding says_nothing
three-octets w e = go w.all w.run e
  where
    go : (all : Bool) (run : List Said) → (is_none run && not all) ≡ true → pdu_octets all run ≡ 0 ∷ 0 ∷ 0 ∷ []
    go false [] e = no-declarations
    go true [] e = absurd (false≢true e)
    go all (d ∷ l) e = absurd (false≢true e)

pub more-octets : (w : Written) → says_nothing w ≡ false → 3 < length (pdu_octets w.all w.run)
unfolding says_nothing
more-octets w e = go w.all w.run e
  where
    go : (all : Bool) (run : List Said) → (is_none run && not all) ≡ false → 3 < length (pdu_octets all run)
    go false [] e = absurd (true≢false e)
    go true run e = omega (arith, length-pdu true run, messages-leaving run)
    go false (d ∷ l) e = omega (arith, length-pdu false (d ∷ l), messages-said d l)

-- Three passes.

-- a bridge after a pass from place 0
unfoldable pub pass : Bridge → ℕ → Bridge
pass b p = left_all (suc (length (declared b p))) b p 0

pub left-calm : (n : ℕ) (b : Bridge) (p place : ℕ) → Calm b p place → Calm (left_all n b p place) p 0
unfolding left_all
left-calm zero b p place c = record { valid = c.valid; port = c.port; none = c.none; within = omega arith }
left-calm (suc n) b p place c =
    let d : Calm (write b p place).bridge p (write b p place).next = then-calm b p place c.valid c.port c.within in
    go (says_nothing (write b p place)) d (left-calm n (write b p place).bridge p (write b p place).next d)
  where
    later : Bridge
    later = left_all n (write b p place).bridge p (write b p place).next

    go : (t : Bool) → Calm (write b p place).bridge p (write b p place).next → Calm later p 0 → Calm (cond t (write b p place).bridge later) p 0
    go true d ih = record { valid = d.valid; port = d.port; none = d.none; within = omega arith }
    go false d ih = ih

pub few-to-say : (b : Bridge) (p place : ℕ) → length (to_say b p place) ≤ length (declared b p)
unfolding to_say
few-to-say b p place =
    rw (length-map (saying (port_way b (p - 1)).says (drop place (declared b p))) (say_on b (p - 1)))
    (omega (arith, fewer-saying (port_way b (p - 1)).says (drop place (declared b p)), length-drop place (declared b p)))

-- with no LeaveAll due each machine is moved once by tx!
pub calm_pass : (b : Bridge) (p : ℕ) → Calm b p 0 → declared (pass b p) p ≡ each (after (is_registered b (p - 1)) tx) (declared b p)
unfolding pass
calm_pass b p c =
    left-are (suc (length (declared b p))) b p 0 c
    ∙ rw (calm-way b (p - 1) c.none)
    (all_left (way false g) (takes_on b (p - 1)) (port-takes b (p - 1)) (λ l. unfold way in (each-itself l)) (nothing-moves g) (suc (length (declared b p))) (declared b p) enough ∙ unfold way in refl)
  where
    g : Declaration → Bool
    g = is_registered b (p - 1)

    enough : length (left-to-say (way false g) (takes_on b (p - 1)) 0 (declared b p)) ≤ suc (length (declared b p))
    enough = unfold left-to-say in (omega (arith, fewer-saying (way false g).says (declared b p)))
