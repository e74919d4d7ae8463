-- Write, accepted or refused, leaves a bridge that keeps the form rules, its settings, its clock and its totals.
use mathlib.Core.Path.{◌≡◌, refl, sym, ◌∙◌, ap}
use mathlib.Core.Logic.{◌⊎◌, inl, inr}
use mathlib.Core.List.{List, [], ◌∷◌, map}
use mathlib.Core.Bool.{Bool, true, false, cond, not, ◌&&◌, ◌||◌, false≢true}
use Prim.Native.Nat.{ℕ, zero, suc, ◌+◌, ◌-◌, ◌≤◌, ◌<◌}
use native.Mathlib.Omega.{arith}
use native.Mathlib.Decide.{ℕ_discrete}
use lib.ListN.{length, length-map}
use lib.Dec.{leb, ltb, eqb}
use borrow.Author.Tests.{le-leb}
use Rattle.model.specs.FrameLayout.{longest_pdu}
use Rattle.model.specs.Lists.{All, bit, keep}
use Rattle.model.specs.Applicant.{tx_laf, opportunity, Standing, very_anxious_passive, very_anxious_new, anxious_new, anxious_active, quiet_active, leaving_active, becomes}
use Rattle.model.specs.LeaveAll as timer
use Rattle.model.specs.Machines.{Applicant, no_applicant, applicant, with, applicant_of, moved}
use Rattle.model.specs.State.{Talker, no_talker, talker, Listener, no_listener, listener, Cell, Domain, Result, Sends, Sender, Stream, Bridge, no_sends, no_sender, cell_at, result_at, sends_at, sender_at, own_at, declares_slot}
use Rattle.model.specs.Registrations.{Kind, advertises, faileds, listeners, leave_all, quit_talker, quit_listener, quit, does, moves, at, move_kind, change, reach, apply, apply_all, moves_sender, apply_senders, acts, holding, owning, sending, received, registered_in, domain_stays, ids}
use Rattle.model.specs.Frames.{wrong_port}
use Rattle.model.specs.Settling.{is_applicant, is_talking, is_hearing, held, is_sending, any_sending, is_held, drop_unheld}
use Rattle.model.specs.Sending.{standing_number, domain_standing}
use Rattle.model.specs.Table.{is_standing, stands, sent_rules, sent_formed, any_held, encode, decode, formed}
use Rattle.model.specs.Calls.{WriteCall, refused_write, written_to, write_on}
use Rattle.model.specs.Declarations.{declarations, Said}
use Rattle.model.specs.Writing.{leaves_all, end_on, moved_at, machines, machines_of, moved_kind, moved_streams, moved_slots, moved_sender, own_leave_all, say_on, wrote_on, after_write, Written, write}
use Rattle.model.proofs.Lists.{all_map, length_at, all_changed, drop-changed, at_here, at_other, at_each}
use Rattle.model.proofs.ApplicantEntries.{tables}
use Rattle.model.proofs.Valid.{GoodApplicant, ValidSends, ValidStream, applicant_number, ValidSlots, ValidLeaveAll, ValidSender, Valid}
use Rattle.model.proofs.FoundVectors.{Fits}
use Rattle.model.proofs.AdvanceKeepsForm.{all-dropped, fewer-dropped, dropped-rising, held-dropped}
use Rattle.model.proofs.ReceiveKeepsForm.{or_map, received-keeps, right-port}
use Rattle.model.proofs.Refusals.{cond_either}
use Rattle.model.proofs.Tables.{formed-encode, valid-decode, octets-encode}
use Rattle.model.proofs.FormKept.{Kept}

-- One machine: a write leaves it standing or not as it was, with its values; LA alone may go.

-- what is left stands
unfoldable pub stands_left : List Standing → Bool
stands_left [] = false
stands_left (q ∷ l) = is_standing q

-- what a write may do to a state
abbrev pub KeepsStanding : (Standing → List Standing) → Type 0
KeepsStanding g = (q : Standing) → stands_left (g q) ≡ is_standing q

becomes-stands : (r all : Bool) → KeepsStanding (becomes r (opportunity all))
unfolding stands_left is_standing opportunity tables
becomes-stands r all very_anxious_passive = go all
  where
    go : (all : Bool) → stands_left (becomes r (opportunity all) very_anxious_passive) ≡ true
    go true = refl
    go false = refl
becomes-stands r all very_anxious_new = go all
  where
    go : (all : Bool) → stands_left (becomes r (opportunity all) very_anxious_new) ≡ true
    go true = refl
    go false = refl
becomes-stands r all anxious_new = go r all
  where
    go : (r all : Bool) → stands_left (becomes r (opportunity all) anxious_new) ≡ true
    go r true = refl
    go true false = refl
    go false false = refl
becomes-stands r all anxious_active = go all
  where
    go : (all : Bool) → stands_left (becomes r (opportunity all) anxious_active) ≡ true
    go true = refl
    go false = refl
becomes-stands r all quiet_active = go all
  where
    go : (all : Bool) → stands_left (becomes r (opportunity all) quiet_active) ≡ true
    go true = refl
    go false = refl
becomes-stands r all leaving_active = go all
  where
    go : (all : Bool) → stands_left (becomes r (opportunity all) leaving_active) ≡ false
    go true = refl
    go false = refl

out-stands : (r : Bool) → KeepsStanding (becomes r tx_laf)
unfolding stands_left is_standing tables
out-stands r very_anxious_passive = refl
out-stands r very_anxious_new = refl
out-stands r anxious_new = refl
out-stands r anxious_active = refl
out-stands r quiet_active = refl
out-stands r leaving_active = refl

pub write-stands : (all : Bool) (place end i : ℕ) (r : Bool) → KeepsStanding (moved_at all place end i r)
unfolding moved_at
write-stands all place end i r q = go all (leb place i && ltb i end)
  where
    go : (all t : Bool) → stands_left (cond t (becomes r (opportunity all) q) (cond all (becomes r tx_laf q) (q ∷ []))) ≡ is_standing q
    go all true = becomes-stands r all q
    go true false = out-stands r q
    go false false = unfold stands_left in refl

module _ {D : Type 0} (g : Standing → List Standing) where
  moved-stands : KeepsStanding g → (a : Applicant D) → stands (moved g a) ≡ stands a
  unfolding moved stands
  moved-stands k no_applicant = refl
  moved-stands k (applicant x) = go (g x.state) (k x.state)
    where
      go : (m : List Standing) → stands_left m ≡ is_standing x.state → stands (applicant_of (map (with x.value) m)) ≡ is_standing x.state
      go [] e = unfold applicant_of stands_left in e
      go (q ∷ m) e = unfold applicant_of with stands_left in e

  moved-good : (Good : D → Type 0) (a : Applicant D) → GoodApplicant Good a → GoodApplicant Good (moved g a)
  unfolding moved
  moved-good Good no_applicant h = tt
  moved-good Good (applicant x) h = go (g x.state)
    where
      go : (m : List Standing) → GoodApplicant Good (applicant_of (map (with x.value) m))
      go [] = unfold applicant_of in tt
      go (q ∷ m) = unfold applicant_of with in h

  was-applicant : (a : Applicant D) → is_applicant (moved g a) ≡ true → is_applicant a ≡ true
  unfolding moved is_applicant
  was-applicant no_applicant e = e
  was-applicant (applicant x) e = refl

-- What a port sends of a stream.

record SendsLeft (m : Sends → Sends) : Type 0 where
  good : (x : Sends) → ValidSends x → ValidSends (m x)
  sent : (r : Result) (x : Sends) → sent_formed r (m x) ≡ sent_formed r x
  sending : (x : Sends) → is_sending (m x) ≡ true → is_sending x ≡ true

-- some of three
or-three : (a a' b b' c c' : Bool) → (a ≡ true → a' ≡ true) → (b ≡ true → b' ≡ true) → (c ≡ true → c' ≡ true) → (a || b || c) ≡ true → (a' || b' || c') ≡ true
or-three a a' b b' c c' f g h e = or_map (a || b) (a' || b') c c' (or_map a a' b b' f g) h e

kind-left : (k : Kind) (g : Standing → List Standing) → KeepsStanding g → SendsLeft (move_kind k g)
unfolding move_kind sent_formed sent_rules is_sending
kind-left advertises g s = record {
  good = λ x v. record { advertising = moved-good g _ x.advertising v.advertising; failing = v.failing };
  sent = λ r x. rw (moved-stands g s x.advertising);
  sending = λ x.
      let b = is_applicant x.failing in
      let c = is_applicant x.listening in
      or-three (is_applicant (moved g x.advertising)) (is_applicant x.advertising) b b c c (was-applicant g x.advertising) (λ e. e) (λ e. e);
}
kind-left faileds g s = record {
  good = λ x v. record { advertising = v.advertising; failing = moved-good g _ x.failing v.failing };
  sent = λ r x. rw (moved-stands g s x.failing);
  sending = λ x.
      let a = is_applicant x.advertising in
      let c = is_applicant x.listening in
      or-three a a (is_applicant (moved g x.failing)) (is_applicant x.failing) c c (λ e. e) (was-applicant g x.failing) (λ e. e);
}
kind-left listeners g s = record {
  good = λ x v. record { advertising = v.advertising; failing = v.failing };
  sent = λ r x. rw (moved-stands g s x.listening);
  sending = λ x.
      let a = is_applicant x.advertising in
      let b = is_applicant x.failing in
      or-three a a b b (is_applicant (moved g x.listening)) (is_applicant x.listening) (λ e. e) (λ e. e) (was-applicant g x.listening);
}

-- Streams: one that is still held keeps the form rules.

any-sending : (p : ℕ) (m : Sends → Sends) → ((x : Sends) → is_sending (m x) ≡ true → is_sending x ≡ true) → (l : List Sends) → any_sending (at p m l) ≡ true → any_sending l ≡ true
unfolding at any_sending
any-sending p m k [] e = e
any-sending zero m k (x ∷ l) e = or_map (is_sending (m x)) (is_sending x) (any_sending l) (any_sending l) (k x) (λ h. h) e
any-sending (suc p) m k (x ∷ l) e = or_map (is_sending x) (is_sending x) (any_sending (at p m l)) (any_sending l) (λ h. h) (any-sending p m k l) e

module _ (ports clock leave_time p : ℕ) (here : p < ports) where
  abbrev IfHeld : Stream → Type 0
  IfHeld x = is_held x ≡ true → ValidStream ports clock leave_time x

  module _ (m : Sends → Sends) (w : SendsLeft m) (x : Stream) where
    abbrev then : Stream
    then = change (λ cs. cs) (at p m) x

    was-held : is_held then ≡ true → is_held x ≡ true
    unfolding is_held change
    was-held e = or_map (held x.cells) (held x.cells) (any_sending (at p m x.sends)) (any_sending x.sends) (λ h. h) (any-sending p m w.sending x.sends) e

    then-valid : ValidStream ports clock leave_time x → is_held then ≡ true → ValidStream ports clock leave_time then
    unfolding change cell_at result_at sends_at
    then-valid v e = record {
      id = v.id;
      settled = v.settled;
      eight_cells = v.eight_cells;
      cells = v.cells;
      no-other-cells = v.no-other-cells;
      is-held = e;
      eight_results = v.eight_results;
      results = v.results;
      no-other-results = v.no-other-results;
      idle = v.idle;
      stored = v.stored;
      one-declares = v.one-declares;
      eight_sends = length_at p m x.sends ∙ v.eight_sends;
      sends = all_changed ValidSends p m x.sends w.good v.sends;
      sent = λ q h. at_each (λ y. sent_formed (result_at x q) y) p m (λ y. w.sent (result_at x q) y) x.sends q no_sends ∙ v.sent q h;
      no-other-sends = rw (drop-changed ports p m x.sends here) v.no-other-sends;
    }

    if-held : IfHeld x → IfHeld then
    if-held h e = then-valid (h (was-held e)) e

  module _ (f : ℕ → Bool → Standing → List Standing) (k : (i : ℕ) (r : Bool) → KeepsStanding (f i r)) where
    kind-kept : (j : Kind) (i : ℕ) (s : List Stream) → All IfHeld s → All IfHeld (moved_kind f j p i s)
    unfolding moved_kind
    kind-kept j i [] a = tt
    kind-kept j i (x ∷ s) a =
        let g = f i (registered_in j (cell_at x p)) in
        (if-held (move_kind j g) (kind-left j g (k i (registered_in j (cell_at x p)))) x a.0, kind-kept j (i + machines j (sends_at x p)) s a.1)

    streams-kept : (s : List Stream) → All (ValidStream ports clock leave_time) s → All (ValidStream ports clock leave_time) (drop_unheld (moved_streams f p s))
    unfolding moved_streams
    streams-kept s a =
        let failed = machines_of advertises p s in
        let listener = failed + machines_of faileds p s in
        all-dropped IfHeld (ValidStream ports clock leave_time) (λ x e h. h e) _
        (kind-kept listeners listener _
        (kind-kept faileds failed _
        (kind-kept advertises 0 s (all_map (ValidStream ports clock leave_time) IfHeld (λ x v e. v) s a))))

-- StreamIDs and cells stay
module _ (f : ℕ → Bool → Standing → List Standing) (p : ℕ) where
  kind-ids : (j : Kind) (i : ℕ) (s : List Stream) → ids (moved_kind f j p i s) ≡ ids s
  unfolding ids moved_kind change
  kind-ids j i [] = refl
  kind-ids j i (x ∷ s) = ap (λ (l : List ℕ). x.id ∷ l) (kind-ids j (i + machines j (sends_at x p)) s)

  kind-holds : (j : Kind) (i : ℕ) (s : List Stream) → any_held (moved_kind f j p i s) ≡ any_held s
  unfolding any_held moved_kind change
  kind-holds j i [] = refl
  kind-holds j i (x ∷ s) = ap (λ (b : Bool). held x.cells || b) (kind-holds j (i + machines j (sends_at x p)) s)

  kind-count : (j : Kind) (i : ℕ) (s : List Stream) → length (moved_kind f j p i s) ≡ length s
  unfolding moved_kind
  kind-count j i [] = refl
  kind-count j i (x ∷ s) = ap suc (kind-count j (i + machines j (sends_at x p)) s)

  pub moved-ids : (s : List Stream) → ids (moved_streams f p s) ≡ ids s
  unfolding moved_streams
  moved-ids s = kind-ids listeners _ _ ∙ kind-ids faileds _ _ ∙ kind-ids advertises 0 s

  pub moved_holds : (s : List Stream) → any_held (moved_streams f p s) ≡ any_held s
  unfolding moved_streams
  moved_holds s = kind-holds listeners _ _ ∙ kind-holds faileds _ _ ∙ kind-holds advertises 0 s

  pub moved-count : (s : List Stream) → length (moved_streams f p s) ≡ length s
  unfolding moved_streams
  moved-count s = kind-count listeners _ _ ∙ kind-count faileds _ _ ∙ kind-count advertises 0 s

-- What a port sends by itself.

-- VP, AA and QA stay among themselves
unfoldable left_number : List Standing → ℕ
left_number [] = 0
left_number (q ∷ l) = standing_number q

abbrev KeepsDomain : (Standing → List Standing) → Type 0
KeepsDomain g = (own : Bool) (q : Standing) → domain_standing own (standing_number q) ≡ true → domain_standing own (left_number (g q)) ≡ true

domain-becomes : (r all : Bool) → KeepsDomain (becomes r (opportunity all))
unfolding domain_standing standing_number left_number opportunity tables
domain-becomes r all false very_anxious_passive e = absurd (false≢true e)
domain-becomes r all false very_anxious_new e = absurd (false≢true e)
domain-becomes r all false anxious_new e = absurd (false≢true e)
domain-becomes r all false anxious_active e = absurd (false≢true e)
domain-becomes r all false quiet_active e = absurd (false≢true e)
domain-becomes r all false leaving_active e = absurd (false≢true e)
domain-becomes r true true very_anxious_passive e = refl
domain-becomes r false true very_anxious_passive e = refl
domain-becomes r all true very_anxious_new e = absurd (false≢true e)
domain-becomes r all true anxious_new e = absurd (false≢true e)
domain-becomes r true true anxious_active e = refl
domain-becomes r false true anxious_active e = refl
domain-becomes r true true quiet_active e = refl
domain-becomes r false true quiet_active e = refl
domain-becomes r all true leaving_active e = absurd (false≢true e)

domain-out : (r : Bool) → KeepsDomain (becomes r tx_laf)
unfolding domain_standing standing_number left_number tables
domain-out r false very_anxious_passive e = absurd (false≢true e)
domain-out r false very_anxious_new e = absurd (false≢true e)
domain-out r false anxious_new e = absurd (false≢true e)
domain-out r false anxious_active e = absurd (false≢true e)
domain-out r false quiet_active e = absurd (false≢true e)
domain-out r false leaving_active e = absurd (false≢true e)
domain-out r true very_anxious_passive e = refl
domain-out r true very_anxious_new e = absurd (false≢true e)
domain-out r true anxious_new e = absurd (false≢true e)
domain-out r true anxious_active e = refl
domain-out r true quiet_active e = refl
domain-out r true leaving_active e = absurd (false≢true e)

write-domain : (all : Bool) (place end i : ℕ) (r : Bool) → KeepsDomain (moved_at all place end i r)
unfolding moved_at
write-domain all place end i r own q e = go all (leb place i && ltb i end)
  where
    go : (all t : Bool) → domain_standing own (left_number (cond t (becomes r (opportunity all) q) (cond all (becomes r tx_laf q) (q ∷ [])))) ≡ true
    go all true = domain-becomes r all own q e
    go true false = domain-out r own q e
    go false false = unfold left_number in e

slot-moved : (g : Standing → List Standing) → KeepsDomain g → (own : Bool) (a : Applicant (Unit {0}))
    → domain_standing own (applicant_number a) ≡ true → domain_standing own (applicant_number (moved g a)) ≡ true
unfolding applicant_number moved
slot-moved g k own no_applicant e = e
slot-moved g k own (applicant x) e = go (g x.state) (k own x.state e)
  where
    go : (m : List Standing) → domain_standing own (left_number m) ≡ true → domain_standing own (applicant_number (applicant_of (map (with x.value) m))) ≡ true
    go [] h = unfold applicant_of left_number in h
    go (q ∷ m) h = unfold applicant_of with left_number in h

module _ (f : ℕ → Bool → Standing → List Standing) (k : (i : ℕ) (r : Bool) → KeepsDomain (f i r)) (own : ℕ → Bool) where
  slots_kept : (i j : ℕ) (ds : List Domain) (l : List (Applicant (Unit {0}))) → ValidSlots own j l → ValidSlots own j (moved_slots f i ds l)
  unfolding moved_slots
  slots_kept i j [] l v = v
  slots_kept i j (d ∷ ds) [] v = tt
  slots_kept i j (d ∷ ds) (a ∷ l) v =
      (slot-moved (f i (domain_stays d)) (k i (domain_stays d)) (own j) a v.0, slots_kept (i + bit (is_applicant a)) (suc j) ds l v.1)

slots-count : (f : ℕ → Bool → Standing → List Standing) (i : ℕ) (ds : List Domain) (l : List (Applicant (Unit {0}))) → length (moved_slots f i ds l) ≡ length l
unfolding moved_slots
slots-count f i [] l = refl
slots-count f i (d ∷ ds) [] = refl
slots-count f i (d ∷ ds) (a ∷ l) = ap suc (slots-count f (i + bit (is_applicant a)) ds l)

-- sending LeaveAll does not start the timer
timer-kept : (clock : ℕ) (all : Bool) (m : timer.LeaveAll) → ValidLeaveAll clock m → ValidLeaveAll clock (cond all (timer.leave_all_next clock timer.tx m) m)
unfolding timer.leave_all_next timer.leave_all_entry timer.leave_all_row timer.leave_all_column timer.sends_leave_all timer.inapplicable
timer-kept clock false m v = v
timer-kept clock true m v = go m.state
  where
    go : (q : timer.LeaveAllState) → ValidLeaveAll clock (timer.leave_all_next clock timer.tx record { state = q; start = m.start })
    go timer.active = record { past = v.past; recent = v.recent }
    go timer.passive = record { past = v.past; recent = v.recent }

-- LeaveAll's leavings: they move no machine and end no registration, so that streams go by what the machines are, and they are what a
-- received LeaveAll of each type would begin.

talks-still : (now : ℕ) (k : Kind) (c : Cell) → is_talking (quit now k c) ≡ is_talking c
unfolding is_talking quit quit_talker
talks-still now k c = go c.talks
  where
    go : (t : Talker) → is_talking record { talks = quit_talker now k t; hears = quit_listener now k c.hears } ≡ is_talking record { talks = t; hears = c.hears }
    go no_talker = refl
    go (talker r) = refl

hears-still : (now : ℕ) (k : Kind) (c : Cell) → is_hearing (quit now k c) ≡ is_hearing c
unfolding is_hearing quit quit_listener
hears-still now k c = go c.hears
  where
    go : (t : Listener) → is_hearing record { talks = quit_talker now k c.talks; hears = quit_listener now k t } ≡ is_hearing record { talks = c.talks; hears = t }
    go no_listener = refl
    go (listener r l) = refl

held-still : (now p : ℕ) (k : Kind) (cs : List Cell) → held (at p (quit now k) cs) ≡ held cs
unfolding held at
held-still now p k [] = refl
held-still now zero k (c ∷ cs) = rw (talks-still now k c, hears-still now k c)
held-still now (suc p) k (c ∷ cs) = rw (held-still now p k cs)

module _ {A : Type 0} where
  pub at-still : (p : ℕ) (u : A → A) → ((x : A) → u x ≡ x) → (l : List A) → at p u l ≡ l
  unfolding at
  at-still p u h [] = refl
  at-still zero u h (x ∷ l) = ap (λ (y : A). y ∷ l) (h x)
  at-still (suc p) u h (x ∷ l) = ap (λ (m : List A). x ∷ m) (at-still p u h l)

module _ (now p : ℕ) where
  abbrev leaver : Kind → Stream → Stream
  leaver k x = change (at p (does now (leave_all k))) (at p (moves (leave_all k))) x

  leaver-held : (k : Kind) (x : Stream) → is_held (leaver k x) ≡ is_held x
  unfolding is_held change does moves
  leaver-held k x = rw (held-still now p k x.cells, at-still p (λ (y : Sends). y) (λ y. refl) x.sends)

  left-dropped : (k : Kind) (s : List Stream) → apply now p (leave_all k) (drop_unheld s) ≡ drop_unheld (apply now p (leave_all k) s)
  unfolding apply reach drop_unheld
  left-dropped k [] = refl
  left-dropped k (x ∷ s) = rw (leaver-held k x) (go (is_held x) (left-dropped k s))
    where
      go : (t : Bool) → map (leaver k) (drop_unheld s) ≡ drop_unheld (map (leaver k) s) → map (leaver k) (keep t x (drop_unheld s)) ≡ keep t (leaver k x) (drop_unheld (map (leaver k) s))
      go true ih = ap (λ (l : List Stream). leaver k x ∷ l) ih
      go false ih = ih

  left-count : (k : Kind) (s : List Stream) → length (apply now p (leave_all k) s) ≡ length s
  unfolding apply reach
  left-count k s = length-map s (leaver k)

  pub own-leaving : (s : List Stream)
      → apply_all now p (own_leave_all true) s ≡ apply now p (leave_all listeners) (apply now p (leave_all faileds) (apply now p (leave_all advertises) s))
  unfolding apply_all own_leave_all apply reach
  own-leaving s = refl

  all-dropped-so : (all : Bool) (s : List Stream) → apply_all now p (own_leave_all all) (drop_unheld s) ≡ drop_unheld (apply_all now p (own_leave_all all) s)
  all-dropped-so false s = unfold apply_all own_leave_all in refl
  all-dropped-so true s =
      let a : List Stream = apply now p (leave_all advertises) s in
      let b : List Stream = apply now p (leave_all faileds) a in
      own-leaving (drop_unheld s)
      ∙ ap (λ (t : List Stream). apply now p (leave_all listeners) (apply now p (leave_all faileds) t)) (left-dropped advertises s)
      ∙ ap (apply now p (leave_all listeners)) (left-dropped faileds a)
      ∙ left-dropped listeners b
      ∙ ap drop_unheld (sym (own-leaving s))

  all-count : (all : Bool) (s : List Stream) → length (apply_all now p (own_leave_all all) s) ≡ length s
  all-count false s = unfold apply_all own_leave_all in refl
  all-count true s =
      let a : List Stream = apply now p (leave_all advertises) s in
      let b : List Stream = apply now p (leave_all faileds) a in
      ap length (own-leaving s) ∙ left-count listeners b ∙ left-count faileds a ∙ left-count advertises s

  senders-still : (all : Bool) (l : List Sender) → apply_senders now p (own_leave_all all) l ≡ l
  unfolding apply_senders own_leave_all moves_sender
  senders-still false l = refl
  senders-still true l =
      let still : (m : List Sender) → at p (λ (x : Sender). x) m ≡ m = at-still p (λ (x : Sender). x) (λ x. refl) in
      still _ ∙ still _ ∙ still _ ∙ still l

own-fits : (all : Bool) → All Fits (own_leave_all all)
unfolding own_leave_all
own-fits true = (tt, (tt, (tt, (tt, tt))))
own-fits false = tt

-- The bridge with its machines moved, and what they leave unheld gone.
module _ (b : Bridge) (v : Valid b) (p place : ℕ) (here : p < length b.settings.ports) where
  abbrev all : Bool
  all = leaves_all b p

  abbrev f : ℕ → Bool → Standing → List Standing
  f = moved_at all place (end_on b p place)

  abbrev domain_place : ℕ
  domain_place = machines_of advertises p b.streams + machines_of faileds p b.streams + machines_of listeners p b.streams

  abbrev sender : Sender → Sender
  sender x = moved_sender f b.clock all (own_at b.owns p) domain_place x

  unfoldable moving : Bridge
  moving = record {
    settings = b.settings;
    clock = b.clock;
    totals = b.totals;
    owns = b.owns;
    senders = at p sender b.senders;
    streams = drop_unheld (moved_streams f p b.streams);
  }

  sender-kept : (own : ℕ → Bool) (x : Sender) → ValidSender own b.clock x → ValidSender own b.clock (sender x)
  unfolding moved_sender
  sender-kept own x w = record {
    slotted = slots-count f domain_place (own_at b.owns p).domains x.domains ∙ w.slotted;
    domains = slots_kept f (λ i r. write-domain all place (end_on b p place) i r) own domain_place 0 (own_at b.owns p).domains x.domains w.domains;
    leave_all = timer-kept b.clock all x.leave_all w.leave_all;
  }

  senders-kept : (q : ℕ) → q < length b.settings.ports → ValidSender (declares_slot b.settings q) b.clock (sender_at (at p sender b.senders) q)
  unfolding sender_at
  senders-kept q h = go (ℕ_discrete p q)
    where
      go : Dec (p ≡ q) → ValidSender (declares_slot b.settings q) b.clock (sender_at (at p sender b.senders) q)
      go (yes e) =
          rw (← e, at_here p sender b.senders no_sender (omega (arith, v.eight_senders, v.settings.eight_ports)))
          (sender-kept (declares_slot b.settings p) (sender_at b.senders p) (v.senders p here))
      go (no n) = rw (at_other p sender b.senders q no_sender n) (v.senders q h)

  few : length (drop_unheld (moved_streams f p b.streams)) ≤ 64
  few = omega (arith, fewer-dropped (moved_streams f p b.streams), moved-count f p b.streams, v.at_most_64)

  moving-valid : Valid moving
  unfolding moving
  moving-valid = record {
    settings = v.settings;
    clock = v.clock;
    eight_totals = v.eight_totals;
    totals = rw (held-dropped (moved_streams f p b.streams), moved_holds f p b.streams) v.totals;
    eight_owns = v.eight_owns;
    owns = v.owns;
    no-other-owns = v.no-other-owns;
    eight_senders = length_at p sender b.senders ∙ v.eight_senders;
    senders = senders-kept;
    no-other-senders = rw (drop-changed (length b.settings.ports) p sender b.senders here) v.no-other-senders;
    at_most_64 = few;
    streams =
        streams-kept (length b.settings.ports) b.clock b.settings.leave_time p here f (λ i r. write-stands all place (end_on b p place) i r)
        b.streams v.streams;
    ascending = dropped-rising (moved_streams f p b.streams) (rw (moved-ids f p b.streams) v.ascending);
  }

  as-received : (received moving (suc p) (acts (own_leave_all all))).bridge ≡ after_write b p place
  unfolding received holding owning sending moving after_write
  as-received =
      let z : suc p - 1 ≡ p = omega arith in
      let t : List Stream = moved_streams f p b.streams in
      let small : leb (length (apply_all b.clock p (own_leave_all all) (drop_unheld t))) 64 ≡ true =
      le-leb (length (apply_all b.clock p (own_leave_all all) (drop_unheld t))) 64 (rw (all-count b.clock p all (drop_unheld t)) few) in
      rw (z, small, all-dropped-so b.clock p all t, senders-still b.clock p all (at p sender b.senders))

  moving-port : suc p - 1 < length moving.settings.ports
  unfolding moving
  moving-port = omega (arith, here)

  pub after-valid : Valid (after_write b p place)
  after-valid = rw as-received at (received-keeps moving (suc p) (acts (own_leave_all all)) moving-port (own-fits all) moving-valid)

-- The call.

module _ (b : Bridge) (p place : ℕ) where
  -- what holds of a refusal and of an accepted write holds of the answer
  pub answered : (P : Written → Type 0) → P record { number = 13; all = false; run = []; next = 0; bridge = b }
      → ((run : List Said) (next : ℕ) → P record { number = 0; all = leaves_all b (p - 1); run = run; next = next; bridge = after_write b (p - 1) place })
      → P (write b p place)
  unfolding write
  answered P refused accepted = go (ltb (length (declarations b (p - 1))) place)
    where
      go : (t : Bool) → P (cond t record { number = 13; all = false; run = []; next = 0; bridge = b }
          record { number = 0; all = leaves_all b (p - 1); run = map (say_on b (p - 1)) (wrote_on b (p - 1) place).run; next = (wrote_on b (p - 1) place).next; bridge = after_write b (p - 1) place })
      go true = refused
      go false = accepted (map (say_on b (p - 1)) (wrote_on b (p - 1) place).run) (wrote_on b (p - 1) place).next

  pub write_keeps : wrong_port b.settings p ≡ false → Valid b → Valid (write b p place).bridge
  write_keeps e v = answered (λ w. Valid w.bridge) v (λ run next. after-valid b v (p - 1) place (right-port b.settings p e))

  -- a refused write leaves the bridge as it is
  pub write-accepted-or-unchanged : ((write b p place).number ≡ 0) ⊎ ((write b p place).bridge ≡ b)
  write-accepted-or-unchanged = answered (λ w. (w.number ≡ 0) ⊎ (w.bridge ≡ b)) (inr refl) (λ run next. inl refl)

  -- what is settled stays: settings, clock and totals
  pub write-settings : (write b p place).bridge.settings ≡ b.settings
  unfolding after_write
  write-settings = answered (λ w. w.bridge.settings ≡ b.settings) refl (λ run next. refl)

  pub write-clock : (write b p place).bridge.clock ≡ b.clock
  unfolding after_write
  write-clock = answered (λ w. w.bridge.clock ≡ b.clock) refl (λ run next. refl)

  pub write-totals : (write b p place).bridge.totals ≡ b.totals
  unfolding after_write
  write-totals = answered (λ w. w.bridge.totals ≡ b.totals) refl (λ run next. refl)

-- a table that keeps the form rules still does after a write, accepted or refused
pub write-formed : (t : List ℕ) → Kept t → (p place : ℕ) (buffer : List ℕ) → Kept (write_on t p place buffer).table
unfolding write_on written_to refused_write
write-formed t k p place buffer = cond_either Keeps (not (formed t)) _ _ k (go (wrong_port (decode t).settings p) refl)
  where
    Keeps : WriteCall → Type 0
    Keeps w = Kept w.table

    go : (w : Bool) → wrong_port (decode t).settings p ≡ w
        → Keeps (cond w (refused_write 1 t buffer) (cond (ltb (length buffer) longest_pdu) (refused_write 10 t buffer) (written_to t buffer (write (decode t) p place))))
    go true e = k
    go false e =
        let after : Bridge = (write (decode t) p place).bridge in
        let kept : Kept (encode after) = (octets-encode after, formed-encode after (write_keeps (decode t) p place e (valid-decode t k.0 k.1))) in
        cond_either Keeps (ltb (length buffer) longest_pdu) _ _ k (cond_either Keeps (eqb (write (decode t) p place).number 0) _ _ kept k)
