-- A write and the settled declarations (02, xiv): the machines that stand are still just these, with the settled octets. With no LeaveAll a
-- write ends a machine only where it writes its Lv; and what it does to a machine is one of the happenings through which what was sent is
-- withdrawn by an Lv or a LeaveAll.
use mathlib.Core.Path.{◌≡◌, refl, sym, ◌∙◌, ap, ap₂}
use mathlib.Core.List.Memᴰ
use mathlib.Core.List.{List, [], ◌∷◌, ◌++◌, map, append_assoc, Memᴰ}
use mathlib.Core.Bool.{Bool, true, false, cond, ◌&&◌, ◌||◌, true≢false, false≢true}
use Prim.Native.Nat.{ℕ, ◌+◌, ◌-◌, ◌<◌}
use native.Mathlib.Omega.{arith}
use lib.ListN.{get_or, take, drop}
use lib.Dec.{eqb, leb, ltb}
use borrow.Author.Tests.{ne_eqb, eqb-true}
use Rattle.model.specs.Lists.{All, keep}
use Rattle.model.specs.Applicant.{tx, tx_laf, opportunity, s_l, message_number, Standing, very_anxious_passive, very_anxious_new, anxious_new, anxious_active, quiet_active, leaving_active, becomes, sent, spoken}
use Rattle.model.specs.Places.{Way, Wrote, itself, each, saying, reached, behind, left_before, write_from}
use Rattle.model.specs.Machines.{Listed, Applicant, no_applicant, applicant, Decided, undeclared, declared, with, applicant_of, after, moved, way}
use Rattle.model.specs.State.{Fixed, Ready, Result, Offer, Failure, Sends, Stream, Bridge, no_sends, cell_at, result_at, sends_at}
use Rattle.model.specs.Registrations.{Kind, advertises, faileds, listeners, leave_all, moves, at, move_kind, change, reach, apply, apply_all, registered_in, ids}
use Rattle.model.specs.Settling.{is_applicant, held, is_sending, any_sending, is_held, drop_unheld, advertised_by, failed_by, listened_by, same_offer, same_failed, same_ready}
use Rattle.model.specs.Table.{is_standing}
use Rattle.model.specs.Declarations.{Declaration, declarations, is_registered, say}
use Rattle.model.specs.Writing.{leaves_all, say_on, takes_on, wrote_on, end_on, moved_at, machines, machines_of, moved_kind, moved_streams, own_leave_all, after_write, write}
use Rattle.model.proofs.Lists.{all_map, all_both}
use Rattle.model.proofs.Valid.{Rising}
use Rattle.model.proofs.ApplicantEntries.{tables, written-leaving-all}
use Rattle.model.proofs.PlaceLists.{each-itself, saying-reached}
use Rattle.model.proofs.Passing.{left-to-say, taken, run_is}
use Rattle.model.proofs.Deciding.{Stands, Holds}
use Rattle.model.proofs.AdvanceKeepsForm.{or-false, all-dropped, dropped-all}
use Rattle.model.proofs.SettledSends.{Follows, SettledSends, Sent, at-keeps, all-applied-sent}
use Rattle.model.proofs.Withdrawing.{Happening, is_reached, is_reached_leaving_all, is_left_out, happens, machine_after, ended-said}
use Rattle.model.proofs.WriteKeepsForm.{stands_left, KeepsStanding, write-stands, moved-ids, at-still, own-leaving, answered}
use Rattle.model.proofs.WrittenList.{none-moved, kind-here, none-there}
use Rattle.model.proofs.PortPasses.{calm-way}

-- One machine: one that stands still does, with its value; an unsent Lv stays one, or goes.

stands-so : (q : Standing) → is_standing q ≡ true → Stands q
unfolding is_standing
stands-so very_anxious_passive e = tt
stands-so very_anxious_new e = tt
stands-so anxious_new e = tt
stands-so anxious_active e = tt
stands-so quiet_active e = tt
stands-so leaving_active e = absurd (false≢true e)

so-stands : (q : Standing) → Stands q → is_standing q ≡ true
unfolding is_standing
so-stands very_anxious_passive s = refl
so-stands very_anxious_new s = refl
so-stands anxious_new s = refl
so-stands anxious_active s = refl
so-stands quiet_active s = refl
so-stands leaving_active s = absurd s

not-standing : (q : Standing) → is_standing q ≡ false → q ≡ leaving_active
unfolding is_standing
not-standing very_anxious_passive e = absurd (true≢false e)
not-standing very_anxious_new e = absurd (true≢false e)
not-standing anxious_new e = absurd (true≢false e)
not-standing anxious_active e = absurd (true≢false e)
not-standing quiet_active e = absurd (true≢false e)
not-standing leaving_active e = refl

leaving-stands : is_standing leaving_active ≡ false
unfolding is_standing
leaving-stands = refl

module _ {D : Type 0} (g : Standing → List Standing) (k : KeepsStanding g) where
  left-stands : (m : List Standing) (v w : D) → stands_left m ≡ true → v ≡ w → Holds Stands w (applicant_of (map (with v) m))
  unfolding stands_left
  left-stands [] v w e f = absurd (false≢true e)
  left-stands (q ∷ m) v w e f = unfold applicant_of with in (stands-so q e, f)

  left-unsent : (m : List Standing) (v : D) → stands_left m ≡ false → Follows undeclared (applicant_of (map (with v) m))
  unfolding stands_left
  left-unsent [] v e = unfold applicant_of in tt
  left-unsent (q ∷ m) v e = unfold applicant_of with in (not-standing q e)

  written-follows : (d : Decided D) (a : Applicant D) → Follows d a → Follows d (moved g a)
  unfolding moved
  written-follows undeclared no_applicant f = tt
  written-follows (declared v) no_applicant f = f
  written-follows undeclared (applicant x) f = left-unsent (g x.state) x.value (k x.state ∙ ap is_standing f ∙ leaving-stands)
  written-follows (declared v) (applicant x) f = left-stands (g x.state) x.value v (k x.state ∙ so-stands x.state f.0) f.1

-- What a port sends of a stream.
kind-sent : (g : Standing → List Standing) → KeepsStanding g → (j : Kind) (f : Fixed) (r : Result) (s : Sends) → SettledSends f r s → SettledSends f r (move_kind j g s)
unfolding move_kind
kind-sent g k advertises f r s h =
    record { advertising = written-follows g k (advertised_by f r r.column) s.advertising h.advertising; failing = h.failing; listening = h.listening }
kind-sent g k faileds f r s h =
    record { advertising = h.advertising; failing = written-follows g k (failed_by f r r.column) s.failing h.failing; listening = h.listening }
kind-sent g k listeners f r s h =
    record { advertising = h.advertising; failing = h.failing; listening = written-follows g k (listened_by r.declares) s.listening h.listening }

moved-sent : (p : ℕ) (g : Standing → List Standing) → KeepsStanding g → (j : Kind) (x : Stream) → Sent x → Sent (change (λ cs. cs) (at p (move_kind j g)) x)
unfolding change result_at sends_at
moved-sent p g k j x h q i =
    at-keeps (SettledSends x.settled (result_at x q)) (move_kind j g) (λ s. kind-sent g k j x.settled (result_at x q) s) p x.sends q no_sends (h q i)

module _ (p : ℕ) (f : ℕ → Bool → Standing → List Standing) (k : (i : ℕ) (r : Bool) → KeepsStanding (f i r)) where
  kind-all : (j : Kind) (i : ℕ) (s : List Stream) → All Sent s → All Sent (moved_kind f j p i s)
  unfolding moved_kind
  kind-all j i [] a = tt
  kind-all j i (x ∷ s) a =
      let r = registered_in j (cell_at x p) in
      (moved-sent p (f i r) (k i r) j x a.0, kind-all j (i + machines j (sends_at x p)) s a.1)

  streams-sent : (s : List Stream) → All Sent s → All Sent (moved_streams f p s)
  unfolding moved_streams
  streams-sent s a = kind-all listeners _ _ (kind-all faileds _ _ (kind-all advertises 0 s a))

-- A write keeps it: VP, VN, AN, AA and QA hold just the settled declarations, with the settled octets.
pub write-sent : (b : Bridge) (p place : ℕ) → All Sent b.streams → All Sent (after_write b p place).streams
unfolding after_write
write-sent b p place a =
    let f : ℕ → Bool → Standing → List Standing = moved_at (leaves_all b p) place (end_on b p place) in
    all-dropped Sent Sent (λ y h s. s) (apply_all b.clock p (own_leave_all (leaves_all b p)) (moved_streams f p b.streams))
    (all-applied-sent b.clock p (own_leave_all (leaves_all b p)) (moved_streams f p b.streams)
    (streams-sent p f (λ i r. write-stands (leaves_all b p) place (end_on b p place) i r) b.streams a))

pub write-sends : (b : Bridge) (p place : ℕ) → All Sent b.streams → All Sent (write b p place).bridge.streams
write-sends b p place a = answered b p place (λ w. All Sent w.bridge.streams) a (λ run next. write-sent b (p - 1) place a)

-- With no LeaveAll due a machine leaves the list only where its Lv is written.

module _ {A : Type 0} where
  -- what has something to say and is reached is in the run
  said-there : (f : A → Bool) (l : List A) → All (λ x. f x ≡ true → Memᴰ x (saying f l)) l
  unfolding saying
  said-there f [] = tt
  said-there f (x ∷ l) = (own (f x), all_map (λ y. f y ≡ true → Memᴰ y (saying f l)) (λ y. f y ≡ true → Memᴰ y (keep (f x) x (saying f l))) (λ y h e. later (f x) y (h e)) l (said-there f l))
    where
      own : (t : Bool) → t ≡ true → Memᴰ x (keep t x (saying f l))
      own true e = Memᴰ.head refl
      own false e = absurd (false≢true e)

      later : (t : Bool) (y : A) → Memᴰ y (saying f l) → Memᴰ y (keep t x (saying f l))
      later true y m = Memᴰ.tail m
      later false y m = m

module _ (b : Bridge) (p place : ℕ) (none : leaves_all b p ≡ false) where
  abbrev l : List (Listed Declaration)
  l = declarations b p

  abbrev g : Declaration → Bool
  g = is_registered b p

  -- those that the PDU reaches, and those behind them
  abbrev n : ℕ
  n = taken (way false g) (takes_on b p) place l

  abbrev front : List (Listed Declaration)
  front = reached (way false g).says n (drop place l)

  abbrev rest : List (Listed Declaration)
  rest = behind (way false g).says n (drop place l)

  calm_write : wrote_on b p place ≡ write_from (way false g) (takes_on b p) place l
  unfolding wrote_on
  calm_write = ap (λ (w : Way (Listed Declaration)). write_from w (takes_on b p) place l) (calm-way b p none)

  -- all others stay as they are
  pub others-stay : (wrote_on b p place).list ≡ take place l ++ (each (after g tx) front ++ rest)
  others-stay =
      ap (λ (w : Wrote (Listed Declaration)). w.list) calm_write
      ∙ unfold write_from left_before taken way in
      (ap (λ (r : List (Listed Declaration)). r ++ each itself rest) (ap (λ (r : List (Listed Declaration)). r ++ each (after g tx) front) (each-itself (take place l)))
      ∙ ap (λ (r : List (Listed Declaration)). (take place l ++ each (after g tx) front) ++ r) (each-itself rest)
      ∙ append_assoc (take place l) (each (after g tx) front) rest)

  run-reached : (wrote_on b p place).run ≡ saying (way false g).says front
  run-reached =
      ap (λ (w : Wrote (Listed Declaration)). w.run) calm_write
      ∙ run_is (way false g) (takes_on b p) place l
      ∙ unfold left-to-say in (sym (saying-reached (way false g).says n (drop place l)))

  -- of those reached, each that ends is in the PDU, with the event Lv
  pub ended-by-lv : All (λ x. after g tx x ≡ [] → Memᴰ (say_on b p x) (map (say_on b p) (wrote_on b p place).run) × ((say_on b p x).event ≡ 5)) front
  ended-by-lv =
      all_map _ _ one front
      (all_both _ _ front (ended-said g front) (said-there (way false g).says front))
    where
      number : (x : Listed Declaration) → sent (g x.value) tx x.state ≡ s_l → (say_on b p x).event ≡ 5
      number x e =
          unfold say_on say spoken in
          (ap (λ (a : Bool). message_number (g x.value) (sent (g x.value) (opportunity a) x.state)) none
          ∙ unfold opportunity in (ap (message_number (g x.value)) e ∙ unfold message_number in refl))

      one : (x : Listed Declaration)
          → (after g tx x ≡ [] → (sent (g x.value) tx x.state ≡ s_l) × ((way false g).says x ≡ true)) × ((way false g).says x ≡ true → Memᴰ x (saying (way false g).says front))
          → after g tx x ≡ [] → Memᴰ (say_on b p x) (map (say_on b p) (wrote_on b p place).run) × ((say_on b p x).event ≡ 5)
      one x h e =
          let f = h.0 e in
          (rw run-reached (Memᴰ.map (say_on b p) (h.1 f.1)), number x f.0)

-- What a write does to a machine, as a happening: reached or not, with LeaveAll or without it.
module _ {D : Type 0} (same : D → D → Bool) where
  unfoldable pub happening : (all reached r : Bool) → List (Happening D)
  happening false true r = is_reached r ∷ []
  happening false false r = []
  happening true true r = is_reached_leaving_all ∷ []
  happening true false r = is_left_out ∷ []

  left-out-so : (r : Bool) (q : Standing) → becomes r tx_laf q ≡ becomes false tx_laf q
  unfolding tables
  left-out-so r very_anxious_passive = refl
  left-out-so r very_anxious_new = refl
  left-out-so r anxious_new = refl
  left-out-so r anxious_active = refl
  left-out-so r quiet_active = refl
  left-out-so r leaving_active = refl

  pub write-happens : (all : Bool) (place end i : ℕ) (r : Bool) (a : Applicant D)
      → moved (moved_at all place end i r) a ≡ machine_after same (happening all (leb place i && ltb i end) r) a
  write-happens all place end i r no_applicant = unfold moved in (go all (leb place i && ltb i end))
    where
      go : (all t : Bool) → no_applicant ≡ machine_after same (happening all t r) no_applicant
      go false true = unfold happening machine_after happens moved in refl
      go false false = unfold happening machine_after in refl
      go true true = unfold happening machine_after happens moved in refl
      go true false = unfold happening machine_after happens moved in refl
  write-happens all place end i r (applicant x) = unfold moved moved_at in (go all (leb place i && ltb i end))
    where
      left_by_lem : List Standing → Applicant D
      left_by_lem m = applicant_of (map (with x.value) m)

      go : (all t : Bool) → left_by_lem (cond t (becomes r (opportunity all) x.state) (cond all (becomes r tx_laf x.state) (x.state ∷ []))) ≡ machine_after same (happening all t r) (applicant x)
      go false true = unfold happening machine_after happens moved opportunity in refl
      go false false = unfold happening machine_after applicant_of with in refl
      go true true =
          unfold happening machine_after happens moved opportunity in
          (ap left_by_lem (written-leaving-all r x.state ∙ sym (written-leaving-all false x.state)))
      go true false = unfold happening machine_after happens moved in (ap left_by_lem (left-out-so r x.state))

-- What a port sends of a StreamID, and what a write makes of it.

unfoldable pub sends_in : ℕ → ℕ → List Stream → Sends
sends_in p id [] = no_sends
sends_in p id (x ∷ s) = cond (eqb x.id id) (sends_at x p) (sends_in p id s)

no-applicant : {D : Type 0} (a : Applicant D) → is_applicant a ≡ false → a ≡ no_applicant
unfolding is_applicant
no-applicant no_applicant e = refl
no-applicant (applicant x) e = absurd (true≢false e)

nothing-sent : (s : Sends) → is_sending s ≡ false → s ≡ no_sends
unfolding is_sending no_sends
nothing-sent s e =
    let both = or-false (is_applicant s.advertising || is_applicant s.failing) (is_applicant s.listening) e in
    let talker = or-false (is_applicant s.advertising) (is_applicant s.failing) both.0 in
    go s.advertising s.failing s.listening (no-applicant s.advertising talker.0) (no-applicant s.failing talker.1) (no-applicant s.listening both.1)
  where
    go : (a : Applicant Offer) (b : Applicant (Offer × Failure)) (c : Applicant Ready) → a ≡ no_applicant → b ≡ no_applicant → c ≡ no_applicant
        → record { advertising = a; failing = b; listening = c } ≡ no_sends
    go a b c e f g = rw (e, f, g)

-- LeaveAll's leavings keep StreamIDs
left-ids : (now p : ℕ) (k : Kind) (s : List Stream) → ids (apply now p (leave_all k) s) ≡ ids s
unfolding ids apply reach change
left-ids now p k [] = refl
left-ids now p k (x ∷ s) = ap (λ (l : List ℕ). x.id ∷ l) (left-ids now p k s)

leaving-ids : (now p : ℕ) (all : Bool) (s : List Stream) → ids (apply_all now p (own_leave_all all) s) ≡ ids s
leaving-ids now p false s = unfold apply_all own_leave_all in refl
leaving-ids now p true s =
    ap ids (own-leaving now p s)
    ∙ left-ids now p listeners (apply now p (leave_all faileds) (apply now p (leave_all advertises) s))
    ∙ left-ids now p faileds (apply now p (leave_all advertises) s)
    ∙ left-ids now p advertises s

-- a machine after a write, with LeaveAll or without it: reached or not
abbrev pub ByWrite : {D : Type 0} → (D → D → Bool) → Bool → Applicant D → Applicant D → Type 0
ByWrite same all a b = (t : Bool) × (r : Bool) × (b ≡ machine_after same (happening same all t r) a)

pub record Happened (all : Bool) (s t : Sends) : Type 0 where
  pub advertising : ByWrite same_offer all s.advertising t.advertising
  pub failing : ByWrite same_failed all s.failing t.failing
  pub listening : ByWrite same_ready all s.listening t.listening

module _ (p id : ℕ) where
  -- moved at some place, its Registrar being IN or not
  kind-sends : (f : ℕ → Bool → Standing → List Standing) (k : Kind) (i : ℕ) (s : List Stream)
      → (j : ℕ) × (r : Bool) × (sends_in p id (moved_kind f k p i s) ≡ move_kind k (f j r) (sends_in p id s))
  unfolding sends_in moved_kind change
  kind-sends f k i [] = (0, false, sym (none-moved k (f 0 false)))
  kind-sends f k i (x ∷ s) = go (eqb x.id id) refl (kind-sends f k (i + machines k (sends_at x p)) s)
    where
      u : Stream
      u = change (λ cs. cs) (at p (move_kind k (f i (registered_in k (cell_at x p))))) x

      same : u.id ≡ x.id
      same = refl

      rest : List Stream
      rest = moved_kind f k p (i + machines k (sends_at x p)) s

      go : (t : Bool) → eqb x.id id ≡ t → (j : ℕ) × (r : Bool) × (sends_in p id rest ≡ move_kind k (f j r) (sends_in p id s))
          → (j : ℕ) × (r : Bool) × (cond (eqb u.id id) (sends_at u p) (sends_in p id rest) ≡ move_kind k (f j r) (cond t (sends_at x p) (sends_in p id s)))
      go true e ih = (i, registered_in k (cell_at x p), rw (same, e) (kind-here k p (f i (registered_in k (cell_at x p))) x))
      go false e ih = (ih.0, ih.1, rw (same, e) ih.2)

  left-sends : (now : ℕ) (k : Kind) (s : List Stream) → sends_in p id (apply now p (leave_all k) s) ≡ sends_in p id s
  unfolding sends_in apply reach change sends_at moves
  left-sends now k [] = refl
  left-sends now k (x ∷ s) =
      ap₂ (cond (eqb x.id id)) (ap (λ (l : List Sends). get_or l p no_sends) (at-still p (λ (y : Sends). y) (λ y. refl) x.sends)) (left-sends now k s)

  leaving-sends : (now : ℕ) (all : Bool) (s : List Stream) → sends_in p id (apply_all now p (own_leave_all all) s) ≡ sends_in p id s
  leaving-sends now false s = unfold apply_all own_leave_all in refl
  leaving-sends now true s =
      ap (sends_in p id) (own-leaving now p s)
      ∙ left-sends now listeners (apply now p (leave_all faileds) (apply now p (leave_all advertises) s))
      ∙ left-sends now faileds (apply now p (leave_all advertises) s)
      ∙ left-sends now advertises s

  past-sends : (s : List Stream) → All (λ j. id < j) (ids s) → sends_in p id s ≡ no_sends
  unfolding sends_in ids
  past-sends [] a = refl
  past-sends (x ∷ s) a = rw (ne_eqb x.id id (λ e. omega (arith, a.0, e))) (past-sends s a.1)

  -- a stream that goes sends nothing
  dropped-sends : (s : List Stream) → Rising (ids s) → sends_in p id (drop_unheld s) ≡ sends_in p id s
  unfolding sends_in drop_unheld ids Rising
  dropped-sends [] r = refl
  dropped-sends (x ∷ s) r = go (is_held x) refl (dropped-sends s r.1)
    where
      silent : is_held x ≡ false → sends_at x p ≡ no_sends
      silent e = nothing-sent (sends_at x p) (unfold is_held sends_at in (none-there x.sends p (or-false (held x.cells) (any_sending x.sends) e).1))

      gone : is_held x ≡ false → (t : Bool) → eqb x.id id ≡ t → sends_in p id (drop_unheld s) ≡ sends_in p id s
          → sends_in p id (drop_unheld s) ≡ cond t (sends_at x p) (sends_in p id s)
      gone e true q ih = past-sends (drop_unheld s) (dropped-all (λ j. id < j) s (rw (eqb-true x.id id q) at r.0)) ∙ sym (silent e)
      gone e false q ih = ih

      go : (t : Bool) → is_held x ≡ t → sends_in p id (drop_unheld s) ≡ sends_in p id s
          → sends_in p id (keep t x (drop_unheld s)) ≡ cond (eqb x.id id) (sends_at x p) (sends_in p id s)
      go true e ih = ap (cond (eqb x.id id) (sends_at x p)) ih
      go false e ih = gone e (eqb x.id id) refl ih

-- A write is a happening of each machine of its port.
module _ (b : Bridge) (rising : Rising (ids b.streams)) (p place id : ℕ) where
  abbrev all : Bool
  all = leaves_all b p

  abbrev f : ℕ → Bool → Standing → List Standing
  f = moved_at all place (end_on b p place)

  abbrev before : Sends
  before = sends_in p id b.streams

  abbrev first : List Stream
  first = moved_kind f advertises p 0 b.streams

  abbrev second : List Stream
  second = moved_kind f faileds p (machines_of advertises p b.streams) first

  abbrev listener_place : ℕ
  listener_place = machines_of advertises p b.streams + machines_of faileds p b.streams

  one : (j : ℕ) × (r : Bool) × (sends_in p id first ≡ move_kind advertises (f j r) before)
  one = kind-sends p id f advertises 0 b.streams

  two : (j : ℕ) × (r : Bool) × (sends_in p id second ≡ move_kind faileds (f j r) (sends_in p id first))
  two = kind-sends p id f faileds (machines_of advertises p b.streams) first

  three : (j : ℕ) × (r : Bool) × (sends_in p id (moved_kind f listeners p listener_place second) ≡ move_kind listeners (f j r) (sends_in p id second))
  three = kind-sends p id f listeners listener_place second

  then-sends : sends_in p id (after_write b p place).streams
      ≡ move_kind listeners (f three.0 three.1) (move_kind faileds (f two.0 two.1) (move_kind advertises (f one.0 one.1) before))
  unfolding after_write moved_streams
  then-sends =
      dropped-sends p id (apply_all b.clock p (own_leave_all all) (moved_streams f p b.streams)) later
      ∙ leaving-sends p id b.clock all (moved_streams f p b.streams)
      ∙ three.2
      ∙ ap (move_kind listeners (f three.0 three.1)) (two.2 ∙ ap (move_kind faileds (f two.0 two.1)) one.2)
    where
      later : Rising (ids (apply_all b.clock p (own_leave_all all) (moved_streams f p b.streams)))
      later = rw (leaving-ids b.clock p all (moved_streams f p b.streams), moved-ids f p b.streams) rising

  pub write-happened : Happened (leaves_all b p) (sends_in p id b.streams) (sends_in p id (after_write b p place).streams)
  write-happened =
      let end = end_on b p place in
      rw then-sends
      (unfold move_kind in
      record {
        advertising = (leb place one.0 && ltb one.0 end, one.1, write-happens same_offer all place end one.0 one.1 before.advertising);
        failing = (leb place two.0 && ltb two.0 end, two.1, write-happens same_failed all place end two.0 two.1 before.failing);
        listening = (leb place three.0 && ltb three.0 end, three.1, write-happens same_ready all place end three.0 three.1 before.listening);
      })
