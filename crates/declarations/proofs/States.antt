-- What the octets of a table say of a declaration: the state of its Applicant, whether a write says something of it, whether the port has
-- its registration, and so the event.
use Prim.Native.Nat.{ℕ, zero, suc, ◌+◌, ◌/◌, ◌%◌, ◌≤◌, ◌<◌}
use native.Mathlib.Omega.{arith}
use mathlib.Core.Path.{◌≡◌, refl, sym, ap, ◌∙◌}
use mathlib.Core.Bool.{Bool, true, false, not, false≢true}
use mathlib.Core.List.{List, [], ◌∷◌, map}
use lib.ListN.{length, get_or}
use lib.Dec.{eqb}
use borrow.Author.Tests.{eq-eqb, ne_eqb}
use Rattle.model.specs.Lists.{All, keep}
use Rattle.model.specs.Applicant.{ApplicantState, ApplicantEvent, applicant_row, applicant_column, applicant_entry, by, is_written, message_number, opportunity, Standing, sent, speaks, spoken, state_of, asks, event_at}
use Rattle.model.specs.Machines.{Listed, no_applicant, way}
use Rattle.model.specs.Places.{saying}
use Rattle.model.specs.State.{no_domain, Stream, Bridge, fresh, cell_at, sends_at, sender_at, own_at, slot_of, stream_at}
use Rattle.model.specs.Registrations.{Kind, advertises, faileds, listeners, ids, domain_stays, registered_in}
use Rattle.model.specs.Frames.{Attribute, registers, domain_type}
use Rattle.model.specs.Sending.{standing_number}
use Rattle.model.specs.Table.{decode}
use Rattle.model.specs.Declarations.{Declaration, talker_kind, say, advertise_of, failed_of, listener_declaration, declarations_of, domain_of, registered_of, is_registered}
use Rattle.model.specs.Writing.{leaves_all, port_way, say_on}
use Rattle.model.specs.Laid.{Ascending}
use Rattle.model.proofs.Lists.{all-at, get_or_map}
use Rattle.model.proofs.Fits.{laid-fits}
use Rattle.model.proofs.ApplicantEntries.{octet-back}
use Rattle.model.proofs.ApplicantOctets.{standing-few}
use Rattle.model.proofs.WritingPasses.{all_listed}
use Rattle.declarations.specs.Vectors.{some}
use Rattle.declarations.specs.Passes.{declarers, machine_by, state_number, registered_by, Saying, said_of, said_by, event_in}
use Rattle.declarations.proofs.Declared.{one-machine}

-- A state's octet.

pub state_few : (l : List (Listed Declaration)) → state_number l ≤ 6
unfolding state_number
state_few [] = omega arith
state_few (x ∷ l) = (standing-few x.state).1

pub some_state : (l : List (Listed Declaration)) → some l ≡ not (eqb (state_number l) 0)
unfolding some state_number
some_state [] = refl
some_state (x ∷ l) = rw (ne_eqb (standing_number x.state) 0 (λ z. omega (arith, (standing-few x.state).0, z)))

asks-speaks : (e : ApplicantEvent) (q : Standing) → asks e (standing_number q) ≡ speaks e q
unfolding asks speaks sent standing_number
asks-speaks e q = ap (λ (x : ApplicantState). is_written (applicant_entry false e x).sends) (octet-back q)

event-spoken : (r : Bool) (e : ApplicantEvent) (q : Standing) → event_at r e (standing_number q) ≡ spoken r e q
unfolding event_at spoken sent standing_number
event-spoken r e q = ap (λ (x : ApplicantState). message_number r (applicant_entry r e x).sends) (octet-back q)

none-asks : (all : Bool) → asks (opportunity all) 0 ≡ false
unfolding asks opportunity state_of applicant_entry applicant_row applicant_column by is_written
none-asks true = refl
none-asks false = refl

-- what a write says of one declaration
module _ (b : Bridge) (p : ℕ) where
  says-state : (x : Listed Declaration) → (port_way b p).says x ≡ speaks (opportunity (leaves_all b p)) x.state
  unfolding port_way
  says-state x = go (leaves_all b p)
    where
      go : (all : Bool) → (way all (is_registered b p)).says x ≡ speaks (opportunity all) x.state
      go true = unfold way opportunity in refl
      go false = unfold way opportunity in refl

  pub said-there : (x : Listed Declaration) → some (said_of b p (x ∷ [])) ≡ true → said_of b p (x ∷ []) ≡ say_on b p x ∷ []
  unfolding said_of saying some
  said-there x = go ((port_way b p).says x)
    where
      go : (t : Bool) → some (map (say_on b p) (keep t x [])) ≡ true → map (say_on b p) (keep t x []) ≡ say_on b p x ∷ []
      go true e = refl
      go false e = absurd (false≢true e)

  pub none_said : said_of b p [] ≡ []
  unfolding said_of saying
  none_said = refl

  asks-some : (l : List (Listed Declaration)) → length l ≤ 1 → asks (opportunity (leaves_all b p)) (state_number l) ≡ some (said_of b p l)
  unfolding state_number some
  asks-some [] f = none-asks (leaves_all b p) ∙ rw none_said
  asks-some (x ∷ []) f =
      asks-speaks (opportunity (leaves_all b p)) x.state ∙ sym (says-state x) ∙ unfold said_of saying in (go ((port_way b p).says x))
    where
      go : (t : Bool) → t ≡ some (map (say_on b p) (keep t x []))
      go true = refl
      go false = refl
  asks-some (x ∷ y ∷ l) f = absurd (omega arith)

  pub says_some : (j : Attribute) (k : ℕ) → asks (opportunity (leaves_all b p)) (state_number (machine_by j p b k)) ≡ some (said_by j p b k)
  says_some j k = asks-some (machine_by j p b k) (one-machine j p b k) ∙ unfold said_by in refl

  event-some : (r : Bool) (l : List (Listed Declaration)) → length l ≤ 1 → All (λ x. is_registered b p x.value ≡ r) l → some (said_of b p l) ≡ true
      → event_at r (opportunity (leaves_all b p)) (state_number l) ≡ event_in (said_of b p l)
  unfolding state_number some
  event-some r [] f a q = absurd (false≢true (rw none_said at q))
  event-some r (x ∷ []) f a q =
      event-spoken r (opportunity (leaves_all b p)) x.state ∙ sym (rw (said-there x q) (unfold event_in say_on say in (rw a.0)))
  event-some r (x ∷ y ∷ l) f a q = absurd (omega arith)

-- The registration of a declaration's type and key is the one in its own cell, or slot.

registered-at : (j : Kind) (p : ℕ) (s : List Stream) → Ascending (ids s) → (k : ℕ) → k < length s
    → registered_of j p (get_or s k (fresh 0)).id s ≡ registered_in j (cell_at (get_or s k (fresh 0)) p)
unfolding registered_of ids
registered-at j p [] a k h = absurd (omega arith)
registered-at j p (x ∷ s) a zero h = rw (eq-eqb x.id x.id refl)
registered-at j p (x ∷ s) a (suc k) h =
    let n : ℕ = (get_or s k (fresh 0)).id in
    let there : k < length s = omega arith in
    let above : x.id < get_or (ids s) k 0 = all-at (λ i. x.id < i) (ids s) a.0 k 0 (unfold ids in (omega (arith, there, length_ids s))) in
    let e : get_or (ids s) k 0 ≡ n = unfold ids in (get_or_map (λ (y : Stream). y.id) s k (fresh 0) 0 there) in
    rw (ne_eqb x.id n (λ q. omega (arith, above, e, q))) (registered-at j p s a.1 k there)
  where
    length_ids : (l : List Stream) → length (map (λ (y : Stream). y.id) l) ≡ length l
    length_ids [] = refl
    length_ids (y ∷ l) = ap suc (length_ids l)

module _ (p : ℕ) (b : Bridge) (rising : Ascending (ids b.streams)) where
  registered-sent : (j : Kind) (k : ℕ) → k < length b.streams
      → All (λ x. is_registered b p x.value ≡ registered_in j (cell_at (stream_at k b) p)) (declarations_of j (stream_at k b).id (sends_at (stream_at k b) p))
  unfolding declarations_of is_registered advertise_of failed_of talker_kind
  registered-sent advertises k h =
      let x = stream_at k b in
      all_listed (λ y. is_registered b p y.value ≡ registered_in advertises (cell_at x p)) (advertise_of x.id) (λ q v. registered-at advertises p b.streams rising k h) (sends_at x p).advertising
  registered-sent faileds k h =
      let x = stream_at k b in
      all_listed (λ y. is_registered b p y.value ≡ registered_in faileds (cell_at x p)) (failed_of x.id) (λ q v. registered-at faileds p b.streams rising k h) (sends_at x p).failing
  registered-sent listeners k h =
      let x = stream_at k b in
      all_listed (λ y. is_registered b p y.value ≡ registered_in listeners (cell_at x p)) (listener_declaration x.id) (λ q v. registered-at listeners p b.streams rising k h) (sends_at x p).listening

  registered-machine : (j : Attribute) (k : ℕ) → k < declarers j p b → All (λ x. is_registered b p x.value ≡ registered_by j p b k) (machine_by j p b k)
  unfolding declarers machine_by registered_by is_registered domain_of
  registered-machine (registers j) k h = registered-sent j k h
  registered-machine domain_type k h =
      let own = (own_at b.owns p).domains in
      let slot : slot_of (5 + k / 8) (k % 8) ≡ k = unfold slot_of in (omega arith) in
      all_listed (λ y. is_registered b p y.value ≡ domain_stays (get_or own k no_domain)) (λ u. domain_of b.settings k)
      (λ q v. rw slot) (get_or (sender_at b.senders p).domains k no_applicant)

  event_is : (j : Attribute) (k : ℕ) → k < declarers j p b → some (said_by j p b k) ≡ true
      → event_at (registered_by j p b k) (opportunity (leaves_all b p)) (state_number (machine_by j p b k)) ≡ event_in (said_by j p b k)
  event_is j k h q =
      event-some b p (registered_by j p b k) (machine_by j p b k) (one-machine j p b k) (registered-machine j k h) (unfold said_by in q) ∙ unfold said_by in refl

pub event_said : {t : List ℕ} {k p : ℕ} {j : Attribute} → Saying t k p j
    → event_at (registered_by j p (decode t) k) (opportunity (leaves_all (decode t) p)) (state_number (machine_by j p (decode t) k))
    ≡ event_in (said_by j p (decode t) k)
event_said {t} {k} {p} {j} s = event_is p (decode t) (laid-fits t s.places.laid).ascending j k s.places.held s.one
