-- What a port sends of a stream, in octets: the states of its Applicants, and behind each the values of its declaration, which are those of
-- its vector.
use Prim.Native.Nat.{ℕ, ◌+◌, ◌≤◌}
use native.Mathlib.Omega.{arith}
use mathlib.Core.Path.{◌≡◌, refl, sym, ap, ◌∙◌}
use mathlib.Core.Bool.{true, false≢true}
use mathlib.Core.List.{List, [], ◌∷◌, ◌++◌, append-nil, append_assoc}
use lib.ListN.{length, get_or, take, drop, length-append}
use lib.Seq.{take_at, drop_at, drop-drop, get_or-append-add}
use Rattle.octets.specs.Parts.{part}
use Rattle.octets.specs.Fields.{packed, width, flat}
use Rattle.octets.proofs.Fields.{length-packed-any}
use denote.Enum.Declared.{tag_of}
use Rattle.model.specs.contracts.event.Event.{the_type}
use Rattle.model.specs.declared.event.Event.{Event}
use Rattle.model.specs.declared.event.Event.TheVariants.{New, JoinIn, In, JoinMt, Mt, Lv}
use Rattle.model.specs.Numbers.{event_number}
use Rattle.model.specs.Layout.{advertising_size, failed_size, failing_size, failure_widths, in_sends, offer_size, offer_widths, ready_size}
use Rattle.model.specs.Lists.{bit}
use Rattle.model.specs.Machines.{Listed, Applicant, no_applicant, applicant}
use Rattle.model.specs.State.{Settings, Ready, Offer, Failure, Sends, Stream, Bridge, sends_at, sender_at, stream_at}
use Rattle.model.specs.Registrations.{advertises, faileds, listeners}
use Rattle.model.specs.Frames.{registers, domain_type, first_widths}
use Rattle.model.specs.WrittenFrames.{fixed_numbers, failure_numbers, first_numbers, four_octets, declaration_vector, vector_octets, listener_number}
use Rattle.model.specs.Sending.{applicant_octets, both_octets, offer_numbers, offer_octets, failure_octets, ready_octets, sends_octets}
use Rattle.model.specs.Declarations.{Declaration, talker_kind, attribute_of, listener_declaration, Said, listed_as, advertise_of, failed_of, declarations_of, domain_of, say}
use Rattle.model.specs.Writing.{say_on}
use Rattle.model.proofs.Cells.{ready-number}
use Rattle.model.proofs.Fits.{laid-sends-is}
use Rattle.model.proofs.ApplicantOctets.{applicant-length}
use Rattle.table.specs.Reads.{ReadsSends}
use Rattle.declarations.specs.Vectors.{some, headed, first_event, talker_vector, domain_vector}
use Rattle.declarations.specs.Passes.{machine_by, state_number, said_of, said_by, vectors, event_in}
use Rattle.declarations.specs.Packed.{first_said, listener_at}
use Rattle.declarations.proofs.States.{said-there, none_said}

-- what was read
pub sends-is : {s : List ℕ} {x : Sends} → ReadsSends s x → s ≡ sends_octets x
sends-is {s = s} w = laid-sends-is s w.laid ∙ ap sends_octets w.is

-- Lengths.

offer-length : (x : Offer) → length (offer_octets x) ≡ offer_size
unfolding offer_octets width
offer-length x = length-packed-any offer_widths (offer_numbers x) (unfold offer_numbers fixed_numbers in refl)

failed-length : (y : Offer × Failure) → length (both_octets offer_octets failure_octets y) ≡ failed_size
unfolding both_octets failure_octets width
failed-length y =
    length-append (offer_octets y.0) (packed failure_widths (y.1.bridge ∷ y.1.code ∷ []))
    ∙ omega (arith, offer-length y.0, length-packed-any failure_widths (y.1.bridge ∷ y.1.code ∷ []) refl)

-- The three Applicants, one behind the other.

module _ (x : Sends) where
  abbrev advertising : List ℕ
  advertising = applicant_octets offer_size offer_octets x.advertising

  abbrev failing : List ℕ
  failing = applicant_octets failed_size (both_octets offer_octets failure_octets) x.failing

  abbrev listening : List ℕ
  listening = applicant_octets ready_size ready_octets x.listening

  advertising-long : length advertising ≡ advertising_size
  advertising-long = applicant-length offer_size offer_octets offer-length x.advertising

  failing-long : length failing ≡ failing_size
  failing-long = applicant-length failed_size (both_octets offer_octets failure_octets) failed-length x.failing

  sent : sends_octets x ≡ advertising ++ (failing ++ listening)
  unfolding sends_octets
  sent = refl

  behind-advertising : (i : ℕ) → get_or (sends_octets x) (advertising_size + i) 0 ≡ get_or (failing ++ listening) i 0
  behind-advertising i =
      rw sent (ap (λ (n : ℕ). get_or (advertising ++ (failing ++ listening)) (n + i) 0) (sym advertising-long) ∙ get_or-append-add advertising (failing ++ listening) i 0)

  behind-failing : (i : ℕ) → get_or (sends_octets x) (advertising_size + (failing_size + i)) 0 ≡ get_or listening i 0
  behind-failing i =
      behind-advertising (failing_size + i)
      ∙ ap (λ (n : ℕ). get_or (failing ++ listening) (n + i) 0) (sym failing-long)
      ∙ get_or-append-add failing listening i 0

  -- so many octets behind the first of an Applicant
  advertising-part : part 1 offer_size (sends_octets x) ≡ take offer_size (drop 1 (advertising ++ (failing ++ listening)))
  unfolding part
  advertising-part = rw sent

  failing-part : part (advertising_size + 1) failed_size (sends_octets x) ≡ take failed_size (drop 1 (failing ++ listening))
  unfolding part
  failing-part =
      rw (sent, ← drop-drop 1 advertising_size (advertising ++ (failing ++ listening)), drop_at advertising (failing ++ listening) advertising_size advertising-long)

-- the first octet of an Applicant
first-octet : {A : Type 0} (n : ℕ) (to : A → List ℕ) (f : A → Declaration) (a : Applicant A) (more : List ℕ)
    → get_or (applicant_octets n to a ++ more) 0 0 ≡ state_number (listed_as f a)
unfolding applicant_octets state_number listed_as
first-octet n to f no_applicant more = refl
first-octet n to f (applicant x) more = refl

module _ (p : ℕ) (b : Bridge) (k : ℕ) where
  abbrev sends : Sends
  sends = sends_at (stream_at k b) p

  pub advertising_state : get_or (sends_octets sends) in_sends.advertising 0 ≡ state_number (machine_by (registers advertises) p b k)
  unfolding machine_by declarations_of
  advertising_state =
      rw (sent sends) (first-octet offer_size offer_octets (advertise_of (stream_at k b).id) sends.advertising (failing sends ++ listening sends))

  pub failing_state : get_or (sends_octets sends) in_sends.failing 0 ≡ state_number (machine_by (registers faileds) p b k)
  unfolding machine_by declarations_of
  failing_state =
      behind-advertising sends 0
      ∙ first-octet failed_size (both_octets offer_octets failure_octets) (failed_of (stream_at k b).id) sends.failing (listening sends)

  pub listening_state : get_or (sends_octets sends) in_sends.listening 0 ≡ state_number (machine_by (registers listeners) p b k)
  unfolding machine_by declarations_of
  listening_state =
      behind-failing sends 0
      ∙ ap (λ (l : List ℕ). get_or l 0 0) (sym (append-nil (listening sends)))
      ∙ first-octet ready_size ready_octets (listener_declaration (stream_at k b).id) sends.listening []

-- Vectors of one value.

vectors-one : (d : Said) → vectors (d ∷ []) ≡ vector_octets (declaration_vector d)
unfolding vectors flat
vectors-one d = append-nil (vector_octets (declaration_vector d))

advertise-vector : (id e : ℕ) (o : Offer)
    → (headed 1 id ++ offer_octets o) ++ first_event e ≡ vector_octets (declaration_vector record { declaration = advertise_of id o; event = e })
unfolding vector_octets declaration_vector four_octets first_numbers attribute_of talker_kind first_widths failure_numbers advertise_of bit packed headed first_event offer_octets offer_numbers
advertise-vector id e o = simp append_assoc

failed-vector : (id e : ℕ) (o : Offer × Failure)
    → (headed 1 id ++ both_octets offer_octets failure_octets o) ++ first_event e ≡ vector_octets (declaration_vector record { declaration = failed_of id o; event = e })
unfolding vector_octets declaration_vector four_octets first_numbers attribute_of talker_kind first_widths failure_numbers failed_of bit packed headed first_event both_octets offer_octets offer_numbers failure_octets fixed_numbers
failed-vector id e o = simp append_assoc

pub domain-vector : (st : Settings) (e k : ℕ) → domain_vector st e k ≡ vector_octets (declaration_vector record { declaration = domain_of st k; event = e })
unfolding domain_vector first_event vector_octets declaration_vector first_numbers four_octets attribute_of first_widths packed bit domain_of
domain-vector st e k = simp (append_assoc, append-nil)

-- What is written is the vector of what is said.
module _ (p : ℕ) (b : Bridge) (k : ℕ) where
  abbrev x : Stream
  x = stream_at k b

  abbrev id : ℕ
  id = (stream_at k b).id

  -- one declaration, and octets that are its vector's whatever its event
  one-said : (z : Listed Declaration) (v : ℕ → List ℕ) → ((e : ℕ) → v e ≡ vector_octets (declaration_vector record { declaration = z.value; event = e }))
      → some (said_of b p (z ∷ [])) ≡ true → v (event_in (said_of b p (z ∷ []))) ≡ vectors (said_of b p (z ∷ []))
  one-said z v h q = rw (said-there b p z q) (h (event_in (say_on b p z ∷ [])) ∙ sym (vectors-one (say_on b p z) ∙ unfold say_on say event_in in refl))

  pub advertise-said : some (said_by (registers advertises) p b k) ≡ true
      → talker_vector 1 offer_size (event_in (said_by (registers advertises) p b k)) p x ≡ vectors (said_by (registers advertises) p b k)
  unfolding said_by machine_by declarations_of talker_vector
  advertise-said q =
      rw (advertising-part (sends_at x p)) (go (sends_at x p).advertising (failing (sends_at x p) ++ listening (sends_at x p)) q)
    where
      go : (a : Applicant Offer) (more : List ℕ) → some (said_of b p (listed_as (advertise_of id) a)) ≡ true
          → (headed 1 id ++ take offer_size (drop 1 (applicant_octets offer_size offer_octets a ++ more))) ++ first_event (event_in (said_of b p (listed_as (advertise_of id) a)))
          ≡ vectors (said_of b p (listed_as (advertise_of id) a))
      go no_applicant more q = absurd (false≢true (unfold some listed_as in (rw (none_said b p) at q)))
      go (applicant y) more q =
          unfold applicant_octets listed_as in
          (rw (take_at (offer_octets y.value) more offer_size (offer-length y.value))
          (one-said record { state = y.state; value = advertise_of id y.value } (λ e. (headed 1 id ++ offer_octets y.value) ++ first_event e)
          (λ e. advertise-vector id e y.value) (unfold listed_as in q)))

  pub failed-said : some (said_by (registers faileds) p b k) ≡ true
      → talker_vector (advertising_size + 1) failed_size (event_in (said_by (registers faileds) p b k)) p x ≡ vectors (said_by (registers faileds) p b k)
  unfolding said_by machine_by declarations_of talker_vector
  failed-said q =
      rw (failing-part (sends_at x p)) (go (sends_at x p).failing (listening (sends_at x p)) q)
    where
      go : (a : Applicant (Offer × Failure)) (more : List ℕ) → some (said_of b p (listed_as (failed_of id) a)) ≡ true
          → (headed 1 id ++ take failed_size (drop 1 (applicant_octets failed_size (both_octets offer_octets failure_octets) a ++ more)))
          ++ first_event (event_in (said_of b p (listed_as (failed_of id) a)))
          ≡ vectors (said_of b p (listed_as (failed_of id) a))
      go no_applicant more q = absurd (false≢true (unfold some listed_as in (rw (none_said b p) at q)))
      go (applicant y) more q =
          unfold applicant_octets listed_as in
          (rw (take_at (both_octets offer_octets failure_octets y.value) more failed_size (failed-length y.value))
          (one-said record { state = y.state; value = failed_of id y.value } (λ e. (headed 1 id ++ both_octets offer_octets failure_octets y.value) ++ first_event e)
          (λ e. failed-vector id e y.value) (unfold listed_as in q)))

  pub domain-said : some (said_by domain_type p b k) ≡ true
      → domain_vector b.settings (event_in (said_by domain_type p b k)) k ≡ vectors (said_by domain_type p b k)
  unfolding said_by machine_by
  domain-said q = go (get_or (sender_at b.senders p).domains k no_applicant) q
    where
      go : (a : Applicant (Unit {0})) → some (said_of b p (listed_as (λ u. domain_of b.settings k) a)) ≡ true
          → domain_vector b.settings (event_in (said_of b p (listed_as (λ u. domain_of b.settings k) a))) k ≡ vectors (said_of b p (listed_as (λ u. domain_of b.settings k) a))
      go no_applicant q = absurd (false≢true (unfold some listed_as in (rw (none_said b p) at q)))
      go (applicant y) q =
          unfold listed_as in
          (one-said record { state = y.state; value = domain_of b.settings k } (λ e. domain_vector b.settings e k)
          (λ e. domain-vector b.settings e k) (unfold listed_as in q))

  -- a Listener's declaration type, from 1 to 3, and what is said of it
  pub listener_said : some (said_by (registers listeners) p b k) ≡ true
      → (get_or (sends_octets (sends_at x p)) (in_sends.listening + 1) 0 ≡ listener_number (listener_at p b k).declaration) × (listener_number (listener_at p b k).declaration ≤ 3)
      × (said_by (registers listeners) p b k ≡ listener_at p b k ∷ []) × ((listener_at p b k).event ≡ event_in (said_by (registers listeners) p b k))
  unfolding said_by machine_by declarations_of listener_at
  listener_said q = rw (behind-failing (sends_at x p) 1) (go (sends_at x p).listening q)
    where
      go : (a : Applicant Ready) → some (said_of b p (listed_as (listener_declaration id) a)) ≡ true
          → let l = said_of b p (listed_as (listener_declaration id) a) in
          (get_or (applicant_octets ready_size ready_octets a) 1 0 ≡ listener_number (first_said id l).declaration) × (listener_number (first_said id l).declaration ≤ 3)
          × (l ≡ first_said id l ∷ []) × ((first_said id l).event ≡ event_in l)
      go no_applicant q = absurd (false≢true (unfold some listed_as in (rw (none_said b p) at q)))
      go (applicant y) q =
          let z : Listed Declaration = record { state = y.state; value = listener_declaration id y.value } in
          let e : said_of b p (listed_as (listener_declaration id) (applicant y)) ≡ say_on b p z ∷ [] = unfold listed_as in (said-there b p z (unfold listed_as in q)) in
          rw e (unfold first_said say_on say listener_number applicant_octets ready_octets event_in in (refl, (ready-number y.value).1, refl, refl))

-- An event's number, in the code and in three packed ones.

pub event_few : (e : Event) → event_number e ≤ 5
event_few New = omega arith
event_few JoinIn = omega arith
event_few In = omega arith
event_few JoinMt = omega arith
event_few Mt = omega arith
event_few Lv = omega arith

pub as_event : (e : Event) → tag_of the_type e ≡ event_number e
as_event New = refl
as_event JoinIn = refl
as_event In = refl
as_event JoinMt = refl
as_event Mt = refl
as_event Lv = refl
