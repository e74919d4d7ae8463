-- The three kinds of values that Applicants keep, in octets; so what a port sends of a stream is coded in 47.
use mathlib.Core.Path.{◌≡◌, refl, sym, ◌∙◌, ap}
use mathlib.Core.List.{List, [], ◌∷◌, ◌++◌}
use mathlib.Core.Bool.{Bool, true, false, cond, not, ◌||◌, or_assoc}
use Prim.Native.Nat.{ℕ, zero, suc, ◌%◌, ◌^◌, ◌<◌}
use native.Mathlib.Omega.{arith}
use lib.ListN.{length, get_or, take, drop, length-append}
use lib.Seq.{get_or-take, get_or-drop}
use lib.Dec.{eqb, leb}
use borrow.Author.Tests.{eq-eqb, eqb-true, le-leb, leb-true}
use Rattle.octets.specs.Fields.{fields, Fit, width}
use Rattle.octets.proofs.Fields.{length-packed-any, fields-of-packed, fields_fit, fit_at}
use Rattle.model.specs.Lists.{All, parts, Octets}
use Rattle.model.specs.State.{Fixed, Ready, Offer, Failure, Sends, no_sends, ready_number}
use Rattle.model.specs.WrittenFrames.{fixed_numbers, priority_octet}
use Rattle.model.proofs.Valid.{GoodApplicant, ValidOffer, ValidFailure, ValidSends}
use Rattle.model.proofs.Parts.{◌also◌, octets-at, octets-append, octets-packed, packed-whole}
use Rattle.model.proofs.Cells.{priority-spare, fixed_back, fixed-forth, fixed-valid, ready-back, ready-forth, ready-number}
use Rattle.model.specs.Layout.{advertising_size, failed_size, failing_size, failure_widths, in_sends, offer_size, offer_widths, ready_size, sends_size}
use Rattle.model.specs.Settling.{is_applicant, is_sending, any_sending}
use Rattle.model.specs.Table.{sends}
use Rattle.model.proofs.Coded.{Coded}
use Rattle.model.specs.Machines.{Applicant, no_applicant, applicant}
use Rattle.model.specs.Sending.{to_standing, applicant_octets, to_applicant, both_octets, to_both, both_formed, offer_numbers, offer_from, offer_octets, to_offer, failure_octets, to_failure, anything, offer_formed, ready_octets, ready_in, ready_formed, failed_formed, sends_octets, to_sends, sends_formed}
use Rattle.model.proofs.Lists.{and_left, and_right, and_both}
use Rattle.model.proofs.ApplicantOctets.{Values, applicant-length, applicant-octets, applicant-coded, both_values, both_coded, renamed-coded}

-- Ready.

abbrev pub AnyReady : Ready → Type 0
AnyReady r = Unit {0}

good-ready : (x : Applicant Ready) → GoodApplicant AnyReady x
good-ready no_applicant = tt
good-ready (applicant x) = tt

ready-size : (r : Ready) → length (ready_octets r) ≡ 1
unfolding ready_octets
ready-size r = refl

ready_read : (r : Ready) → ready_in (ready_octets r) ≡ r
unfolding ready_octets ready_in
ready_read r = ready-back r

ready-keeps : (r : Ready) → ready_formed (ready_octets r) ≡ true
unfolding ready_octets ready_formed
ready-keeps r = and_both (leb 1 (ready_number r)) (leb (ready_number r) 3) (le-leb 1 (ready_number r) (ready-number r).0) (le-leb (ready_number r) 3 (ready-number r).1)

ready_at : (k : ℕ) → ready_formed (k ∷ []) ≡ true → ready_octets (ready_in (k ∷ [])) ≡ k ∷ []
unfolding ready_octets ready_in ready_formed
ready_at k h =
    ap (λ (n : ℕ). n ∷ []) (ready-forth k (leb-true 1 k (and_left (leb 1 k) (leb k 3) h)) (leb-true k 3 (and_right (leb 1 k) (leb k 3) h)))

ready-written : (s : List ℕ) → length s ≡ 1 → Octets s → ready_formed s ≡ true → ready_octets (ready_in s) ≡ s
ready-written [] l o h = absurd (omega (arith, l))
ready-written (k ∷ []) l o h = ready_at k h
ready-written (k ∷ j ∷ s) l o h = absurd (omega (arith, l))

pub ready-values : Values 1 ready_octets ready_in ready_formed AnyReady
ready-values = record {
  size = λ r g. ready-size r;
  back = λ r g. ready_read r;
  keeps = λ r g. ready-keeps r;
  forth = ready-written;
  valid = λ s l o h. tt;
}

-- Offer.

pub offer-fit : (x : Offer) → ValidOffer x → Fit offer_widths (offer_numbers x)
unfolding offer_numbers Fit fixed_numbers priority_octet
offer-fit x v = v.fixed.destination also v.fixed.vlan also v.fixed.size also v.fixed.frames also omega (arith, v.fixed.priority, v.fixed.rank) also v.latency also tt

offer-numbers : (x : Offer) → length (offer_numbers x) ≡ 6
unfolding offer_numbers fixed_numbers
offer-numbers x = refl

offer-length : (x : Offer) → length (offer_octets x) ≡ 17
unfolding offer_octets width
offer-length x = length-packed-any offer_widths (offer_numbers x) (offer-numbers x)

offer-read : (x : Offer) → ValidOffer x → offer_from (offer_numbers x) ≡ x
unfolding offer_from offer_numbers fixed_numbers
offer-read x v = ap (λ (f : Fixed). record { fixed = f; latency = x.latency }) (unfold fixed_numbers in (fixed_back x.fixed v.fixed [] (x.latency ∷ [])))

offer-back : (x : Offer) → ValidOffer x → to_offer (offer_octets x) ≡ x
unfolding to_offer offer_octets
offer-back x v = rw (fields-of-packed offer_widths (offer_numbers x) (offer-fit x v)) (offer-read x v)

offer-keeps : (x : Offer) → ValidOffer x → offer_formed (offer_octets x) ≡ true
unfolding offer_formed offer_octets
offer-keeps x v = rw (fields-of-packed offer_widths (offer_numbers x) (offer-fit x v)) (unfold offer_numbers fixed_numbers in (eq-eqb (priority_octet x.fixed % 16) 0 (priority-spare x.fixed)))

-- octets that keep the rule
module _ (s : List ℕ) (l : length s ≡ 17) (o : Octets s) (h : offer_formed s ≡ true) where
  spare : get_or (fields offer_widths 0 s) 4 0 % 16 ≡ 0
  unfolding offer_formed
  spare = eqb-true (get_or (fields offer_widths 0 s) 4 0 % 16) 0 h

  offer-forth : offer_octets (to_offer s) ≡ s
  unfolding offer_octets to_offer offer_numbers offer_from
  offer-forth = rw (fixed-forth 0 (fields offer_widths 0 s) spare) (unfold fields in (packed-whole offer_widths s (l ∙ unfold width in refl) o))

  offer-valid : ValidOffer (to_offer s)
  unfolding to_offer offer_from
  offer-valid =
      let vs = fields offer_widths 0 s in
      let at : (i : ℕ) → get_or vs i 0 < 256 ^ get_or offer_widths i 0 = fit_at offer_widths vs (fields_fit offer_widths 0 s (octets-at s o)) in
      record { fixed = fixed-valid 0 vs (at 0) (at 1) (at 2) (at 3) (at 4); latency = at 5 }

pub offer-values : Values 17 offer_octets to_offer offer_formed ValidOffer
offer-values = record {
  size = λ x v. offer-length x;
  back = offer-back;
  keeps = offer-keeps;
  forth = offer-forth;
  valid = offer-valid;
}

-- Failure.

pub failure-fit : (x : Failure) → ValidFailure x → Fit failure_widths (x.bridge ∷ x.code ∷ [])
unfolding Fit
failure-fit x v = v.bridge also v.code also tt

failure-length : (x : Failure) → length (failure_octets x) ≡ 9
unfolding failure_octets width
failure-length x = length-packed-any failure_widths (x.bridge ∷ x.code ∷ []) refl

failure-back : (x : Failure) → ValidFailure x → to_failure (failure_octets x) ≡ x
unfolding to_failure failure_octets
failure-back x v = rw (fields-of-packed failure_widths (x.bridge ∷ x.code ∷ []) (failure-fit x v))

failure-forth : (s : List ℕ) → length s ≡ 9 → Octets s → anything s ≡ true → failure_octets (to_failure s) ≡ s
unfolding failure_octets to_failure
failure-forth s l o h = unfold fields in (packed-whole failure_widths s (l ∙ unfold width in refl) o)

failure-valid : (s : List ℕ) → length s ≡ 9 → Octets s → anything s ≡ true → ValidFailure (to_failure s)
unfolding to_failure
failure-valid s l o h =
    let vs = fields failure_widths 0 s in
    let at : (i : ℕ) → get_or vs i 0 < 256 ^ get_or failure_widths i 0 = fit_at failure_widths vs (fields_fit failure_widths 0 s (octets-at s o)) in
    record { bridge = at 0; code = at 1 }

pub failure-values : Values 9 failure_octets to_failure anything ValidFailure
failure-values = record { size = λ x v. failure-length x; back = failure-back; keeps = λ x v. refl; forth = failure-forth; valid = failure-valid }

-- What a port sends of a stream: read back as it was written, written back as it was read, zeros where nothing is (`sends-coded`).
pub sends-size : sends_size ≡ 47
sends-size = refl

-- as three Applicants, one behind the other
abbrev Three : Type 0
Three = Applicant Offer × (Applicant (Offer × Failure) × Applicant Ready)

abbrev three : Sends → Three
three x = (x.advertising, (x.failing, x.listening))

abbrev of_three : Three → Sends
of_three y = record { advertising = y.0; failing = y.1.0; listening = y.1.1 }

pub sends-coded : Coded sends_size sends_octets to_sends sends_formed ValidSends no_sends
unfolding sends_octets to_sends sends_formed no_sends failed_formed both_octets to_both both_formed
sends-coded =
    renamed-coded
    (both_coded (applicant-coded offer-values) (both_coded (applicant-coded (both_values offer-values failure-values)) (applicant-coded ready-values)))
    ValidSends three of_three (λ x. refl) (λ y. refl) (λ x g. (g.advertising, (g.failing, good-ready x.listening)))
    (λ y g. record { advertising = g.0; failing = g.1.0 })

-- as many octets whatever is declared
offer-octets : (x : Offer) → Octets (offer_octets x)
unfolding offer_octets
offer-octets x = octets-packed offer_widths (offer_numbers x)

failed-length : (y : Offer × Failure) → length (both_octets offer_octets failure_octets y) ≡ 26
unfolding both_octets
failed-length y = length-append (offer_octets y.0) (failure_octets y.1) ∙ omega (arith, offer-length y.0, failure-length y.1)

failed-octets : (y : Offer × Failure) → Octets (both_octets offer_octets failure_octets y)
unfolding both_octets failure_octets
failed-octets y = octets-append (offer_octets y.0) (failure_octets y.1) (offer-octets y.0) (octets-packed failure_widths (y.1.bridge ∷ y.1.code ∷ []))

ready-octets : (r : Ready) → Octets (ready_octets r)
unfolding ready_octets
ready-octets r = (omega (arith, (ready-number r).1), tt)

pub sends-length : (x : Sends) → length (sends_octets x) ≡ sends_size
unfolding sends_octets
sends-length x =
    let a = applicant_octets offer_size offer_octets x.advertising in
    let f = applicant_octets failed_size (both_octets offer_octets failure_octets) x.failing in
    let r = applicant_octets ready_size ready_octets x.listening in
    length-append a (f ++ r)
    ∙ omega (
      arith,
      length-append f r,
      applicant-length offer_size offer_octets offer-length x.advertising,
      applicant-length failed_size (both_octets offer_octets failure_octets) failed-length x.failing,
      applicant-length ready_size ready_octets ready-size x.listening,
    )

pub sends-octets : (x : Sends) → Octets (sends_octets x)
unfolding sends_octets
sends-octets x =
    let a = applicant_octets offer_size offer_octets x.advertising in
    let f = applicant_octets failed_size (both_octets offer_octets failure_octets) x.failing in
    let r = applicant_octets ready_size ready_octets x.listening in
    octets-append a (f ++ r) (applicant-octets offer_size offer_octets offer-octets x.advertising)
    (octets-append f r (applicant-octets failed_size (both_octets offer_octets failure_octets) failed-octets x.failing)
    (applicant-octets ready_size ready_octets ready-octets x.listening))

-- Some port sends: as the octets say, and as the Applicants do.

applicant-read : {A : Type 0} (from : List ℕ → A) (s : List ℕ) → is_applicant (to_applicant from s) ≡ not (eqb (get_or s 0 0) 0)
unfolding to_applicant is_applicant
applicant-read from s = go (eqb (get_or s 0 0) 0)
  where
    go : (t : Bool) → is_applicant (cond t no_applicant (applicant record { state = to_standing (get_or s 0 0); value = from (drop 1 s) })) ≡ not t
    go true = refl
    go false = refl

sending-read : (s : List ℕ) → is_sending (to_sends s)
    ≡ (not (eqb (get_or s in_sends.advertising 0) 0) || not (eqb (get_or s in_sends.failing 0) 0) || not (eqb (get_or s in_sends.listening 0) 0))
unfolding is_sending to_sends
sending-read s =
    rw (
      applicant-read to_offer (take advertising_size s),
      applicant-read (to_both offer_size to_offer to_failure) (take failing_size (drop advertising_size s)),
      applicant-read ready_in (drop failing_size (drop advertising_size s)),
      get_or-take advertising_size s 0 0 (omega arith),
      get_or-take failing_size (drop advertising_size s) 0 0 (omega arith),
      get_or-drop failing_size (drop advertising_size s) 0 0,
      get_or-drop advertising_size s 0 0,
      get_or-drop advertising_size s failing_size 0,
    )

pub sends-parts : (k : ℕ) (s : List ℕ) → sends k s ≡ any_sending (parts sends_size to_sends k s)
unfolding sends any_sending parts
sends-parts zero s = refl
sends-parts (suc k) s =
    rw (
      sending-read (take sends_size s),
      get_or-take sends_size s in_sends.advertising 0 (omega arith),
      get_or-take sends_size s in_sends.failing 0 (omega arith),
      get_or-take sends_size s in_sends.listening 0 (omega arith),
      sends-parts k (drop sends_size s),
    )

pub sending-append : (l m : List Sends) → any_sending (l ++ m) ≡ (any_sending l || any_sending m)
unfolding any_sending
sending-append [] m = refl
sending-append (x ∷ l) m = rw (sending-append l m) (sym (or_assoc (is_sending x) (any_sending l) (any_sending m)))

pub sending-none : (l : List Sends) → All (λ x. x ≡ no_sends) l → any_sending l ≡ false
unfolding any_sending is_sending is_applicant no_sends
sending-none [] a = refl
sending-none (x ∷ l) a = rw a.0 (sending-none l a.1)
