-- What a port sends of a stream: what the code makes of its three Applicants is what an advance decides.
use mathlib.Core.Path.{◌≡◌, refl, sym, ◌∙◌, ap}
use mathlib.Core.List.{List, [], ◌∷◌, ◌++◌, append_assoc, append-nil}
use mathlib.Core.Bool.{not}
use Prim.Native.Nat.{ℕ, ◌+◌, ◌-◌}
use native.Mathlib.Omega.{arith}
use lib.ListN.{length, get_or, take, drop, length-append}
use lib.Seq.{take-append-add, take-take}
use lib.Dec.{eqb}
use Rattle.octets.specs.Parts.{part, patch}
use Rattle.octets.specs.Pick.{pick}
use Rattle.octets.proofs.Parts.{part-cons, part_none}
use Rattle.octets.proofs.Patches.{patch-between, patch-part}
use Rattle.model.specs.Layout.{advertising_size, failed_size, failing_size, fixed_size, in_result, in_sends, listening_size, offer_size, ready_size, result_size}
use Rattle.model.specs.State.{Fixed, Ready, asking_failed, ready, ready_failed, Column, none, advertise, failed, Declared, nothing, tells, Result, Offer, Failure, Sends, ready_number}
use Rattle.model.specs.Machines.{Applicant, no_applicant, applicant, declared, decided}
use Rattle.model.specs.Settling.{advertised_by, failed_by, listened_by, same_offer, same_failed, same_ready, declare_sends}
use Rattle.model.specs.Sending.{applicant_octets, both_octets, offer_octets, failure_octets, ready_octets, sends_octets, to_sends}
use Rattle.model.specs.Table.{column_number, column_bridge, column_code, declared_number}
use Rattle.model.specs.Laid.{FitResult, FitSends, LaidSends}
use Rattle.model.proofs.Parts.{part-between}
use Rattle.model.proofs.Valid.{ValidFixed, GoodApplicant, ValidOffer, ValidFailed, ValidSends}
use Rattle.model.proofs.ApplicantOctets.{applicant-coded, both_values}
use Rattle.model.proofs.SendsOctets.{AnyReady, offer-values, failure-values, ready-values}
use Rattle.model.proofs.Fits.{fit-fixed, fit-sends, valid-sends-fit, laid-sends-is, laid-sends-fits}
use Rattle.declaring.specs.Octets.{decided_octets, offered_octets, Offered, Told}
use Rattle.declaring.proofs.Machines.{GoodDecided, good-decided, withdraws, declares}
use Rattle.declaring.proofs.Offers.{offer-compared, failed-compared, ready-compared, offer_of, offer-valid, failure-valid, offered-both, offered-first}

-- The octets of the three.

abbrev advertising_octets : Applicant Offer → List ℕ
advertising_octets = applicant_octets offer_size offer_octets

abbrev failed_octets : Offer × Failure → List ℕ
failed_octets = both_octets offer_octets failure_octets

abbrev failing_octets : Applicant (Offer × Failure) → List ℕ
failing_octets = applicant_octets failed_size failed_octets

abbrev listening_octets : Applicant Ready → List ℕ
listening_octets = applicant_octets ready_size ready_octets

good-ready : (x : Applicant Ready) → GoodApplicant AnyReady x
good-ready no_applicant = tt
good-ready (applicant x) = tt

failed-size : (y : Offer × Failure) → ValidFailed y → length (failed_octets y) ≡ failed_size
failed-size = (both_values offer-values failure-values).size

-- Each by the result.

module _ (f : Fixed) (r : Result) (v : ValidFixed f) (w : FitResult r) where
  advertised : (c : Column) (x : Applicant Offer) → GoodApplicant ValidOffer x
      → decided_octets (eqb (column_number c) 1) (take offer_size (offered_octets f r)) (advertising_octets x) ≡ advertising_octets (decided same_offer (advertised_by f r c) x)
  unfolding decided_octets column_number advertised_by pick
  advertised none x g = withdraws offer_size offer_octets ValidOffer offer-values.size same_offer x g
  advertised advertise x g =
      rw (offered-first f r v w) (declares offer_size offer_octets ValidOffer offer-values.size same_offer offer-compared (offer_of f r) (offer-valid f r v w) x g)
  advertised (failed b c) x g = withdraws offer_size offer_octets ValidOffer offer-values.size same_offer x g

  fails : (c : Column) (x : Applicant (Offer × Failure)) → r.column ≡ c → GoodApplicant ValidFailed x
      → decided_octets (eqb (column_number c) 2) (offered_octets f r) (failing_octets x) ≡ failing_octets (decided same_failed (failed_by f r c) x)
  unfolding decided_octets column_number column_bridge column_code failed_by pick
  fails none x e g = withdraws failed_size failed_octets ValidFailed failed-size same_failed x g
  fails advertise x e g = withdraws failed_size failed_octets ValidFailed failed-size same_failed x g
  fails (failed b c) x e g =
      let y : Offer × Failure = (offer_of f r, record { bridge = b; code = c }) in
      let is : offered_octets f r ≡ failed_octets y = offered-both f r ∙ ap (λ (k : Column). failed_octets (offer_of f r, record { bridge = column_bridge k; code = column_code k })) e in
      let good : ValidFailed y = (offer-valid f r v w, rw e at (failure-valid f r v w)) in
      rw is (declares failed_size failed_octets ValidFailed failed-size same_failed failed-compared y good x g)

listens : (d : Declared) (x : Applicant Ready)
    → decided_octets (not (eqb (declared_number d) 0)) (declared_number d ∷ []) (listening_octets x) ≡ listening_octets (decided same_ready (listened_by d) x)
unfolding decided_octets declared_number ready_number listened_by pick
listens nothing x = withdraws ready_size ready_octets AnyReady ready-values.size same_ready x (good-ready x)
listens (tells q) x = go q
  where
    go : (q : Ready) → decided_octets (not (eqb (ready_number q) 0)) (ready_number q ∷ []) (listening_octets x) ≡ listening_octets (decided same_ready (declared q) x)
    go asking_failed = unfold ready_octets in (declares ready_size ready_octets AnyReady ready-values.size same_ready ready-compared asking_failed tt x (good-ready x))
    go ready = unfold ready_octets in (declares ready_size ready_octets AnyReady ready-values.size same_ready ready-compared ready tt x (good-ready x))
    go ready_failed = unfold ready_octets in (declares ready_size ready_octets AnyReady ready-values.size same_ready ready-compared ready_failed tt x (good-ready x))

-- All three, one after another.

module _ (a f l : List ℕ) (e₁ : length a ≡ advertising_size) (e₂ : length f ≡ failing_size) (e₃ : length l ≡ listening_size)
    (u v w : List ℕ → List ℕ) (n₁ : length (u a) ≡ advertising_size) (n₂ : length (v f) ≡ failing_size) where
  in-turn : (s s₁ s₂ s₃ : List ℕ) → s ≡ a ++ (f ++ l) → s₁ ≡ patch 0 advertising_size (u (part 0 advertising_size s)) s
      → s₂ ≡ patch in_sends.failing failing_size (v (part in_sends.failing failing_size s₁)) s₁
      → s₃ ≡ patch in_sends.listening listening_size (w (part in_sends.listening listening_size s₂)) s₂ → s₃ ≡ u a ++ (v f ++ w l)
  in-turn s s₁ s₂ s₃ q q₁ q₂ q₃ =
      let r₁ : s₁ ≡ u a ++ (f ++ l) =
      q₁ ∙ rw (q, part-between [] a (f ++ l) 0 advertising_size refl e₁, patch-between [] a (f ++ l) (u a) 0 advertising_size refl e₁) in
      let r₂ : s₂ ≡ u a ++ (v f ++ l) =
      q₂ ∙ rw (r₁, part-between (u a) f l in_sends.failing failing_size n₁ e₂, patch-between (u a) f l (v f) in_sends.failing failing_size n₁ e₂) in
      let long : length (u a ++ v f) ≡ in_sends.listening = length-append (u a) (v f) ∙ omega (arith, n₁, n₂) in
      let r : s₂ ≡ (u a ++ v f) ++ (l ++ []) = r₂ ∙ simp (append_assoc, append-nil) in
      q₃
      ∙ rw (r, part-between (u a ++ v f) l [] in_sends.listening listening_size long e₃, patch-between (u a ++ v f) l [] (w l) in_sends.listening listening_size long e₃)
      (simp (append_assoc, append-nil))

-- what is decided of a stream on a port is valid still
module _ (f : Fixed) (r : Result) (v : ValidFixed f) (w : FitResult r) (x : Sends) (g : ValidSends x) where
  advertised-good : (c : Column) → GoodDecided ValidOffer (advertised_by f r c)
  unfolding advertised_by
  advertised-good none = tt
  advertised-good advertise = offer-valid f r v w
  advertised-good (failed b c) = tt

  failed-good : (c : Column) → r.column ≡ c → GoodDecided ValidFailed (failed_by f r c)
  unfolding failed_by column_bridge column_code
  failed-good none e = tt
  failed-good advertise e = tt
  failed-good (failed b c) e = (offer-valid f r v w, rw e at (failure-valid f r v w))

  pub sent-valid : ValidSends (declare_sends f r x)
  unfolding declare_sends
  sent-valid = record {
    advertising = good-decided ValidOffer same_offer (advertised_by f r r.column) x.advertising (advertised-good r.column) g.advertising;
    failing = good-decided ValidFailed same_failed (failed_by f r r.column) x.failing (failed-good r.column refl) g.failing;
  }

advertising-length : (x : Applicant Offer) → GoodApplicant ValidOffer x → length (advertising_octets x) ≡ advertising_size
advertising-length = (applicant-coded offer-values).size

failing-length : (x : Applicant (Offer × Failure)) → GoodApplicant ValidFailed x → length (failing_octets x) ≡ failing_size
failing-length = (applicant-coded (both_values offer-values failure-values)).size

listening-length : (x : Applicant Ready) → length (listening_octets x) ≡ listening_size
listening-length x = (applicant-coded ready-values).size x (good-ready x)

module _ (s : List ℕ) (l : LaidSends s) (v : List ℕ) (k d : ℕ) (f : Fixed) (r : Result) (o : Offered v k d f r) where
  abbrev x : Sends
  x = to_sends s

  valid : ValidSends x
  valid = fit-sends (to_sends s) (laid-sends-fits s l)

  fixed : ValidFixed f
  fixed = fit-fixed f o.fixed o.rank

  pub declared-fits : FitSends (declare_sends f r (to_sends s))
  declared-fits = valid-sends-fit (declare_sends f r x) (sent-valid f r fixed o.result x valid)

  abbrev on : List ℕ → List ℕ
  on t = decided_octets (eqb k 1) (take offer_size v) t

  abbrev fails_as : List ℕ → List ℕ
  fails_as t = decided_octets (eqb k 2) v t

  abbrev hears_as : List ℕ → List ℕ
  hears_as t = decided_octets (not (eqb d 0)) (d ∷ []) t

  pub all-decided : (y₁ y₂ y₃ : List ℕ) → y₁ ≡ on (part 0 advertising_size s)
      → y₂ ≡ fails_as (part in_sends.failing failing_size (patch 0 advertising_size y₁ s))
      → y₃ ≡ hears_as (part in_sends.listening listening_size (patch in_sends.failing failing_size y₂ (patch 0 advertising_size y₁ s)))
      → patch in_sends.listening listening_size y₃ (patch in_sends.failing failing_size y₂ (patch 0 advertising_size y₁ s)) ≡ sends_octets (declare_sends f r (to_sends s))
  unfolding sends_octets declare_sends
  all-decided y₁ y₂ y₃ q₁ q₂ q₃ =
      let s₁ = patch 0 advertising_size y₁ s in
      let s₂ = patch in_sends.failing failing_size y₂ s₁ in
      let a : on (advertising_octets x.advertising) ≡ advertising_octets (decided same_offer (advertised_by f r r.column) x.advertising) =
      rw (o.values, o.column) (advertised f r fixed o.result r.column x.advertising valid.advertising) in
      let b : fails_as (failing_octets x.failing) ≡ failing_octets (decided same_failed (failed_by f r r.column) x.failing) =
      rw (o.values, o.column) (fails f r fixed o.result r.column x.failing refl valid.failing) in
      let c : hears_as (listening_octets x.listening) ≡ listening_octets (decided same_ready (listened_by r.declares) x.listening) =
      rw o.listener (listens r.declares x.listening) in
      let after = sent-valid f r fixed o.result x valid in
      in-turn (advertising_octets x.advertising) (failing_octets x.failing) (listening_octets x.listening)
      (advertising-length x.advertising valid.advertising) (failing-length x.failing valid.failing) (listening-length x.listening) on fails_as hears_as
      (ap length a ∙ advertising-length _ after.advertising) (ap length b ∙ failing-length _ after.failing) s s₁ s₂ (patch in_sends.listening listening_size y₃ s₂) (laid-sends-is s l)
      (ap (λ (y : List ℕ). patch 0 advertising_size y s) q₁) (ap (λ (y : List ℕ). patch in_sends.failing failing_size y s₁) q₂) (ap (λ (y : List ℕ). patch in_sends.listening listening_size y s₂) q₃)
      ∙ rw (a, b, c)

-- Where none of the three is moved, nothing is.

module _ (settled result : List ℕ) (e : length settled ≡ fixed_size) (g : length result ≡ result_size) where
  first-offered : take offer_size (settled ++ part in_result.latency (failed_size - fixed_size) result) ≡ settled ++ part in_result.latency (offer_size - fixed_size) result
  unfolding part
  first-offered =
      let n : length settled + 4 ≡ offer_size = omega arith in
      rw (← n) (take-append-add settled (take 13 (drop 1 result)) 4 ∙ ap (λ (l : List ℕ). settled ++ l) (take-take 4 13 (drop 1 result) (omega arith)))

  one-heard : part in_result.declared 1 result ≡ get_or result in_result.declared 0 ∷ []
  one-heard = part-cons in_result.declared 0 result (omega arith) ∙ rw (part_none (in_result.declared + 1) result)

  module _ (s : List ℕ) (l : LaidSends s) (f : Fixed) (r : Result) (o : Told settled result f r) where
    abbrev k : ℕ
    k = get_or result 0 0

    abbrev d : ℕ
    d = get_or result in_result.declared 0

    pub all-steady : decided_octets (eqb k 1) (settled ++ part in_result.latency (offer_size - fixed_size) result) (part 0 advertising_size s) ≡ part 0 advertising_size s
        → decided_octets (eqb k 2) (settled ++ part in_result.latency (failed_size - fixed_size) result) (part in_sends.failing failing_size s) ≡ part in_sends.failing failing_size s
        → decided_octets (not (eqb d 0)) (part in_result.declared 1 result) (part in_sends.listening listening_size s) ≡ part in_sends.listening listening_size s
        → s ≡ sends_octets (declare_sends f r (to_sends s))
    all-steady q₁ q₂ q₃ =
        let a = patch-part 0 advertising_size s in
        let b = patch-part in_sends.failing failing_size s in
        sym (rw (a, b) (patch-part in_sends.listening listening_size s))
        ∙ all-decided s l (settled ++ part in_result.latency (failed_size - fixed_size) result) k d f r o (part 0 advertising_size s) (part in_sends.failing failing_size s) (part in_sends.listening listening_size s)
        (rw first-offered (sym q₁)) (rw a (sym q₂)) (rw (a, b, ← one-heard) (sym q₃))
