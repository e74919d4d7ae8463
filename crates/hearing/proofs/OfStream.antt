-- What is heard of a stream, among the octets of what a port sends of it.
use mathlib.Core.Path.{◌≡◌, refl, sym, ◌∙◌, ap}
use mathlib.Core.List.{List, [], ◌++◌, append-nil}
use Prim.Native.Nat.{ℕ}
use lib.ListN.{length}
use Rattle.model.specs.Layout.{advertising_size, failed_size, failing_size, in_sends, offer_size, ready_size}
use Rattle.model.specs.Machines.{Heard, heard}
use Rattle.model.specs.State.{Sends}
use Rattle.model.specs.Registrations.{Kind, advertises, faileds, listeners, move_kind, hears}
use Rattle.model.specs.Sending.{applicant_octets, both_octets, offer_octets, failure_octets, ready_octets, sends_octets, to_sends}
use Rattle.model.specs.Laid.{FitSends, LaidSends}
use Rattle.model.proofs.ApplicantOctets.{applicant-coded, both_values}
use Rattle.model.proofs.SendsOctets.{offer-values, failure-values}
use Rattle.model.proofs.Fits.{fit-sends, laid-sends-is, laid-sends-fits}
use Rattle.hearing.specs.Hears.{heard_at}
use Rattle.hearing.proofs.One.{applicant-hears, heard-behind}

-- where the Applicant of a type stands
unfoldable pub applicant_place : Kind → ℕ
applicant_place advertises = in_sends.advertising
applicant_place faileds = in_sends.failing
applicant_place listeners = in_sends.listening

module _ (h : Heard) (x : Sends) (w : FitSends x) where
  abbrev advertising : List ℕ
  advertising = applicant_octets offer_size offer_octets x.advertising

  abbrev failing : List ℕ
  failing = applicant_octets failed_size (both_octets offer_octets failure_octets) x.failing

  abbrev listening : List ℕ
  listening = applicant_octets ready_size ready_octets x.listening

  advertising-size : length advertising ≡ advertising_size
  advertising-size = (applicant-coded offer-values).size x.advertising (fit-sends x w).advertising

  failing-size : length failing ≡ failing_size
  failing-size = (applicant-coded (both_values offer-values failure-values)).size x.failing (fit-sends x w).failing

  stream-hears : (k : Kind) → heard_at (applicant_place k) h (sends_octets x) ≡ sends_octets (hears k h x)
  unfolding applicant_place sends_octets hears move_kind heard
  stream-hears advertises = applicant-hears offer_size offer_octets h x.advertising (failing ++ listening)
  stream-hears faileds =
      heard-behind h advertising (failing ++ listening) advertising_size 0 advertising-size
      ∙ ap (λ (s : List ℕ). advertising ++ s) (applicant-hears failed_size (both_octets offer_octets failure_octets) h x.failing listening)
  stream-hears listeners =
      heard-behind h advertising (failing ++ listening) advertising_size failing_size advertising-size
      ∙ ap (λ (s : List ℕ). advertising ++ s)
      (heard-behind h failing listening failing_size 0 failing-size
      ∙ ap (λ (s : List ℕ). failing ++ s)
      (ap (heard_at 0 h) (sym (append-nil listening)) ∙ applicant-hears ready_size ready_octets h x.listening [] ∙ append-nil _))

-- on octets that are laid out
pub sends-heard : (h : Heard) (s : List ℕ) → LaidSends s → (k : Kind) (at : ℕ) → at ≡ applicant_place k → (y : List ℕ) → y ≡ heard_at at h s →
    y ≡ sends_octets (hears k h (to_sends s))
sends-heard h s l k at p y e =
    e ∙ ap (heard_at at h) (laid-sends-is s l) ∙ ap (λ (i : ℕ). heard_at i h (sends_octets (to_sends s))) p ∙ stream-hears h (to_sends s) (laid-sends-fits s l) k

-- at the places that the code takes
module _ (h : Heard) (s : List ℕ) (l : LaidSends s) where
  pub advertise-hears : heard_at in_sends.advertising h s ≡ sends_octets (hears advertises h (to_sends s))
  unfolding applicant_place
  advertise-hears = sends-heard h s l advertises in_sends.advertising refl _ refl

  pub failed-hears : heard_at in_sends.failing h s ≡ sends_octets (hears faileds h (to_sends s))
  unfolding applicant_place
  failed-hears = sends-heard h s l faileds in_sends.failing refl _ refl

  pub listener-hears : heard_at in_sends.listening h s ≡ sends_octets (hears listeners h (to_sends s))
  unfolding applicant_place
  listener-hears = sends-heard h s l listeners in_sends.listening refl _ refl

-- for the search at `hear`
pub ruleset sends_hear = (advertise-hears, failed-hears, listener-hears)
