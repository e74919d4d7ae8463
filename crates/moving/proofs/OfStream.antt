-- What a write moves of a stream, among the octets of what its port sends of it.
use mathlib.Core.Path.{◌≡◌, refl, sym, ◌∙◌, ap}
use mathlib.Core.List.{List, [], ◌++◌, append-nil}
use mathlib.Core.Bool.{Bool, not}
use Prim.Native.Nat.{ℕ, suc, ◌+◌, ◌≤◌}
use native.Mathlib.Omega.{arith}
use lib.ListN.{length, get_or}
use lib.Dec.{eqb}
use Rattle.model.specs.Layout.{advertising_size, failed_size, failing_size, offer_size, ready_size, sends_size}
use Rattle.model.specs.Lists.{bit}
use Rattle.model.specs.Applicant.{Standing}
use Rattle.model.specs.Machines.{Applicant, no_applicant, applicant}
use Rattle.model.specs.State.{Sends, Ready}
use Rattle.model.specs.Registrations.{Kind, advertises, faileds, listeners, move_kind}
use Rattle.model.specs.Writing.{machines}
use Rattle.model.specs.Sending.{applicant_octets, both_octets, offer_octets, failure_octets, ready_octets, sends_octets, to_sends}
use Rattle.model.specs.Laid.{FitSends, LaidSends}
use Rattle.model.proofs.ApplicantOctets.{applicant-coded, both_values}
use Rattle.model.proofs.Valid.{GoodApplicant}
use Rattle.model.proofs.SendsOctets.{offer-values, failure-values, ready-values, AnyReady}
use Rattle.model.proofs.Fits.{fit-sends, laid-sends-is, laid-sends-fits}
use Rattle.moving.specs.declared.Span.{Span}
use Rattle.moving.specs.declared.Met.{Met}
use Rattle.moving.specs.Moves.{moved_by, octet_by, state_at, in_kind, behind_kind, met_by, met_sends, MovedSends}
use Rattle.moving.proofs.One.{applicant-moved, state-behind, state-there, state_octet, state_few, none_stays, no-machine-met, machine-met}

any-ready : (a : Applicant Ready) → GoodApplicant AnyReady a
any-ready no_applicant = tt
any-ready (applicant x) = tt

-- its octet stands first
head-octet : {A : Type 0} (n : ℕ) (to : A → List ℕ) (a : Applicant A) (s : List ℕ) → get_or (applicant_octets n to a ++ s) 0 0 ≡ state_octet a
unfolding applicant_octets state_octet
head-octet n to no_applicant s = refl
head-octet n to (applicant x) s = refl

unfoldable machine_octet : Kind → Sends → ℕ
machine_octet advertises x = state_octet x.advertising
machine_octet faileds x = state_octet x.failing
machine_octet listeners x = state_octet x.listening

module _ (w : Span) (i : ℕ) (r : Bool) (x : Sends) (f : FitSends x) where
  abbrev advertising : List ℕ
  advertising = applicant_octets offer_size offer_octets x.advertising

  abbrev failing : List ℕ
  failing = applicant_octets failed_size (both_octets offer_octets failure_octets) x.failing

  abbrev listening : List ℕ
  listening = applicant_octets ready_size ready_octets x.listening

  advertising-size : length advertising ≡ advertising_size
  advertising-size = (applicant-coded offer-values).size x.advertising (fit-sends x f).advertising

  failing-size : length failing ≡ failing_size
  failing-size = (applicant-coded (both_values offer-values failure-values)).size x.failing (fit-sends x f).failing

  listening-size : length listening ≡ suc ready_size
  listening-size = (applicant-coded ready-values).size x.listening (any-ready x.listening)

  -- the octet at a place moved, with its values
  abbrev moved_in : ℕ → ℕ → List ℕ → List ℕ
  moved_in place values s = state_at place values (octet_by w i r (get_or s place 0)) s

  behind : (a s : List ℕ) (m place values : ℕ) → length a ≡ m → moved_in (m + place) values (a ++ s) ≡ a ++ moved_in place values s
  behind a s m place values e =
      ap (λ (n : ℕ). state_at (m + place) values (octet_by w i r n) (a ++ s)) (state-there a s m place e)
      ∙ state-behind a s m place values (octet_by w i r (get_or s place 0)) e

  stream-moved : (k : Kind) → moved_in (in_kind k) (behind_kind k) (sends_octets x) ≡ sends_octets (move_kind k (moved_by w i r) x)
  unfolding in_kind behind_kind sends_octets move_kind
  stream-moved advertises = applicant-moved w i r offer_size offer_octets (failing ++ listening) x.advertising advertising-size
  stream-moved faileds =
      behind advertising (failing ++ listening) advertising_size 0 26 advertising-size
      ∙ ap (λ (s : List ℕ). advertising ++ s) (applicant-moved w i r failed_size (both_octets offer_octets failure_octets) listening x.failing failing-size)
  stream-moved listeners =
      behind advertising (failing ++ listening) advertising_size failing_size 1 advertising-size
      ∙ ap (λ (s : List ℕ). advertising ++ s)
      (behind failing listening failing_size 0 1 failing-size
      ∙ ap (λ (s : List ℕ). failing ++ s)
      (ap (moved_in 0 1) (sym (append-nil listening)) ∙ applicant-moved w i r ready_size ready_octets [] x.listening listening-size ∙ append-nil _))

  -- the octet of a type's machine
  machine-octet : (k : Kind) → get_or (sends_octets x) (in_kind k) 0 ≡ machine_octet k x
  unfolding in_kind sends_octets machine_octet
  machine-octet advertises = head-octet offer_size offer_octets x.advertising (failing ++ listening)
  machine-octet faileds =
      state-there advertising (failing ++ listening) advertising_size 0 advertising-size
      ∙ head-octet failed_size (both_octets offer_octets failure_octets) x.failing listening
  machine-octet listeners =
      state-there advertising (failing ++ listening) advertising_size failing_size advertising-size
      ∙ state-there failing listening failing_size 0 failing-size
      ∙ ap (λ (s : List ℕ). get_or s 0 0) (sym (append-nil listening))
      ∙ head-octet ready_size ready_octets x.listening []

-- on octets that are laid out
pub sends-moved : (w : Span) (i : ℕ) (r : Bool) (s : List ℕ) → LaidSends s → (k : Kind) (place values n : ℕ) → place ≡ in_kind k → values ≡ behind_kind k
    → n ≡ octet_by w i r (get_or s place 0) → (y : List ℕ) → y ≡ state_at place values n s → y ≡ sends_octets (move_kind k (moved_by w i r) (to_sends s))
sends-moved w i r s l k place values n p v o y e =
    e
    ∙ ap (λ (m : ℕ). state_at place values m s) o
    ∙ ap (λ (t : List ℕ). state_at place values (octet_by w i r (get_or t place 0)) t) (laid-sends-is s l)
    ∙ ap (λ (a : ℕ). state_at a values (octet_by w i r (get_or (sends_octets (to_sends s)) a 0)) (sends_octets (to_sends s))) p
    ∙ ap (λ (a : ℕ). state_at (in_kind k) a (octet_by w i r (get_or (sends_octets (to_sends s)) (in_kind k) 0)) (sends_octets (to_sends s))) v
    ∙ stream-moved w i r (to_sends s) (laid-sends-fits s l) k

-- an Applicant and its values are within what is sent
pub kind-within : (k : Kind) → in_kind k + 1 + behind_kind k ≤ sends_size
unfolding in_kind behind_kind
kind-within advertises = omega arith
kind-within faileds = omega arith
kind-within listeners = omega arith

-- How far the moves are behind it, and that nothing moves where there is none.
module _ (w : Span) (m : Met) (r : Bool) (s : List ℕ) (l : LaidSends s) (k : Kind) (place : ℕ) (p : place ≡ in_kind k) where
  abbrev x : Sends
  x = to_sends s

  octet-is : get_or s place 0 ≡ machine_octet k x
  octet-is =
      ap (λ (a : ℕ). get_or s a 0) p
      ∙ ap (λ (t : List ℕ). get_or t (in_kind k) 0) (laid-sends-is s l)
      ∙ machine-octet w m.count r x (laid-sends-fits s l) k

  pub sends_few : get_or s place 0 ≤ 6
  sends_few = rw octet-is (few k)
    where
      few : (k : Kind) → machine_octet k x ≤ 6
      few advertises = unfold machine_octet in state_few x.advertising
      few faileds = unfold machine_octet in state_few x.failing
      few listeners = unfold machine_octet in state_few x.listening

  pub no-sends-met : get_or s place 0 ≡ 0 → MovedSends w m k r s m s
  no-sends-met z = record {
    octets = laid-sends-is s l ∙ ap sends_octets (sym (stays k (sym octet-is ∙ z)));
    met = unfold met_sends in met k octet-is;
  }
    where
      g : Standing → List Standing
      g = moved_by w m.count r

      stays : (k : Kind) → machine_octet k x ≡ 0 → move_kind k g x ≡ x
      stays advertises e = unfold machine_octet move_kind in rw (none_stays g x.advertising (unfold machine_octet in e))
      stays faileds e = unfold machine_octet move_kind in rw (none_stays g x.failing (unfold machine_octet in e))
      stays listeners e = unfold machine_octet move_kind in rw (none_stays g x.listening (unfold machine_octet in e))

      met : (k : Kind) → get_or s place 0 ≡ machine_octet k x → m ≡ met_by w m (machines k x) (machines k (move_kind k (moved_by w m.count r) x))
      met advertises e = unfold machines move_kind in no-machine-met w m r x.advertising (get_or s place 0) (unfold machine_octet in e) z
      met faileds e = unfold machines move_kind in no-machine-met w m r x.failing (get_or s place 0) (unfold machine_octet in e) z
      met listeners e = unfold machines move_kind in no-machine-met w m r x.listening (get_or s place 0) (unfold machine_octet in e) z

  pub sends-met : (get_or s place 0 ≡ 0 → ⊥) → (n : ℕ) → n ≡ octet_by w m.count r (get_or s place 0)
      → met_by w m 1 (bit (not (eqb n 0))) ≡ met_sends w m k r x
  unfolding met_sends
  sends-met z n q = met k octet-is
    where
      met : (k : Kind) → get_or s place 0 ≡ machine_octet k x
          → met_by w m 1 (bit (not (eqb n 0))) ≡ met_by w m (machines k x) (machines k (move_kind k (moved_by w m.count r) x))
      met advertises e = unfold machines move_kind in machine-met w m r x.advertising (get_or s place 0) (unfold machine_octet in e) z n q
      met faileds e = unfold machines move_kind in machine-met w m r x.failing (get_or s place 0) (unfold machine_octet in e) z n q
      met listeners e = unfold machines move_kind in machine-met w m r x.listening (get_or s place 0) (unfold machine_octet in e) z n q
