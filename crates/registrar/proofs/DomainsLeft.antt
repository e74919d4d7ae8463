-- LeaveAll of the Domain values of a port, done on one slot after another.
use Prim.Native.Nat.{ℕ, ◌+◌, ◌^◌, ◌<◌}
use mathlib.Core.Path.{◌≡◌, refl, sym, ◌∙◌, ap}
use mathlib.Core.List.{List, [], ◌∷◌}
use mathlib.Core.Bool.{true}
use native.Mathlib.Numerals.{add-one}
use Rattle.model.specs.Layout.{slots}
use Rattle.model.specs.State.{Own, Bridge}
use Rattle.model.specs.Registrations.{of_domain, leave_all_domains, quit_domain, does_domain, at, change_domains, owning}
use Rattle.model.specs.Table.{encode, decode}
use Rattle.model.specs.Laid.{FitOwn, FitBridge, Laid}
use Rattle.model.proofs.Lists.{length_at, all_changed}
use Rattle.model.proofs.Fits.{laid-is, laid-fits}
use Rattle.table.specs.Updates.{with_slot}
use Rattle.table.specs.Places.{SlotIn}
use Rattle.table.proofs.Fitting.{owning-fits}
use Rattle.table.proofs.ByPlace.{encoded-laid, encoded-read}
use Rattle.table.proofs.EachStream.{firsts, firsts-length, firsts_at, firsts-all, firsts-keep}
use Rattle.domains.proofs.Keeps.{FitDomain, quit-domain-fits}
use Rattle.registrar.specs.Walked.{Walked}
use Rattle.registrar.proofs.Changed.{at_none, at-alike, at_again}
use Rattle.registrar.proofs.Walks.{domain-done}

module _ (p now : ℕ) where
  -- what a port holds with its first i Domain values leaving
  unfoldable pub left_to : ℕ → Own → Own
  left_to i = change_domains (firsts (quit_domain now) i)

  left-next : (i : ℕ) (o : Own) → change_domains (at i (quit_domain now)) (left_to i o) ≡ left_to (i + 1) o
  unfolding left_to change_domains
  left-next i o = rw (add-one i, firsts_at (quit_domain now) i o.domains)

  left-all : (o : Own) → FitOwn o → left_to slots o ≡ change_domains (does_domain now leave_all_domains) o
  unfolding left_to change_domains does_domain
  left-all o w = rw (← firsts-all (quit_domain now) o.domains, w.slotted)

  -- the bridge of t₀ with them so
  unfoldable pub slots_left : List ℕ → ℕ → Bridge
  slots_left t₀ i = owning (decode t₀) (at p (left_to i) (decode t₀).owns)

  module _ (t₀ : List ℕ) (l : Laid t₀) where
    pub none_left : t₀ ≡ encode (slots_left t₀ 0)
    unfolding slots_left left_to change_domains firsts owning
    none_left =
        laid-is t₀ l ∙ ap (λ (o : List Own). encode (owning (decode t₀) o)) (sym (at_none p (left_to 0) (λ o. refl) (decode t₀).owns))

    module _ (small : now < 2 ^ 32) (i : ℕ) (t : List ℕ) (e : t ≡ encode (slots_left t₀ i)) where
      left-fits : (o : Own) → FitOwn o → FitOwn (left_to i o)
      unfolding left_to change_domains
      left-fits o w = record {
        slotted = firsts-length (quit_domain now) i o.domains ∙ w.slotted;
        domains = firsts-keep (quit_domain now) FitDomain (quit-domain-fits now small) i o.domains w.domains;
        addresses = w.addresses;
      }

      slots-fit : FitBridge (slots_left t₀ i)
      unfolding slots_left
      slots-fit =
          let w = laid-fits t₀ l in
          owning-fits (decode t₀) w (at p (left_to i) (decode t₀).owns) (length_at p (left_to i) (decode t₀).owns ∙ w.eight_owns)
          (all_changed FitOwn p (left_to i) (decode t₀).owns left-fits w.owns)

      pub slot-stands : p < 8 → i < slots → SlotIn t p i
      slot-stands q h = record { laid = encoded-laid (slots_left t₀ i) slots-fit t e; port = q; slot = h }

      pub one_left : (y : List ℕ) → y ≡ encode (with_slot p i (quit_domain now) (decode t)) → y ≡ encode (slots_left t₀ (i + 1))
      unfolding slots_left owning
      one_left y q =
          let o = (decode t₀).owns in
          q
          ∙ ap (λ (b : Bridge). encode (with_slot p i (quit_domain now) b)) (encoded-read (slots_left t₀ i) slots-fit t e)
          ∙ ap (λ (x : List Own). encode (owning (decode t₀) x)) (at_again p (change_domains (at i (quit_domain now))) (left_to i) o
          ∙ at-alike FitOwn p (λ x. change_domains (at i (quit_domain now)) (left_to i x)) (left_to (i + 1)) (λ x w. left-next i x) o (laid-fits t₀ l).owns)

pub slots-left : (p : ℕ) (t u : List ℕ) → Laid t → u ≡ encode (slots_left p (decode t).clock t slots) →
    Walked true p (of_domain leave_all_domains ∷ []) t true u
unfolding slots_left
slots-left p t u l e =
    let now = (decode t).clock in
    domain-done p leave_all_domains t l tt tt u
    (e ∙ ap (λ (o : List Own). encode (owning (decode t) o)) (at-alike FitOwn p (left_to p now slots) (change_domains (does_domain now leave_all_domains)) (left-all p now) (decode t).owns (laid-fits t l).owns))
