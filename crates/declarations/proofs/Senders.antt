-- What a port sends by itself, in octets: the state of each Domain slot's Applicant, and whether its LeaveAll is active.
use Prim.Native.Nat.{ℕ, zero, suc, ◌+◌, ◌<◌}
use native.Mathlib.Omega.{arith}
use mathlib.Core.Path.{◌≡◌, refl, sym, ap, ◌∙◌, subst}
use mathlib.Core.List.{List, [], ◌∷◌, ◌++◌}
use lib.ListN.{length, get_or, get_or-append}
use lib.Seq.{get_or-append-add}
use lib.Dec.{eqb}
use Rattle.octets.specs.Fields.{Fit, flat, width}
use Rattle.octets.proofs.Fields.{get-octet}
use Rattle.model.specs.Layout.{in_sender, leave_all_widths, slots}
use Rattle.model.specs.Machines.{Applicant, no_applicant, applicant}
use Rattle.model.specs.LeaveAll.{LeaveAllState, active, passive, is_active}
use Rattle.model.specs.State.{Sender, Bridge, sender_at}
use Rattle.model.specs.Frames.{domain_type}
use Rattle.model.specs.Sending.{applicant_octets, domain_applicant, active_number, leave_all_octets, sender_octets}
use Rattle.model.specs.Declarations.{Declaration, listed_as, domain_of}
use Rattle.model.specs.Writing.{leaves_all}
use Rattle.model.specs.Laid.{FitSender}
use Rattle.model.proofs.Fits.{laid-sender-is, laid-sender-fits}
use Rattle.table.specs.Reads.{ReadsSender}
use Rattle.declarations.specs.Passes.{machine_by, state_number}

-- one octet for each slot
slot-number : (g : (u : Unit {0}) → Declaration) (a : Applicant (Unit {0})) → domain_applicant a ≡ state_number (listed_as g a) ∷ []
unfolding domain_applicant applicant_octets state_number listed_as
slot-number g no_applicant = refl
slot-number g (applicant x) = refl

slots_length : (l : List (Applicant (Unit {0}))) → length (flat domain_applicant l) ≡ length l
unfolding flat domain_applicant applicant_octets
slots_length [] = refl
slots_length (no_applicant ∷ l) = ap suc (slots_length l)
slots_length (applicant x ∷ l) = ap suc (slots_length l)

slots_at : (g : (u : Unit {0}) → Declaration) (l : List (Applicant (Unit {0}))) (k : ℕ) → get_or (flat domain_applicant l) k 0 ≡ state_number (listed_as g (get_or l k no_applicant))
unfolding flat
slots_at g [] k = unfold state_number listed_as in refl
slots_at g (a ∷ l) zero = rw (slot-number g a)
slots_at g (a ∷ l) (suc k) = rw (slot-number g a) (slots_at g l k)

-- of octets that were read
module _ {s : List ℕ} {x : Sender} (w : ReadsSender s x) where
  sender-is : s ≡ sender_octets x
  sender-is = laid-sender-is s w.laid ∙ ap sender_octets w.is

  sender-fits : FitSender x
  sender-fits = subst FitSender w.is (laid-sender-fits s w.laid)

  domains-long : length (flat domain_applicant x.domains) ≡ slots
  domains-long = slots_length x.domains ∙ sender-fits.slotted

  slot_read : (g : (u : Unit {0}) → Declaration) (k : ℕ) → k < slots → get_or s (0 + k) 0 ≡ state_number (listed_as g (get_or x.domains k no_applicant))
  unfolding sender_octets
  slot_read g k h =
      let e : 0 + k ≡ k = omega arith in
      rw (sender-is, e)
      (get_or-append (flat domain_applicant x.domains) (leave_all_octets x.leave_all) 0 k (omega (arith, domains-long, h)) ∙ slots_at g x.domains k)

  active-read : get_or s in_sender.leave_all 0 ≡ active_number x.leave_all.state
  unfolding sender_octets leave_all_octets width
  active-read =
      let fits : Fit leave_all_widths (active_number x.leave_all.state ∷ x.leave_all.start ∷ []) =
      unfold Fit in (few x.leave_all.state, (sender-fits.start, tt)) in
      rw sender-is
      (ap (λ (n : ℕ). get_or (flat domain_applicant x.domains ++ leave_all_octets x.leave_all) (n + 0) 0) (sym domains-long)
      ∙ get_or-append-add (flat domain_applicant x.domains) (leave_all_octets x.leave_all) 0 0
      ∙ get-octet leave_all_widths (active_number x.leave_all.state ∷ x.leave_all.start ∷ []) fits 0 refl)
    where
      few : (q : LeaveAllState) → active_number q < 256
      few active = unfold active_number in (omega arith)
      few passive = unfold active_number in (omega arith)

active-is : (q : LeaveAllState) → eqb (active_number q) 1 ≡ is_active q
unfolding active_number is_active
active-is active = refl
active-is passive = refl

pub active-octet : (p : ℕ) (b : Bridge) {s : List ℕ} → ReadsSender s (sender_at b.senders p) → eqb (get_or s in_sender.leave_all 0) 1 ≡ leaves_all b p
unfolding leaves_all
active-octet p b w = ap (λ (n : ℕ). eqb n 1) (active-read w) ∙ active-is (sender_at b.senders p).leave_all.state

pub slot_state : (k p : ℕ) (b : Bridge) {s : List ℕ} → ReadsSender s (sender_at b.senders p) → k < slots → get_or s (0 + k) 0 ≡ state_number (machine_by domain_type p b k)
unfolding machine_by
slot_state k p b w h = slot_read w (λ u. domain_of b.settings k) k h
