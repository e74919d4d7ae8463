-- leavealltimer! on the octets of what a port sends by itself.
use mathlib.Core.Path.{◌≡◌, refl, sym, ◌∙◌, ap}
use mathlib.Core.List.{List, [], ◌∷◌}
use Prim.Native.Nat.{ℕ, ◌+◌, ◌≤◌, ◌<◌}
use native.Mathlib.Omega.{arith}
use lib.ListN.{length, get_or, drop}
use lib.Seq.{get_or-drop}
use borrow.Author.Tests.{le-leb, lt-leb}
use Rattle.octets.specs.Be.{be_at, be}
use Rattle.octets.specs.Parts.{patch}
use Rattle.octets.specs.Fields.{fields, packed, width, flat}
use Rattle.octets.proofs.Be.{be_at-ext}
use Rattle.octets.proofs.Fields.{patch-behind, put-field}
use Rattle.model.specs.Layout.{applicant_size, in_sender, leave_all_widths, slots}
use Rattle.model.specs.LeaveAll.{LeaveAllState, active, passive, leavealltimer, starting, leave_all_row, leave_all_column, leave_all_entry, leave_all_next, leave_all_time, has_run, timed_out}
use Rattle.model.specs.Machines.{Applicant}
use Rattle.model.specs.State.{Sender}
use Rattle.model.specs.Sending.{domain_applicant, active_number, leave_all_octets, to_leave_all, sender_octets, to_sender}
use Rattle.model.specs.Laid.{LaidSender}
use Rattle.model.proofs.Parts.{length-flat-sized, Sized}
use Rattle.model.proofs.Lists.{all-each}
use Rattle.model.proofs.ApplicantOctets.{applicant-length}
use Rattle.model.proofs.Fits.{laid-sender-is, laid-sender-fits}
use Rattle.declaring.specs.Octets.{timed}

-- the timer, as its octets say it
pub timer-read : (s : List ℕ) → be_at 4 s in_sender.timer ≡ (to_sender s).leave_all.start
unfolding to_sender to_leave_all fields
timer-read s =
    sym (be_at-ext 4 (drop in_sender.leave_all s) s 1 in_sender.timer (λ j h. get_or-drop in_sender.leave_all s (1 + j) 0 ∙ ap (λ (i : ℕ). get_or s i 0) (omega arith)))

starts-anew : (q : LeaveAllState) → leave_all_entry leavealltimer q ≡ starting active
unfolding leave_all_entry leave_all_row leave_all_column
starts-anew active = refl
starts-anew passive = refl

-- sixteen Applicants of Domain values, an octet each
sixteen : (ds : List (Applicant (Unit {0}))) → length ds ≡ slots → length (flat domain_applicant ds) ≡ slots
unfolding domain_applicant
sixteen ds e =
    length-flat-sized applicant_size domain_applicant ds (all-each (Sized applicant_size domain_applicant) (applicant-length 0 (λ u. []) (λ u. refl)) ds) ∙ omega (arith, e)

module _ (clock : ℕ) (s : List ℕ) (l : LaidSender s) where
  pub not-run : clock < be_at 4 s in_sender.timer + leave_all_time → s ≡ sender_octets (timed clock (to_sender s))
  unfolding timed timed_out has_run
  not-run h =
      let small : clock < (to_sender s).leave_all.start + leave_all_time = omega (arith, timer-read s) in
      rw (lt-leb ((to_sender s).leave_all.start + leave_all_time) clock small) (laid-sender-is s l)

  -- active, and started at the clock
  begun-anew : (x : Sender) → length (flat domain_applicant x.domains) ≡ slots
      → patch in_sender.timer 4 (be 4 clock) (patch in_sender.leave_all 1 (be 1 1) (sender_octets x))
      ≡ sender_octets record { domains = x.domains; leave_all = record { state = active; start = clock } }
  unfolding sender_octets leave_all_octets active_number width
  begun-anew x long =
      let ds = flat domain_applicant x.domains in
      let vs = active_number x.leave_all.state ∷ x.leave_all.start ∷ [] in
      rw (patch-behind ds (packed leave_all_widths vs) (be 1 1) slots 0 1 long, put-field leave_all_widths vs 0 1 refl, patch-behind ds (packed leave_all_widths (1 ∷ x.leave_all.start ∷ [])) (be 4 clock) slots 1 4 long, put-field leave_all_widths (1 ∷ x.leave_all.start ∷ []) 1 clock refl)

  pub has-run : be_at 4 s in_sender.timer + leave_all_time ≤ clock
      → patch in_sender.timer 4 (be 4 clock) (patch in_sender.leave_all 1 (be 1 1) s) ≡ sender_octets (timed clock (to_sender s))
  unfolding timed timed_out has_run leave_all_next starting
  has-run h =
      let x = to_sender s in
      let due : x.leave_all.start + leave_all_time ≤ clock = omega (arith, timer-read s) in
      rw (le-leb (x.leave_all.start + leave_all_time) clock due, starts-anew x.leave_all.state)
      (ap (λ (t : List ℕ). patch in_sender.timer 4 (be 4 clock) (patch in_sender.leave_all 1 (be 1 1) t)) (laid-sender-is s l)
      ∙ begun-anew x (sixteen x.domains (laid-sender-fits s l).slotted))
