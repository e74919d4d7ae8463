-- What is heard among the octets of what a port sends by itself: by Applicants of Domain values, and by the LeaveAll machine.
use mathlib.Core.Path.{◌≡◌, refl, sym, ◌∙◌, ap}
use mathlib.Core.List.{List, [], ◌∷◌, ◌++◌, map, append_assoc}
use Prim.Native.Nat.{ℕ, zero, suc, ◌+◌, ◌<◌}
use native.Mathlib.Numerals.{add-one, one-add}
use native.Mathlib.Omega.{arith}
use lib.ListN.{length, length-map}
use Rattle.octets.specs.Be.{be}
use Rattle.octets.specs.Parts.{patch}
use Rattle.octets.specs.Fields.{flat, packed, width}
use Rattle.octets.proofs.Fields.{length-flat, patch-behind, put-field}
use Rattle.model.specs.Layout.{applicant_size, in_sender, leave_all_widths, slots}
use Rattle.model.specs.Machines.{Applicant, Heard, heard_leave, heard}
use Rattle.model.specs.LeaveAll.{LeaveAll, LeaveAllState, active, passive, r_la, leave_all_row, leave_all_column, leave_all_entry, starting, leave_all_next}
use Rattle.model.specs.State.{Sender}
use Rattle.model.specs.Registrations.{at, of_domain, hear_domain, hears_leave_all, moves_sender}
use Rattle.model.specs.Sending.{domain_applicant, active_number, leave_all_octets, sender_octets, to_sender}
use Rattle.model.specs.Laid.{FitSender, LaidSender}
use Rattle.model.proofs.ApplicantOctets.{applicant-length}
use Rattle.model.proofs.SenderOctets.{sender-coded}
use Rattle.model.proofs.Fits.{laid-sender-is, laid-sender-fits}
use Rattle.table.proofs.EachStream.{firsts, firsts-length, firsts_at, firsts-all}
use Rattle.hearing.specs.Hears.{heard_at, heard_by_all}
use Rattle.hearing.proofs.One.{applicant-hears, heard-behind}

-- Applicants of Domain values: each is one octet.

slot-size : (a : Applicant (Unit {0})) → length (domain_applicant a) ≡ applicant_size
unfolding domain_applicant
slot-size a = applicant-length 0 (λ (u : Unit {0}). []) (λ u. refl) a

slots-hear : (h : Heard) (i : ℕ) (l : List (Applicant (Unit {0}))) (rest : List ℕ) → i < length l →
    heard_at i h (flat domain_applicant l ++ rest) ≡ flat domain_applicant (at i (heard h) l) ++ rest
unfolding flat at
slots-hear h i [] rest p = absurd (omega arith)
slots-hear h zero (a ∷ l) rest p =
    rw (append_assoc (domain_applicant a) (flat domain_applicant l) rest, append_assoc (domain_applicant (heard h a)) (flat domain_applicant l) rest)
    (unfold domain_applicant in applicant-hears 0 (λ (u : Unit {0}). []) h a (flat domain_applicant l ++ rest))
slots-hear h (suc i) (a ∷ l) rest p =
    rw (append_assoc (domain_applicant a) (flat domain_applicant l) rest, append_assoc (domain_applicant a) (flat domain_applicant (at i (heard h) l)) rest)
    (ap (λ (k : ℕ). heard_at k h (domain_applicant a ++ (flat domain_applicant l ++ rest))) (sym (one-add i))
    ∙ heard-behind h (domain_applicant a) (flat domain_applicant l ++ rest) 1 i (slot-size a)
    ∙ ap (λ (s : List ℕ). domain_applicant a ++ s) (slots-hear h i l rest (omega arith)))

-- what a port sends with its Domain values' Applicants changed
abbrev pub with_domains : (List (Applicant (Unit {0})) → List (Applicant (Unit {0}))) → Sender → Sender
with_domains u x = record { domains = u x.domains; leave_all = x.leave_all }

slot-hears : (h : Heard) (i : ℕ) (x : Sender) → length x.domains ≡ slots → i < slots → heard_at i h (sender_octets x) ≡ sender_octets (with_domains (at i (heard h)) x)
unfolding sender_octets
slot-hears h i x e p = slots-hear h i x.domains (leave_all_octets x.leave_all) (omega arith)

pub domain-heard : (h : Heard) (s : List ℕ) → LaidSender s → (i : ℕ) → i < slots → (clock : ℕ) (y : List ℕ) → y ≡ heard_at i h s →
    y ≡ sender_octets (moves_sender clock (of_domain (hear_domain i h)) (to_sender s))
unfolding moves_sender
domain-heard h s l i p clock y e = e ∙ ap (heard_at i h) (laid-sender-is s l) ∙ slot-hears h i (to_sender s) (laid-sender-fits s l).slotted p

-- One slot after another.

-- the first i have heard LeaveAll
abbrev pub heard_to : ℕ → Sender → Sender
heard_to i = with_domains (firsts (heard heard_leave) i)

module _ (s : List ℕ) (l : LaidSender s) where
  pub none-heard : s ≡ sender_octets (heard_to 0 (to_sender s))
  unfolding firsts
  none-heard = laid-sender-is s l

  pub one-heard : (i : ℕ) → i < slots → (y z : List ℕ) → y ≡ sender_octets (heard_to i (to_sender s)) → z ≡ heard_at i heard_leave y →
      z ≡ sender_octets (heard_to (i + 1) (to_sender s))
  one-heard i p y z e q =
      let ds = (to_sender s).domains in
      let m = (to_sender s).leave_all in
      q ∙ ap (heard_at i heard_leave) e
      ∙ slot-hears heard_leave i (heard_to i (to_sender s)) (firsts-length (heard heard_leave) i ds ∙ (laid-sender-fits s l).slotted) p
      ∙ ap (λ (d : List (Applicant (Unit {0}))). sender_octets record { domains = d; leave_all = m }) (firsts_at (heard heard_leave) i ds)
      ∙ ap (λ (k : ℕ). sender_octets (heard_to k (to_sender s))) (sym (add-one i))

  pub all-heard : (i : ℕ) → i ≡ slots → (y : List ℕ) → y ≡ sender_octets (heard_to i (to_sender s)) → y ≡ sender_octets (heard_by_all (to_sender s))
  unfolding heard_by_all
  all-heard i p y e =
      let ds = (to_sender s).domains in
      let m = (to_sender s).leave_all in
      e
      ∙ ap (λ (k : ℕ). sender_octets (heard_to k (to_sender s))) (p ∙ sym (laid-sender-fits s l).slotted)
      ∙ ap (λ (d : List (Applicant (Unit {0}))). sender_octets record { domains = d; leave_all = m }) (firsts-all (heard heard_leave) ds)

-- The LeaveAll machine.

restarted : (now : ℕ) (m : LeaveAll) → leave_all_next now r_la m ≡ record { state = passive; start = now }
unfolding leave_all_next leave_all_entry leave_all_row leave_all_column starting
restarted now m = go m.state
  where
    go : (q : LeaveAllState) → leave_all_next now r_la record { state = q; start = m.start } ≡ record { state = passive; start = now }
    go active = refl
    go passive = refl

module _ (now : ℕ) (x : Sender) (e : length x.domains ≡ slots) where
  abbrev ds : List ℕ
  ds = flat domain_applicant x.domains

  ds-size : length ds ≡ in_sender.leave_all
  ds-size = length-flat domain_applicant applicant_size slot-size x.domains ∙ omega (arith, e)

  -- active, and the clock at which the timer was started
  abbrev machine : ℕ → ℕ → List ℕ
  machine n t = packed leave_all_widths (n ∷ t ∷ [])

  restart-octets : patch in_sender.timer 4 (be 4 now) (patch in_sender.leave_all 1 (be 1 0) (sender_octets x)) ≡ sender_octets (hears_leave_all now (λ ds. ds) x)
  unfolding sender_octets leave_all_octets hears_leave_all active_number width
  restart-octets =
      let n = active_number x.leave_all.state in
      let t = x.leave_all.start in
      ap (patch in_sender.timer 4 (be 4 now)) (patch-behind ds (machine n t) (be 1 0) in_sender.leave_all 0 1 ds-size ∙ ap (λ (s : List ℕ). ds ++ s) (put-field leave_all_widths (n ∷ t ∷ []) 0 0 refl))
      ∙ patch-behind ds (machine 0 t) (be 4 now) in_sender.leave_all 1 4 ds-size
      ∙ ap (λ (s : List ℕ). ds ++ s) (put-field leave_all_widths (0 ∷ t ∷ []) 1 now refl)
      ∙ ap (λ (m : LeaveAll). ds ++ leave_all_octets m) (sym (restarted now x.leave_all))

pub machine-restarted : (now : ℕ) (s : List ℕ) → LaidSender s → (y : List ℕ) → y ≡ patch in_sender.timer 4 (be 4 now) (patch in_sender.leave_all 1 (be 1 0) s) →
    y ≡ sender_octets (hears_leave_all now (λ ds. ds) (to_sender s))
machine-restarted now s l y e =
    e ∙ ap (λ (t : List ℕ). patch in_sender.timer 4 (be 4 now) (patch in_sender.leave_all 1 (be 1 0) t)) (laid-sender-is s l) ∙ restart-octets now (to_sender s) (laid-sender-fits s l).slotted

-- Both: every slot, and then the machine.

module _ (s : List ℕ) (l : LaidSender s) (y : List ℕ) (e : y ≡ sender_octets (heard_by_all (to_sender s))) where
  heard-fits : FitSender (heard_by_all (to_sender s))
  unfolding heard_by_all
  heard-fits = let w = laid-sender-fits s l in record { slotted = length-map (to_sender s).domains (heard heard_leave) ∙ w.slotted; start = w.start }

  pub heard-laid : LaidSender y
  heard-laid = record { thing = heard_by_all (to_sender s); fits = heard-fits; is = e }

  pub both-heard : (now : ℕ) (z : List ℕ) → z ≡ sender_octets (hears_leave_all now (λ ds. ds) (to_sender y)) →
      z ≡ sender_octets (hears_leave_all now (map (heard heard_leave)) (to_sender s))
  unfolding heard_by_all hears_leave_all
  both-heard now z q =
      q ∙ ap (λ (x : Sender). sender_octets (hears_leave_all now (λ ds. ds) x)) (ap to_sender e ∙ sender-coded.back (heard_by_all (to_sender s)) heard-fits)

-- for the search at the functions of lib.rt
pub ruleset slots_hear = (domain-heard, none-heard, one-heard, all-heard, machine-restarted, heard-laid)
