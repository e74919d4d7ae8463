-- What a write moves among the octets of what a port sends by itself: the Applicant of a Domain value, and the LeaveAll machine.
use mathlib.Core.Path.{◌≡◌, refl, sym, ◌∙◌, ap}
use mathlib.Core.List.{List, [], ◌∷◌, ◌++◌, map, append_assoc}
use mathlib.Core.Bool.{Bool, not}
use Prim.Native.Nat.{ℕ, zero, suc, ◌≤◌, ◌<◌}
use native.Mathlib.Omega.{arith}
use lib.ListN.{length, get_or, set}
use lib.Seq.{set-get_or}
use lib.Dec.{eqb}
use Rattle.octets.specs.Be.{be}
use Rattle.octets.specs.Parts.{patch}
use Rattle.octets.specs.Fields.{flat, packed, width}
use Rattle.octets.proofs.Fields.{length-flat, patch-behind, put-field}
use Rattle.model.specs.Layout.{applicant_size, in_sender, leave_all_widths, slots}
use Rattle.model.specs.Lists.{bit}
use Rattle.model.specs.Applicant.{Standing}
use Rattle.model.specs.LeaveAll as timer
use Rattle.model.specs.Machines.{Applicant, no_applicant, applicant, with, applicant_of, moved}
use Rattle.model.specs.State.{Sender}
use Rattle.model.specs.Registrations.{at}
use Rattle.model.specs.Sending.{applicant_octets, domain_applicant, active_number, leave_all_octets, sender_octets, to_sender}
use Rattle.model.specs.Laid.{LaidSender}
use Rattle.model.proofs.ApplicantOctets.{applicant-length}
use Rattle.model.proofs.Fits.{laid-sender-is, laid-sender-fits}
use Rattle.table.proofs.Lens.{at_set}
use Rattle.moving.specs.declared.Span.{Span}
use Rattle.moving.specs.declared.Met.{Met}
use Rattle.moving.specs.Moves.{moved_by, octet_by, met_by, slot_moved, met_slot, MovedSender, all_sent}
use Rattle.moving.proofs.One.{octet_left, moved-octet, none-moved, state_octet, state_few, none_stays, no-machine-met, machine-met}

-- Applicants of Domain values: each is one octet.

slot-size : (a : Applicant (Unit {0})) → length (domain_applicant a) ≡ applicant_size
unfolding domain_applicant
slot-size a = applicant-length 0 (λ (u : Unit {0}). []) (λ u. refl) a

slot-first : (a : Applicant (Unit {0})) (s : List ℕ) → get_or (domain_applicant a ++ s) 0 0 ≡ state_octet a
unfolding domain_applicant applicant_octets state_octet
slot-first no_applicant s = refl
slot-first (applicant x) s = refl

-- what is behind it
behind-slot : (a : Applicant (Unit {0})) (s : List ℕ) (k v : ℕ)
    → (get_or (domain_applicant a ++ s) (suc k) 0 ≡ get_or s k 0) × (set (domain_applicant a ++ s) (suc k) v ≡ domain_applicant a ++ set s k v)
unfolding domain_applicant applicant_octets
behind-slot no_applicant s k v = (refl, refl)
behind-slot (applicant x) s k v = (refl, refl)

module _ (w : Span) (i : ℕ) (r : Bool) where
  slot-octet : (a : Applicant (Unit {0})) (s : List ℕ)
      → set (domain_applicant a ++ s) 0 (octet_by w i r (get_or (domain_applicant a ++ s) 0 0)) ≡ domain_applicant (moved (moved_by w i r) a) ++ s
  unfolding domain_applicant applicant_octets moved
  slot-octet no_applicant s = ap (λ (n : ℕ). n ∷ s) (none-moved w i r)
  slot-octet (applicant x) s = ap (λ (n : ℕ). n ∷ s) (moved-octet w i r x.state) ∙ go (moved_by w i r x.state)
    where
      go : (l : List Standing) → octet_left l ∷ s ≡ domain_applicant (applicant_of (map (with x.value) l)) ++ s
      go [] = unfold octet_left applicant_of in refl
      go (q ∷ l) = unfold octet_left applicant_of with in refl

  slots-octets : (k : ℕ) (l : List (Applicant (Unit {0}))) (s : List ℕ) → k < length l
      → set (flat domain_applicant l ++ s) k (octet_by w i r (get_or (flat domain_applicant l ++ s) k 0)) ≡ flat domain_applicant (at k (moved (moved_by w i r)) l) ++ s
  unfolding flat at
  slots-octets k [] s h = absurd (omega arith)
  slots-octets zero (a ∷ l) s h =
      rw (append_assoc (domain_applicant a) (flat domain_applicant l) s, append_assoc (domain_applicant (moved (moved_by w i r) a)) (flat domain_applicant l) s)
      (slot-octet a (flat domain_applicant l ++ s))
  slots-octets (suc k) (a ∷ l) s h =
      let f = flat domain_applicant l ++ s in
      rw (append_assoc (domain_applicant a) (flat domain_applicant l) s, append_assoc (domain_applicant a) (flat domain_applicant (at k (moved (moved_by w i r)) l)) s)
      (ap (λ (n : ℕ). set (domain_applicant a ++ f) (suc k) (octet_by w i r n)) (behind-slot a f k 0).0
      ∙ (behind-slot a f k (octet_by w i r (get_or f k 0))).1
      ∙ ap (λ (t : List ℕ). domain_applicant a ++ t) (slots-octets k l s (omega arith)))

  -- the octet of a slot's machine
  slot-there : (k : ℕ) (l : List (Applicant (Unit {0}))) (s : List ℕ) → k < length l → get_or (flat domain_applicant l ++ s) k 0 ≡ state_octet (get_or l k no_applicant)
  unfolding flat
  slot-there k [] s h = absurd (omega arith)
  slot-there zero (a ∷ l) s h = rw (append_assoc (domain_applicant a) (flat domain_applicant l) s) (slot-first a (flat domain_applicant l ++ s))
  slot-there (suc k) (a ∷ l) s h =
      rw (append_assoc (domain_applicant a) (flat domain_applicant l) s) ((behind-slot a (flat domain_applicant l ++ s) k 0).0 ∙ slot-there k l s (omega arith))

  -- on octets that are laid out
  pub slot-moves : (s : List ℕ) → LaidSender s → (k : ℕ) → k < slots → (place n : ℕ) → place ≡ k → n ≡ octet_by w i r (get_or s place 0)
      → set s place n ≡ sender_octets (slot_moved w i r k (to_sender s))
  unfolding sender_octets slot_moved
  slot-moves s l k h place n e o =
      let x = to_sender s in
      ap (set s place) o
      ∙ ap (λ (a : ℕ). set s a (octet_by w i r (get_or s a 0))) e
      ∙ ap (λ (t : List ℕ). set t k (octet_by w i r (get_or t k 0))) (laid-sender-is s l)
      ∙ slots-octets k x.domains (leave_all_octets x.leave_all) (omega (arith, h, (laid-sender-fits s l).slotted))

-- How far the moves are behind it, and that nothing moves where there is none.
module _ (w : Span) (m : Met) (r : Bool) (s : List ℕ) (l : LaidSender s) (k : ℕ) (h : k < slots) (place : ℕ) (p : place ≡ k) where
  abbrev x : Sender
  x = to_sender s

  abbrev a : Applicant (Unit {0})
  a = get_or (to_sender s).domains k no_applicant

  a-slot : k < length x.domains
  a-slot = omega (arith, h, (laid-sender-fits s l).slotted)

  octet-is : get_or s place 0 ≡ state_octet a
  unfolding sender_octets
  octet-is =
      ap (λ (a : ℕ). get_or s a 0) p
      ∙ ap (λ (t : List ℕ). get_or t k 0) (laid-sender-is s l)
      ∙ slot-there w m.count r k x.domains (leave_all_octets x.leave_all) a-slot

  pub slot_few : get_or s place 0 ≤ 6
  slot_few = rw octet-is (state_few a)

  pub no-slot-met : get_or s place 0 ≡ 0 → MovedSender w m r k s m s
  unfolding slot_moved met_slot
  no-slot-met z =
      let g = moved_by w m.count r in
      record {
        octets =
            laid-sender-is s l
            ∙ ap (λ (d : List (Applicant (Unit {0}))). sender_octets record { domains = d; leave_all = x.leave_all })
            (sym (sym (at_set k (moved g) x.domains no_applicant a-slot)
            ∙ ap (λ (b : Applicant (Unit {0})). set x.domains k b) (none_stays g a (sym octet-is ∙ z))
            ∙ set-get_or x.domains k no_applicant));
        met = no-machine-met w m r a (get_or s place 0) octet-is z;
      }

  pub slot-met : (get_or s place 0 ≡ 0 → ⊥) → (n : ℕ) → n ≡ octet_by w m.count r (get_or s place 0)
      → met_by w m 1 (bit (not (eqb n 0))) ≡ met_slot w m r a
  unfolding met_slot
  slot-met z n q = machine-met w m r a (get_or s place 0) octet-is z n q

-- The LeaveAll machine: passive, the timer as it was.

pub sent : (now : ℕ) (m : timer.LeaveAll) → timer.leave_all_next now timer.tx m ≡ record { state = timer.passive; start = m.start }
unfolding timer.leave_all_next timer.leave_all_entry timer.leave_all_row timer.leave_all_column timer.sends_leave_all timer.inapplicable
sent now m = go m.state
  where
    go : (q : timer.LeaveAllState) → timer.leave_all_next now timer.tx record { state = q; start = m.start } ≡ record { state = timer.passive; start = m.start }
    go timer.active = refl
    go timer.passive = refl

module _ (now : ℕ) (x : Sender) (e : length x.domains ≡ slots) where
  abbrev ds : List ℕ
  ds = flat domain_applicant x.domains

  ds-size : length ds ≡ in_sender.leave_all
  ds-size = length-flat domain_applicant applicant_size slot-size x.domains ∙ omega (arith, e)

  sent-octets : patch in_sender.leave_all 1 (be 1 0) (sender_octets x) ≡ sender_octets (all_sent now x)
  unfolding sender_octets leave_all_octets all_sent active_number width
  sent-octets =
      let n = active_number x.leave_all.state in
      let t = x.leave_all.start in
      patch-behind ds (packed leave_all_widths (n ∷ t ∷ [])) (be 1 0) in_sender.leave_all 0 1 ds-size
      ∙ ap (λ (s : List ℕ). ds ++ s) (put-field leave_all_widths (n ∷ t ∷ []) 0 0 refl)
      ∙ ap (λ (m : timer.LeaveAll). ds ++ leave_all_octets m) (sym (sent now x.leave_all))

pub machine-sent : (now : ℕ) (s : List ℕ) → LaidSender s → (y : List ℕ) → y ≡ patch in_sender.leave_all 1 (be 1 0) s → y ≡ sender_octets (all_sent now (to_sender s))
machine-sent now s l y e =
    e ∙ ap (patch in_sender.leave_all 1 (be 1 0)) (laid-sender-is s l) ∙ sent-octets now (to_sender s) (laid-sender-fits s l).slotted
