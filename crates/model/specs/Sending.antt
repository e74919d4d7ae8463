-- What a port sends, as octets and back (docs/TABLE.md): an Applicant is one octet of its state, then the values last declared, zeros
-- where there is none. The number behind a rule is its number in docs/TABLE.md.
use Rattle.std.specs.Prelude.{List, [], ◌∷◌, ◌++◌, Bool, true, cond, ◌&&◌, ◌||◌, ℕ, zero, suc, ◌+◌, ◌%◌, get_or, take, drop, eqb, leb, ltb}
use Rattle.octets.specs.Parts.{zeros}
use Rattle.octets.specs.Fields.{fields, packed, flat}
use Rattle.model.specs.Layout.{advertising_size, applicant_size, failed_size, failing_size, failure_widths, in_sender, leave_all_widths, offer_size, offer_widths, ready_size, slots}
use Rattle.model.specs.Lists.{all_zero, parts}
use Rattle.model.specs.Applicant.{Standing, very_anxious_passive, very_anxious_new, anxious_new, anxious_active, quiet_active, leaving_active, named, octet_of}
use Rattle.model.specs.Machines.{Applicant, no_applicant, applicant}
use Rattle.model.specs.LeaveAll.{LeaveAllState, active, passive, LeaveAll, leave_all_time}
use Rattle.model.specs.State.{Ready, Offer, Failure, Sends, Sender, ready_number}
use Rattle.model.specs.WrittenFrames.{fixed_numbers, fixed_from, to_ready}

-- a state in an octet: VP, VN, AN, AA, QA, LA
unfoldable pub standing_number : Standing → ℕ
standing_number q = octet_of (named q)

unfoldable pub to_standing : ℕ → Standing
to_standing zero = leaving_active
to_standing (suc zero) = very_anxious_passive
to_standing (suc (suc zero)) = very_anxious_new
to_standing (suc (suc (suc zero))) = anxious_new
to_standing (suc (suc (suc (suc zero)))) = anxious_active
to_standing (suc (suc (suc (suc (suc zero))))) = quiet_active
to_standing (suc (suc (suc (suc (suc (suc n)))))) = leaving_active

-- an Applicant over values of n octets
module _ {A : Type 0} (n : ℕ) (to : A → List ℕ) where
  unfoldable pub applicant_octets : Applicant A → List ℕ
  applicant_octets no_applicant = 0 ∷ zeros n
  applicant_octets (applicant x) = standing_number x.state ∷ to x.value

module _ {A : Type 0} (from : List ℕ → A) where
  unfoldable pub to_applicant : List ℕ → Applicant A
  to_applicant s = cond (eqb (get_or s 0 0) 0) no_applicant (applicant record { state = to_standing (get_or s 0 0); value = from (drop 1 s) })

-- its octet is 0 to 6 (42); where it is 0 the values are zero (43), and else they keep their rule
unfoldable pub applicant_formed : (List ℕ → Bool) → List ℕ → Bool
applicant_formed rule s = leb (get_or s 0 0) 6 && cond (eqb (get_or s 0 0) 0) (all_zero (drop 1 s)) (rule (drop 1 s))

-- Two things, one behind the other.
module _ {A B : Type 0} where
  unfoldable pub both_octets : (A → List ℕ) → (B → List ℕ) → A × B → List ℕ
  both_octets to_a to_b x = to_a x.0 ++ to_b x.1

  unfoldable pub to_both : ℕ → (List ℕ → A) → (List ℕ → B) → List ℕ → A × B
  to_both n from_a from_b s = (from_a (take n s), from_b (drop n s))

unfoldable pub both_formed : ℕ → (List ℕ → Bool) → (List ℕ → Bool) → List ℕ → Bool
both_formed n rule_a rule_b s = rule_a (take n s) && rule_b (drop n s)

-- The three kinds of values.

unfoldable pub offer_numbers : Offer → List ℕ
offer_numbers x = fixed_numbers x.fixed ++ (x.latency ∷ [])

unfoldable pub offer_from : List ℕ → Offer
offer_from vs = record { fixed = fixed_from 0 vs; latency = get_or vs 5 0 }

unfoldable pub offer_octets : Offer → List ℕ
offer_octets x = packed offer_widths (offer_numbers x)

unfoldable pub to_offer : List ℕ → Offer
to_offer s = offer_from (fields offer_widths 0 s)

unfoldable pub failure_octets : Failure → List ℕ
failure_octets x = packed failure_widths (x.bridge ∷ x.code ∷ [])

unfoldable pub to_failure : List ℕ → Failure
to_failure s = record { bridge = get_or (fields failure_widths 0 s) 0 0; code = get_or (fields failure_widths 0 s) 1 0 }

abbrev pub anything : List ℕ → Bool
anything s = true

-- the low four bits of the priority octet are zero (44)
unfoldable pub offer_formed : List ℕ → Bool
offer_formed s = eqb (get_or (fields offer_widths 0 s) 4 0 % 16) 0

-- a declaration type is 1 to 3 (45)
unfoldable pub ready_octets : Ready → List ℕ
ready_octets r = ready_number r ∷ []

unfoldable pub ready_in : List ℕ → Ready
ready_in s = to_ready (get_or s 0 0)

unfoldable pub ready_formed : List ℕ → Bool
ready_formed s = leb 1 (get_or s 0 0) && leb (get_or s 0 0) 3

unfoldable pub failed_formed : List ℕ → Bool
failed_formed s = both_formed offer_size offer_formed anything s

-- What a port sends of a stream: Advertise's Applicant, Failed's, the Listener's.

unfoldable pub sends_octets : Sends → List ℕ
sends_octets x =
    applicant_octets offer_size offer_octets x.advertising
    ++ (applicant_octets failed_size (both_octets offer_octets failure_octets) x.failing ++ applicant_octets ready_size ready_octets x.listening)

unfoldable pub to_sends : List ℕ → Sends
to_sends s = record {
  advertising = to_applicant to_offer (take advertising_size s);
  failing = to_applicant (to_both offer_size to_offer to_failure) (take failing_size (drop advertising_size s));
  listening = to_applicant ready_in (drop failing_size (drop advertising_size s));
}

unfoldable pub sends_formed : List ℕ → Bool
sends_formed s =
    applicant_formed offer_formed (take advertising_size s)
    && (applicant_formed failed_formed (take failing_size (drop advertising_size s)) && applicant_formed ready_formed (drop failing_size (drop advertising_size s)))

-- What a port sends by itself: the Applicants of its Domain values, and its LeaveAll machine.

unfoldable pub domain_applicant : Applicant (Unit {0}) → List ℕ
domain_applicant a = applicant_octets 0 (λ u. []) a

unfoldable pub to_domain_applicant : List ℕ → Applicant (Unit {0})
to_domain_applicant s = to_applicant (λ r. tt) s

unfoldable pub active_number : LeaveAllState → ℕ
active_number active = 1
active_number passive = 0

unfoldable pub to_active : ℕ → LeaveAllState
to_active n = cond (eqb n 1) active passive

unfoldable pub leave_all_octets : LeaveAll → List ℕ
leave_all_octets m = packed leave_all_widths (active_number m.state ∷ m.start ∷ [])

unfoldable pub to_leave_all : List ℕ → LeaveAll
to_leave_all s = record { state = to_active (get_or (fields leave_all_widths 0 s) 0 0); start = get_or (fields leave_all_widths 0 s) 1 0 }

unfoldable pub sender_octets : Sender → List ℕ
sender_octets x = flat domain_applicant x.domains ++ leave_all_octets x.leave_all

unfoldable pub to_sender : List ℕ → Sender
to_sender s = record { domains = parts applicant_size to_domain_applicant slots (take in_sender.leave_all s); leave_all = to_leave_all (drop in_sender.leave_all s) }

-- the Applicant of a slot is VP, AA or QA where the port declares the slot's Domain value, else 0 (48): New! and Lv! are never raised
unfoldable pub domain_standing : Bool → ℕ → Bool
domain_standing own n = cond own (eqb n 1 || (eqb n 4 || eqb n 5)) (eqb n 0)

unfoldable pub slots_standing : (ℕ → Bool) → ℕ → List ℕ → Bool
slots_standing own i [] = true
slots_standing own i (n ∷ s) = domain_standing (own i) n && slots_standing own (suc i) s

-- the LeaveAll flag is 0 or 1 (49); its timer was started at most at the clock, and less than LeaveAllTime before it (50)
unfoldable pub leave_all_formed : ℕ → List ℕ → Bool
leave_all_formed clock s =
    let vs = fields leave_all_widths 0 s in
    leb (get_or vs 0 0) 1 && (leb (get_or vs 1 0) clock && ltb clock (get_or vs 1 0 + leave_all_time))

unfoldable pub sender_formed : (ℕ → Bool) → ℕ → List ℕ → Bool
sender_formed own clock s = slots_standing own 0 (take in_sender.leave_all s) && leave_all_formed clock (drop in_sender.leave_all s)
