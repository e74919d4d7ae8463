-- What is heard leaves every machine in place, with its values, standing or leaving as before: so it breaks no form rule of what is sent.
use mathlib.Core.Path.{◌≡◌, refl, ◌∙◌}
use mathlib.Core.List.{List, [], ◌∷◌, map}
use mathlib.Core.Bool.{Bool, true, false, false≢true}
use Prim.Native.Nat.{ℕ, zero, suc}
use native.Mathlib.Omega.{arith}
use lib.ListN.{length-map}
use Rattle.model.specs.Applicant.{Standing, very_anxious_passive, very_anxious_new, anxious_new, anxious_active, quiet_active, leaving_active, becomes, named, octet_of}
use Rattle.model.specs.Machines.{Listed, Applicant, no_applicant, applicant, Heard, heard_in, heard_empty, heard_leave, heard_event, with, applicant_of, moved, heard}
use Rattle.model.specs.LeaveAll.{LeaveAllState, active, passive, LeaveAll, r_la, leave_all_row, leave_all_column, leave_all_entry, starting, leave_all_next}
use Rattle.model.specs.State.{Result, Sends, Sender, no_sends}
use Rattle.model.specs.Registrations.{Act, leave_all, leave, talk, listen, hear_all, hear, of_domain, leave_all_domains, leave_domain, join_domain, hear_all_domains, hear_domain, Kind, advertises, faileds, listeners, at, move_kind, hears, moves, hears_leave_all, moves_sender}
use Rattle.model.specs.Settling.{is_applicant, is_sending}
use Rattle.model.specs.Sending.{standing_number, domain_standing}
use Rattle.model.specs.Table.{is_standing, stands, sent_rules, sent_formed}
use Rattle.model.proofs.Lists.{length_at}
use Rattle.model.proofs.ApplicantEntries.{tables}
use Rattle.model.proofs.Valid.{GoodApplicant, ValidSends, applicant_number, ValidSlots, ValidLeaveAll, ValidSender}

-- One state.

pub record Remains (h : Heard) (q : Standing) : Type 0 where
  pub next : Standing
  pub is : becomes false (heard_event h) q ≡ next ∷ []
  pub stands : is_standing next ≡ is_standing q

unfoldable pub remains : (h : Heard) (q : Standing) → Remains h q
unfolding tables heard_event is_standing
remains heard_in very_anxious_passive = record { next = very_anxious_passive; is = refl; stands = refl }
remains heard_in very_anxious_new = record { next = very_anxious_new; is = refl; stands = refl }
remains heard_in anxious_new = record { next = anxious_new; is = refl; stands = refl }
remains heard_in anxious_active = record { next = quiet_active; is = refl; stands = refl }
remains heard_in quiet_active = record { next = quiet_active; is = refl; stands = refl }
remains heard_in leaving_active = record { next = leaving_active; is = refl; stands = refl }
remains heard_empty very_anxious_passive = record { next = very_anxious_passive; is = refl; stands = refl }
remains heard_empty very_anxious_new = record { next = very_anxious_new; is = refl; stands = refl }
remains heard_empty anxious_new = record { next = anxious_new; is = refl; stands = refl }
remains heard_empty anxious_active = record { next = anxious_active; is = refl; stands = refl }
remains heard_empty quiet_active = record { next = anxious_active; is = refl; stands = refl }
remains heard_empty leaving_active = record { next = leaving_active; is = refl; stands = refl }
remains heard_leave very_anxious_passive = record { next = very_anxious_passive; is = refl; stands = refl }
remains heard_leave very_anxious_new = record { next = very_anxious_new; is = refl; stands = refl }
remains heard_leave anxious_new = record { next = very_anxious_new; is = refl; stands = refl }
remains heard_leave anxious_active = record { next = very_anxious_passive; is = refl; stands = refl }
remains heard_leave quiet_active = record { next = very_anxious_passive; is = refl; stands = refl }
remains heard_leave leaving_active = record { next = leaving_active; is = refl; stands = refl }

-- of a Domain value: VP, AA and QA stay among themselves
domain-remains : (own : Bool) (h : Heard) (q : Standing) → domain_standing own (standing_number q) ≡ true → domain_standing own (standing_number (remains h q).next) ≡ true
unfolding domain_standing standing_number named octet_of remains
domain-remains false h very_anxious_passive e = absurd (false≢true e)
domain-remains false h very_anxious_new e = absurd (false≢true e)
domain-remains false h anxious_new e = absurd (false≢true e)
domain-remains false h anxious_active e = absurd (false≢true e)
domain-remains false h quiet_active e = absurd (false≢true e)
domain-remains false h leaving_active e = absurd (false≢true e)
domain-remains true heard_in very_anxious_passive e = refl
domain-remains true heard_in very_anxious_new e = absurd (false≢true e)
domain-remains true heard_in anxious_new e = absurd (false≢true e)
domain-remains true heard_in anxious_active e = refl
domain-remains true heard_in quiet_active e = refl
domain-remains true heard_in leaving_active e = absurd (false≢true e)
domain-remains true heard_empty very_anxious_passive e = refl
domain-remains true heard_empty very_anxious_new e = absurd (false≢true e)
domain-remains true heard_empty anxious_new e = absurd (false≢true e)
domain-remains true heard_empty anxious_active e = refl
domain-remains true heard_empty quiet_active e = refl
domain-remains true heard_empty leaving_active e = absurd (false≢true e)
domain-remains true heard_leave very_anxious_passive e = refl
domain-remains true heard_leave very_anxious_new e = absurd (false≢true e)
domain-remains true heard_leave anxious_new e = absurd (false≢true e)
domain-remains true heard_leave anxious_active e = refl
domain-remains true heard_leave quiet_active e = refl
domain-remains true heard_leave leaving_active e = absurd (false≢true e)

-- One machine.

module _ {D : Type 0} (h : Heard) where
  heard-is : (x : Listed D) → heard h (applicant x) ≡ applicant record { state = (remains h x.state).next; value = x.value }
  unfolding heard moved applicant_of with
  heard-is x = rw (remains h x.state).is

  heard-stands : (a : Applicant D) → stands (heard h a) ≡ stands a
  unfolding stands
  heard-stands no_applicant = unfold heard moved in refl
  heard-stands (applicant x) = rw (heard-is x) (remains h x.state).stands

  heard-applies : (a : Applicant D) → is_applicant (heard h a) ≡ is_applicant a
  unfolding is_applicant
  heard-applies no_applicant = unfold heard moved in refl
  heard-applies (applicant x) = rw (heard-is x) refl

  heard-good : (Good : D → Type 0) (a : Applicant D) → GoodApplicant Good a → GoodApplicant Good (heard h a)
  heard-good Good no_applicant g = unfold heard moved in tt
  heard-good Good (applicant x) g = rw (heard-is x) g

-- What a port sends of a stream.

pub record SendsStay (m : Sends → Sends) : Type 0 where
  pub good : (x : Sends) → ValidSends x → ValidSends (m x)
  pub sent : (r : Result) (x : Sends) → sent_formed r (m x) ≡ sent_formed r x
  pub sending : (x : Sends) → is_sending (m x) ≡ is_sending x
  pub none : m no_sends ≡ no_sends

hears-stay : (k : Kind) (h : Heard) → SendsStay (hears k h)
unfolding hears move_kind heard moved sent_formed sent_rules is_sending no_sends
hears-stay advertises h = record {
  good = λ x v. record { advertising = heard-good h _ x.advertising v.advertising; failing = v.failing };
  sent = λ r x. rw (heard-stands h x.advertising);
  sending = λ x. rw (heard-applies h x.advertising);
  none = refl;
}
hears-stay faileds h = record {
  good = λ x v. record { advertising = v.advertising; failing = heard-good h _ x.failing v.failing };
  sent = λ r x. rw (heard-stands h x.failing);
  sending = λ x. rw (heard-applies h x.failing);
  none = refl;
}
hears-stay listeners h = record {
  good = λ x v. record { advertising = v.advertising; failing = v.failing };
  sent = λ r x. rw (heard-stands h x.listening);
  sending = λ x. rw (heard-applies h x.listening);
  none = refl;
}

nothing-moves : SendsStay (λ x. x)
nothing-moves = record { good = λ x v. v; sent = λ r x. refl; sending = λ x. refl; none = refl }

pub moves-stay : (a : Act) → SendsStay (moves a)
unfolding moves
moves-stay (leave_all k) = nothing-moves
moves-stay (leave k i) = nothing-moves
moves-stay (talk i f v) = nothing-moves
moves-stay (listen i r) = nothing-moves
moves-stay (hear_all k) = hears-stay k heard_leave
moves-stay (hear k i h) = hears-stay k h
moves-stay (of_domain d) = nothing-moves

-- What a port sends by itself.

slot-heard : (own : Bool) (h : Heard) (a : Applicant (Unit {0})) → domain_standing own (applicant_number a) ≡ true → domain_standing own (applicant_number (heard h a)) ≡ true
unfolding applicant_number
slot-heard own h no_applicant e = unfold heard moved in e
slot-heard own h (applicant x) e = rw (heard-is h x) (domain-remains own h x.state e)

module _ (own : ℕ → Bool) (h : Heard) where
  slots-heard : (i : ℕ) (l : List (Applicant (Unit {0}))) → ValidSlots own i l → ValidSlots own i (map (heard h) l)
  slots-heard i [] v = tt
  slots-heard i (a ∷ l) v = (slot-heard (own i) h a v.0, slots-heard (suc i) l v.1)

  slot-heard-at : (i j : ℕ) (l : List (Applicant (Unit {0}))) → ValidSlots own i l → ValidSlots own i (at j (heard h) l)
  unfolding at
  slot-heard-at i j [] v = tt
  slot-heard-at i zero (a ∷ l) v = (slot-heard (own i) h a v.0, v.1)
  slot-heard-at i (suc j) (a ∷ l) v = (v.0, slot-heard-at (suc i) j l v.1)

-- rLA! starts the timer
timer-started : (now : ℕ) (m : LeaveAll) → ValidLeaveAll now (leave_all_next now r_la m)
unfolding leave_all_next leave_all_entry leave_all_row leave_all_column starting
timer-started now m = go m.state
  where
    go : (q : LeaveAllState) → ValidLeaveAll now (leave_all_next now r_la record { state = q; start = m.start })
    go active = record { past = omega arith; recent = omega arith }
    go passive = record { past = omega arith; recent = omega arith }

pub sender-moves : (own : ℕ → Bool) (now : ℕ) (a : Act) (x : Sender) → ValidSender own now x → ValidSender own now (moves_sender now a x)
unfolding moves_sender hears_leave_all
sender-moves own now (leave_all k) x v = v
sender-moves own now (leave k i) x v = v
sender-moves own now (talk i f w) x v = v
sender-moves own now (listen i r) x v = v
sender-moves own now (hear_all k) x v = record { slotted = v.slotted; domains = v.domains; leave_all = timer-started now x.leave_all }
sender-moves own now (hear k i h) x v = v
sender-moves own now (of_domain leave_all_domains) x v = v
sender-moves own now (of_domain (leave_domain i)) x v = v
sender-moves own now (of_domain (join_domain i w)) x v = v
sender-moves own now (of_domain hear_all_domains) x v = record {
  slotted = length-map x.domains (heard heard_leave) ∙ v.slotted;
  domains = slots-heard own heard_leave 0 x.domains v.domains;
  leave_all = timer-started now x.leave_all;
}
sender-moves own now (of_domain (hear_domain i h)) x v = record {
  slotted = length_at i (heard h) x.domains ∙ v.slotted;
  domains = slot-heard-at own h 0 i x.domains v.domains;
  leave_all = v.leave_all;
}
