-- The edge of the reservation domain (02, ii). A frame of Domain values alone changes nothing but the Domain values of its port, with
-- their Applicants and its LeaveAll machine: no stream, no total, no boundary flag; and it is never refused for want of room.
use mathlib.Core.Path.{◌≡◌, refl, ◌∙◌}
use mathlib.Core.List.{List, [], ◌∷◌, ◌++◌, map}
use mathlib.Core.Bool.{Bool, true, false, cond}
use Prim.Native.Nat.{ℕ, zero, suc, ◌+◌, ◌-◌}
use lib.ListN.{length, get_or}
use borrow.Author.Tests.{le-leb}
use Rattle.model.specs.Lists.{All}
use Rattle.model.specs.State.{Domain, Own, Sender, Stream, Bridge, no_own, own_at, no_sender, sender_at, Class, no_class, class_a, class_b, slot_of}
use Rattle.model.specs.Registrations.{Act, leave_all, leave, talk, listen, hear_all, hear, of_domain, hear_domain, at, apply, apply_all, reach, change_domains, does_domain, apply_own, apply_owns, moves_sender, apply_senders, acts, Answer, holding, owning, sending, received}
use Rattle.model.specs.Machines.{Heard}
use Rattle.model.specs.Frames.{domain_type, Vector, Event, Asking, nothing_asked, join, withdraw, asking, heard_of, has_slot, slot_act, slot_heard, domain_act, value_acts, values_acts, leave_all_acts, vector_acts, frame_acts, found, walk, walked, wrong_port, reading}
use Rattle.model.specs.Settling.{boundary}
use Rattle.model.specs.Calls.{receive}
use Rattle.model.proofs.Lists.{all_append, at_other, at_each}
use Rattle.model.proofs.Valid.{Valid}

abbrev pub IsDomainAct : Act → Type 0
IsDomainAct (leave_all k) = ⊥
IsDomainAct (leave k i) = ⊥
IsDomainAct (talk i f v) = ⊥
IsDomainAct (listen i r) = ⊥
IsDomainAct (hear_all k) = ⊥
IsDomainAct (hear k i h) = ⊥
IsDomainAct (of_domain d) = Unit {0}

-- What acts change.

module _ (now p : ℕ) where
  pub streams-stay : (es : List Act) → All IsDomainAct es → (s : List Stream) → apply_all now p es s ≡ s
  unfolding apply_all apply reach
  streams-stay [] a s = refl
  streams-stay (leave_all k ∷ es) a s = absurd a.0
  streams-stay (leave k i ∷ es) a s = absurd a.0
  streams-stay (talk i f v ∷ es) a s = absurd a.0
  streams-stay (listen i r ∷ es) a s = absurd a.0
  streams-stay (hear_all k ∷ es) a s = absurd a.0
  streams-stay (hear k i h ∷ es) a s = absurd a.0
  streams-stay (of_domain d ∷ es) a s = streams-stay es a.1 s

  -- what is the same before and after an act is so before and after all
  module _ {A : Type 0} (f : List Own → A) (one : (a : Act) (o : List Own) → f (apply_own now p a o) ≡ f o) where
    same-own : (es : List Act) (o : List Own) → f (apply_owns now p es o) ≡ f o
    unfolding apply_owns
    same-own [] o = refl
    same-own (a ∷ es) o = same-own es (apply_own now p a o) ∙ one a o

  -- acts of any kind change no flag
  pub flags-stay : (es : List Act) (o : List Own) (q : ℕ) (c : Class) → boundary (own_at (apply_owns now p es o) q) c ≡ boundary (own_at o q) c
  flags-stay es o q c = same-own (λ o. boundary (own_at o q) c) one es o
    where
      kept : (u : List Domain → List Domain) (x : Own) (c : Class) → boundary (change_domains u x) c ≡ boundary x c
      kept u x no_class = unfold boundary in refl
      kept u x class_a = unfold boundary change_domains in refl
      kept u x class_b = unfold boundary change_domains in refl

      one : (a : Act) (o : List Own) → boundary (own_at (apply_own now p a o) q) c ≡ boundary (own_at o q) c
      one (leave_all k) o = unfold apply_own in refl
      one (leave k i) o = unfold apply_own in refl
      one (talk i f v) o = unfold apply_own in refl
      one (listen i r) o = unfold apply_own in refl
      one (hear_all k) o = unfold apply_own in refl
      one (hear k i h) o = unfold apply_own in refl
      one (of_domain d) o =
          unfold apply_own in
          at_each (λ x. boundary x c) p (change_domains (does_domain now d)) (λ x. kept (does_domain now d) x c) o q no_own

  -- nor what another port holds
  pub others-stay : (es : List Act) (o : List Own) (q : ℕ) → (p ≡ q → ⊥) → own_at (apply_owns now p es o) q ≡ own_at o q
  others-stay es o q n = same-own (λ o. own_at o q) one es o
    where
      one : (a : Act) (o : List Own) → own_at (apply_own now p a o) q ≡ own_at o q
      one (leave_all k) o = unfold apply_own in refl
      one (leave k i) o = unfold apply_own in refl
      one (talk i f v) o = unfold apply_own in refl
      one (listen i r) o = unfold apply_own in refl
      one (hear_all k) o = unfold apply_own in refl
      one (hear k i h) o = unfold apply_own in refl
      one (of_domain d) o = unfold apply_own in at_other p (change_domains (does_domain now d)) o q no_own n

  -- nor what another port sends by itself
  pub senders-stay : (es : List Act) (l : List Sender) (q : ℕ) → (p ≡ q → ⊥) → sender_at (apply_senders now p es l) q ≡ sender_at l q
  unfolding apply_senders sender_at
  senders-stay [] l q n = refl
  senders-stay (a ∷ es) l q n = senders-stay es (at p (moves_sender now a) l) q n ∙ at_other p (moves_sender now a) l q no_sender n

-- The answer to a frame on port p: accepted, and nothing changed but that port's Domain values and what it sends by itself.
pub record DomainOnly (b : Bridge) (p : ℕ) (a : Answer) : Type 0 where
  pub accepted : a.number ≡ 0
  pub settings : a.bridge.settings ≡ b.settings
  pub clock : a.bridge.clock ≡ b.clock
  pub totals : a.bridge.totals ≡ b.totals
  pub streams : a.bridge.streams ≡ b.streams
  pub flags : (q : ℕ) (c : Class) → boundary (own_at a.bridge.owns q) c ≡ boundary (own_at b.owns q) c
  pub others : (q : ℕ) → (p - 1 ≡ q → ⊥) → own_at a.bridge.owns q ≡ own_at b.owns q
  pub senders : (q : ℕ) → (p - 1 ≡ q → ⊥) → sender_at a.bridge.senders q ≡ sender_at b.senders q

pub domain-only : (b : Bridge) (p : ℕ) (es : List Act) → Valid b → All IsDomainAct es → DomainOnly b p (received b p (acts es))
unfolding received holding owning sending
domain-only b p es v a =
    let now = b.clock in
    let stay : apply_all now (p - 1) es b.streams ≡ b.streams = streams-stay now (p - 1) es a b.streams in
    rw (stay, le-leb (length b.streams) 64 v.at_most_64)
    record {
      accepted = refl;
      settings = refl;
      clock = refl;
      totals = refl;
      streams = refl;
      flags = flags-stay now (p - 1) es b.owns;
      others = others-stay now (p - 1) es b.owns;
      senders = senders-stay now (p - 1) es b.senders;
    }

-- A PDU of Domain vectors alone.

slot-domain : (i v : ℕ) (a : Asking) → All IsDomainAct (slot_act i v a)
unfolding slot_act
slot-domain i v nothing_asked = tt
slot-domain i v join = (tt, tt)
slot-domain i v withdraw = (tt, tt)

heard-domain : (i : ℕ) (l : List Heard) → All IsDomainAct (map (λ h. of_domain (hear_domain i h)) l)
heard-domain i [] = tt
heard-domain i (h ∷ l) = (tt, heard-domain i l)

value-domain : (vs : List ℕ) (n : ℕ) (e : Event) → All IsDomainAct (domain_act vs n e)
unfolding domain_act slot_heard
value-domain vs n e = go (has_slot c q)
  where
    c : ℕ
    c = get_or vs 0 0 + n

    q : ℕ
    q = get_or vs 1 0 + n

    go : (t : Bool) → All IsDomainAct (cond t (slot_act (slot_of c q) (get_or vs 2 0) (asking e) ++ slot_heard (slot_of c q) e) [])
    go true =
        all_append IsDomainAct (slot_act (slot_of c q) (get_or vs 2 0) (asking e)) (slot_heard (slot_of c q) e)
        (slot-domain (slot_of c q) (get_or vs 2 0) (asking e)) (heard-domain (slot_of c q) (heard_of e))
    go false = tt

module _ (v : Vector) (is : v.attribute ≡ domain_type) where
  values-domain : (n k : ℕ) → All IsDomainAct (values_acts v n k)
  unfolding values_acts value_acts
  values-domain n zero = tt
  values-domain n (suc k) =
      all_append IsDomainAct (value_acts v n) (values_acts v (suc n) k) (rw is (value-domain _ n _)) (values-domain (suc n) k)

  leaving-domain : (t : Bool) → All IsDomainAct (leave_all_acts v.attribute t)
  unfolding leave_all_acts
  leaving-domain true = rw is (tt, (tt, tt))
  leaving-domain false = rw is tt

  vector-domain : All IsDomainAct (vector_acts v)
  unfolding vector_acts
  vector-domain =
      all_append IsDomainAct (leave_all_acts v.attribute v.leaves_all) (values_acts v 0 v.values)
      (leaving-domain v.leaves_all) (values-domain 0 v.values)

pub frame-domain : (vs : List Vector) → All (λ v. v.attribute ≡ domain_type) vs → All IsDomainAct (frame_acts vs)
unfolding frame_acts
frame-domain [] a = tt
frame-domain (v ∷ vs) a = all_append IsDomainAct (vector_acts v) (frame_acts vs) (vector-domain v a.0) (frame-domain vs a.1)

-- handed over on a port of the bridge
pub domain-frame : (b : Bridge) (p : ℕ) (pdu : List ℕ) (vs : List Vector) → Valid b → wrong_port b.settings p ≡ false →
    walk pdu ≡ found vs → All (λ v. v.attribute ≡ domain_type) vs → DomainOnly b p (receive b p pdu)
unfolding receive reading walked
domain-frame b p pdu vs v port read a = rw (port, read) (domain-only b p (frame_acts vs) v (frame-domain vs a))
