-- Demand 1 for MMRP frames: what receive_mmrp answers for every input. A refusal alters no octet, and each number is given exactly when
-- 02's text says so: "MMRP uses 1 to 7 in the same order, and 14, tested last, where a port would need a 65th address".
use mathlib.Core.Path.{◌≡◌, refl, ◌∙◌, ap, subst}
use mathlib.Core.Logic.Iff
use mathlib.Core.Logic.{◌↔◌, ◌⊎◌, inl, inr, ⊎_elim}
use mathlib.Core.List.{List}
use mathlib.Core.Bool.{Bool, true, false, cond, not}
use Prim.Native.Nat.{ℕ, suc, ◌-◌, ◌≤◌, ◌<◌}
use native.Mathlib.Omega.{arith}
use lib.ListN.{length, get_or}
use lib.Dec.{ltb, eqb}
use borrow.Author.Tests.{eqb-true, eqb-false, ltb-true, ltb-false}
use Rattle.model.specs.FrameLayout.{longest_pdu}
use Rattle.model.specs.State.{Bridge, own_at}
use Rattle.model.specs.Registrations.{AddressAct, AddressReading, refused_frame, address_acts, Answer, received_addresses, does_addresses, together, macs, address_joins}
use Rattle.model.specs.Frames.{wrong_port}
use Rattle.model.specs.AddressFrames.{address_messages, address_walk, address_reading}
use Rattle.model.specs.Table.{decode, formed}
use Rattle.model.specs.Calls.{receive_mmrp, receive_mmrp_on}
use Rattle.model.proofs.Refusals.{Unaltered, on-table-refused, is_below, is-at-least, given, last, OnPort, fronted, fronted-12, fronted-1, fronted-past, fronted-all, on-table-number, room-number, Numbered, numbered-fault, numbered-found, numbered-some}
use Rattle.model.proofs.FoundAddresses.{Within, messages-within, address-faults}
use Rattle.model.proofs.ReceivedAddresses.{has_room, address_number, received_is}
use Rattle.model.proofs.AddressesKept.{acts-held}

pub mmrp-refused : (t : List ℕ) (p : ℕ) (pdu : List ℕ) → ((receive_mmrp_on t p pdu).number ≡ 0 → ⊥) → (receive_mmrp_on t p pdu).table ≡ t
unfolding receive_mmrp_on Unaltered
mmrp-refused t p pdu = on-table-refused t (λ b. receive_mmrp b p pdu)

-- 2: "PDU has 0 octets or more than 1,500"
address-2 : (s : List ℕ) → (address_walk s ≡ refused_frame 2) ↔ ((length s ≡ 0) ⊎ (longest_pdu < length s))
unfolding address_walk
address-2 s = go (eqb (length s) 0) refl (ltb longest_pdu (length s)) refl
  where
    later : AddressReading
    later = address_messages (suc (length s)) (get_or s 0 0) s 1

    none-later : later ≡ refused_frame 2 → ⊥
    none-later e = let h : (3 ≤ 2) × (2 ≤ 7) = subst Within e (messages-within (suc (length s)) (get_or s 0 0) s 1) in omega (arith, h.0)

    go : (a : Bool) → eqb (length s) 0 ≡ a → (b : Bool) → ltb longest_pdu (length s) ≡ b →
        (cond a (refused_frame 2) (cond b (refused_frame 2) later) ≡ refused_frame 2) ↔ ((length s ≡ 0) ⊎ (longest_pdu < length s))
    go true e b f = (λ k. inl (eqb-true _ _ e), λ k. refl)
    go false e true f = (λ k. inr (ltb-true _ _ f), λ k. refl)
    go false e false f = (
      λ k. absurd (none-later k),
      ⊎_elim (λ h. absurd (eqb-false _ _ e h)) (λ h. absurd (omega (arith, ltb-false longest_pdu (length s) f))),
    )

-- the addresses that a port, numbered from 1, holds
abbrev pub held_on : Bridge → ℕ → List ℕ
held_on b p = macs (own_at b.owns (p - 1)).addresses

-- a frame on a port of the bridge
module _ (b : Bridge) (p : ℕ) (pdu : List ℕ) where
  frame_number : ℕ
  frame_number = (received_addresses b p (address_walk pdu)).number

  frame_is : (r : AddressReading) → address_walk pdu ≡ r → frame_number ≡ address_number b.clock (p - 1) r b.owns
  unfolding frame_number
  frame_is r e =
      ap (λ (w : AddressReading). (received_addresses b p w).number) e ∙ ap (λ (a : Answer). a.number) (received_is b p r)

  -- the addresses held on the port and those that acts join, each counted once
  count_with : List AddressAct → ℕ
  count_with es = length (together (held_on b p) (address_joins es))

  frame-read : (es : List AddressAct) → address_walk pdu ≡ address_acts es → frame_number ≡ cond (ltb 64 (count_with es)) 14 0
  unfolding count_with address_number has_room
  frame-read es e =
      frame_is (address_acts es) e
      ∙ room-number 14 (length (does_addresses b.clock es (own_at b.owns (p - 1)).addresses))
      ∙ ap (λ (n : ℕ). cond (ltb 64 n) 14 0) (acts-held b.clock es (own_at b.owns (p - 1)).addresses)

  frame-met : (n : ℕ) → address_walk pdu ≡ refused_frame n → frame_number ≡ n
  unfolding address_number
  frame-met n e = frame_is (refused_frame n) e

  frame-numbered : Numbered frame_number 14 (List AddressAct) (λ n. address_walk pdu ≡ refused_frame n) (λ es. address_walk pdu ≡ address_acts es) count_with
  frame-numbered = record { either = go (address_walk pdu) refl; within = address-faults pdu; met = frame-met; read = frame-read }
    where
      go : (w : AddressReading) → address_walk pdu ≡ w
          → ((n : ℕ) × (address_walk pdu ≡ refused_frame n)) ⊎ ((es : List AddressAct) × (address_walk pdu ≡ address_acts es))
      go (refused_frame n) e = inl (n, e)
      go (address_acts es) e = inr (es, e)

  frame-numbers : ((frame_number ≤ 7) ⊎ (frame_number ≡ 14)) × (frame_number ≡ 1 → ⊥)
  frame-numbers = numbered-some frame-numbered (omega arith)

module _ (t : List ℕ) (p : ℕ) (pdu : List ℕ) where
  mmrp-number : (receive_mmrp_on t p pdu).number ≡ fronted t p (frame_number (decode t) p pdu)
  unfolding receive_mmrp_on receive_mmrp address_reading fronted frame_number received_addresses
  mmrp-number = on-table-number t (λ b. receive_mmrp b p pdu) ∙ ap (cond (not (formed t)) 12) (go (wrong_port (decode t).settings p))
    where
      go : (a : Bool) →
          (received_addresses (decode t) p (cond a (refused_frame 1) (address_walk pdu))).number
          ≡ cond a 1 (received_addresses (decode t) p (address_walk pdu)).number
      go true = refl
      go false = refl

  pub mmrp-12 : ((receive_mmrp_on t p pdu).number ≡ 12) ↔ (formed t ≡ false)
  mmrp-12 =
      rw mmrp-number
      (fronted-12 t p (frame_number (decode t) p pdu) (λ e. ⊎_elim (λ h. omega arith) (λ h. omega arith) (frame-numbers (decode t) p pdu).0))

  pub mmrp-1 : ((receive_mmrp_on t p pdu).number ≡ 1) ↔ ((formed t ≡ true) × (wrong_port (decode t).settings p ≡ true))
  mmrp-1 = rw mmrp-number (fronted-1 t p (frame_number (decode t) p pdu) (frame-numbers (decode t) p pdu).1)

  -- each of 2 to 7, exactly when it is the first fault that the walk meets
  pub mmrp-fault : (n : ℕ) → 2 ≤ n → n ≤ 7 → ((receive_mmrp_on t p pdu).number ≡ n) ↔ (OnPort t p × (address_walk pdu ≡ refused_frame n))
  mmrp-fault n h k =
      rw mmrp-number
      (fronted-past t p _ n _ (λ e. omega arith) (λ e. omega arith) (numbered-fault (frame-numbered (decode t) p pdu) (omega arith) n h k))

  pub mmrp-2 : ((receive_mmrp_on t p pdu).number ≡ 2) ↔ (OnPort t p × ((length pdu ≡ 0) ⊎ (longest_pdu < length pdu)))
  mmrp-2 = Iff.trans (mmrp-fault 2 (omega arith) (omega arith)) (Iff.and Iff.rfl (address-2 pdu))

  -- 14: "where a port would need a 65th address"
  pub mmrp-14 : ((receive_mmrp_on t p pdu).number ≡ 14) ↔
      (OnPort t p × ((es : List AddressAct) × (address_walk pdu ≡ address_acts es) × (64 < length (together (held_on (decode t) p) (address_joins es)))))
  unfolding count_with
  mmrp-14 =
      rw mmrp-number
      (fronted-past t p _ 14 _ (λ e. omega arith) (λ e. omega arith)
      (numbered-found (frame-numbered (decode t) p pdu) (omega arith) 14 (λ m. 64 < m) (inr (omega arith)) (λ m. given _ 14 0 _ (λ e. omega arith) (is_below 64 m))))

  pub mmrp-0 : ((receive_mmrp_on t p pdu).number ≡ 0) ↔
      (OnPort t p × ((es : List AddressAct) × (address_walk pdu ≡ address_acts es) × (length (together (held_on (decode t) p) (address_joins es)) ≤ 64)))
  unfolding count_with
  mmrp-0 =
      rw mmrp-number
      (fronted-past t p _ 0 _ (λ e. omega arith) (λ e. omega arith)
      (numbered-found (frame-numbered (decode t) p pdu) (omega arith) 0 (λ m. m ≤ 64) (inl (omega arith)) (λ m. last _ 14 (λ e. omega arith) (is-at-least 64 m))))

  pub mmrp-numbers : ((receive_mmrp_on t p pdu).number ≤ 7) ⊎ (((receive_mmrp_on t p pdu).number ≡ 12) ⊎ ((receive_mmrp_on t p pdu).number ≡ 14))
  mmrp-numbers =
      rw mmrp-number
      (fronted-all (λ (n : ℕ). (n ≤ 7) ⊎ ((n ≡ 12) ⊎ (n ≡ 14))) t p _ (inr (inl refl)) (inl (omega arith))
      (⊎_elim (λ h. inl h) (λ h. inr (inr h)) (frame-numbers (decode t) p pdu).0))
