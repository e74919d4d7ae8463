-- Room for addresses (02, vi: "the added premise that on each port the addresses held and those asked for by well-formed frames are at
-- most 64 different ones"): under it no frame is refused with 14, and each port holds after the frames what it held before and all
-- that was asked for. It asks nothing about streams, and speaks of what arrived at each port, so it is one for both orders.
use mathlib.Core.Path.{◌≡◌, refl, sym, ◌∙◌, ap, subst}
use mathlib.Core.List.{List, [], ◌∷◌, ◌++◌}
use mathlib.Core.Bool.{Bool, true, false, cond}
use Prim.Native.Nat.{ℕ, ◌-◌, ◌≤◌, ◌<◌}
use native.Mathlib.Omega.{arith}
use native.Mathlib.Decide.{ℕ_discrete}
use lib.ListN.{length}
use lib.Dec.{leb}
use borrow.Author.Tests.{le-leb}
use Rattle.model.specs.Layout.{most_addresses}
use Rattle.model.specs.Lists.{All, on, Octets}
use Rattle.model.specs.State.{Own, Bridge, no_own, own_at}
use Rattle.model.specs.Registrations.{Act, AddressAct, leave_all, leave, talk, listen, of_domain, does_domain, change_domains, apply_own, apply_owns, apply_all, Reading, refused, acts, AddressReading, refused_frame, address_acts, Answer, does_addresses, change_addresses, holding, owning, received, received_addresses, together, macs, address_joins, asks_addresses, hear_all, hear, sending, apply_senders}
use Rattle.model.specs.Frames.{reading, wrong_port}
use Rattle.model.specs.AddressFrames.{address_reading}
use Rattle.model.specs.Table.{decode, formed}
use Rattle.model.specs.Calls.{receive, receive_mmrp, Frame, msrp, mmrp, receive_frame, answers_on, after_on, addresses_by, asked_addresses}
use Rattle.model.proofs.Lists.{at_here, at_each, at_other, on_same, on-other}
use Rattle.model.proofs.Valid.{Valid}
use Rattle.model.proofs.ReceiveKeepsForm.{right-port}
use Rattle.model.proofs.FrameOrder.{after_frames, frame_answers, frame-unchanged, frame-settings, places-apart, first_fits, together-append}
use Rattle.model.proofs.Refusals.{receive-few}
use Rattle.model.proofs.FoundAddresses.{address-faults}
use Rattle.model.proofs.ReceivedAddresses.{has_room, with_room, address_effect, address_number, received_is}
use Rattle.model.proofs.AddressesKept.{acts-macs, acts-held}
use Rattle.model.proofs.AddressRefusals.{held_on}
use Rattle.model.proofs.Tables.{decode-encode, valid-decode, encode-decode}
use Rattle.model.proofs.Demand3.{FramesInOctets, frame-keeps, valid-after, after_table, answers-table}

-- on each port of the bridge
abbrev pub RoomForAddresses : List (ℕ × Frame) → Bridge → Type 0
RoomForAddresses f b = (p : ℕ) → wrong_port b.settings p ≡ false → length (together (held_on b p) (asked_addresses b.settings p (on p f))) ≤ most_addresses

-- What a frame leaves of the addresses of a port.

-- an MSRP frame leaves all
acts-addresses : (now p : ℕ) (es : List Act) (o : List Own) (q : ℕ) → (own_at (apply_owns now p es o) q).addresses ≡ (own_at o q).addresses
unfolding apply_owns apply_own change_domains
acts-addresses now p [] o q = refl
acts-addresses now p (leave_all k ∷ es) o q = acts-addresses now p es o q
acts-addresses now p (leave k i ∷ es) o q = acts-addresses now p es o q
acts-addresses now p (talk i f v ∷ es) o q = acts-addresses now p es o q
acts-addresses now p (listen i r ∷ es) o q = acts-addresses now p es o q
acts-addresses now p (hear_all k ∷ es) o q = acts-addresses now p es o q
acts-addresses now p (hear k i h ∷ es) o q = acts-addresses now p es o q
acts-addresses now p (of_domain d ∷ es) o q =
    acts-addresses now p es (apply_own now p (of_domain d) o) q
    ∙ at_each (λ (w : Own). w.addresses) p (change_domains (does_domain now d)) (λ w. refl) o q no_own

msrp-addresses : (b : Bridge) (p : ℕ) (pdu : List ℕ) (q : ℕ) → (own_at (receive b p pdu).bridge.owns q).addresses ≡ (own_at b.owns q).addresses
unfolding receive
msrp-addresses b p pdu q = go (reading b.settings p pdu)
  where
    go : (x : Reading) → (own_at (received b p x).bridge.owns q).addresses ≡ (own_at b.owns q).addresses
    go (refused n) = unfold received in refl
    go (acts es) = unfold received holding owning sending in (either (leb (length (apply_all b.clock (p - 1) es b.streams)) 64))
      where
        c : Bridge
        c =
            sending (owning (holding b (apply_all b.clock (p - 1) es b.streams)) (apply_owns b.clock (p - 1) es b.owns))
            (apply_senders b.clock (p - 1) es b.senders)

        either : (t : Bool) → (own_at (cond {A = Answer} t record { number = 0; bridge = c } record { number = 8; bridge = b }).bridge.owns q).addresses ≡ (own_at b.owns q).addresses
        either true = unfold holding owning sending in (acts-addresses b.clock (p - 1) es b.owns q)
        either false = refl

-- A frame of port p that finds room there gives no 14, and joins what it asks for.

module _ (b : Bridge) (v : Valid b) (p : ℕ) (here : wrong_port b.settings p ≡ false) where
  place : p - 1 < length b.owns
  place = omega (arith, right-port b.settings p here, v.eight_owns, v.settings.eight_ports)

  with-room : (es : List AddressAct) → length (together (held_on b p) (address_joins es)) ≤ most_addresses → has_room b.clock es (own_at b.owns (p - 1)) ≡ true
  unfolding has_room
  with-room es h = le-leb (length (does_addresses b.clock es (own_at b.owns (p - 1)).addresses)) most_addresses (rw (acts-held b.clock es (own_at b.owns (p - 1)).addresses) h)

  acts-number : (r : AddressReading) → length (together (held_on b p) (asks_addresses r)) ≤ most_addresses → (asks-few : (n : ℕ) → r ≡ refused_frame n → n ≤ 7)
      → address_number b.clock (p - 1) r b.owns ≤ 7
  unfolding address_number asks_addresses
  acts-number (refused_frame n) h few = few n refl
  acts-number (address_acts es) h few = rw (with-room es h) (omega arith)

  acts-held-there : (r : AddressReading) → length (together (held_on b p) (asks_addresses r)) ≤ most_addresses
      → macs (own_at (address_effect b.clock (p - 1) r b.owns) (p - 1)).addresses ≡ together (held_on b p) (asks_addresses r)
  unfolding address_effect asks_addresses
  acts-held-there (refused_frame n) h = unfold together in refl
  acts-held-there (address_acts es) h =
      ap (λ (o : Own). macs o.addresses) (at_here (p - 1) (with_room b.clock es) b.owns no_own place)
      ∙ (unfold with_room change_addresses in (rw (with-room es h) (acts-macs b.clock es (own_at b.owns (p - 1)).addresses)))

  few-faults : (pdu : List ℕ) (n : ℕ) → address_reading b.settings p pdu ≡ refused_frame n → n ≤ 7
  unfolding address_reading
  few-faults pdu n e = (address-faults pdu n (rw here at e)).1

  frame-number : (x : Frame) → length (together (held_on b p) (addresses_by b.settings p x)) ≤ most_addresses → (receive_frame b p x).number ≡ 14 → ⊥
  unfolding receive_frame addresses_by
  frame-number (msrp pdu) h e = omega (arith, receive-few b p pdu)
  frame-number (mmrp pdu) h e =
      let r = address_reading b.settings p pdu in
      let k : (receive_mmrp b p pdu).number ≤ 7 =
      (unfold receive_mmrp in (rw (received_is b p r) (acts-number r h (few-faults pdu)))) in
      omega arith

  frame-held : (x : Frame) → length (together (held_on b p) (addresses_by b.settings p x)) ≤ most_addresses
      → held_on (receive_frame b p x).bridge p ≡ together (held_on b p) (addresses_by b.settings p x)
  unfolding receive_frame receive_mmrp owning addresses_by
  frame-held (msrp pdu) h = ap macs (msrp-addresses b p pdu (p - 1)) ∙ (unfold together in refl)
  frame-held (mmrp pdu) h =
      let r = address_reading b.settings p pdu in
      ap (λ (a : Answer). macs (own_at a.bridge.owns (p - 1)).addresses) (received_is b p r) ∙ acts-held-there r h

-- On another port nothing changes.
other-held : (b : Bridge) (p q : ℕ) (x : Frame) → wrong_port b.settings p ≡ false → wrong_port b.settings q ≡ false → (p ≡ q → ⊥)
    → held_on (receive_frame b p x).bridge q ≡ held_on b q
unfolding receive_frame receive_mmrp owning
other-held b p q (msrp pdu) d e n = ap macs (msrp-addresses b p pdu (q - 1))
other-held b p q (mmrp pdu) d e n =
    let r = address_reading b.settings p pdu in
    ap (λ (a : Answer). macs (own_at a.bridge.owns (q - 1)).addresses) (received_is b p r) ∙ go r
  where
    go : (r : AddressReading) → macs (own_at (address_effect b.clock (p - 1) r b.owns) (q - 1)).addresses ≡ held_on b q
    go (refused_frame n) = unfold address_effect in refl
    go (address_acts es) =
        unfold address_effect in
        (ap (λ (o : Own). macs o.addresses) (at_other (p - 1) (with_room b.clock es) b.owns (q - 1) no_own (places-apart b.settings p q d e n)))

-- A frame on no port of the bridge is refused with 1, and changes nothing.
wrong-number : (b : Bridge) (p : ℕ) (x : Frame) → wrong_port b.settings p ≡ true → (receive_frame b p x).number ≡ 1
unfolding receive_frame
wrong-number b p (msrp pdu) e = unfold receive reading received in (rw e)
wrong-number b p (mmrp pdu) e = unfold receive_mmrp address_reading received_addresses in (rw e)

-- Frames one after another.

module _ (a : ℕ × Frame) (f : List (ℕ × Frame)) (b : Bridge) (v : Valid b) (h : RoomForAddresses (a ∷ f) b) where
  abbrev next : Bridge
  next = (receive_frame b a.0 a.1).bridge

  first-asks : wrong_port b.settings a.0 ≡ false
      → length (together (held_on b a.0) (addresses_by b.settings a.0 a.1 ++ asked_addresses b.settings a.0 (on a.0 f))) ≤ most_addresses
  first-asks e = unfold asked_addresses in (rw (on_same a.0 a f refl) at (h a.0 e))

  first-room : wrong_port b.settings a.0 ≡ false → length (together (held_on b a.0) (addresses_by b.settings a.0 a.1)) ≤ most_addresses
  first-room e = first_fits (held_on b a.0) (addresses_by b.settings a.0 a.1) (asked_addresses b.settings a.0 (on a.0 f)) most_addresses (first-asks e)

  not-14 : (receive_frame b a.0 a.1).number ≡ 14 → ⊥
  not-14 = go (wrong_port b.settings a.0) refl
    where
      go : (t : Bool) → wrong_port b.settings a.0 ≡ t → (receive_frame b a.0 a.1).number ≡ 14 → ⊥
      go true e k = omega (arith, wrong-number b a.0 a.1 e)
      go false e k = frame-number b v a.0 e a.1 (first-room e) k

  -- what each port holds and is asked for from here on is what it was before
  held_on_lem : (q : ℕ) → wrong_port b.settings q ≡ false
      → together (held_on next q) (asked_addresses b.settings q (on q f)) ≡ together (held_on b q) (asked_addresses b.settings q (on q (a ∷ f)))
  unfolding asked_addresses
  held_on_lem q e = go (ℕ_discrete a.0 q) (wrong_port b.settings a.0) refl
    where
      go : Dec (a.0 ≡ q) → (t : Bool) → wrong_port b.settings a.0 ≡ t
          → together (held_on next q) (asked_addresses b.settings q (on q f)) ≡ together (held_on b q) (asked_addresses b.settings q (on q (a ∷ f)))
      go (yes d) t w =
          let e' : wrong_port b.settings a.0 ≡ false = rw d e in
          rw (← d, on_same a.0 a f refl)
          (ap (λ (l : List ℕ). together l (asked_addresses b.settings a.0 (on a.0 f))) (frame-held b v a.0 e' a.1 (first-room e'))
          ∙ sym (together-append (held_on b a.0) (addresses_by b.settings a.0 a.1) (asked_addresses b.settings a.0 (on a.0 f))))
      go (no d) true w =
          let same : next ≡ b = frame-unchanged b a.0 a.1 (λ k. omega (arith, wrong-number b a.0 a.1 w)) in
          rw (on-other q a f d) (ap (λ (c : Bridge). together (held_on c q) (asked_addresses b.settings q (on q f))) same)
      go (no d) false w =
          rw (on-other q a f d) (ap (λ (l : List ℕ). together l (asked_addresses b.settings q (on q f))) (other-held b a.0 q a.1 w e d))

  rest-room : RoomForAddresses f next
  rest-room q e =
      let s : next.settings ≡ b.settings = frame-settings b a.0 a.1 in
      let e' : wrong_port b.settings q ≡ false = rw s at e in
      rw (s, held_on_lem q e') (h q e')

-- No frame is refused with 14.
pub no-14 : (f : List (ℕ × Frame)) (b : Bridge) → FramesInOctets f → Valid b → RoomForAddresses f b → All (λ n. n.1 ≡ 14 → ⊥) (frame_answers f b)
unfolding frame_answers
no-14 [] b o v h = tt
no-14 (a ∷ f) b o v h = (not-14 a f b v h, no-14 f (next a f b v h) o.1 (frame-keeps b a.0 a.1 o.0 v) (rest-room a f b v h))

-- Each port holds what it held and all that was asked for.
pub held_after : (f : List (ℕ × Frame)) (b : Bridge) → FramesInOctets f → Valid b → RoomForAddresses f b → (p : ℕ) → wrong_port b.settings p ≡ false
    → held_on (after_frames f b) p ≡ together (held_on b p) (asked_addresses b.settings p (on p f))
unfolding after_frames
held_after [] b o v h p e = unfold on asked_addresses together in refl
held_after (a ∷ f) b o v h p e =
    let s : (next a f b v h).settings ≡ b.settings = frame-settings b a.0 a.1 in
    held_after f (next a f b v h) o.1 (frame-keeps b a.0 a.1 o.0 v) (rest-room a f b v h) p (rw s e)
    ∙ rw s (held_on_lem a f b v h p e)

-- The same of tables.
module _ (f : List (ℕ × Frame)) (t : List ℕ) (octets : Octets t) (form : formed t ≡ true) (o : FramesInOctets f) (room : RoomForAddresses f (decode t)) where
  pub never-14 : All (λ n. n.1 ≡ 14 → ⊥) (answers_on f t)
  never-14 =
      subst (λ (u : List ℕ). All (λ n. n.1 ≡ 14 → ⊥) (answers_on f u)) (encode-decode t octets form)
      (rw (answers-table f (decode t) o (valid-decode t octets form)) (no-14 f (decode t) o (valid-decode t octets form) room))

  pub addresses-joined : (p : ℕ) → wrong_port (decode t).settings p ≡ false
      → held_on (decode (after_on f t)) p ≡ together (held_on (decode t) p) (asked_addresses (decode t).settings p (on p f))
  addresses-joined p e =
      let v = valid-decode t octets form in
      let after : decode (after_on f t) ≡ after_frames f (decode t) =
      ap (λ (u : List ℕ). decode (after_on f u)) (sym (encode-decode t octets form))
      ∙ ap decode (after_table f (decode t) o v) ∙ decode-encode (after_frames f (decode t)) (valid-after f (decode t) o v) in
      ap (λ (c : Bridge). held_on c p) after ∙ held_after f (decode t) o v room p e
