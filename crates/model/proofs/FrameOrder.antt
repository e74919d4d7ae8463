-- Frames of several ports, of MSRP and MMRP: two orders that keep each port's own order give every frame the same answer and leave
-- the same bridge, where there is room for all streams asked for. (Whether there is room for addresses is up to their own port.) An
-- accepted frame joins every stream that it asks for, and a refused one changes nothing.
use mathlib.Core.Path.{◌≡◌, refl, sym, ◌∙◌, ap, ap₂}
use mathlib.Core.List.Memᴰ
use mathlib.Core.List.{List, [], ◌∷◌, ◌++◌, map, Memᴰ}
use mathlib.Core.Logic.{◌⊎◌, inl, inr}
use mathlib.Core.Bool.{Bool, true, false, cond}
use Prim.Native.Nat.{ℕ, suc, ◌-◌, ◌≤◌, ◌<◌}
use native.Mathlib.Nat.{le_trans}
use native.Mathlib.Omega.{arith}
use native.Mathlib.Decide.{ℕ_discrete}
use lib.ListN.{length, length-map}
use lib.Dec.{ltb, leb, eqb}
use borrow.Author.Tests.{le-leb, lt-leb, ltb-true, ltb-false, eqb-true, eqb-false}
use Rattle.model.specs.Lists.{All, on}
use Rattle.model.specs.State.{Settings, Own, Sender, Stream, Bridge, fresh, no_own, own_at}
use Rattle.model.specs.Registrations.{Act, leave_all, leave, talk, listen, hear_all, hear, of_domain, Reading, refused, acts, AddressReading, refused_frame, address_acts, Answer, begun, touch, apply, apply_all, reach, apply_owns, apply_senders, holding, owning, sending, received, add, together, ids, joins, asks}
use Rattle.model.specs.Frames.{reading, wrong_port}
use Rattle.model.specs.AddressFrames.{address_reading}
use Rattle.model.specs.Calls.{receive, receive_mmrp, Frame, msrp, mmrp, receive_frame, asked_by, asked}
use Rattle.model.proofs.Lists.{all_map, on_same, on-other}
use Rattle.model.proofs.Valid.{Rising}
use Rattle.model.proofs.FoundVectors.{or_left}
use Rattle.model.proofs.ReceiveKeepsForm.{receive-settings, receive-clock, receive-accepted-or-unchanged}
use Rattle.model.proofs.Arrivals.{run, same-run}
use Rattle.model.proofs.Commute.{Change, Keeps, acted, acted-keeps, frames-commute, ChangesAt, no_change, acts-change, acts-send, changes-apart, changes-other}
use Rattle.model.proofs.ReceivedAddresses.{with_room, address_effect, address_number, received_is, mmrp-unchanged, mmrp-same}

-- Frames handed over one after another, each with its port: the bridge they leave, and the answers with their ports.

unfoldable pub after_frames : List (ℕ × Frame) → Bridge → Bridge
after_frames [] b = b
after_frames (a ∷ f) b = after_frames f (receive_frame b a.0 a.1).bridge

unfoldable pub frame_answers : List (ℕ × Frame) → Bridge → List (ℕ × ℕ)
frame_answers [] b = []
frame_answers (a ∷ f) b = (a.0, (receive_frame b a.0 a.1).number) ∷ frame_answers f (receive_frame b a.0 a.1).bridge

-- The streams held after acts.

module _ (u : Change) (k : Keeps u) where
  pub joined : (i : ℕ) (s : List Stream) → ids (touch true i u s) ≡ add i (ids s)
  unfolding touch ids add begun fresh
  joined i [] = ap (λ (n : ℕ). n ∷ []) (k (fresh i))
  joined i (x ∷ s) = go (ltb i x.id) (eqb i x.id) (joined i s)
    where
      go : (a b : Bool) → ids (touch true i u s) ≡ add i (ids s) →
          ids (cond a (begun true i u (x ∷ s)) (cond b (u x ∷ s) (x ∷ touch true i u s)))
          ≡ cond a (i ∷ x.id ∷ ids s) (cond b (x.id ∷ ids s) (x.id ∷ add i (ids s)))
      go true b h = ap (λ (n : ℕ). n ∷ x.id ∷ ids s) (k (fresh i))
      go false true h = ap (λ (n : ℕ). n ∷ ids s) (k x)
      go false false h = ap (λ (l : List ℕ). x.id ∷ l) h

  left : (i : ℕ) (s : List Stream) → ids (touch false i u s) ≡ ids s
  unfolding touch ids begun
  left i [] = refl
  left i (x ∷ s) = go (ltb i x.id) (eqb i x.id) (left i s)
    where
      go : (a b : Bool) → ids (touch false i u s) ≡ ids s →
          ids (cond a (begun false i u (x ∷ s)) (cond b (u x ∷ s) (x ∷ touch false i u s))) ≡ x.id ∷ ids s
      go true b h = refl
      go false true h = ap (λ (n : ℕ). n ∷ ids s) (k x)
      go false false h = ap (λ (l : List ℕ). x.id ∷ l) h

  left-all : (s : List Stream) → ids (map u s) ≡ ids s
  unfolding ids
  left-all [] = refl
  left-all (x ∷ s) = ap₂ (λ (n : ℕ) (l : List ℕ). n ∷ l) (k x) (left-all s)

-- those held before, and those that the acts join
pub acts-ids : (now p : ℕ) (es : List Act) (s : List Stream) → ids (apply_all now p es s) ≡ together (ids s) (joins es)
unfolding apply_all apply reach joins together
acts-ids now p [] s = refl
acts-ids now p (leave_all k ∷ es) s =
    acts-ids now p es _ ∙ ap (λ (l : List ℕ). together l (joins es)) (left-all (acted now p (leave_all k)) (acted-keeps now p (leave_all k)) s)
acts-ids now p (leave k i ∷ es) s =
    acts-ids now p es _ ∙ ap (λ (l : List ℕ). together l (joins es)) (left (acted now p (leave k i)) (acted-keeps now p (leave k i)) i s)
acts-ids now p (talk i f v ∷ es) s =
    acts-ids now p es _ ∙ ap (λ (l : List ℕ). together l (joins es)) (joined (acted now p (talk i f v)) (acted-keeps now p (talk i f v)) i s)
acts-ids now p (listen i r ∷ es) s =
    acts-ids now p es _ ∙ ap (λ (l : List ℕ). together l (joins es)) (joined (acted now p (listen i r)) (acted-keeps now p (listen i r)) i s)
acts-ids now p (hear_all k ∷ es) s =
    acts-ids now p es _ ∙ ap (λ (l : List ℕ). together l (joins es)) (left-all (acted now p (hear_all k)) (acted-keeps now p (hear_all k)) s)
acts-ids now p (hear k i h ∷ es) s =
    acts-ids now p es _ ∙ ap (λ (l : List ℕ). together l (joins es)) (left (acted now p (hear k i h)) (acted-keeps now p (hear k i h)) i s)
acts-ids now p (of_domain d ∷ es) s = acts-ids now p es s

pub held-ids : (s : List Stream) → length s ≡ length (ids s)
unfolding ids
held-ids s = sym (length-map s (λ (x : Stream). x.id))

-- `together` is what its name says: it rises where the held do, so that its length counts different StreamIDs, and it has all
-- of both lists and no other.

module _ (P : ℕ → Type 0) where
  all-add : (i : ℕ) (l : List ℕ) → P i → All P l → All P (add i l)
  unfolding add
  all-add i [] p a = (p, tt)
  all-add i (x ∷ l) p a = go (ltb i x) (eqb i x) (all-add i l p a.1)
    where
      go : (s t : Bool) → All P (add i l) → All P (cond s (i ∷ x ∷ l) (cond t (x ∷ l) (x ∷ add i l)))
      go true t ih = (p, a)
      go false true ih = a
      go false false ih = (a.0, ih)

rising-add : (i : ℕ) (l : List ℕ) → Rising l → Rising (add i l)
unfolding add Rising
rising-add i [] r = (tt, tt)
rising-add i (x ∷ l) r = go (ltb i x) (eqb i x) refl refl (rising-add i l r.1)
  where
    go : (s t : Bool) → ltb i x ≡ s → eqb i x ≡ t → Rising (add i l) → Rising (cond s (i ∷ x ∷ l) (cond t (x ∷ l) (x ∷ add i l)))
    go true t e d ih = ((ltb-true i x e, all_map (λ j. x < j) (λ j. i < j) (λ j h. omega (arith, ltb-true i x e)) l r.0), r)
    go false true e d ih = r
    go false false e d ih = (all-add (λ j. x < j) i l (omega (arith, ltb-false i x e, eqb-false i x d)) r.0, ih)

pub rising-together : (is l : List ℕ) → Rising l → Rising (together l is)
unfolding together
rising-together [] l r = r
rising-together (i ∷ is) l r = rising-together is (add i l) (rising-add i l r)

has-added : (i : ℕ) (l : List ℕ) → Memᴰ i (add i l)
unfolding add
has-added i [] = Memᴰ.head refl
has-added i (x ∷ l) = go (ltb i x) (eqb i x) refl (has-added i l)
  where
    go : (s t : Bool) → eqb i x ≡ t → Memᴰ i (add i l) → Memᴰ i (cond s (i ∷ x ∷ l) (cond t (x ∷ l) (x ∷ add i l)))
    go true t e ih = Memᴰ.head refl
    go false true e ih = Memᴰ.head (eqb-true i x e)
    go false false e ih = Memᴰ.tail ih

module _ (j : ℕ) where
  has_kept : (i : ℕ) (l : List ℕ) → Memᴰ j l → Memᴰ j (add i l)
  unfolding add
  has_kept i [] m = Memᴰ.tail m
  has_kept i (x ∷ l) m = go (ltb i x) (eqb i x) (Memᴰ.cases_cons m) (has_kept i l)
    where
      go : (s t : Bool) → (j ≡ x) ⊎ Memᴰ j l → (Memᴰ j l → Memᴰ j (add i l)) →
          Memᴰ j (cond s (i ∷ x ∷ l) (cond t (x ∷ l) (x ∷ add i l)))
      go true t c ih = Memᴰ.tail m
      go false true c ih = m
      go false false (inl e) ih = Memᴰ.head e
      go false false (inr n) ih = Memᴰ.tail (ih n)

  pub has-held : (is l : List ℕ) → Memᴰ j l → Memᴰ j (together l is)
  unfolding together
  has-held [] l m = m
  has-held (i ∷ is) l m = has-held is (add i l) (has_kept i l m)

pub has-asked : (is l : List ℕ) → All (λ i. Memᴰ i (together l is)) is
unfolding together
has-asked [] l = tt
has-asked (i ∷ is) l = (has-held i is (add i l) (has-added i l), has-asked is (add i l))

-- One frame.

-- what it does where there is always room, by what acts do at a place; and its number
effect : {S : Type 0} → (ℕ → List Act → S → S) → ℕ → Reading → S → S
effect many p (refused n) s = s
effect many p (acts es) s = many p es s

number : Reading → ℕ
number (refused n) = n
number (acts es) = 0

effect-ids : (now p : ℕ) (r : Reading) (s : List Stream) → ids (effect (apply_all now) p r s) ≡ together (ids s) (asks r)
unfolding effect asks together
effect-ids now p (refused n) s = refl
effect-ids now p (acts es) s = acts-ids now p es s

module _ (b : Bridge) (p : ℕ) where
  -- the bridge after a frame that finds room
  next : Reading → Bridge
  next r =
      sending
      (owning (holding b (effect (apply_all b.clock) (p - 1) r b.streams)) (effect (apply_owns b.clock) (p - 1) r b.owns))
      (effect (apply_senders b.clock) (p - 1) r b.senders)

  -- 8 is given exactly where the streams held and those joined are more than 64
  pub too_many : (es : List Act) → 64 < length (together (ids b.streams) (joins es)) → received b p (acts es) ≡ record { number = 8; bridge = b }
  unfolding received
  too_many es h =
      let s = apply_all b.clock (p - 1) es b.streams in
      let k : 64 < length s = rw (held-ids s, acts-ids b.clock (p - 1) es b.streams) h in
      rw (lt-leb (length s) 64 k)

  room : (r : Reading) → length (together (ids b.streams) (asks r)) ≤ 64 → received b p r ≡ record { number = number r; bridge = next r }
  unfolding received number effect next asks holding owning sending
  room (refused n) h = refl
  room (acts es) h =
      let s = apply_all b.clock (p - 1) es b.streams in
      let k : length s ≤ 64 = rw (held-ids s, acts-ids b.clock (p - 1) es b.streams) h in
      rw (le-leb (length s) 64 k)

  accepted : (r : Reading) → (received b p r).number ≡ 0 → (received b p r).bridge.streams ≡ effect (apply_all b.clock) (p - 1) r b.streams
  unfolding received effect holding owning sending
  accepted (refused n) e = refl
  accepted (acts es) e = go (leb (length s) 64) e
    where
      s : List Stream
      s = apply_all b.clock (p - 1) es b.streams

      answer : Bool → Answer
      answer t =
          cond t
          record {
            number = 0;
            bridge = sending (owning (holding b s) (apply_owns b.clock (p - 1) es b.owns)) (apply_senders b.clock (p - 1) es b.senders);
          }
          record { number = 8; bridge = b }

      go : (t : Bool) → (answer t).number ≡ 0 → (answer t).bridge.streams ≡ s
      go true e = refl
      go false e = absurd (omega arith)

  module _ (pdu : List ℕ) where
    pub refused-changes-nothing : ((receive b p pdu).number ≡ 0 → ⊥) → (receive b p pdu).bridge ≡ b
    refused-changes-nothing h = go (receive-accepted-or-unchanged b p pdu)
      where
        go : ((receive b p pdu).number ≡ 0) ⊎ ((receive b p pdu).bridge ≡ b) → (receive b p pdu).bridge ≡ b
        go (inl e) = absurd (h e)
        go (inr e) = e

    -- an accepted frame leaves the streams held before and all those that it asks to join
    pub accepted-ids : (receive b p pdu).number ≡ 0 → ids (receive b p pdu).bridge.streams ≡ together (ids b.streams) (asks (reading b.settings p pdu))
    unfolding receive
    accepted-ids e = rw (accepted (reading b.settings p pdu) e) (effect-ids b.clock (p - 1) (reading b.settings p pdu) b.streams)

    -- so each of these is held
    pub accepted-joins : (receive b p pdu).number ≡ 0 →
        All (λ i. Memᴰ i (ids (receive b p pdu).bridge.streams)) (asks (reading b.settings p pdu))
    accepted-joins e = rw (accepted-ids e) (has-asked (asks (reading b.settings p pdu)) (ids b.streams))

-- a frame of either protocol
pub frame-unchanged : (b : Bridge) (p : ℕ) (x : Frame) → ((receive_frame b p x).number ≡ 0 → ⊥) → (receive_frame b p x).bridge ≡ b
unfolding receive_frame
frame-unchanged b p (msrp pdu) h = refused-changes-nothing b p pdu h
frame-unchanged b p (mmrp pdu) h = mmrp-unchanged b p pdu h

-- frames change neither settings nor clock
pub frame-settings : (b : Bridge) (p : ℕ) (x : Frame) → (receive_frame b p x).bridge.settings ≡ b.settings
unfolding receive_frame owning
frame-settings b p (msrp pdu) = receive-settings b p pdu
frame-settings b p (mmrp pdu) = mmrp-same b p pdu (λ c. c.settings) (λ o. refl)

frame-clock : (b : Bridge) (p : ℕ) (x : Frame) → (receive_frame b p x).bridge.clock ≡ b.clock
unfolding receive_frame owning
frame-clock b p (msrp pdu) = receive-clock b p pdu
frame-clock b p (mmrp pdu) = mmrp-same b p pdu (λ c. c.clock) (λ o. refl)

pub after-settings : (f : List (ℕ × Frame)) (b : Bridge) → (after_frames f b).settings ≡ b.settings
unfolding after_frames
after-settings [] b = refl
after-settings (a ∷ f) b = after-settings f (receive_frame b a.0 a.1).bridge ∙ frame-settings b a.0 a.1

pub after-clock : (f : List (ℕ × Frame)) (b : Bridge) → (after_frames f b).clock ≡ b.clock
unfolding after_frames
after-clock [] b = refl
after-clock (a ∷ f) b = after-clock f (receive_frame b a.0 a.1).bridge ∙ frame-clock b a.0 a.1

-- Two orders of frames.

-- different ports of the bridge have different places
ported : (st : Settings) (p : ℕ) → wrong_port st p ≡ false → p ≡ 0 → ⊥
unfolding wrong_port
ported st p e = eqb-false p 0 (or_left (eqb p 0) (ltb (length st.ports) p) e)

pub places-apart : (st : Settings) (p q : ℕ) → wrong_port st p ≡ false → wrong_port st q ≡ false → (p ≡ q → ⊥) → p - 1 ≡ q - 1 → ⊥
places-apart st p q d e n h = n (let a = ported st p d in let b = ported st q e in omega arith)

-- steps at two places commute, where a frame on no port of the bridge does nothing
module _ {S : Type 0} (st : Settings) (step : ℕ → Frame → S → S)
    (none : (p : ℕ) (x : Frame) (s : S) → wrong_port st p ≡ true → step p x s ≡ s)
    (apart : (p q : ℕ) (x y : Frame) (s : S) → (p - 1 ≡ q - 1 → ⊥) → step p x (step q y s) ≡ step q y (step p x s)) where
  step-commute : (p q : ℕ) (x y : Frame) (s : S) → (p ≡ q → ⊥) → step p x (step q y s) ≡ step q y (step p x s)
  step-commute p q x y s n = go (wrong_port st p) (wrong_port st q) refl refl
    where
      go : (t u : Bool) → wrong_port st p ≡ t → wrong_port st q ≡ u → step p x (step q y s) ≡ step q y (step p x s)
      go true u d e = rw (none p x (step q y s) d, none p x s d)
      go false true d e = rw (none q y s e, none q y (step p x s) e)
      go false false d e = apart p q x y s (places-apart st p q d e n)

module _ (st : Settings) (now : ℕ) where
  -- the streams after a frame that finds room for its streams, what the ports hold and what they send by themselves, and its number
  stream_step : ℕ → Frame → List Stream → List Stream
  stream_step p (msrp pdu) s = effect (apply_all now) (p - 1) (reading st p pdu) s
  stream_step p (mmrp pdu) s = s

  own_step : ℕ → Frame → List Own → List Own
  own_step p (msrp pdu) o = effect (apply_owns now) (p - 1) (reading st p pdu) o
  own_step p (mmrp pdu) o = address_effect now (p - 1) (address_reading st p pdu) o

  sender_step : ℕ → Frame → List Sender → List Sender
  sender_step p (msrp pdu) l = effect (apply_senders now) (p - 1) (reading st p pdu) l
  sender_step p (mmrp pdu) l = l

  ruling : ℕ → Frame → List Own → ℕ
  ruling p (msrp pdu) o = number (reading st p pdu)
  ruling p (mmrp pdu) o = address_number now (p - 1) (address_reading st p pdu) o

  -- on no port of the bridge it is refused with 1
  streams-none : (p : ℕ) (x : Frame) (s : List Stream) → wrong_port st p ≡ true → stream_step p x s ≡ s
  unfolding stream_step
  streams-none p (msrp pdu) s e = unfold reading effect in (rw e)
  streams-none p (mmrp pdu) s e = refl

  own-none : (p : ℕ) (x : Frame) (o : List Own) → wrong_port st p ≡ true → own_step p x o ≡ o
  unfolding own_step
  own-none p (msrp pdu) o e = unfold reading effect in (rw e)
  own-none p (mmrp pdu) o e = unfold address_reading address_effect in (rw e)

  senders-none : (p : ℕ) (x : Frame) (l : List Sender) → wrong_port st p ≡ true → sender_step p x l ≡ l
  unfolding sender_step
  senders-none p (msrp pdu) l e = unfold reading effect in (rw e)
  senders-none p (mmrp pdu) l e = refl

  ruling-none : (p : ℕ) (x : Frame) (o : List Own) → wrong_port st p ≡ true → ruling p x o ≡ 1
  unfolding ruling
  ruling-none p (msrp pdu) o e = unfold reading number in (rw e)
  ruling-none p (mmrp pdu) o e = unfold address_reading address_number in (rw e)

  -- at two places
  effects-apart : (p q : ℕ) (x y : Reading) (s : List Stream) → (p ≡ q → ⊥)
      → effect (apply_all now) p x (effect (apply_all now) q y s) ≡ effect (apply_all now) q y (effect (apply_all now) p x s)
  unfolding effect
  effects-apart p q (refused m) y s n = refl
  effects-apart p q (acts es) (refused m) s n = refl
  effects-apart p q (acts es) (acts fs) s n = frames-commute now p q n es fs s

  streams-apart : (p q : ℕ) (x y : Frame) (s : List Stream) → (p - 1 ≡ q - 1 → ⊥) → stream_step p x (stream_step q y s) ≡ stream_step q y (stream_step p x s)
  unfolding stream_step
  streams-apart p q (msrp x) (msrp y) s n = effects-apart (p - 1) (q - 1) (reading st p x) (reading st q y) s n
  streams-apart p q (msrp x) (mmrp y) s n = refl
  streams-apart p q (mmrp x) (msrp y) s n = refl
  streams-apart p q (mmrp x) (mmrp y) s n = refl

  -- of what the ports hold, a frame makes one change at its place
  own-change : (p : ℕ) (x : Frame) → ChangesAt (p - 1) (own_step p x)
  unfolding own_step
  own-change p (msrp pdu) = go (reading st p pdu)
    where
      go : (r : Reading) → ChangesAt (p - 1) (effect (apply_owns now) (p - 1) r)
      go (refused n) = unfold effect in (no_change (p - 1))
      go (acts es) = unfold effect in (acts-change now (p - 1) es)
  own-change p (mmrp pdu) = go (address_reading st p pdu)
    where
      go : (r : AddressReading) → ChangesAt (p - 1) (address_effect now (p - 1) r)
      go (refused_frame n) = unfold address_effect in (no_change (p - 1))
      go (address_acts es) = unfold address_effect in (record { change = with_room now es; is = λ o. refl })

  sender-change : (p : ℕ) (x : Frame) → ChangesAt (p - 1) (sender_step p x)
  unfolding sender_step
  sender-change p (msrp pdu) = go (reading st p pdu)
    where
      go : (r : Reading) → ChangesAt (p - 1) (effect (apply_senders now) (p - 1) r)
      go (refused n) = unfold effect in (no_change (p - 1))
      go (acts es) = unfold effect in (acts-send now (p - 1) es)
  sender-change p (mmrp pdu) = no_change (p - 1)

  senders-apart : (p q : ℕ) (x y : Frame) (l : List Sender) → (p - 1 ≡ q - 1 → ⊥) → sender_step p x (sender_step q y l) ≡ sender_step q y (sender_step p x l)
  senders-apart p q x y l n = changes-apart (p - 1) (q - 1) (sender-change p x) (sender-change q y) n l

  own-apart : (p q : ℕ) (x y : Frame) (o : List Own) → (p - 1 ≡ q - 1 → ⊥) → own_step p x (own_step q y o) ≡ own_step q y (own_step p x o)
  own-apart p q x y o n = changes-apart (p - 1) (q - 1) (own-change p x) (own-change q y) n o

  -- so the answer to a frame is what it is without one on another port before it
  ruling-past : (p q : ℕ) (x y : Frame) (o : List Own) → (p ≡ q → ⊥) → ruling p x (own_step q y o) ≡ ruling p x o
  ruling-past p q x y o n = go (wrong_port st p) (wrong_port st q) refl refl
    where
      same : (x : Frame) → own_at (own_step q y o) (p - 1) ≡ own_at o (p - 1) → ruling p x (own_step q y o) ≡ ruling p x o
      same (msrp pdu) e = unfold ruling in refl
      same (mmrp pdu) e = unfold ruling in (number_of (address_reading st p pdu))
        where
          number_of : (r : AddressReading) → address_number now (p - 1) r (own_step q y o) ≡ address_number now (p - 1) r o
          number_of (refused_frame m) = unfold address_number in refl
          number_of (address_acts es) = unfold address_number in (rw e)

      go : (t u : Bool) → wrong_port st p ≡ t → wrong_port st q ≡ u → ruling p x (own_step q y o) ≡ ruling p x o
      go true u d e = rw (ruling-none p x (own_step q y o) d, ruling-none p x o d)
      go false true d e = rw (own-none q y o e)
      go false false d e = same x (changes-other (q - 1) (own-change q y) (p - 1) (λ h. places-apart st p q d e n (sym h)) o no_own)

  streams-order : (f g : List (ℕ × Frame)) (s : List Stream) → ((p : ℕ) → on p f ≡ on p g) → run stream_step f s ≡ run stream_step g s
  streams-order f g s same = same-run stream_step (step-commute st stream_step streams-none streams-apart) f g s same

  own-order : (f g : List (ℕ × Frame)) (o : List Own) → ((p : ℕ) → on p f ≡ on p g) → run own_step f o ≡ run own_step g o
  own-order f g o same = same-run own_step (step-commute st own_step own-none own-apart) f g o same

  senders-order : (f g : List (ℕ × Frame)) (l : List Sender) → ((p : ℕ) → on p f ≡ on p g) → run sender_step f l ≡ run sender_step g l
  senders-order f g l same = same-run sender_step (step-commute st sender_step senders-none senders-apart) f g l same

  -- The answers to frames that find room for their streams, with their ports; and those to the frames of one port alone.
  rulings : List (ℕ × Frame) → List Own → List (ℕ × ℕ)
  rulings [] o = []
  rulings (a ∷ f) o = (a.0, ruling a.0 a.1 o) ∷ rulings f (own_step a.0 a.1 o)

  alone : ℕ → List Frame → List Own → List ℕ
  alone p [] o = []
  alone p (x ∷ f) o = ruling p x o ∷ alone p f (own_step p x o)

  alone-past : (p q : ℕ) (y : Frame) → (p ≡ q → ⊥) → (f : List Frame) (o : List Own) → alone p f (own_step q y o) ≡ alone p f o
  unfolding alone
  alone-past p q y n [] o = refl
  alone-past p q y n (x ∷ f) o =
      rw (ruling-past p q x y o n, step-commute st own_step own-none own-apart p q x y o n, alone-past p q y n f (own_step p x o))

  on-rulings : (p : ℕ) (f : List (ℕ × Frame)) (o : List Own) → on p (rulings f o) ≡ alone p (on p f) o
  on-rulings p [] o = unfold on rulings alone in refl
  on-rulings p (a ∷ f) o = go (ℕ_discrete a.0 p) (on-rulings p f (own_step a.0 a.1 o))
    where
      go : Dec (a.0 ≡ p) → on p (rulings f (own_step a.0 a.1 o)) ≡ alone p (on p f) (own_step a.0 a.1 o)
          → on p (rulings (a ∷ f) o) ≡ alone p (on p (a ∷ f)) o
      go (yes e) h =
          unfold rulings alone in
          (rw (on_same p (a.0, ruling a.0 a.1 o) (rulings f (own_step a.0 a.1 o)) e, on_same p a f e, h, e))
      go (no e) h =
          unfold rulings in
          (rw (on-other p (a.0, ruling a.0 a.1 o) (rulings f (own_step a.0 a.1 o)) e, on-other p a f e, h) (alone-past p a.0 a.1 (λ d. e (sym d)) (on p f) o))

pub together-append : (held xs ys : List ℕ) → together held (xs ++ ys) ≡ together (together held xs) ys
unfolding together
together-append held [] ys = refl
together-append held (i ∷ xs) ys = together-append (add i held) xs ys

add-grows : (i : ℕ) (l : List ℕ) → length l ≤ length (add i l)
unfolding add
add-grows i [] = omega arith
add-grows i (x ∷ l) = go (ltb i x) (eqb i x) (add-grows i l)
  where
    go : (a b : Bool) → length l ≤ length (add i l) → suc (length l) ≤ length (cond a (i ∷ x ∷ l) (cond b (x ∷ l) (x ∷ add i l)))
    go true b h = omega arith
    go false true h = omega arith
    go false false h = omega arith

pub together-grows : (xs l : List ℕ) → length l ≤ length (together l xs)
unfolding together
together-grows [] l = omega arith
together-grows (i ∷ xs) l = omega (arith, add-grows i l, together-grows xs (add i l))

-- streams held, and more asked for by one frame and then by others
pub first_fits : (held xs ys : List ℕ) (n : ℕ) → length (together held (xs ++ ys)) ≤ n → length (together held xs) ≤ n
first_fits held xs ys n h = le_trans (together-grows ys (together held xs)) (rw (← together-append held xs ys) h)

step-ids : (st : Settings) (now p : ℕ) (x : Frame) (s : List Stream) → ids (stream_step st now p x s) ≡ together (ids s) (asked_by st p x)
unfolding stream_step asked_by
step-ids st now p (msrp pdu) s = effect-ids now (p - 1) (reading st p pdu) s
step-ids st now p (mmrp pdu) s = unfold together in refl

run-ids : (st : Settings) (now : ℕ) (f : List (ℕ × Frame)) (s : List Stream) → ids (run (stream_step st now) f s) ≡ together (ids s) (asked st f)
unfolding run asked together
run-ids st now [] s = refl
run-ids st now (a ∷ f) s =
    run-ids st now f (stream_step st now a.0 a.1 s)
    ∙ ap (λ (l : List ℕ). together l (asked st f)) (step-ids st now a.0 a.1 s)
    ∙ sym (together-append (ids s) (asked_by st a.0 a.1) (asked st f))

-- there is room for all streams that frames ask for: the different ones, held or asked for, are at most 64
unfoldable pub Room : List (ℕ × Frame) → Bridge → Type 0
Room f b = length (together (ids b.streams) (asked b.settings f)) ≤ 64

-- the bridge after a frame that finds room for its streams
after : Bridge → ℕ → Frame → Bridge
after b p x =
    sending
    (owning (holding b (stream_step b.settings b.clock p x b.streams)) (own_step b.settings b.clock p x b.owns))
    (sender_step b.settings b.clock p x b.senders)

one-frame : (b : Bridge) (p : ℕ) (x : Frame) → length (together (ids b.streams) (asked_by b.settings p x)) ≤ 64 →
    receive_frame b p x ≡ record { number = ruling b.settings b.clock p x b.owns; bridge = after b p x }
unfolding receive_frame after stream_step own_step sender_step ruling asked_by next holding owning sending
one-frame b p (msrp pdu) h = unfold receive in (room b p (reading b.settings p pdu) h)
one-frame b p (mmrp pdu) h = unfold receive_mmrp in (received_is b p (address_reading b.settings p pdu))

module _ (a : ℕ × Frame) (f : List (ℕ × Frame)) (b : Bridge) (h : Room (a ∷ f) b) where
  first-room : receive_frame b a.0 a.1 ≡ record { number = ruling b.settings b.clock a.0 a.1 b.owns; bridge = after b a.0 a.1 }
  unfolding Room asked
  first-room = one-frame b a.0 a.1 (first_fits (ids b.streams) (asked_by b.settings a.0 a.1) (asked b.settings f) 64 h)

  rest-room : Room f (after b a.0 a.1)
  unfolding Room asked after holding owning sending
  rest-room =
      rw (step-ids b.settings b.clock a.0 a.1 b.streams, ← together-append (ids b.streams) (asked_by b.settings a.0 a.1) (asked b.settings f)) h

-- the streams, what the ports hold and what they send by themselves, after frames that find room
module _ (f : List (ℕ × Frame)) (b : Bridge) where
  streams_after : List Stream
  streams_after = run (stream_step b.settings b.clock) f b.streams

  own_after : List Own
  own_after = run (own_step b.settings b.clock) f b.owns

  senders_after : List Sender
  senders_after = run (sender_step b.settings b.clock) f b.senders

after_run : (f : List (ℕ × Frame)) (b : Bridge) → Room f b → after_frames f b ≡ sending (owning (holding b (streams_after f b)) (own_after f b)) (senders_after f b)
unfolding after_frames streams_after own_after senders_after run after holding owning sending
after_run [] b h = refl
after_run (a ∷ f) b h = rw (first-room a f b h) (after_run f (after b a.0 a.1) (rest-room a f b h))

-- the streams held after them
pub after-ids : (f : List (ℕ × Frame)) (b : Bridge) → length (together (ids b.streams) (asked b.settings f)) ≤ 64 →
    ids (after_frames f b).streams ≡ together (ids b.streams) (asked b.settings f)
unfolding Room holding owning sending streams_after
after-ids f b h = rw (after_run f b h) (run-ids b.settings b.clock f b.streams)

all-answers : (f : List (ℕ × Frame)) (b : Bridge) → Room f b → frame_answers f b ≡ rulings b.settings b.clock f b.owns
unfolding frame_answers rulings after holding owning sending
all-answers [] b h = refl
all-answers (a ∷ f) b h =
    rw (first-room a f b h)
    (ap (λ (l : List (ℕ × ℕ)). (a.0, ruling b.settings b.clock a.0 a.1 b.owns) ∷ l) (all-answers f (after b a.0 a.1) (rest-room a f b h)))

-- With room for all streams, the order among the ports does not matter: neither to the bridge nor to the answer to any frame.
pub order : (f g : List (ℕ × Frame)) (b : Bridge) → ((p : ℕ) → on p f ≡ on p g) →
    length (together (ids b.streams) (asked b.settings f)) ≤ 64 →
    (after_frames f b ≡ after_frames g b) × ((p : ℕ) → on p (frame_answers f b) ≡ on p (frame_answers g b))
unfolding Room streams_after own_after senders_after
order f g b same fits =
    let st = b.settings in
    let now = b.clock in
    let streams : streams_after f b ≡ streams_after g b = streams-order st now f g b.streams same in
    let own : own_after f b ≡ own_after g b = own-order st now f g b.owns same in
    let senders : senders_after f b ≡ senders_after g b = senders-order st now f g b.senders same in
    let fits' : Room g b = rw (← run-ids st now g b.streams, ← streams, run-ids) fits in (
      after_run f b fits
          ∙ ap₂ (λ (s : List Stream) (o : List Own). sending (owning (holding b s) o) (senders_after f b)) streams own
          ∙ ap (λ (l : List Sender). sending (owning (holding b (streams_after g b)) (own_after g b)) l) senders
          ∙ sym (after_run g b fits'),
      λ p. rw (all-answers f b fits, all-answers g b fits', on-rulings st now p f b.owns, on-rulings st now p g b.owns, same p),
    )
