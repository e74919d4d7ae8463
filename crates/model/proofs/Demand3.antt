-- Demand 3: the order among ports never matters. Frames of MSRP and MMRP handed over in two orders that both keep each port's own
-- order get the same answers and leave the same table, the machines of what is sent included; settled at one time, both tables hold
-- what the rules give: A's total stays within limit A, and both totals together within the sum of limits.
use mathlib.Core.Path.{◌≡◌, refl, sym, ◌∙◌, ap, subst}
use mathlib.Core.List.{List, [], ◌∷◌}
use mathlib.Core.Bool.{Bool, true, false, cond}
use Prim.Native.Nat.{ℕ, ◌^◌, ◌≤◌, ◌<◌}
use native.Mathlib.Decide.{ℕ_discrete}
use lib.ListN.{length}
use lib.Dec.{eqb}
use borrow.Author.Tests.{le-ltb, eqb-false, eqb-true}
use Rattle.model.specs.Lists.{All, on, Octets}
use Rattle.model.specs.State.{Stream, Bridge}
use Rattle.model.specs.Registrations.{Answer, together, ids}
use Rattle.model.specs.Settling.{settle, advance}
use Rattle.model.specs.Table.{encode, decode, formed, clock_field}
use Rattle.model.specs.Calls.{Call, leaves, on_table, receive, receive_on, receive_mmrp, receive_mmrp_on, advance_on, Frame, msrp, mmrp, pdu_of, receive_frame, receive_frame_on, answers_on, after_on, asked}
use Rattle.model.proofs.Lists.{on_same, on-other}
use Rattle.model.proofs.Valid.{ValidStream, Valid}
use Rattle.model.proofs.ColumnRule.{Small}
use Rattle.model.proofs.Dropping.{Advanced, advanced}
use Rattle.model.proofs.Tables.{decode-encode, formed-encode, valid-decode, encode-decode}
use Rattle.model.proofs.ReceiveKeepsForm.{receive-keeps}
use Rattle.model.proofs.AdvanceKeepsForm.{settle-keeps}
use Rattle.model.proofs.ReceivedAddresses.{mmrp-unchanged}
use Rattle.model.proofs.AddressesKept.{mmrp-keeps}
use Rattle.model.proofs.FrameOrder.{after_frames, frame_answers, refused-changes-nothing, after-settings, after-clock, after-ids, order}

-- Frames f and g handed over to a table t, and both settled at a time.
pub record Same (f g : List (ℕ × Frame)) (t : List ℕ) (now : ℕ) : Type 0 where
  -- on each port the answers agree frame by frame
  pub answers : (p : ℕ) → on p (answers_on f t) ≡ on p (answers_on g t)
  -- the tables are equal, before settling and after
  pub received : after_on f t ≡ after_on g t
  pub settled : advance_on (after_on f t) now ≡ advance_on (after_on g t) now
  pub accepted : (advance_on (after_on f t) now).number ≡ 0
  -- the streams held until then are those held before, and all that are asked for
  pub joined : ids (decode (after_on f t)).streams ≡ together (ids (decode t).streams) (asked (decode t).settings f)
  pub settings : (decode (after_on f t)).settings ≡ (decode t).settings
  -- the table is well formed, and holds what the rules of settling give, class A's total within its limit and both within the
  -- sum of limits
  pub well-formed : formed (advance_on (after_on f t) now).table ≡ true
  pub rules : Advanced now (decode (after_on f t)) (decode (advance_on (after_on f t) now).table)

advance-accepts : (b : Bridge) (now : ℕ) → b.clock ≤ now → advance b now ≡ record { number = 0; bridge = settle now b }
unfolding advance
advance-accepts b now h = rw (le-ltb now b.clock h)

pub ids-small : (ports clock leave : ℕ) (s : List Stream) → All (ValidStream ports clock leave) s → All Small (ids s)
unfolding ids
ids-small ports clock leave [] a = tt
ids-small ports clock leave (x ∷ s) a = (a.0.id, ids-small ports clock leave s a.1)

-- Arrivals that are alike port by port are alike in what holds of each.
module _ {X : Type 0} (P : X → Type 0) where
  all-on : (p : ℕ) (f : List (ℕ × X)) → All (λ a. P a.1) f → All P (on p f)
  all-on p [] h = unfold on in tt
  all-on p (a ∷ f) h = go (ℕ_discrete a.0 p) (all-on p f h.1)
    where
      go : Dec (a.0 ≡ p) → All P (on p f) → All P (on p (a ∷ f))
      go (yes e) ih = rw (on_same p a f e) (h.0, ih)
      go (no e) ih = rw (on-other p a f e) ih

  on-all : (f : List (ℕ × X)) → ((p : ℕ) → All P (on p f)) → All (λ a. P a.1) f
  on-all [] h = tt
  on-all (a ∷ f) h =
      let own : All P (a.1 ∷ on a.0 f) = rw (on_same a.0 a f refl) at (h a.0) in
      (own.0, on-all f (λ p. go p (ℕ_discrete a.0 p)))
    where
      go : (p : ℕ) → Dec (a.0 ≡ p) → All P (on p f)
      go p (yes e) = (rw (on_same p a f e) at (h p)).1
      go p (no e) = rw (on-other p a f e) at (h p)

  alike_all : (f g : List (ℕ × X)) → ((p : ℕ) → on p f ≡ on p g) → All (λ a. P a.1) f → All (λ a. P a.1) g
  alike_all f g same h = on-all g (λ p. rw (same p) at (all-on p f h))

-- Calls on tables are those of the bridges that the tables hold.

-- a call on the table of a valid bridge, where a refusal leaves the bridge as it was
call : (b : Bridge) (f : Bridge → Answer) → Valid b → (((f b).number ≡ 0 → ⊥) → (f b).bridge ≡ b) →
    on_table (encode b) f ≡ record { number = (f b).number; table = encode (f b).bridge }
unfolding on_table leaves
call b f v h = rw (formed-encode b v, decode-encode b v) (go (eqb (f b).number 0) refl)
  where
    go : (t : Bool) → eqb (f b).number 0 ≡ t →
        cond {A = Call} t record { number = 0; table = encode (f b).bridge } record { number = (f b).number; table = encode b }
        ≡ record { number = (f b).number; table = encode (f b).bridge }
    go true e = rw (eqb-true (f b).number 0 e)
    go false e = rw (h (eqb-false (f b).number 0 e))

pub mmrp-call : (b : Bridge) (p : ℕ) (pdu : List ℕ) → Valid b →
    receive_mmrp_on (encode b) p pdu ≡ record { number = (receive_mmrp b p pdu).number; table = encode (receive_mmrp b p pdu).bridge }
unfolding receive_mmrp_on
mmrp-call b p pdu v = call b (λ c. receive_mmrp c p pdu) v (mmrp-unchanged b p pdu)

pub receive-call : (b : Bridge) (p : ℕ) (pdu : List ℕ) → Valid b →
    receive_on (encode b) p pdu ≡ record { number = (receive b p pdu).number; table = encode (receive b p pdu).bridge }
unfolding receive_on
receive-call b p pdu v = call b (λ c. receive c p pdu) v (refused-changes-nothing b p pdu)

frame-call : (b : Bridge) (p : ℕ) (x : Frame) → Valid b →
    receive_frame_on (encode b) p x ≡ record { number = (receive_frame b p x).number; table = encode (receive_frame b p x).bridge }
unfolding receive_frame_on receive_frame
frame-call b p (msrp pdu) v = receive-call b p pdu v
frame-call b p (mmrp pdu) v = mmrp-call b p pdu v

pub frame-keeps : (b : Bridge) (p : ℕ) (x : Frame) → Octets (pdu_of x) → Valid b → Valid (receive_frame b p x).bridge
unfolding receive_frame
frame-keeps b p (msrp pdu) o v = receive-keeps b p pdu o v
frame-keeps b p (mmrp pdu) o v = mmrp-keeps b p pdu v

abbrev pub FramesInOctets : List (ℕ × Frame) → Type 0
FramesInOctets f = All (λ a. Octets (pdu_of a.1)) f

pub valid-after : (f : List (ℕ × Frame)) (b : Bridge) → FramesInOctets f → Valid b → Valid (after_frames f b)
unfolding after_frames
valid-after [] b o v = v
valid-after (a ∷ f) b o v = valid-after f (receive_frame b a.0 a.1).bridge o.1 (frame-keeps b a.0 a.1 o.0 v)

pub after_table : (f : List (ℕ × Frame)) (b : Bridge) → FramesInOctets f → Valid b → after_on f (encode b) ≡ encode (after_frames f b)
unfolding after_on after_frames
after_table [] b o v = refl
after_table (a ∷ f) b o v =
    rw (frame-call b a.0 a.1 v)
    (after_table f (receive_frame b a.0 a.1).bridge o.1 (frame-keeps b a.0 a.1 o.0 v))

pub answers-table : (f : List (ℕ × Frame)) (b : Bridge) → FramesInOctets f → Valid b → answers_on f (encode b) ≡ frame_answers f b
unfolding answers_on frame_answers
answers-table [] b o v = refl
answers-table (a ∷ f) b o v =
    rw (frame-call b a.0 a.1 v)
    (ap (λ (l : List (ℕ × ℕ)). (a.0, (receive_frame b a.0 a.1).number) ∷ l)
    (answers-table f (receive_frame b a.0 a.1).bridge o.1 (frame-keeps b a.0 a.1 o.0 v)))

pub advance-call : (b : Bridge) (now : ℕ) → Valid b → b.clock ≤ now → advance_on (encode b) now ≡ record { number = 0; table = encode (settle now b) }
unfolding advance_on
advance-call b now v h =
    let e = advance-accepts b now h in
    call b (λ c. advance c now) v (λ n. absurd (n (ap (λ (a : Answer). a.number) e)))
    ∙ ap (λ (a : Answer). record { number = a.number; table = encode a.bridge }) e

-- Both orders, on the table of a valid bridge.
module _ (f g : List (ℕ × Frame)) (o : FramesInOctets f) (same : (p : ℕ) → on p f ≡ on p g) where
  order-encoded : (b : Bridge) → Valid b → length (together (ids b.streams) (asked b.settings f)) ≤ 64 →
      (after_on f (encode b) ≡ after_on g (encode b)) × ((p : ℕ) → on p (answers_on f (encode b)) ≡ on p (answers_on g (encode b)))
  order-encoded b v room =
      let o' = alike_all (λ x. Octets (pdu_of x)) f g same o in
      let r = order f g b same room in (
        after_table f b o v ∙ ap encode r.0 ∙ sym (after_table g b o' v),
        λ p. rw (answers-table f b o v, answers-table g b o' v) (r.1 p),
      )

  same-encoded : (b : Bridge) (now : ℕ) → Valid b → now < 2 ^ 32 → b.clock ≤ now →
      length (together (ids b.streams) (asked b.settings f)) ≤ 64 → Same f g (encode b) now
  same-encoded b now v small later room =
      let r = order-encoded b v room in
      let c = after_frames f b in
      let w : Valid c = valid-after f b o v in
      let later' : c.clock ≤ now = rw (after-clock f b) later in
      let a = advance-call c now w later' in
      let w' : Valid (settle now c) = settle-keeps c now small later' w in
      record {
        answers = r.1;
        received = r.0;
        settled = ap (λ (u : List ℕ). advance_on u now) r.0;
        accepted = rw (after_table f b o v, a);
        joined = rw (after_table f b o v, decode-encode c w, decode-encode b v) (after-ids f b room);
        well-formed = rw (after_table f b o v, a) (formed-encode (settle now c) w');
        settings = rw (after_table f b o v, decode-encode c w, decode-encode b v) (after-settings f b);
        rules =
            rw (after_table f b o v, a, decode-encode c w, decode-encode (settle now c) w')
            (advanced now c w.ascending (ids-small _ _ _ c.streams w.streams));
      }

-- The receiving alone: the same answers, frame by frame, and equal tables.
pub receive-order : (f g : List (ℕ × Frame)) (t : List ℕ) → Octets t → formed t ≡ true → All (λ a. Octets (pdu_of a.1)) f →
    ((p : ℕ) → on p f ≡ on p g) →
    length (together (ids (decode t).streams) (asked (decode t).settings f)) ≤ 64 →
    (after_on f t ≡ after_on g t) × ((p : ℕ) → on p (answers_on f t) ≡ on p (answers_on g t))
receive-order f g t octets form o same room =
    subst (λ (u : List ℕ). (after_on f u ≡ after_on g u) × ((p : ℕ) → on p (answers_on f u) ≡ on p (answers_on g u)))
    (encode-decode t octets form) (order-encoded f g o same (decode t) (valid-decode t octets form) room)

-- Demand 3. The frames f are handed over to a well-formed table, and so is g, the same frames in another order: what arrived at
-- a port is one list in both. The time is not before the table's clock, and the different streams held or asked for by a frame
-- that is read are at most 64. Whether the bridge was settled does not matter. (A list of octets, and a time of 32 bits, is
-- what the calls take.) Of addresses nothing is asked: where a port has no room, its own order decides, and that is one in both.
pub demand3 : (f g : List (ℕ × Frame)) (t : List ℕ) (now : ℕ) → Octets t → formed t ≡ true → All (λ a. Octets (pdu_of a.1)) f →
    now < 2 ^ 32 → clock_field t ≤ now →
    ((p : ℕ) → on p f ≡ on p g) →
    length (together (ids (decode t).streams) (asked (decode t).settings f)) ≤ 64 →
    Same f g t now
unfolding decode
demand3 f g t now octets form o small later same room =
    subst (λ (u : List ℕ). Same f g u now) (encode-decode t octets form)
    (same-encoded f g o same (decode t) now (valid-decode t octets form) small later room)
