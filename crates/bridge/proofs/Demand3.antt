-- Demand 3, of the code: the order among ports never matters. The premises are runs of calls of receive and receive_mmrp, each step
-- what the call's contract says (specs/Promises), and a call of advance after each run, so the theorems hold of the code whatever
-- the code is. `receive-order-code` is about the runs alone, `demand3-code` about the whole demand, `room-code` about addresses. (That
-- table and PDUs are octets, and a time is of 32 bits, is what the calls' types say.)
use mathlib.Core.Path.{◌≡◌, refl, sym, ◌∙◌, ap}
use mathlib.Core.List.{List, [], ◌∷◌}
use mathlib.Core.Bool.{true, false}
use Prim.Native.Nat.{ℕ, ◌^◌, ◌≤◌, ◌<◌}
use lib.ListN.{length}
use Rattle.model.specs.Lists.{All, on, Octets}
use Rattle.model.specs.Registrations.{together, ids}
use Rattle.model.specs.Table.{decode, formed, clock_field}
use Rattle.model.specs.Calls.{Call, advance_on, Frame, msrp, mmrp, pdu_of, receive_frame_on, answers_on, after_on, asked, asked_addresses}
use Rattle.model.proofs.Dropping.{Advanced}
use Rattle.model.specs.Frames.{wrong_port}
use Rattle.model.proofs.Demand3.{Same, receive-order, demand3}
use Rattle.model.proofs.AddressRefusals.{held_on}
use Rattle.model.proofs.AddressRoom.{RoomForAddresses, never-14, addresses-joined}
use Rattle.bridge.specs.Promises.{Receives, ReceivesMmrp, Advances}

-- a frame handed over by the call of its protocol
abbrev pub Takes : List ℕ → ℕ → Frame → ℕ → List ℕ → Type 0
Takes t p (msrp pdu) n u = Receives t p pdu n u
Takes t p (mmrp pdu) n u = ReceivesMmrp t p pdu n u

taken : (t : List ℕ) (p : ℕ) (x : Frame) (n : ℕ) (u : List ℕ) → Takes t p x n u → (n ≡ (receive_frame_on t p x).number) × (u ≡ (receive_frame_on t p x).table)
unfolding receive_frame_on
taken t p (msrp pdu) n u call = call
taken t p (mmrp pdu) n u call = call

-- Frames with their ports, handed over one after another: the table before, the answers with their ports, and the table after.
pub data Handed : List (ℕ × Frame) → List ℕ → List (ℕ × ℕ) → List ℕ → Type 0 where
  none : (t : List ℕ) → Handed [] t [] t
  next : (p : ℕ) (x : Frame) (f : List (ℕ × Frame)) (t : List ℕ) (n : ℕ) (u : List ℕ) (answers : List (ℕ × ℕ)) (v : List ℕ) →
      Takes t p x n u → Handed f u answers v → Handed ((p, x) ∷ f) t ((p, n) ∷ answers) v

handed-on : (f : List (ℕ × Frame)) (t : List ℕ) (answers : List (ℕ × ℕ)) (u : List ℕ) → Handed f t answers u →
    (answers ≡ answers_on f t) × (u ≡ after_on f t)
unfolding answers_on after_on
handed-on _ _ _ _ (none t) = (refl, refl)
handed-on _ _ _ _ (next p x f t n u answers v call rest) =
    let ih = handed-on f u answers v rest in
    let c = taken t p x n u call in
    (rw (ih.0, c.0, c.1), ih.1 ∙ ap (after_on f) c.1)

-- Two runs over one table: on each port the answers agree frame by frame, and the tables are equal octet by octet.
pub receive-order-code : (f g : List (ℕ × Frame)) (t : List ℕ) (answers answers' : List (ℕ × ℕ)) (u u' : List ℕ) →
    Octets t → formed t ≡ true → All (λ a. Octets (pdu_of a.1)) f →
    ((p : ℕ) → on p f ≡ on p g) →
    length (together (ids (decode t).streams) (asked (decode t).settings f)) ≤ 64 →
    Handed f t answers u → Handed g t answers' u' →
    ((p : ℕ) → on p answers ≡ on p answers') × (u ≡ u')
receive-order-code f g t answers answers' u u' octets form frames same room run run' =
    let a = handed-on f t answers u run in
    let b = handed-on g t answers' u' run' in
    let r = receive-order f g t octets form frames same room in
    (λ p. rw (a.0, b.0) (r.1 p), a.1 ∙ r.0 ∙ sym b.1)

-- The frames f handed over to the table t left the table u, and g left u'. Advance to one time then gave the numbers n and n' and
-- left the tables v and v'.
pub record SameByCode (f : List (ℕ × Frame)) (t : List ℕ) (time : ℕ) (answers answers' : List (ℕ × ℕ)) (u u' : List ℕ) (n n' : ℕ) (v v' : List ℕ) : Type 0 where
  -- on each port the answers agree frame by frame
  pub answered : (p : ℕ) → on p answers ≡ on p answers'
  -- the tables are equal octet by octet, before settling and after, and both are settled
  pub received : u ≡ u'
  pub accepted : (n ≡ 0) × (n' ≡ 0)
  pub settled : v ≡ v'
  -- the streams held until then are those held before, and all that are asked for
  pub joined : ids (decode u).streams ≡ together (ids (decode t).streams) (asked (decode t).settings f)
  pub settings : (decode u).settings ≡ (decode t).settings
  -- the table is well formed, and holds what the rules of settling give, class A's total within its limit and both within the
  -- sum of limits
  pub well-formed : formed v ≡ true
  pub rules : Advanced time (decode u) (decode v)

-- Demand 3: g is the frames f in another order that keeps each port's own; the time is not before the table's clock; the different
-- streams held or asked for by a frame that is read are at most 64.
pub demand3-code : (f g : List (ℕ × Frame)) (t : List ℕ) (time : ℕ) (answers answers' : List (ℕ × ℕ)) (u u' : List ℕ) (n n' : ℕ) (v v' : List ℕ) →
    Octets t → formed t ≡ true → All (λ a. Octets (pdu_of a.1)) f → time < 2 ^ 32 → clock_field t ≤ time →
    ((p : ℕ) → on p f ≡ on p g) →
    length (together (ids (decode t).streams) (asked (decode t).settings f)) ≤ 64 →
    Handed f t answers u → Handed g t answers' u' → Advances u time n v → Advances u' time n' v' →
    SameByCode f t time answers answers' u u' n n' v v'
demand3-code f g t time answers answers' u u' n n' v v' octets form frames small later same room run run' call call' =
    let a = handed-on f t answers u run in
    let r = receive-order-code f g t answers answers' u u' octets form frames same room run run' in
    let s : Same f g t time = demand3 f g t time octets form frames small later same room in
    let zero : (advance_on u time).number ≡ 0 = rw a.1 s.accepted in
    let equal : advance_on u time ≡ advance_on u' time = ap (λ (x : List ℕ). advance_on x time) r.1 in
    record {
      answered = r.0;
      received = r.1;
      accepted = (call.0 ∙ zero, call'.0 ∙ ap (λ (c : Call). c.number) (sym equal) ∙ zero);
      settled = call.1 ∙ ap (λ (c : Call). c.table) equal ∙ sym call'.1;
      joined = rw a.1 s.joined;
      settings = rw a.1 s.settings;
      well-formed = rw (call.1, a.1) s.well-formed;
      rules = rw (call.1, a.1) s.rules;
    }

-- "the added premise that on each port the addresses held and those asked for by well-formed frames are at most 64 different ones":
-- then no frame is refused with 14, and each port holds afterwards what it held before and all that was asked for.
pub room-code : (f : List (ℕ × Frame)) (t : List ℕ) (answers : List (ℕ × ℕ)) (u : List ℕ) →
    Octets t → formed t ≡ true → All (λ a. Octets (pdu_of a.1)) f → RoomForAddresses f (decode t) → Handed f t answers u →
    All (λ n. n.1 ≡ 14 → ⊥) answers
    × ((p : ℕ) → wrong_port (decode t).settings p ≡ false → held_on (decode u) p ≡ together (held_on (decode t) p) (asked_addresses (decode t).settings p (on p f)))
room-code f t answers u octets form frames room run =
    let a = handed-on f t answers u run in
    (rw a.0 (never-14 f t octets form frames room), rw a.1 (addresses-joined f t octets form frames room))
