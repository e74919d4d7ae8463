-- Demand 1, of the code: every call on every input ends with an answer. That each call ends is what the proved contracts say: none
-- asks anything of its arguments. Here stands what its answer is, for each call one record and one theorem whose premise is that
-- call's contract (specs/Promises), so it holds of the code whatever the code is: the numbers that may be given, each exactly when
-- 01's table or 02 says; a refusal leaves every octet of table and buffer, and gives zero or none for every other part of the answer;
-- an accepted call leaves a table that keeps the form rules. report and why are lent the table to read only, so their contracts give
-- none back. (That table, settings and PDU are octets, and a time is of 32 bits, is what the calls' types say.)
use mathlib.Core.Path.{◌≡◌}
use mathlib.Core.Logic.{◌↔◌, ◌⊎◌}
use mathlib.Core.List.{List, [], ◌∷◌}
use mathlib.Core.Bool.{true, false}
use Prim.Native.Nat.{ℕ, ◌-◌, ◌^◌, ◌≤◌, ◌<◌}
use lib.ListN.{length}
use Rattle.model.specs.Layout.{table_length}
use Rattle.model.specs.Lists.{Octets}
use Rattle.model.specs.Registrations.{AddressAct, refused_frame, address_acts, together, ids, joins, address_joins}
use Rattle.model.specs.FrameLayout.{longest_pdu}
use Rattle.model.specs.Frames.{Vector, fault, found, walk, frame_acts, wrong_port}
use Rattle.model.specs.AddressFrames.{address_walk}
use Rattle.model.specs.Declarations.{declarations}
use Rattle.model.specs.Reports.{Report, refused_report}
use Rattle.model.specs.State.{Stream}
use Rattle.model.specs.Why.{not_held, held_as, seek, list_size}
use Rattle.model.specs.Calls.{WhyCall, refused_why}
use Rattle.model.specs.Table.{decode, clock_field, formed, settings_formed}
use Rattle.model.proofs.FormKept.{Kept, start-formed, receive-formed, mmrp-formed, advance-formed}
use Rattle.model.proofs.WriteKeepsForm.{write-formed}
use Rattle.model.proofs.Refusals.{OneOf, OnPort}
use Rattle.model.proofs.Refusals
use Rattle.model.proofs.AddressRefusals.{held_on}
use Rattle.model.proofs.AddressRefusals
use Rattle.model.proofs.WhyRefusals
use Rattle.bridge.specs.Promises.{Starts, Receives, ReceivesMmrp, Advances, Writes, Reports, Explains}

-- Start with the settings s on the table t gives the number n and leaves the table u.
pub record StartAnswers (t s : List ℕ) (n : ℕ) (u : List ℕ) : Type 0 where
  pub numbers : OneOf (0 ∷ 11 ∷ 12 ∷ []) n
  pub table : (n ≡ 12) ↔ (length t ≡ table_length → ⊥)
  pub settings : (n ≡ 11) ↔ ((length t ≡ table_length) × (settings_formed s ≡ false))
  pub accepted : (n ≡ 0) ↔ ((length t ≡ table_length) × (settings_formed s ≡ true))
  pub unaltered : (n ≡ 0 → ⊥) → u ≡ t
  pub form : n ≡ 0 → Kept u

pub start-answers : (t s : List ℕ) (n : ℕ) (u : List ℕ) → Octets s → Starts t s n u → StartAnswers t s n u
start-answers t s n u o call = record {
  numbers = rw call.0 (Refusals.start-numbers t s);
  table = rw call.0 (Refusals.start-12 t s);
  settings = rw call.0 (Refusals.start-11 t s);
  accepted = rw call.0 (Refusals.start-0 t s);
  unaltered = rw (call.0, call.1) (Refusals.start-refused t s);
  form = rw (call.0, call.1) (start-formed t s o);
}

-- Receive of a PDU on port p, on the table t, gives the number n and leaves the table u.
pub record ReceiveAnswers (t : List ℕ) (p : ℕ) (pdu : List ℕ) (n : ℕ) (u : List ℕ) : Type 0 where
  pub numbers : (n ≤ 8) ⊎ (n ≡ 12)
  pub table : (n ≡ 12) ↔ (formed t ≡ false)
  pub port : (n ≡ 1) ↔ ((formed t ≡ true) × (wrong_port (decode t).settings p ≡ true))
  pub size : (n ≡ 2) ↔ (OnPort t p × ((length pdu ≡ 0) ⊎ (longest_pdu < length pdu)))
  -- each of 2 to 7: it is the first fault that the walk meets
  pub faults : (m : ℕ) → 2 ≤ m → m ≤ 7 → (n ≡ m) ↔ (OnPort t p × (walk pdu ≡ fault m))
  pub room : (n ≡ 8) ↔
      (OnPort t p × ((vs : List Vector) × (walk pdu ≡ found vs) × (64 < length (together (ids (decode t).streams) (joins (frame_acts vs))))))
  pub accepted : (n ≡ 0) ↔
      (OnPort t p × ((vs : List Vector) × (walk pdu ≡ found vs) × (length (together (ids (decode t).streams) (joins (frame_acts vs))) ≤ 64)))
  pub unaltered : (n ≡ 0 → ⊥) → u ≡ t
  pub form : n ≡ 0 → Kept u

pub receive-answers : (t : List ℕ) (p : ℕ) (pdu : List ℕ) (n : ℕ) (u : List ℕ) → Octets t → Octets pdu → Receives t p pdu n u →
    ReceiveAnswers t p pdu n u
receive-answers t p pdu n u o q call = record {
  numbers = rw call.0 (Refusals.receive-numbers t p pdu);
  table = rw call.0 (Refusals.receive-12 t p pdu);
  port = rw call.0 (Refusals.receive-1 t p pdu);
  size = rw call.0 (Refusals.receive-2 t p pdu);
  faults = rw call.0 (Refusals.receive-fault t p pdu);
  room = rw call.0 (Refusals.receive-8 t p pdu);
  accepted = rw call.0 (Refusals.receive-0 t p pdu);
  unaltered = rw (call.0, call.1) (Refusals.receive-refused t p pdu);
  form = rw (call.0, call.1) (λ e. receive-formed t (o, ((Refusals.receive-0 t p pdu).0 e).0.0) p pdu q);
}

-- Receive of an MMRP PDU on port p, on the table t, gives the number n and leaves the table u.
pub record MmrpAnswers (t : List ℕ) (p : ℕ) (pdu : List ℕ) (n : ℕ) (u : List ℕ) : Type 0 where
  pub numbers : (n ≤ 7) ⊎ ((n ≡ 12) ⊎ (n ≡ 14))
  pub table : (n ≡ 12) ↔ (formed t ≡ false)
  pub port : (n ≡ 1) ↔ ((formed t ≡ true) × (wrong_port (decode t).settings p ≡ true))
  pub size : (n ≡ 2) ↔ (OnPort t p × ((length pdu ≡ 0) ⊎ (longest_pdu < length pdu)))
  -- each of 2 to 7: it is the first fault that the walk meets
  pub faults : (m : ℕ) → 2 ≤ m → m ≤ 7 → (n ≡ m) ↔ (OnPort t p × (address_walk pdu ≡ refused_frame m))
  pub room : (n ≡ 14) ↔
      (OnPort t p × ((es : List AddressAct) × (address_walk pdu ≡ address_acts es) × (64 < length (together (held_on (decode t) p) (address_joins es)))))
  pub accepted : (n ≡ 0) ↔
      (OnPort t p × ((es : List AddressAct) × (address_walk pdu ≡ address_acts es) × (length (together (held_on (decode t) p) (address_joins es)) ≤ 64)))
  pub unaltered : (n ≡ 0 → ⊥) → u ≡ t
  pub form : n ≡ 0 → Kept u

pub mmrp-answers : (t : List ℕ) (p : ℕ) (pdu : List ℕ) (n : ℕ) (u : List ℕ) → Octets t → ReceivesMmrp t p pdu n u → MmrpAnswers t p pdu n u
mmrp-answers t p pdu n u o call = record {
  numbers = rw call.0 (AddressRefusals.mmrp-numbers t p pdu);
  table = rw call.0 (AddressRefusals.mmrp-12 t p pdu);
  port = rw call.0 (AddressRefusals.mmrp-1 t p pdu);
  size = rw call.0 (AddressRefusals.mmrp-2 t p pdu);
  faults = rw call.0 (AddressRefusals.mmrp-fault t p pdu);
  room = rw call.0 (AddressRefusals.mmrp-14 t p pdu);
  accepted = rw call.0 (AddressRefusals.mmrp-0 t p pdu);
  unaltered = rw (call.0, call.1) (AddressRefusals.mmrp-refused t p pdu);
  form = rw (call.0, call.1) (λ e. mmrp-formed t (o, ((AddressRefusals.mmrp-0 t p pdu).0 e).0.0) p pdu);
}

-- Advance to a time, on the table t, gives the number n and leaves the table u.
pub record AdvanceAnswers (t : List ℕ) (time n : ℕ) (u : List ℕ) : Type 0 where
  pub numbers : OneOf (0 ∷ 9 ∷ 12 ∷ []) n
  pub table : (n ≡ 12) ↔ (formed t ≡ false)
  pub early : (n ≡ 9) ↔ ((formed t ≡ true) × (time < clock_field t))
  pub accepted : (n ≡ 0) ↔ ((formed t ≡ true) × (clock_field t ≤ time))
  pub unaltered : (n ≡ 0 → ⊥) → u ≡ t
  pub form : n ≡ 0 → Kept u

pub advance-answers : (t : List ℕ) (time n : ℕ) (u : List ℕ) → Octets t → time < 2 ^ 32 → Advances t time n u → AdvanceAnswers t time n u
advance-answers t time n u o small call = record {
  numbers = rw call.0 (Refusals.advance-numbers t time);
  table = rw call.0 (Refusals.advance-12 t time);
  early = rw call.0 (Refusals.advance-9 t time);
  accepted = rw call.0 (Refusals.advance-0 t time);
  unaltered = rw (call.0, call.1) (Refusals.advance-refused t time);
  form = rw (call.0, call.1) (λ e. advance-formed t (o, ((Refusals.advance-0 t time).0 e).0) time small);
}

-- Write of port p's declarations from a place on, to a buffer, gives the number n, a length and the next place, and leaves the
-- buffer u and the table v.
pub record WriteAnswers (t : List ℕ) (p place : ℕ) (buffer : List ℕ) (n long next : ℕ) (u v : List ℕ) : Type 0 where
  pub numbers : OneOf (0 ∷ 1 ∷ 10 ∷ 12 ∷ 13 ∷ []) n
  pub table : (n ≡ 12) ↔ (formed t ≡ false)
  pub port : (n ≡ 1) ↔ ((formed t ≡ true) × (wrong_port (decode t).settings p ≡ true))
  pub short : (n ≡ 10) ↔ (OnPort t p × (length buffer < longest_pdu))
  pub above : (n ≡ 13) ↔ (OnPort t p × ((longest_pdu ≤ length buffer) × (length (declarations (decode t) (p - 1)) < place)))
  pub accepted : (n ≡ 0) ↔ (OnPort t p × ((longest_pdu ≤ length buffer) × (place ≤ length (declarations (decode t) (p - 1)))))
  pub unaltered : (n ≡ 0 → ⊥) → (long ≡ 0) × (next ≡ 0) × (u ≡ buffer) × (v ≡ t)
  pub form : n ≡ 0 → Kept v

pub write-answers : (t : List ℕ) (p place : ℕ) (buffer : List ℕ) (n long next : ℕ) (u v : List ℕ) → Octets t →
    Writes t p place buffer n long next u v → WriteAnswers t p place buffer n long next u v
write-answers t p place buffer n long next u v o call = record {
  numbers = rw call.number_is (Refusals.write-numbers t p place buffer);
  table = rw call.number_is (Refusals.write-12 t p place buffer);
  port = rw call.number_is (Refusals.write-1 t p place buffer);
  short = rw call.number_is (Refusals.write-10 t p place buffer);
  above = rw call.number_is (Refusals.write-13 t p place buffer);
  accepted = rw call.number_is (Refusals.write-0 t p place buffer);
  unaltered = rw (call.number_is, call.length_is, call.next_is, call.buffer_is, call.table_is) (Refusals.write-refused t p place buffer);
  form = rw (call.number_is, call.table_is) (λ e. write-formed t (o, ((Refusals.write-0 t p place buffer).0 e).0.0) p place buffer);
}

-- Report at a place, on port p, gives the answer r: that of the code, with its words by `shown` (crate reports).
pub record ReportAnswers (t : List ℕ) (p place : ℕ) (r : Report) : Type 0 where
  pub numbers : OneOf (0 ∷ 1 ∷ 12 ∷ 13 ∷ []) r.number
  pub table : (r.number ≡ 12) ↔ (formed t ≡ false)
  pub port : (r.number ≡ 1) ↔ ((formed t ≡ true) × (wrong_port (decode t).settings p ≡ true))
  pub above : (r.number ≡ 13) ↔ (OnPort t p × (length (decode t).streams < place))
  pub accepted : (r.number ≡ 0) ↔ (OnPort t p × (place ≤ length (decode t).streams))
  -- zero or none for all else
  pub nothing-else : (r.number ≡ 0 → ⊥) → r ≡ refused_report r.number

pub report-answers : (t : List ℕ) (p place : ℕ) (r : Report) → Reports t p place r → ReportAnswers t p place r
report-answers t p place r call = record {
  numbers = rw call (Refusals.report-numbers t p place);
  table = rw call (Refusals.report-12 t p place);
  port = rw call (Refusals.report-1 t p place);
  above = rw call (Refusals.report-13 t p place);
  accepted = rw call (Refusals.report-0 t p place);
  nothing-else = rw call (Refusals.report-refused t p place);
}

-- Why of a StreamID on port p, with a buffer, gives the answer r: that of the code, with the buffer that it leaves, by `why_shown` (crate
-- why).
pub record WhyAnswers (t : List ℕ) (id p : ℕ) (buffer : List ℕ) (r : WhyCall) : Type 0 where
  pub numbers : OneOf (0 ∷ 1 ∷ 10 ∷ 12 ∷ 15 ∷ []) r.number
  pub table : (r.number ≡ 12) ↔ (formed t ≡ false)
  pub port : (r.number ≡ 1) ↔ ((formed t ≡ true) × (wrong_port (decode t).settings p ≡ true))
  pub not-held : (r.number ≡ 15) ↔ (OnPort t p × (seek id (decode t).streams ≡ not_held))
  pub short : (r.number ≡ 10) ↔ (OnPort t p × ((x : Stream) × (seek id (decode t).streams ≡ held_as x) × (length buffer < list_size)))
  pub accepted : (r.number ≡ 0) ↔ (OnPort t p × ((x : Stream) × (seek id (decode t).streams ≡ held_as x) × (list_size ≤ length buffer)))
  -- zero or none for all else, and the buffer as it was
  pub nothing-else : (r.number ≡ 0 → ⊥) → r ≡ refused_why r.number buffer

pub why-answers : (t : List ℕ) (id p : ℕ) (buffer : List ℕ) (r : WhyCall) → Explains t id p buffer r → WhyAnswers t id p buffer r
why-answers t id p buffer r call = record {
  numbers = rw call (WhyRefusals.why-numbers t id p buffer);
  table = rw call (WhyRefusals.why-12 t id p buffer);
  port = rw call (WhyRefusals.why-1 t id p buffer);
  not-held = rw call (WhyRefusals.why-15 t id p buffer);
  short = rw call (WhyRefusals.why-10 t id p buffer);
  accepted = rw call (WhyRefusals.why-0 t id p buffer);
  nothing-else = rw call (WhyRefusals.why-refused t id p buffer);
}

-- "no table left by start and accepted calls breaks one": the tables that an accepted start and calls after it leave, refused ones
-- too, keep the form rules, so none of them is ever refused with 12.
pub data Left : List ℕ → Type 0 where
  begun : (t s : List ℕ) (n : ℕ) (u : List ℕ) → Octets s → Starts t s n u → n ≡ 0 → Left u
  received : (t : List ℕ) (p : ℕ) (pdu : List ℕ) (n : ℕ) (u : List ℕ) → Left t → Octets pdu → Receives t p pdu n u → Left u
  registered : (t : List ℕ) (p : ℕ) (pdu : List ℕ) (n : ℕ) (u : List ℕ) → Left t → ReceivesMmrp t p pdu n u → Left u
  advanced : (t : List ℕ) (time n : ℕ) (u : List ℕ) → Left t → time < 2 ^ 32 → Advances t time n u → Left u
  wrote : (t : List ℕ) (p place : ℕ) (buffer : List ℕ) (n long next : ℕ) (u v : List ℕ) → Left t → Writes t p place buffer n long next u v → Left v

pub left-formed : (u : List ℕ) → Left u → Kept u
left-formed _ (begun t s n u o call z) = (start-answers t s n u o call).form z
left-formed _ (received t p pdu n u l o call) = rw call.1 (receive-formed t (left-formed t l) p pdu o)
left-formed _ (registered t p pdu n u l call) = rw call.1 (mmrp-formed t (left-formed t l) p pdu)
left-formed _ (advanced t time n u l small call) = rw call.1 (advance-formed t (left-formed t l) time small)
left-formed _ (wrote t p place buffer n long next u v l call) = rw call.table_is (write-formed t (left-formed t l) p place buffer)
