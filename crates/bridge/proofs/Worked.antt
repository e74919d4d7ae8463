-- The worked example of 01, of the code: the calls of start, two receives of matching Domain joins, receive, receive, advance, report and write, on any table of the right
-- length. Each premise is that call's contract (specs/Promises). What they answer is computed by the definitions and compared with
-- what 01 prints; so a bridge that refuses all, has a single answer, does nothing, or makes up totals, lengths or places is none
-- that meets the contracts.
use mathlib.Core.Path.{◌≡◌, refl, ◌∙◌, ap}
use mathlib.Core.List.{List, [], ◌∷◌, ◌++◌, map}
use mathlib.Core.Bool.{true, false}
use Prim.Native.Nat.{ℕ, ◌≤◌}
use native.Mathlib.Omega.{arith}
use lib.ListN.{length, take, drop}
use lib.Seq.{take-append_seam}
use lib.Dec.{ltb}
use borrow.Author.Tests.{le-ltb, ltb-true}
use Rattle.model.specs.Layout.{table_length}
use Rattle.model.specs.Lists.{Octets, all_true}
use Rattle.model.specs.State.{Bridge, Declared, nothing, tells, ready, Entry, no_entry, forwards}
use Rattle.model.specs.State
use Rattle.model.specs.Frames
use Rattle.model.specs.Settling
use Rattle.model.specs.Reports.{Report, ColumnWord, none_word, advertise_word}
use Rattle.model.specs.Writing.{write}
use Rattle.model.specs.Reports as reports
use Rattle.model.specs.WrittenFrames
use Rattle.model.specs.Table.{settings_formed, to_settings, encode}
use Rattle.model.specs.Calls.{Call, start_on, receive_on, advance_on, report_on, write_on, written_to}
use Rattle.model.specs.Calls
use Rattle.model.proofs.Lists.{and_left, and_right}
use Rattle.model.proofs.Opened.{opened}
use Rattle.model.proofs.Valid.{Valid}
use Rattle.model.proofs.Tables.{decode-encode, formed-encode, valid-started}
use Rattle.model.proofs.ReceiveKeepsForm.{receive-keeps}
use Rattle.model.proofs.AdvanceKeepsForm.{settle-keeps}
use Rattle.model.proofs.Demand3.{receive-call, advance-call}
use Rattle.model.specs.FrameLayout.{longest_pdu}
use Rattle.bridge.specs.Promises.{Starts, Receives, Advances, Writes, Reports}
use Rattle.bridge.proofs.Starting.{start-accepted}
use Rattle.bridge.proofs.OnTables.{receive-wrong-port, advance-early}

-- What is handed over, octet by octet.

-- "both classes, overhead 42, largest 1522, limits 75000000 and 0, latency 0"
port : List ℕ
port =
    0xC0 ∷ 0x2A ∷ 0x05 ∷ 0xF2 ∷ 0x00 ∷ 0x04 ∷ 0x78 ∷ 0x68 ∷ 0xC0 ∷ 0x00 ∷ 0x00 ∷ 0x00 ∷ 0x00 ∷ 0x00
    ∷ 0x00 ∷ 0x00 ∷ 0x00 ∷ 0x00 ∷ 0x00 ∷ 0x00 ∷ 0x00 ∷ 0x00 ∷ []

-- Bridge ID 7, "Two ports", "priorities 3 and 2, leave time 60", VLAN 2, no limit of inbound ports
pub settings : List ℕ
settings = 0x00 ∷ 0x00 ∷ 0x00 ∷ 0x00 ∷ 0x00 ∷ 0x00 ∷ 0x00 ∷ 0x07 ∷ 0x26 ∷ 0x80 ∷ 0x3C ∷ 0x00 ∷ 0x02 ∷ 0x00 ∷ (port ++ port)

-- "matching Domain joins": {5, 2} and {6, 3}, VLAN 2
pub matching : List ℕ
matching = 0x00 ∷ 0x04 ∷ 0x04 ∷ 0x00 ∷ 0x09 ∷ 0x00 ∷ 0x02 ∷ 0x05 ∷ 0x02 ∷ 0x00 ∷ 0x02 ∷ 0x7E ∷ 0x00 ∷ 0x00 ∷ 0x00 ∷ 0x00 ∷ []

-- the PDUs without their EndMark
talker_message : List ℕ
talker_message =
    0x00 ∷ 0x01 ∷ 0x19 ∷ 0x00 ∷ 0x1E ∷ 0x00 ∷ 0x01 ∷ 0x02 ∷ 0x00 ∷ 0x00 ∷ 0x00 ∷ 0x00 ∷ 0x01 ∷ 0x00 ∷ 0x01 ∷ 0x91 ∷ 0xE0 ∷ 0xF0
    ∷ 0x00 ∷ 0xFE ∷ 0x00 ∷ 0x00 ∷ 0x02 ∷ 0x00 ∷ 0xE0 ∷ 0x00 ∷ 0x01 ∷ 0x70 ∷ 0x00 ∷ 0x00 ∷ 0x00 ∷ 0x00 ∷ 0x6C ∷ 0x00 ∷ 0x00 ∷ []

listener_message : List ℕ
listener_message =
    0x00 ∷ 0x03 ∷ 0x08 ∷ 0x00 ∷ 0x0E ∷ 0x00 ∷ 0x01 ∷ 0x02 ∷ 0x00 ∷ 0x00 ∷ 0x00 ∷ 0x00 ∷ 0x01 ∷ 0x00 ∷ 0x01 ∷ 0x6C ∷ 0x80
    ∷ 0x00 ∷ 0x00 ∷ []

pub talker : List ℕ
talker = talker_message ++ (0x00 ∷ 0x00 ∷ [])

pub listener : List ℕ
listener = listener_message ++ (0x00 ∷ 0x00 ∷ [])

-- the Domain values of both classes, one per vector, each JoinIn since the port has them registered, and the EndMark
domains : List ℕ
domains =
    0x04 ∷ 0x04 ∷ 0x00 ∷ 0x10 ∷ 0x00 ∷ 0x01 ∷ 0x05 ∷ 0x02 ∷ 0x00 ∷ 0x02 ∷ 0x24 ∷ 0x00 ∷ 0x01 ∷ 0x06 ∷ 0x03 ∷ 0x00 ∷ 0x02 ∷ 0x24
    ∷ 0x00 ∷ 0x00 ∷ 0x00 ∷ 0x00 ∷ []

-- what is written: the Message that the other port received, and the Domain values
pub talker_out : List ℕ
talker_out = talker_message ++ domains

pub listener_out : List ℕ
listener_out = listener_message ++ domains

octets-tested : (s : List ℕ) → all_true (map (λ (b : ℕ). ltb b 256) s) ≡ true → Octets s
unfolding all_true
octets-tested [] e = tt
octets-tested (b ∷ s) e =
    let rest = all_true (map (λ (c : ℕ). ltb c 256) s) in
    (ltb-true b 256 (and_left (ltb b 256) rest e), octets-tested s (and_right (ltb b 256) rest e))

-- The bridge after each call.

begun : Bridge
begun = State.started (to_settings settings)

near : Bridge
near = (Calls.receive begun 1 matching).bridge

inside : Bridge
inside = (Calls.receive near 2 matching).bridge

talking : Bridge
talking = (Calls.receive inside 1 talker).bridge

heard : Bridge
heard = (Calls.receive talking 2 listener).bridge

settled : Bridge
settled = Settling.settle 100 heard

-- Calls on the table of a valid bridge are those of the bridge.
module _ (b : Bridge) (v : Valid b) (p place : ℕ) (w : Frames.wrong_port b.settings p ≡ false) where
  report-call : report_on (encode b) p place ≡ reports.report b p place
  unfolding report_on
  report-call = rw (formed-encode b v, decode-encode b v, w)

  write-call : (buffer : List ℕ) → longest_pdu ≤ length buffer → write_on (encode b) p place buffer ≡ written_to (encode b) buffer (write b p place)
  unfolding write_on
  write-call buffer l = rw (formed-encode b v, decode-encode b v, w, le-ltb _ _ l)

-- What is computed.

-- to unfold this is to unfold all definitions of the bridge, and the example's own
computing : Unit {0}
unfolding opened port settings matching talker_message listener_message talker listener domains talker_out listener_out begun near inside talking heard settled
computing = tt

settings-formed : settings_formed settings ≡ true
unfolding computing
settings-formed = refl

near-taken : (Calls.receive begun 1 matching).number ≡ 0
unfolding computing
near-taken = refl

inside-taken : (Calls.receive near 2 matching).number ≡ 0
unfolding computing
inside-taken = refl

talker-taken : (Calls.receive inside 1 talker).number ≡ 0
unfolding computing
talker-taken = refl

listener-taken : (Calls.receive talking 2 listener).number ≡ 0
unfolding computing
listener-taken = refl

clock-zero : heard.clock ≡ 0
unfolding computing
clock-zero = refl

ports-right : (Frames.wrong_port settled.settings 1 ≡ false) × (Frames.wrong_port settled.settings 2 ≡ false)
unfolding computing
ports-right = (refl, refl)

no-port : Frames.wrong_port settled.settings 3 ≡ true
unfolding computing
no-port = refl

clock-set : settled.clock ≡ 100
unfolding computing
clock-set = refl

-- what both reports have: one stream, its StreamID, the limits 75000000 and 0, nothing reserved in class B, code 0
shown : ℕ → ColumnWord → Declared → Entry → Report
shown total_a column listener entry = record {
  number = 0;
  count = 1;
  total_a = total_a;
  limit_a = 75000000;
  total_b = 0;
  limit_b = 0;
  id = 0x0200000000010001;
  column = column;
  code = 0;
  listener = listener;
  entry = entry;
}

-- "port 1 A 0/75000000 B 0/0", "0200000000010001 1 none 0 ready none"
pub report_one : Report
report_one = shown 0 none_word (tells ready) no_entry

-- "port 2 A 17088000/75000000 B 0/0", "0200000000010001 2 advertise 0 none forward"
pub report_two : Report
report_two = shown 17088000 advertise_word nothing forwards

reports-computed : (reports.report settled 1 0 ≡ report_one) × (reports.report settled 2 0 ≡ report_two)
unfolding computing shown report_one report_two
reports-computed = (refl, refl)

octets-given : Octets settings × Octets matching × Octets talker × Octets listener
unfolding settings port matching talker_message listener_message talker listener all_true
octets-given = (octets-tested settings refl, octets-tested matching refl, octets-tested talker refl, octets-tested listener refl)

-- port 1 declares the Listener as port 2 received it, and port 2 the Talker as port 1 did, and both the Domain values of two
-- classes: three declarations each, so next place 3
Writing : ℕ → List ℕ → Type 0
Writing p s =
    let w = write settled p 0 in
    (w.number ≡ 0) × (WrittenFrames.pdu_octets w.all w.run ≡ s) × (w.next ≡ 3)

writes-computed : Writing 1 listener_out × Writing 2 talker_out
unfolding computing Writing
writes-computed = ((refl, refl, refl), (refl, refl, refl))

-- The tables that the calls leave are those of these bridges.

begun-valid : Valid begun
unfolding begun
begun-valid = valid-started settings octets-given.0 settings-formed

near-valid : Valid near
unfolding near
near-valid = receive-keeps begun 1 matching octets-given.1 begun-valid

inside-valid : Valid inside
unfolding inside
inside-valid = receive-keeps near 2 matching octets-given.1 near-valid

talking-valid : Valid talking
unfolding talking
talking-valid = receive-keeps inside 1 talker octets-given.2 inside-valid

heard-valid : Valid heard
unfolding heard
heard-valid = receive-keeps talking 2 listener octets-given.3 talking-valid

clock-passed : heard.clock ≤ 100
clock-passed = omega (arith, clock-zero)

settled-valid : Valid settled
unfolding settled
settled-valid = settle-keeps heard 100 (omega arith) clock-passed heard-valid

started-on : (t : List ℕ) → length t ≡ table_length → start_on t settings ≡ record { number = 0; table = encode begun }
unfolding begun
started-on t right = start-accepted t settings right settings-formed

received-on : (b : Bridge) (p : ℕ) (pdu : List ℕ) → Valid b → (Calls.receive b p pdu).number ≡ 0
    → receive_on (encode b) p pdu ≡ record { number = 0; table = encode (Calls.receive b p pdu).bridge }
received-on b p pdu v e = receive-call b p pdu v ∙ ap (λ (n : ℕ). record { number = n; table = encode (Calls.receive b p pdu).bridge }) e

advanced-on : advance_on (encode heard) 100 ≡ record { number = 0; table = encode settled }
unfolding settled
advanced-on = advance-call heard 100 heard-valid clock-passed

-- port 3 is none of its ports, and 99 is before its clock
port-refused : receive_on (encode settled) 3 talker ≡ record { number = 1; table = encode settled }
port-refused =
    receive-wrong-port (encode settled) 3 talker (formed-encode settled settled-valid) (rw (decode-encode settled settled-valid) no-port)

time-refused : advance_on (encode settled) 99 ≡ record { number = 9; table = encode settled }
time-refused =
    advance-early (encode settled) 99 (formed-encode settled settled-valid)
    (rw (decode-encode settled settled-valid, clock-set) (omega arith))

-- a call's number and table, where the call is known
taken : (n : ℕ) (u : List ℕ) (c : Call) (m : ℕ) (v : List ℕ) → (n ≡ c.number) × (u ≡ c.table) → c ≡ record { number = m; table = v } → (n ≡ m) × (u ≡ v)
taken n u c m v h e = (h.0 ∙ ap (λ (a : Call). a.number) e, h.1 ∙ ap (λ (a : Call). a.table) e)

-- a write of port p that leaves the PDU s, of all its declarations
abbrev pub Leaves : ℕ → List ℕ → List ℕ → Type 0
Leaves p u s = (buffer : List ℕ) (n long next : ℕ) (after left : List ℕ) → longest_pdu ≤ length buffer → Writes u p 0 buffer n long next after left →
    (n ≡ 0) × (long ≡ length s) × (next ≡ 3) × (take long after ≡ s)

written_on : (p : ℕ) (s : List ℕ) → Frames.wrong_port settled.settings p ≡ false → Writing p s → Leaves p (encode settled) s
unfolding Writing written_to
written_on p s right w buffer n long next after left enough call =
    let e = write-call settled settled-valid p 0 right buffer enough in
    let long-is = rw (e, w.0, w.1) at call.length_is in
    let written = rw (e, w.0, w.1) at call.buffer_is in
    (rw (e, w.0) at call.number_is, long-is, rw (e, w.0, w.2) at call.next_is, rw (long-is, written) (take-append_seam s (drop (length s) buffer)))

-- Any table of the right length; the calls of the worked example, one after another.
module _ (t : List ℕ) (right : length t ≡ table_length)
    (n₀ : ℕ) (u₀ : List ℕ) (start : Starts t settings n₀ u₀)
    (n₁ : ℕ) (u₁ : List ℕ) (first : Receives u₀ 1 matching n₁ u₁)
    (n₂ : ℕ) (u₂ : List ℕ) (second : Receives u₁ 2 matching n₂ u₂)
    (n₃ : ℕ) (u₃ : List ℕ) (third : Receives u₂ 1 talker n₃ u₃)
    (n₄ : ℕ) (u₄ : List ℕ) (fourth : Receives u₃ 2 listener n₄ u₄)
    (n₅ : ℕ) (u₅ : List ℕ) (advance : Advances u₄ 100 n₅ u₅) where
  after-start : (n₀ ≡ 0) × (u₀ ≡ encode begun)
  after-start = taken n₀ u₀ _ 0 _ start (started-on t right)

  after_first : (n₁ ≡ 0) × (u₁ ≡ encode near)
  unfolding near
  after_first = taken n₁ u₁ _ 0 _ (rw after-start.1 at first) (received-on begun 1 matching begun-valid near-taken)

  after-second : (n₂ ≡ 0) × (u₂ ≡ encode inside)
  unfolding inside
  after-second = taken n₂ u₂ _ 0 _ (rw after_first.1 at second) (received-on near 2 matching near-valid inside-taken)

  after-third : (n₃ ≡ 0) × (u₃ ≡ encode talking)
  unfolding talking
  after-third = taken n₃ u₃ _ 0 _ (rw after-second.1 at third) (received-on inside 1 talker inside-valid talker-taken)

  after-fourth : (n₄ ≡ 0) × (u₄ ≡ encode heard)
  unfolding heard
  after-fourth = taken n₄ u₄ _ 0 _ (rw after-third.1 at fourth) (received-on talking 2 listener talking-valid listener-taken)

  after-advance : (n₅ ≡ 0) × (u₅ ≡ encode settled)
  after-advance = taken n₅ u₅ _ 0 _ (rw after-fourth.1 at advance) advanced-on

  pub all-accepted : (n₀ ≡ 0) × (n₁ ≡ 0) × (n₂ ≡ 0) × (n₃ ≡ 0) × (n₄ ≡ 0) × (n₅ ≡ 0)
  all-accepted = (after-start.0, after_first.0, after-second.0, after-third.0, after-fourth.0, after-advance.0)

  -- the sheet that 01 prints
  pub reports-printed : (r₁ r₂ : Report) → Reports u₅ 1 0 r₁ → Reports u₅ 2 0 r₂ → (r₁ ≡ report_one) × (r₂ ≡ report_two)
  reports-printed r₁ r₂ one two = (
    one ∙ rw after-advance.1 (report-call settled settled-valid 1 0 ports-right.0 ∙ reports-computed.0),
    two ∙ rw after-advance.1 (report-call settled settled-valid 2 0 ports-right.1 ∙ reports-computed.1),
  )

  -- what port 2 received goes out on port 1, and what port 1 received on port 2, each with the Domain values behind it
  pub listener-written : Leaves 1 u₅ listener_out
  listener-written = rw after-advance.1 (written_on 1 listener_out ports-right.0 writes-computed.0)

  pub talker-written : Leaves 2 u₅ talker_out
  talker-written = rw after-advance.1 (written_on 2 talker_out ports-right.1 writes-computed.1)

  -- a port that it has not is refused with 1, a time before its clock with 9, and the table stays
  pub wrong-port-refused : (n : ℕ) (u : List ℕ) → Receives u₅ 3 talker n u → (n ≡ 1) × (u ≡ u₅)
  wrong-port-refused n u call = rw after-advance.1 (taken n u _ 1 _ (rw after-advance.1 at call) port-refused)

  pub early-time-refused : (n : ℕ) (u : List ℕ) → Advances u₅ 99 n u → (n ≡ 9) × (u ≡ u₅)
  early-time-refused n u call = rw after-advance.1 (taken n u _ 9 _ (rw after-advance.1 at call) time-refused)
