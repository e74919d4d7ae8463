-- The seven calls on octets: for every input the number, the other parts of the answer, the table and the buffer afterwards, in
-- 01's order of numbers ("12 first (for start a wrong table length only, then 11); then 1; receive 2, then the walk from the
-- front, then 8; write 10, then 13; report 13"), and 02's (vi: 14 "tested last"; ix, for why: "12 and 1 as before; then 15 where the
-- stream isn't held; then 10 where the buffer is below 63 x 16 octets").
use Rattle.std.specs.Prelude.{List, [], ◌∷◌, ◌++◌, cond, not, ℕ, ◌-◌, length, drop, ltb, eqb}
use Rattle.model.specs.Layout.{table_length}
use Rattle.model.specs.FrameLayout.{longest_pdu}
use Rattle.model.specs.State.{Bridge, Settings, started}
use Rattle.model.specs.Registrations.{Answer, received, received_addresses, asks, asks_addresses}
use Rattle.model.specs.Frames.{reading, wrong_port}
use Rattle.model.specs.AddressFrames.{address_reading}
use Rattle.model.specs.Settling.{StepName, no_step, advance}
use Rattle.model.specs.Writing.{Written, write}
use Rattle.model.specs.Reports.{Report, refused_report, report}
use Rattle.model.specs.Why.{Reason, reason, Sought, not_held, held_as, seek, listed_octets, list_size}
use Rattle.model.specs.WrittenFrames.{pdu_octets}
use Rattle.model.specs.Table.{encode, decode, formed, settings_formed, to_settings}

-- A received frame, in the order of the definitions: `receive_on` (this file) tests the form and reads the table; `reading` (Frames)
-- tests the port and walks the PDU, vector by vector, into acts; `received` (Registrations) applies them to the streams, counts
-- what is held then (8), and gives the bridge; `leaves` writes it back. An MMRP frame goes the same way: `receive_mmrp_on`;
-- `address_reading` (AddressFrames) reads acts on addresses; `received_addresses` (Registrations) applies them to those of its port,
-- counts them (14), and gives the bridge.

-- what start, receive and advance answer and leave
pub record Call : Type 0 where
  pub number : ℕ
  pub table : List ℕ

unfoldable pub start_on : List ℕ → List ℕ → Call
start_on t s =
    cond (not (eqb (length t) table_length)) record { number = 12; table = t }
    (cond (not (settings_formed s)) record { number = 11; table = t }
    record { number = 0; table = encode (started (to_settings s)) })

-- the table after the bridge's answer: "A refusal .. alters no octet"
unfoldable pub leaves : List ℕ → Answer → Call
leaves t a =
    cond (eqb a.number 0) record { number = 0; table = encode a.bridge } record { number = a.number; table = t }

-- a call of the bridge on its table
unfoldable pub on_table : List ℕ → (Bridge → Answer) → Call
on_table t f = cond (formed t) (leaves t (f (decode t))) record { number = 12; table = t }

unfoldable pub receive : Bridge → ℕ → List ℕ → Answer
receive b p pdu = received b p (reading b.settings p pdu)

unfoldable pub receive_on : List ℕ → ℕ → List ℕ → Call
receive_on t p pdu = on_table t (λ b. receive b p pdu)

-- an MMRP frame (02, vi): the other EtherType, so a call of its own
unfoldable pub receive_mmrp : Bridge → ℕ → List ℕ → Answer
receive_mmrp b p pdu = received_addresses b p (address_reading b.settings p pdu)

unfoldable pub receive_mmrp_on : List ℕ → ℕ → List ℕ → Call
receive_mmrp_on t p pdu = on_table t (λ b. receive_mmrp b p pdu)

unfoldable pub advance_on : List ℕ → ℕ → Call
advance_on t now = on_table t (λ b. advance b now)

-- what write answers, and leaves in the buffer and in the table: "Octets past the length stay"; a refusal alters no octet of either
pub record WriteCall : Type 0 where
  pub number : ℕ
  pub length : ℕ
  pub next : ℕ
  pub buffer : List ℕ
  pub table : List ℕ

unfoldable pub refused_write : ℕ → List ℕ → List ℕ → WriteCall
refused_write n t buffer = record { number = n; length = 0; next = 0; buffer = buffer; table = t }

unfoldable pub written_to : List ℕ → List ℕ → Written → WriteCall
written_to t buffer w =
    let pdu = pdu_octets w.all w.run in
    cond (eqb w.number 0)
    record { number = 0; length = length pdu; next = w.next; buffer = pdu ++ drop (length pdu) buffer; table = encode w.bridge }
    (refused_write w.number t buffer)

unfoldable pub write_on : List ℕ → ℕ → ℕ → List ℕ → WriteCall
write_on t p place buffer =
    let b = decode t in
    cond (not (formed t)) (refused_write 12 t buffer)
    (cond (wrong_port b.settings p) (refused_write 1 t buffer)
    (cond (ltb (length buffer) longest_pdu) (refused_write 10 t buffer)
    (written_to t buffer (write b p place))))

unfoldable pub report_on : List ℕ → ℕ → ℕ → Report
report_on t p place =
    let b = decode t in
    cond (not (formed t)) (refused_report 12)
    (cond (wrong_port b.settings p) (refused_report 1)
    (report b p place))

-- what why answers and leaves in the buffer: "octets past the list stay"
pub record WhyCall : Type 0 where
  pub number : ℕ
  pub step : StepName
  pub count : ℕ
  pub limit : ℕ
  pub shortfall : ℕ
  pub buffer : List ℕ

unfoldable pub refused_why : ℕ → List ℕ → WhyCall
refused_why n buffer = record { number = n; step = no_step; count = 0; limit = 0; shortfall = 0; buffer = buffer }

unfoldable pub explained : List ℕ → Reason → WhyCall
explained buffer r =
    let list = listed_octets r.streams in
    record {
      number = 0;
      step = r.step;
      count = length r.streams;
      limit = r.limit;
      shortfall = r.shortfall;
      buffer = list ++ drop (length list) buffer;
    }

unfoldable pub why_held : Bridge → ℕ → List ℕ → Sought → WhyCall
why_held b p buffer not_held = refused_why 15 buffer
why_held b p buffer (held_as x) = cond (ltb (length buffer) list_size) (refused_why 10 buffer) (explained buffer (reason b (p - 1) x))

unfoldable pub why_on : List ℕ → ℕ → ℕ → List ℕ → WhyCall
why_on t id p buffer =
    let b = decode t in
    cond (not (formed t)) (refused_why 12 buffer)
    (cond (wrong_port b.settings p) (refused_why 1 buffer)
    (why_held b p buffer (seek id b.streams)))

-- Frames of both protocols: "MMRP frames belong to demand 3's frames".

pub data Frame : Type 0 where
  msrp mmrp : (pdu : List ℕ) → Frame

abbrev pub pdu_of : Frame → List ℕ
pdu_of (msrp pdu) = pdu
pdu_of (mmrp pdu) = pdu

unfoldable pub receive_frame : Bridge → ℕ → Frame → Answer
receive_frame b p (msrp pdu) = receive b p pdu
receive_frame b p (mmrp pdu) = receive_mmrp b p pdu

unfoldable pub receive_frame_on : List ℕ → ℕ → Frame → Call
receive_frame_on t p (msrp pdu) = receive_on t p pdu
receive_frame_on t p (mmrp pdu) = receive_mmrp_on t p pdu

-- handed over one after another, each with its port: the answers with their ports, and the table they leave
unfoldable pub answers_on : List (ℕ × Frame) → List ℕ → List (ℕ × ℕ)
answers_on [] t = []
answers_on (a ∷ f) t = (a.0, (receive_frame_on t a.0 a.1).number) ∷ answers_on f (receive_frame_on t a.0 a.1).table

unfoldable pub after_on : List (ℕ × Frame) → List ℕ → List ℕ
after_on [] t = t
after_on (a ∷ f) t = after_on f (receive_frame_on t a.0 a.1).table

-- the StreamIDs that well-formed frames ask to join
unfoldable pub asked_by : Settings → ℕ → Frame → List ℕ
asked_by st p (msrp pdu) = asks (reading st p pdu)
asked_by st p (mmrp pdu) = []

unfoldable pub asked : Settings → List (ℕ × Frame) → List ℕ
asked st [] = []
asked st (a ∷ f) = asked_by st a.0 a.1 ++ asked st f

-- the addresses that well-formed frames on port p ask to join
unfoldable pub addresses_by : Settings → ℕ → Frame → List ℕ
addresses_by st p (msrp pdu) = []
addresses_by st p (mmrp pdu) = asks_addresses (address_reading st p pdu)

unfoldable pub asked_addresses : Settings → ℕ → List Frame → List ℕ
asked_addresses st p [] = []
asked_addresses st p (x ∷ f) = addresses_by st p x ++ asked_addresses st p f
