-- What each call promises, for every input: its answer, and what it leaves of table and buffer. The contracts of src/lib.rt cite
-- these, and so do the theorems about the code.
use Rattle.std.specs.Prelude.{◌≡◌, ◌+◌, ◌-◌, List, cond, true, false, ℕ, Result, Ok, Err}
use Rattle.model.specs.declared.refusal.Refusal.{Refusal}
use Rattle.model.specs.Frames.{wrong_port}
use Rattle.model.specs.Table.{formed, decode}
use Rattle.model.specs.Reports.{Report}
use Rattle.model.specs.Calls.{WhyCall, start_on, receive_on, receive_mmrp_on, advance_on, write_on, report_on, why_on}
use Rattle.table.specs.Places.{PortIn}
use Rattle.bridge.specs.declared.Wrote.{Wrote}

-- a table and settings: the number, and the table afterwards
abbrev pub Starts : List ℕ → List ℕ → ℕ → List ℕ → Type 0
Starts table settings number after = (number ≡ (start_on table settings).number) × (after ≡ (start_on table settings).table)

-- a table and a port, before all that a frame says: the number of a table that breaks a form rule, or of a port that the bridge has
-- not, and 0 else
unfoldable pub port_refusal : List ℕ → ℕ → ℕ
port_refusal table port = cond (formed table) (cond (wrong_port (decode table).settings port) 1 0) 12

-- the place of a port that the bridge has, of a table that keeps the form rules
pub record PortFound (table : List ℕ) (port p : ℕ) : Type 0 where
  pub formed : formed table ≡ true
  pub right : wrong_port (decode table).settings port ≡ false
  pub place_is : p ≡ port - 1
  pub next : p + 1 ≡ port
  pub here : PortIn table p

-- a table, a port and a PDU: the number, and the table afterwards
abbrev pub Receives : List ℕ → ℕ → List ℕ → ℕ → List ℕ → Type 0
Receives table port pdu number after = (number ≡ (receive_on table port pdu).number) × (after ≡ (receive_on table port pdu).table)

-- the same of an MMRP PDU
abbrev pub ReceivesMmrp : List ℕ → ℕ → List ℕ → ℕ → List ℕ → Type 0
ReceivesMmrp table port pdu number after = (number ≡ (receive_mmrp_on table port pdu).number) × (after ≡ (receive_mmrp_on table port pdu).table)

-- a table and a time: the number, and the table afterwards
abbrev pub Advances : List ℕ → ℕ → ℕ → List ℕ → Type 0
Advances table time number after = (number ≡ (advance_on table time).number) × (after ≡ (advance_on table time).table)

-- the PDU's length and the next place of a write; 0 where it is refused
abbrev pub length_of : Result Wrote Refusal → ℕ
length_of (Ok w) = w.length
length_of (Err e) = 0

abbrev pub next_of : Result Wrote Refusal → ℕ
next_of (Ok w) = w.next
next_of (Err e) = 0

-- a table, a port, a place and a buffer: the number, the PDU's length, the next place, and the buffer and the table afterwards
pub record Writes (table : List ℕ) (port place : ℕ) (buffer : List ℕ) (number long next : ℕ) (written left : List ℕ) : Type 0 where
  pub number_is : number ≡ (write_on table port place buffer).number
  pub length_is : long ≡ (write_on table port place buffer).length
  pub next_is : next ≡ (write_on table port place buffer).next
  pub buffer_is : written ≡ (write_on table port place buffer).buffer
  pub table_is : left ≡ (write_on table port place buffer).table

-- a table, a port and a place: the report
abbrev pub Reports : List ℕ → ℕ → ℕ → Report → Type 0
Reports table port place answer = answer ≡ report_on table port place

-- a table, a StreamID, a port and a buffer: the answer, with the buffer afterwards
abbrev pub Explains : List ℕ → ℕ → ℕ → List ℕ → WhyCall → Type 0
Explains table id port buffer answer = answer ≡ why_on table id port buffer
