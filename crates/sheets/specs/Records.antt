-- What srpsheet reads (01, "The printed sheet"): settings, then records; what the calls of the records leave, and what is printed for
-- them. Assumes nothing.
use Rattle.std.specs.Prelude.{ℕ, zero, suc, ◌+◌, ◌/◌, ◌%◌, min, List, [], ◌∷◌, ◌++◌, length, get_or, drop, eqb, ltb}
use Rattle.octets.specs.Be.{be_at}
use Rattle.octets.specs.Parts.{part}
use Rattle.octets.specs.Pick.{pick}
use Rattle.model.specs.Layout.{port_place}
use Rattle.model.specs.Table.{ports_field}
use Rattle.model.specs.Calls.{Call, receive_on, advance_on}
use Rattle.sheets.specs.Lines.{refused_line, stop_line}

-- "settings, as long as their ports field says or what there is"
unfoldable pub settings_length : List ℕ → ℕ
settings_length input = min (port_place (ports_field input)) (length input)

-- a record: a PDU on a port, a time, or what ends the reading
pub data Record : Type 0 where
  frame : (port : ℕ) (pdu : List ℕ) → Record
  time : (now : ℕ) → Record
  stop : Record

-- "Octet 1p (hex): PDU on port p, 16-bit length, octets."
unfoldable pub frame_of : List ℕ → Record
frame_of s = pick (ltb (length s) (3 + be_at 2 s 1)) stop (frame (get_or s 0 0 % 16) (part 3 (be_at 2 s 1) s))

-- "Octet 20: advance, 32-bit time."
unfoldable pub time_of : List ℕ → Record
time_of s = pick (ltb (length s) 5) stop (time (be_at 4 s 1))

-- the record in front: "another octet or a cut record" ends the reading
unfoldable pub record_of : List ℕ → Record
record_of s = pick (eqb (get_or s 0 0 / 16) 1) (frame_of s) (pick (eqb (get_or s 0 0) 32) (time_of s) stop)

-- the octets that it takes
unfoldable pub size_of : Record → ℕ
size_of (frame p pdu) = 3 + length pdu
size_of (time now) = 5
size_of stop = 0

-- a record, and those behind it
unfoldable pub followed : Record → List Record → List Record
followed (frame p pdu) l = frame p pdu ∷ l
followed (time now) l = time now ∷ l
followed stop l = stop ∷ []

-- all records, at most so many
unfoldable pub records_from : ℕ → List ℕ → List Record
records_from zero s = []
records_from (suc f) s = pick (eqb (length s) 0) [] (followed (record_of s) (records_from f (drop (size_of (record_of s)) s)))

-- no record takes no octet, but the last
unfoldable pub records_of : List ℕ → List Record
records_of s = records_from (length s) s

-- the call of a record
unfoldable pub called : Record → List ℕ → Call
called (frame p pdu) t = receive_on t p pdu
called (time now) t = advance_on t now
called stop t = record { number = 0; table = t }

-- what is printed for it, where it gave a number back: nothing for one that was accepted
unfoldable pub answer_text : ℕ → List ℕ
answer_text number = pick (eqb number 0) [] (refused_line number)

unfoldable pub record_text : Record → ℕ → List ℕ
record_text (frame p pdu) number = answer_text number
record_text (time now) number = answer_text number
record_text stop number = stop_line

-- the table after the records
unfoldable pub table_after : List Record → List ℕ → List ℕ
table_after [] t = t
table_after (r ∷ l) t = table_after l (called r t).table

-- and what is printed for them
unfoldable pub records_text : List Record → List ℕ → List ℕ
records_text [] t = []
records_text (r ∷ l) t = record_text r (called r t).number ++ records_text l (called r t).table
