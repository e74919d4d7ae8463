-- The printed sheet (01): all that srpsheet prints, of all that it reads. Assumes nothing.
use Rattle.std.specs.Prelude.{ℕ, zero, suc, ◌+◌, ◌*◌, List, [], ◌++◌, take, drop, eqb}
use Rattle.octets.specs.Pick.{pick}
use Rattle.model.specs.Table.{ports_field}
use Rattle.model.specs.Calls.{Call, start_on, report_on}
use Rattle.sheets.specs.Lines.{port_line, stream_line, stop_line}
use Rattle.sheets.specs.Records.{settings_length, records_of, table_after, records_text}

-- the lines of 0 to n - 1
unfoldable pub lines : (ℕ → List ℕ) → ℕ → List ℕ
lines line zero = []
lines line (suc n) = lines line n ++ line n

-- "a line per port", 1 to n
unfoldable pub port_lines : List ℕ → ℕ → List ℕ
port_lines t n = lines (λ p. port_line (p + 1) (report_on t (p + 1) 0)) n

-- the lines of the stream at a place, one for each port
unfoldable pub stream_on_ports : List ℕ → ℕ → ℕ → List ℕ
stream_on_ports t n place = lines (λ p. stream_line (p + 1) (report_on t (p + 1) place)) n

-- "then one per stream and within it per port, both ascending"
unfoldable pub stream_lines : List ℕ → ℕ → List ℕ
stream_lines t n = lines (stream_on_ports t n) (report_on t 1 0).count

-- "a line per port follows, .. then one per stream"
unfoldable pub report_lines : List ℕ → ℕ → List ℕ
report_lines t n = port_lines t n ++ stream_lines t n

-- the table that the calls of an input leave, the table and the settings' answer given
unfoldable pub left_by : List ℕ → Call → List ℕ
left_by input start = pick (eqb start.number 0) (table_after (records_of (drop (settings_length input) input)) start.table) start.table

-- "After accepted settings a line per port follows, then one per stream"; "refused settings .. prints `stop`"
unfoldable pub printed : List ℕ → Call → List ℕ
printed input start =
    let records = records_of (drop (settings_length input) input) in
    let t = table_after records start.table in
    pick (eqb start.number 0)
    (records_text records start.table ++ report_lines t (ports_field input))
    stop_line

-- the settings, handed to a table
unfoldable pub started_by : List ℕ → List ℕ → Call
started_by table input = start_on table (take (settings_length input) input)

unfoldable pub sheet_text : List ℕ → List ℕ → List ℕ
sheet_text table input = printed input (started_by table input)

unfoldable pub sheet_table : List ℕ → List ℕ → List ℕ
sheet_table table input = left_by input (started_by table input)

-- "octets past 65,536 aren't read"; and as many as no sheet of these is longer
abbrev pub input_octets : ℕ
input_octets = 65536

abbrev pub text_octets : ℕ
text_octets = 16 * input_octets
