-- No sheet of 65,536 octets is longer than the text that srpsheet has for it, so that all of it is put. Assumes nothing.
use Prim.Native.Nat.{ℕ, zero, suc, ◌+◌, ◌*◌, ◌/◌, ◌%◌, ◌≤◌, ◌<◌}
use mathlib.Core.Path.{◌≡◌, refl}
use mathlib.Core.Bool.{Bool, true, false}
use mathlib.Core.List.{List, [], ◌∷◌, ◌++◌}
use native.Mathlib.Nat.{suc-mul}
use native.Mathlib.Omega.{arith}
use lib.ListN.{length, get_or, take, drop, length-append, length-drop}
use lib.Dec.{ltb, eqb}
use borrow.Author.Tests.{eqb-true, eqb-false}
use Rattle.octets.specs.Pick.{pick}
use Rattle.octets.proofs.Pick.{pick-keeps}
use Rattle.io.specs.Digits.{hex_digit_ascii, last_digits}
use Rattle.model.specs.State.{Entry, no_entry, filters, forwards, asking_failed, ready, ready_failed, Declared, nothing, tells}
use Rattle.model.specs.Reports.{ColumnWord, none_word, advertise_word, failed_word, Report}
use Rattle.model.specs.Table.{ports_field}
use Rattle.model.specs.Calls.{report_on}
use Rattle.console.specs.Text.{decimal_in}
use Rattle.console.specs.Words.{column_text, listener_text, entry_text, shown_text}
use Rattle.console.proofs.Laws.{put_whole}
use Rattle.sheets.specs.Lines.{class_text, classes_text, port_text, port_line, stream_text, stream_line, refused_line, stop_line}
use Rattle.sheets.specs.Records.{Record, frame, time, stop, record_of, size_of, records_from, records_of, called, answer_text, record_text, table_after, records_text, settings_length}
use Rattle.sheets.specs.Sheet.{lines, port_lines, stream_on_ports, stream_lines, report_lines, printed, started_by, sheet_text, input_octets, text_octets}
use Rattle.sheets.specs.Promises.{Printed}
use Rattle.sheets.proofs.Reading.{ports-few, size-within, records-none, records-stop, records-more}
use Rattle.sheets.proofs.Counting.{count-few}

positive : (n : ℕ) → (n ≡ 0 → ⊥) → 0 < n
positive zero h = absurd (h refl)
positive (suc n) h = omega arith

-- Numbers and words.

length-decimal : (k n : ℕ) → length (decimal_in k n) ≤ k
unfolding decimal_in
length-decimal zero n = omega arith
length-decimal (suc k) n =
    let front = pick (ltb n 10) [] (decimal_in k (n / 10)) in
    let short : length front ≤ k = pick-keeps (λ (l : List ℕ). length l ≤ k) (ltb n 10) [] (decimal_in k (n / 10)) (omega arith) (length-decimal k (n / 10)) in
    omega (arith, length-append front (hex_digit_ascii (n % 10) ∷ []))

length_digits : (b k n : ℕ) → length (last_digits b k n) ≡ k
length_digits b zero n = refl
length_digits b (suc k) n = omega (arith, length-append (last_digits b k (n / b)) (hex_digit_ascii (n % b) ∷ []), length_digits b k (n / b))

column-short : (w : ColumnWord) → length (column_text w) ≤ 9
unfolding column_text
column-short none_word = omega arith
column-short advertise_word = omega arith
column-short failed_word = omega arith

listener-short : (l : Declared) → length (listener_text l) ≤ 11
unfolding listener_text
listener-short nothing = omega arith
listener-short (tells asking_failed) = omega arith
listener-short (tells ready) = omega arith
listener-short (tells ready_failed) = omega arith

entry-short : (e : Entry) → length (entry_text e) ≤ 7
unfolding entry_text
entry-short no_entry = omega arith
entry-short filters = omega arith
entry-short forwards = omega arith

-- Lines.

port-short : (p : ℕ) (r : Report) → length (port_line p r) ≤ 114
unfolding port_line port_text classes_text class_text
port-short p r =
    simp length-append
    (omega (arith, length-decimal 20 p, length-decimal 20 r.total_a, length-decimal 20 r.limit_a, length-decimal 20 r.total_b, length-decimal 20 r.limit_b))

shown-short : (r : Report) → length (shown_text r.column r.code r.listener r.entry) ≤ 51
unfolding shown_text
shown-short r =
    simp length-append
    (omega (arith, column-short r.column, length-decimal 20 r.code, listener-short r.listener, entry-short r.entry))

stream-short : (p : ℕ) (r : Report) → length (stream_line p r) ≤ 89
unfolding stream_line stream_text
stream-short p r = simp length-append (omega (arith, length_digits 16 16 r.id, length-decimal 20 p, shown-short r))

refused-short : (n : ℕ) → length (refused_line n) ≤ 29
unfolding refused_line
refused-short n = simp length-append (omega (arith, length-decimal 20 n))

answer-short : (n : ℕ) → length (answer_text n) ≤ 29
unfolding answer_text
answer-short n = pick-keeps (λ (l : List ℕ). length l ≤ 29) (eqb n 0) [] (refused_line n) (omega arith) (refused-short n)

lines-short : (line : ℕ → List ℕ) (m : ℕ) → ((k : ℕ) → length (line k) ≤ m) → (n : ℕ) → length (lines line n) ≤ n * m
unfolding lines
lines-short line m h zero = omega arith
lines-short line m h (suc n) = omega (arith, length-append (lines line n) (line n), h n, lines-short line m h n, suc-mul n m)

-- What is printed for records: at most 29 octets for each three that are read, and the last line.

-- the first record, where those behind it are so
module _ (f : ℕ) (behind : (s t : List ℕ) → 3 * length (records_text (records_from f s) t) ≤ 29 * length s + 15) (s t : List ℕ) (some : 0 < length s) where
  answered-short : (r : Record) → record_of s ≡ r → 3 ≤ size_of r → record_text r (called r t).number ≡ answer_text (called r t).number
      → 3 * length (records_text (records_from (suc f) s) t) ≤ 29 * length s + 15
  unfolding records_text
  answered-short r e long answered =
      let rest = behind (drop (size_of r) s) (called r t).table in
      let within : size_of r ≤ length s = rw e at (size-within s) in
      rw (records-more f s some r e (λ z. omega arith), answered)
      (simp length-append (omega (arith, answer-short (called r t).number, rest, length-drop (size_of r) s)))

  record-short : (r : Record) → record_of s ≡ r → 3 * length (records_text (records_from (suc f) s) t) ≤ 29 * length s + 15
  record-short (frame p pdu) e = answered-short (frame p pdu) e (unfold size_of in omega arith) (unfold record_text in refl)
  record-short (time now) e = answered-short (time now) e (unfold size_of in omega arith) (unfold record_text in refl)
  record-short stop e = rw (records-stop f s some e) (unfold records_text record_text stop_line in omega arith)

records-short : (f : ℕ) (s t : List ℕ) → 3 * length (records_text (records_from f s) t) ≤ 29 * length s + 15
records-short zero s t = unfold records_from records_text in omega arith
records-short (suc f) s t = go (eqb (length s) 0) refl (λ h. record-short f (records-short f) s t h (record_of s) refl)
  where
    go : (b : Bool) → eqb (length s) 0 ≡ b → (0 < length s → 3 * length (records_text (records_from (suc f) s) t) ≤ 29 * length s + 15)
        → 3 * length (records_text (records_from (suc f) s) t) ≤ 29 * length s + 15
    go true e next = rw (records-none (suc f) s (eqb-true (length s) 0 e)) (unfold records_text in omega arith)
    go false e next = next (positive (length s) (eqb-false (length s) 0 e))

-- The sheet.

module _ (table : List ℕ) where
  ports-short : (n : ℕ) → n ≤ 15 → length (port_lines table n) ≤ 1710
  unfolding port_lines
  ports-short n h =
      omega (arith, lines-short (λ p. port_line (p + 1) (report_on table (p + 1) 0)) 114 (λ p. port-short (p + 1) (report_on table (p + 1) 0)) n)

  on-ports-short : (n place : ℕ) → n ≤ 15 → length (stream_on_ports table n place) ≤ 1335
  unfolding stream_on_ports
  on-ports-short n place h =
      omega (arith, lines-short (λ p. stream_line (p + 1) (report_on table (p + 1) place)) 89 (λ p. stream-short (p + 1) (report_on table (p + 1) place)) n)

  streams-short : (n : ℕ) → n ≤ 15 → length (stream_lines table n) ≤ 85440
  unfolding stream_lines
  streams-short n h =
      omega (arith, lines-short (stream_on_ports table n) 1335 (λ place. on-ports-short n place h) (report_on table 1 0).count, count-few table 1 0)

  report-short : (n : ℕ) → n ≤ 15 → length (report_lines table n) ≤ 87150
  unfolding report_lines
  report-short n h = simp length-append (omega (arith, ports-short n h, streams-short n h))

module _ (table input : List ℕ) (octets : (i : ℕ) → get_or input i 0 < 256) (short : length input ≤ input_octets) where
  called-short : (t : List ℕ) → length (records_text (records_of (drop (settings_length input) input)) t) ≤ 633520
  unfolding records_of
  called-short t =
      let rest = drop (settings_length input) input in
      omega (arith, records-short (length rest) rest t, length-drop (settings_length input) input)

  pub sheet-short : length (sheet_text table input) ≤ text_octets
  unfolding sheet_text printed
  sheet-short =
      let start = started_by table input in
      let records = records_of (drop (settings_length input) input) in
      let t = table_after records start.table in
      let n = ports_field input in
      let few = ports-few input octets in
      pick-keeps (λ (l : List ℕ). length l ≤ text_octets) (eqb start.number 0)
      (records_text records start.table ++ report_lines t n) stop_line
      (simp length-append (omega (arith, called-short start.table, report-short t n few)))
      (unfold stop_line in omega arith)

  -- what is put in front of such a text is the sheet, whole
  pub sheet-whole : {text table_exit text_exit : List ℕ} {end : ℕ} → Printed table input text end table_exit text_exit → text_octets ≤ length text
      → take end text_exit ≡ sheet_text table input
  sheet-whole p room = put_whole p.text_is (omega (arith, sheet-short))
