-- The report (01, "What the bridge does").
use Rattle.std.specs.Prelude.{cond, ℕ, ◌-◌, length, ltb}
use Rattle.model.specs.State.{Column, none, advertise, failed, Entry, no_entry, Declared, nothing, Bridge, port_at, result_at, stream_at, totals_at}

-- "the streams held, the port's class totals and limits, and for the stream at that 0-based place by StreamID its
-- ID, column, code, Listener declared there and entry; at place = count these five are zero or none".

-- a column is shown by its word, and its code apart
pub data ColumnWord : Type 0 where
  none_word advertise_word failed_word : ColumnWord

pub record Report : Type 0 where
  pub number : ℕ
  pub count : ℕ
  pub total_a : ℕ
  pub limit_a : ℕ
  pub total_b : ℕ
  pub limit_b : ℕ
  pub id : ℕ
  pub column : ColumnWord
  pub code : ℕ
  pub listener : Declared
  pub entry : Entry

unfoldable pub refused_report : ℕ → Report
refused_report n = record {
  number = n;
  count = 0;
  total_a = 0;
  limit_a = 0;
  total_b = 0;
  limit_b = 0;
  id = 0;
  column = none_word;
  code = 0;
  listener = nothing;
  entry = no_entry;
}

unfoldable pub word_of : Column → ColumnWord
word_of none = none_word
word_of advertise = advertise_word
word_of (failed b c) = failed_word

unfoldable pub code_of : Column → ℕ
code_of none = 0
code_of advertise = 0
code_of (failed b c) = c

unfoldable pub report : Bridge → ℕ → ℕ → Report
report b p place =
    let q = port_at b.settings (p - 1) in
    let t = totals_at (p - 1) b in
    let x = stream_at place b in
    let r = result_at x (p - 1) in
    cond (ltb (length b.streams) place) (refused_report 13)
    record {
      number = 0;
      count = length b.streams;
      total_a = t.total_a;
      limit_a = q.limit_a;
      total_b = t.total_b;
      limit_b = q.limit_b;
      id = x.id;
      column = word_of r.column;
      code = code_of r.column;
      listener = r.declares;
      entry = r.entry;
    }
