-- A report as the code answers it, in the words of the definitions, and what each step of it shows.
use Rattle.std.specs.Prelude.{◌≡◌, List, ℕ, ◌≤◌, ◌<◌, length, Result, Ok, Err}
use Rattle.model.specs.State.{Entry, no_entry, filters, forwards, asking_failed, ready, ready_failed, Declared, nothing, tells, Stream, Bridge, port_at, result_at, totals_at}
use Rattle.model.specs.Reports.{ColumnWord, none_word, advertise_word, failed_word, Report, refused_report, word_of, code_of}
use Rattle.model.specs.Numbers.{refusal_number}
use Rattle.model.specs.declared.refusal.Refusal.{Refusal}
use Rattle.model.specs.Table.{decode}
use Rattle.model.specs.Laid.{Laid}
use Rattle.reports.specs.declared.ColumnShown.{ColumnShown}
use Rattle.reports.specs.declared.ColumnShown.TheVariants as column
use Rattle.reports.specs.declared.ListenerShown.{ListenerShown}
use Rattle.reports.specs.declared.ListenerShown.TheVariants as listener
use Rattle.reports.specs.declared.EntryShown.{EntryShown}
use Rattle.reports.specs.declared.EntryShown.TheVariants as entry
use Rattle.reports.specs.declared.StreamShown.{StreamShown}
use Rattle.reports.specs.declared.PortShown.{PortShown}
use Rattle.reports.specs.declared.Reported.{Reported}

unfoldable pub column_word : ColumnShown → ColumnWord
column_word column.None = none_word
column_word column.Advertise = advertise_word
column_word column.Failed = failed_word

unfoldable pub declared : ListenerShown → Declared
declared listener.None = nothing
declared listener.AskingFailed = tells asking_failed
declared listener.Ready = tells ready
declared listener.ReadyFailed = tells ready_failed

unfoldable pub entered : EntryShown → Entry
entered entry.None = no_entry
entered entry.Filter = filters
entered entry.Forward = forwards

unfoldable pub shown : Reported → Report
shown r = record {
  number = 0;
  count = r.count;
  total_a = r.port.a.total;
  limit_a = r.port.a.limit;
  total_b = r.port.b.total;
  limit_b = r.port.b.limit;
  id = r.stream.id;
  column = column_word r.stream.column;
  code = r.stream.code;
  listener = declared r.stream.listener;
  entry = entered r.stream.entry;
}

-- a report, or why there is none: zeros or none beside the number
unfoldable pub answered : Result Reported Refusal → Report
answered (Ok r) = shown r
answered (Err e) = refused_report (refusal_number e)

-- what is shown of a stream on port p
pub record ShowsStream (x : Stream) (p : ℕ) (r : StreamShown) : Type 0 where
  pub id : r.id ≡ x.id
  pub column : column_word r.column ≡ word_of (result_at x p).column
  pub code : r.code ≡ code_of (result_at x p).column
  pub listener : declared r.listener ≡ (result_at x p).declares
  pub entry : entered r.entry ≡ (result_at x p).entry

-- what is shown of that port
pub record ShowsPort (b : Bridge) (p : ℕ) (r : PortShown) : Type 0 where
  pub total_a : r.a.total ≡ (totals_at p b).total_a
  pub limit_a : r.a.limit ≡ (port_at b.settings p).limit_a
  pub total_b : r.b.total ≡ (totals_at p b).total_b
  pub limit_b : r.b.limit ≡ (port_at b.settings p).limit_b

-- a report's port and place: the place is one of a stream, or the next
pub record ReportIn (t : List ℕ) (p place : ℕ) : Type 0 where
  pub laid : Laid t
  pub port : p < 8
  pub within : place ≤ length (decode t).streams
