-- What a report shows is what stands in the table: a port's totals and limits, and a stream's result.
use Prim.Native.Nat.{ℕ, ◌+◌, ◌-◌, ◌≤◌, ◌<◌}
use native.Mathlib.Omega.{arith}
use mathlib.Core.Path.{◌≡◌, refl, sym, ap, ◌∙◌}
use mathlib.Core.List.{List}
use lib.ListN.{length, get_or, get_or-replicate, get_or-eq_default}
use borrow.Author.Tests.{le-ltb}
use Rattle.octets.specs.Be.{be_at}
use Rattle.octets.specs.Fields.{fields}
use Rattle.std.specs.Prelude.{Result as Answered, Ok, Err}
use Rattle.std.specs.Result.{ResultUnwrapsOrElse}
use Rattle.model.specs.Numbers.{answer_number}
use Rattle.model.specs.declared.refusal.Refusal.{Refusal}
use Rattle.model.specs.Layout.{in_result, in_port, in_totals}
use Rattle.model.specs.State.{Port, Column, none, advertise, failed, Result, Totals, Bridge, result_at, stream_at, unsettled, fresh}
use Rattle.model.specs.Reports.{refused_report, word_of, code_of, report}
use Rattle.model.specs.Table.{port_from, to_port, column_number, column_code, to_column, to_entry, to_declared, to_totals}
use Rattle.model.proofs.Results.{entry-back, declared-back}
use Rattle.table.specs.Reads.{ReadsResult, ReadsPort, ReadsTotals}
use Rattle.table.proofs.ReadOctets.{column-octet, code-octet, entry-octet, declared-octet}
use Rattle.reports.specs.declared.ColumnShown.TheVariants as column
use Rattle.reports.specs.declared.ListenerShown.TheVariants as listener
use Rattle.reports.specs.declared.EntryShown.TheVariants as entry
use Rattle.reports.specs.declared.StreamShown.{StreamShown}
use Rattle.reports.specs.declared.PortShown.{PortShown}
use Rattle.reports.specs.declared.Reported.{Reported}
use Rattle.reports.specs.Shown.{column_word, declared, entered, shown, answered, ShowsStream, ShowsPort}

-- A stream's result.

word_back : (c : Column) → word_of (to_column (column_number c) 0 0) ≡ word_of c
unfolding word_of to_column column_number
word_back none = refl
word_back advertise = refl
word_back (failed b c) = refl

code-back : (c : Column) → column_code c ≡ code_of c
unfolding column_code code_of
code-back none = refl
code-back advertise = refl
code-back (failed b c) = refl

module _ {s : List ℕ} {r : Result} (w : ReadsResult s r) where
  pub column-shown : word_of (to_column (get_or s 0 0) 0 0) ≡ word_of r.column
  column-shown = ap (λ (n : ℕ). word_of (to_column n 0 0)) (column-octet w) ∙ word_back r.column

  pub code-shown : get_or s in_result.code 0 ≡ code_of r.column
  code-shown = code-octet w ∙ code-back r.column

  pub entry-shown : to_entry (get_or s in_result.entry 0) ≡ r.entry
  entry-shown = ap to_entry (entry-octet w) ∙ entry-back r.entry

  pub listener-shown : to_declared (get_or s in_result.declared 0) ≡ r.declares
  listener-shown = ap to_declared (declared-octet w) ∙ declared-back r.declares

-- A port's totals and limits.

module _ {s : List ℕ} {t : Totals} (w : ReadsTotals s t) where
  pub total-a-shown : be_at 5 s 0 ≡ t.total_a
  unfolding to_totals
  total-a-shown = ap (λ (u : Totals). u.total_a) w.is

  pub total-b-shown : be_at 6 s in_totals.total_b ≡ t.total_b
  unfolding to_totals
  total-b-shown = ap (λ (u : Totals). u.total_b) w.is

module _ {s : List ℕ} {q : Port} (w : ReadsPort s q) where
  pub limit-a-shown : be_at 5 s in_port.limit_a ≡ q.limit_a
  unfolding to_port port_from fields
  limit-a-shown = ap (λ (u : Port). u.limit_a) w.is

  pub limit-b-shown : be_at 5 s in_port.limit_b ≡ q.limit_b
  unfolding to_port port_from fields
  limit-b-shown = ap (λ (u : Port). u.limit_b) w.is

-- Past the last stream nothing is shown.

no_result : (p : ℕ) → p < 8 → result_at (fresh 0) p ≡ unsettled
unfolding result_at fresh
no_result p h = get_or-replicate 8 p unsettled unsettled h

pub nothing-shown : (b : Bridge) (place p : ℕ) (x : StreamShown) → length b.streams ≤ place → p < 8
    → x.id ≡ 0 × (x.column ≡ column.None × (x.code ≡ 0 × (x.listener ≡ listener.None × x.entry ≡ entry.None))) → ShowsStream (stream_at place b) p x
unfolding column_word word_of code_of declared entered unsettled
nothing-shown b place p x e h d =
    rw (get_or-eq_default b.streams (fresh 0) e)
    record {
      id = unfold fresh in d.0;
      column = ap column_word d.1.0 ∙ ap (λ (r : Result). word_of r.column) (sym (no_result p h));
      code = d.1.1.0 ∙ ap (λ (r : Result). code_of r.column) (sym (no_result p h));
      listener = ap declared d.1.1.1.0 ∙ ap (λ (r : Result). r.declares) (sym (no_result p h));
      entry = ap entered d.1.1.1.1 ∙ ap (λ (r : Result). r.entry) (sym (no_result p h));
    }

-- The whole report.
pub report-shown : (b : Bridge) (p place n : ℕ) (q : PortShown) (x : StreamShown) → place ≤ length b.streams → n ≡ length b.streams
    → ShowsPort b p q → ShowsStream (stream_at place b) p x → shown record { count = n; port = q; stream = x } ≡ report b (p + 1) place
unfolding shown report
report-shown b p place n q x few e port stream =
    let i : p + 1 - 1 ≡ p = omega arith in
    rw (
      i,
      le-ltb (length b.streams) place few,
      e,
      port.total_a,
      port.limit_a,
      port.total_b,
      port.limit_b,
      stream.id,
      stream.column,
      stream.code,
      stream.listener,
      stream.entry,
    )

-- A report of nothing shows what a refused one does.
pub shown-nothing : (r : Reported) → r.count ≡ 0
    → (r.port.a.total ≡ 0 × r.port.a.limit ≡ 0) × (r.port.b.total ≡ 0 × r.port.b.limit ≡ 0)
    → r.stream.id ≡ 0 × (r.stream.column ≡ column.None × (r.stream.code ≡ 0 × (r.stream.listener ≡ listener.None × r.stream.entry ≡ entry.None)))
    → shown r ≡ refused_report 0
unfolding shown refused_report column_word declared entered
shown-nothing r n p s = rw (n, p.0.0, p.0.1, p.1.0, p.1.1, s.0, s.1.0, s.1.1.0, s.1.1.1.0, s.1.1.1.1)

-- What is answered, by the parts of the report, or of one of nothing.
pub answered-parts : (D : Reported → Type 0) (a : Answered Reported Refusal) (r : Reported) → ((v : Reported) → D v → shown v ≡ refused_report 0)
    → ResultUnwrapsOrElse a D r → answered a ≡ record (shown r) { number = answer_number a }
unfolding answered
answered-parts D (Ok v) r d u = unfold shown in rw u
answered-parts D (Err e) r d u = rw (d r u) (unfold refused_report in refl)
