-- The parts of the report, or of one of nothing.
use Rattle.console.proofs.Texts.{puts-append}
use Rattle.reports.specs.Shown.{shown}
use Rattle.reports.proofs.Showing.{shown-nothing, answered-parts}
use Rattle.sheets.specs.Lines.{stream_line}
use Rattle.sheets.proofs.put_stream.Goals as goal

pub returns : goal.returns
unfolding stream_line shown
returns c =
    let parts = answered-parts _ c.report.result _ (λ r d. shown-nothing r d.0 d.1.0 d.1.1) c.unwrap_or_default.ensures in
    rw (← c.report.ensures, parts) (puts-append c.put_stream_number.ensures (puts-append c.put_shown.ensures c.put.ensures))
