-- The parts of the report, or of one of nothing.
use Rattle.console.proofs.Texts.{puts-append}
use Rattle.reports.specs.Shown.{shown}
use Rattle.reports.proofs.Showing.{shown-nothing, answered-parts}
use Rattle.sheets.specs.Lines.{port_line}
use Rattle.sheets.proofs.put_port.Goals as goal

pub returns : goal.returns
unfolding port_line shown
returns c =
    let parts = answered-parts _ c.report.result _ (λ r d. shown-nothing r d.0 d.1.0 d.1.1) c.unwrap_or_default-report.ensures in
    rw (← c.report.ensures, parts) (puts-append c.put_port_number.ensures c.put_classes.ensures)
