-- The report counts them, and one of nothing none.
use Rattle.std.proofs.Common.{ap, sym, ◌∙◌, arith}
use Rattle.model.specs.Reports.{Report}
use Rattle.reports.specs.Shown.{shown}
use Rattle.reports.proofs.Showing.{shown-nothing, answered-parts}
use Rattle.sheets.proofs.Counting.{count-few}
use Rattle.sheets.proofs.stream_count.Goals as goal

pub overflow_cast-result : goal.overflow_cast-result
unfolding shown
overflow_cast-result c =
    let parts = answered-parts _ c.report.result _ (λ r d. shown-nothing r d.0 d.1.0 d.1.1) c.unwrap_or_default.ensures in
    omega (arith, ap (λ (r : Report). r.count) (sym parts ∙ c.report.ensures), count-few c.args.table.now 1 0)

pub returns : goal.returns
unfolding shown
returns c =
    let parts = answered-parts _ c.report.result _ (λ r d. shown-nothing r d.0 d.1.0 d.1.1) c.unwrap_or_default.ensures in
    ap (λ (r : Report). r.count) (sym parts ∙ c.report.ensures)
