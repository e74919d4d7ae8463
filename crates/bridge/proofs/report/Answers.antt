-- The tests, way by way.
use Rattle.std.proofs.Common.{sym, ap, ◌∙◌, ℕ}
use Rattle.std.proofs.lemmas.Result.{err_from_is_err_and}
use Rattle.model.specs.Reports as model
use Rattle.model.specs.Table.{decode}
use Rattle.reports.specs.Shown.{answered}
use Rattle.bridge.proofs.OnTables.{not-accepted}
use Rattle.bridge.proofs.Reading.{report-refused, report-above, report-done}
use Rattle.bridge.proofs.report.Goals as goal

pub returns-in_err-p : goal.returns-in_err-p
unfolding answered
returns-in_err-p c =
    let p = err_from_is_err_and c.from_residual.result c.from_residual.ensures.1 in
    rw (p.1, p.2) (sym (report-refused _ _ _ _ c.in_err-p.ensures (not-accepted _)))

pub returns-then-count-place : goal.returns-then-count-place
unfolding answered
returns-then-count-place c =
    let v = c.in_ok-p.ensures in
    sym (report-above _ _ _ v.formed v.right (rw c.count.ensures.0 at c.if-count-place.true))

pub returns : goal.returns
unfolding answered
returns c =
    let v = c.in_ok-p.ensures in
    c.report_at.ensures
    ∙ ap (λ (p : ℕ). model.report (decode c.args.table.now) p c.args.place) v.next
    ∙ sym (report-done _ _ _ v.formed v.right)
