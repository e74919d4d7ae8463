-- The parts are those of the report.
use Rattle.model.specs.Table.{decode}
use Rattle.reports.proofs.Showing.{report-shown}
use Rattle.reports.proofs.report_at.Goals as goal

pub returns : goal.returns
returns c =
    report-shown (decode c.args.table.now) c.args.p c.args.place _ _ _ c.requires.within c.count.ensures.0 c.port_shown.ensures
    c.stream_at.ensures
