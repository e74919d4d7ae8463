-- The parts of the answer, or zeros and none.
use Rattle.reports.proofs.Showing.{shown-nothing, answered-parts}
use Rattle.answers.proofs.put_reported.Goals as goal

pub returns : goal.returns
returns c =
    let parts = answered-parts _ c.args.answer _ (λ r d. shown-nothing r d.0 d.1.0 d.1.1) c.unwrap_or_default.ensures in
    rw (parts, ← c.number_of-number.ensures) c.put_report.ensures
