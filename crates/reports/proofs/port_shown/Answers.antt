-- Each part is read from the port's totals or its settings.
use Rattle.std.proofs.Common.{◌∙◌}
use Rattle.reports.proofs.Showing.{total-a-shown, limit-a-shown, total-b-shown, limit-b-shown}
use Rattle.reports.proofs.port_shown.Goals as goal

pub returns : goal.returns
returns c =
    let totals = c.totals_at-totals.ensures in
    let port = c.port_at-port.ensures in
    record {
      total_a = c.get.ensures.0 ∙ total-a-shown totals;
      limit_a = c.get-2.ensures.0 ∙ limit-a-shown port;
      total_b = c.get-3.ensures.0 ∙ total-b-shown totals;
      limit_b = c.get-4.ensures.0 ∙ limit-b-shown port;
    }
