-- The numbers, the StreamID, and what is shown.
use Rattle.console.proofs.Texts.{puts-append}
use Rattle.reports.specs.Shown.{shown}
use Rattle.answers.specs.Lines.{reported_text}
use Rattle.answers.proofs.put_report.Goals as goal

pub returns : goal.returns
unfolding reported_text shown
returns c =
    let id = puts-append c.put.ensures c.put_id.ensures in
    puts-append (puts-append c.put_numbers.ensures id) c.put_shown.ensures
