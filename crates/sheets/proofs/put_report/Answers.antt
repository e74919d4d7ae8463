-- The ports, and behind them the streams.
use Rattle.console.proofs.Texts.{puts-append}
use Rattle.sheets.specs.Sheet.{report_lines}
use Rattle.sheets.proofs.put_report.Goals as goal

pub returns : goal.returns
unfolding report_lines
returns c = puts-append c.put_ports.ensures c.put_streams.ensures
