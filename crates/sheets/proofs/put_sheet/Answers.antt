-- Refused settings, or the records and the report.
use Rattle.std.proofs.Common.{sym, rules}
use Rattle.sheets.proofs.Sheets.{sheet-refused, sheet-accepted, lent, refused-number, accepted-number}
use Rattle.sheets.proofs.put_sheet.Goals as goal

pub returns-then-is_err : goal.returns-then-is_err
returns-then-is_err c =
    lent
    (sheet-refused _ _ _ _ _ c.settings_length.ensures.0 (rw c.split_at.ensures.front at c.start.ensures) c.new-text.ensures.empty
    (refused-number _ (sym c.if-is_err.ensures.value)) c.put_stop.ensures)
    c.new-text.ensures.octets c.len.ensures (search rules)

pub returns : goal.returns
returns c =
    lent
    (sheet-accepted _ _ _ _ _ c.settings_length.ensures.0 (rw c.split_at.ensures.front at c.start.ensures) c.new-text.ensures.empty
    (accepted-number _ (sym c.if-is_err.ensures.value)) c.ports_field.ensures.0 (rw c.split_at.ensures.back at c.call_all.ensures) c.put_report.ensures)
    c.new-text.ensures.octets c.len-2.ensures (search rules)
