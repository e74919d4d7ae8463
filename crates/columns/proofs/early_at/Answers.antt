use Rattle.table.proofs.ByPlace.{stands, stands_on}
use Rattle.columns.proofs.EarlyTables.{result-written}
use Rattle.columns.proofs.early_at.Goals as goal

pub returns : goal.returns
returns c =
    let pre = c.requires in
    result-written (stands_on (stands pre.0.talker.stands) _ pre.1) _ _ _ _ _ _ _ c.result_in-r.ensures.0 c.early_column-column.ensures
    c.latency_out-latency.ensures c.cell_at.ensures c.from_octet-listener.ensures c.write_result.ensures
