use Rattle.model.specs.Listeners.{declared_of}
use Rattle.columns.specs.Answers.{column_shown}
use Rattle.columns.proofs.ResultFields.{result-put}
use Rattle.columns.proofs.write_result.Goals as goal

pub returns : goal.returns
returns c =
    let a = c.args in
    rw (c.write_entry.ensures, c.write_column.ensures)
    (result-put (column_shown a.column) a.latency (declared_of a.listener) a.time _ _ a.res.now c.requires c.entry_of-entry.ensures
    c.age_of-age.ensures.0)
