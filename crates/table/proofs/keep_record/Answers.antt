use Rattle.std.proofs.Common.{◌∙◌, ◌+◌, arith}
use Rattle.octets.proofs.Patches.{copied_within}
use Rattle.model.specs.Layout.{record_place, record_size}
use Rattle.table.specs.Octets.{record_kept}
use Rattle.table.proofs.Dropping.{kept_there}
use Rattle.table.proofs.keep_record.Goals as goal

pub returns-then-j-i : goal.returns-then-j-i
unfolding record_kept
returns-then-j-i c =
    let a = c.args in
    c.copy_within.ensures.after
    ∙ copied_within (record_place a.i) (record_place a.i + record_size) (record_place a.j) record_size a.table.now (omega arith)

pub returns-else-j-i : goal.returns-else-j-i
returns-else-j-i c = kept_there _ _ _ (omega arith)
