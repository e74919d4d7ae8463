use Rattle.std.proofs.Common.{refl, [], ◌∷◌, arith}
use Rattle.octets.specs.Fields.{width}
use Rattle.columns.specs.Answers.{talker_number, column_widths}
use Rattle.columns.proofs.ResultFields.{puts, puts-packed}
use Rattle.columns.proofs.store_column.Goals as goal

pub returns : goal.returns
unfolding puts width
returns c =
    let a = c.args in
    rw (c.put-4.ensures, c.put-3.ensures, c.put-2.ensures, c.put.ensures, c.talker_number.ensures)
    (puts-packed column_widths (talker_number a.talker ∷ a.latency ∷ a.bridge ∷ a.code ∷ []) refl 0 a.res.now (omega arith))
