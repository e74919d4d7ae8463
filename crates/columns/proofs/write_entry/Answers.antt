use Rattle.std.proofs.Common.{refl, [], ◌∷◌, arith}
use Rattle.octets.specs.Fields.{width}
use Rattle.model.specs.Layout.{in_result}
use Rattle.model.specs.Table.{entry_number}
use Rattle.columns.specs.Answers.{entry_shown, entry_widths}
use Rattle.columns.proofs.ResultFields.{puts, puts-packed}
use Rattle.columns.proofs.write_entry.Goals as goal

pub returns : goal.returns
unfolding puts width
returns c =
    let a = c.args in
    rw (c.put-3.ensures, c.put-2.ensures, c.put.ensures, c.entry_number.ensures)
    (puts-packed entry_widths (entry_number (entry_shown a.entry) ∷ a.age ∷ 0 ∷ []) refl in_result.entry a.res.now (omega arith))
