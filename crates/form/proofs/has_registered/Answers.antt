use Rattle.std.proofs.Common.{ap, ◌∙◌, take, drop}
use Rattle.std.specs.List.{list_any}
use Rattle.octets.specs.Parts.{part}
use Rattle.model.specs.Layout.{cells_size, in_record}
use Rattle.model.specs.Table.{cells_part}
use Rattle.form.specs.Asks.{registers}
use Rattle.form.proofs.Parts.{any-cells}
use Rattle.form.proofs.has_registered.Goals as goal

pub returns : goal.returns
unfolding cells_part part
returns c =
    c.is_registered.ensures
    ∙ ap (list_any registers) c.split_parts.ensures.parts
    ∙ any-cells c.args.ports (take cells_size (drop in_record.cells c.args.rec.now))
