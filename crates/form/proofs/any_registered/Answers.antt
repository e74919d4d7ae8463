use Rattle.std.proofs.Common.{rules, arith, ap, ◌∙◌, ◌≡◌, List, ℕ, take, drop, get_or}
use Rattle.std.proofs.lemmas.Iterator.{YieldsList-from_slice}
use Rattle.std.proofs.lemmas.Iterator.Search.{any_from_yields_List}
use lib.ListN.{length-drop}
use lib.Seq.{take_all}
use Rattle.model.specs.Layout.{in_table, record_size, records_size}
use Rattle.model.specs.Lists.{parts}
use Rattle.model.specs.Table.{any_holds, cells_part, holds, count_field, records_part}
use Rattle.form.proofs.Parts.{same, any-records}
use Rattle.form.proofs.any_registered.Goals as goal

pub returns : goal.returns
unfolding count_field records_part
returns c =
    let t = c.args.table.now in
    let n = get_or t in_table.count 0 in
    let test = λ (r : List ℕ). holds c.args.ports (cells_part r) in
    let all : take records_size (drop in_table.records t) ≡ drop in_table.records t = take_all records_size (drop in_table.records t) (omega (arith, length-drop in_table.records t)) in
    any_from_yields_List test _ _ _ c.any.ensures.ran (YieldsList-from_slice (parts record_size same n (take records_size (drop in_table.records t))) (c.iter.ensures.rest ∙ c.split_parts.ensures.parts)) (λ x b q k. search rules)
    ∙ any-records c.args.ports n (take records_size (drop in_table.records t))
    ∙ ap (any_holds c.args.ports n) all
