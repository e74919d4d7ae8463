use Rattle.std.proofs.Common.{arith, refl}
use Rattle.std.proofs.lemmas.List.Folds.{list_all_more}
use Rattle.form.proofs.every.Goals as goal

pub loop-part-preserved : goal.loop-part-preserved
loop-part-preserved g c = λ test h.
    let e = list_all_more test c.args.parts.now c.loop-part.part-index c.part-item.result (omega arith) in
    let k = c.loop-part.invariant test h in
    let r = h _ _ record { shown = _; shows = refl; says = record { met = c.rule-ok.ensures } } in
    cc
