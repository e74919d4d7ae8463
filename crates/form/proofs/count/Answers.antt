use Rattle.std.proofs.Common.{◌≡◌, cond, arith, refl, rules}
use Rattle.form.proofs.Parts.{count-more}
use Rattle.form.proofs.count.Goals as goal

pub loop-part-preserved : goal.loop-part-preserved
loop-part-preserved g c =
    let b : c.from-n.result ≡ cond c.test.result 1 0 = search rules in (
      grind arith,
      λ t h.
          let e = count-more t c.args.parts.now c.loop-part.part-index c.part-item.result (omega arith) in
          let k = c.loop-part.invariant.1 t h in
          let r = h _ _ record { shown = _; shows = refl; says = record { met = c.test.ensures } } in
          cc,
    )
