use Rattle.std.proofs.Common.{◌≡◌, ◌<◌, length, take, sym, ◌∙◌, arith}
use Rattle.model.specs.Table.{decode}
use Rattle.admission.proofs.Laws.{noted, not_noted, gather-more, gather_none}
use Rattle.admission.proofs.gather.Goals as goal
use Rattle.admission.proofs.gather.Goals.{then-waiting, else-waiting}

pub loop-k-preserved : goal.loop-k-preserved
loop-k-preserved c =
    let l = c.loop-k in
    let here : l.k < length (decode c.args.table.now).streams = omega (arith, c.count-k-end.ensures.0) in
    let room : l.n < length l.numbers = omega (arith, c.count-k-end.ensures.1) in
    elim c.if-waiting.branch [
      | then-waiting w ↦ (
        omega (arith, w.n-is),
        c.if-waiting.array_long,
        gather-more _ _ _ _ _ (take l.n l.numbers) _ here
            (rw (w.n-is, w.numbers-is, w.order_of.ensures) (noted l.numbers l.n _ _ _ c.waiting.ensures room w.if-waiting.true))
            ∙ l.invariant.2,
      )
      | else-waiting w ↦ (
        omega (arith, w.n-is),
        c.if-waiting.array_long,
        gather-more _ _ _ _ _ (take l.n l.numbers) _ here
            (rw (w.n-is, w.numbers-is) (not_noted l.numbers l.n _ _ _ c.waiting.ensures w.if-waiting.false))
            ∙ l.invariant.2,
      )
    ]

pub returns : goal.returns
returns c =
    let l = c.loop-k in
    let all : l.k ≡ length (decode c.args.table.now).streams = omega (arith, c.count-k-end.ensures.0) in
    (sym (gather_none _ _ _ _ _ _ all) ∙ l.invariant.2, omega (arith, c.count-k-end.ensures.1, l.invariant.0))
