use Rattle.std.proofs.Common.{◌≡◌, ℕ, ◌-◌, arith, ap, ◌∙◌}
use Rattle.model.specs.State.{cell_at, result_at, stream_at}
use Rattle.model.specs.Settling.{registered}
use Rattle.model.specs.Table.{to_declared, decode}
use Rattle.model.proofs.Results.{declared-back}
use Rattle.table.proofs.ReadOctets.{column-octet, listener-octet}
use Rattle.settling.proofs.Merging.{merged-none, merged-more, merged-all}
use Rattle.settling.proofs.merged.Goals as goal

pub loop-p-init : goal.loop-p-init
loop-p-init c = merged-none _

pub loop-p-preserved : goal.loop-p-preserved
loop-p-preserved c =
    let l = c.loop-p in
    let x = stream_at c.args.k (decode c.args.table.now) in
    let q : ℕ = l.p - 1 in
    let here = c.from_octet-listener.ensures ∙ ap to_declared (listener-octet c.cell_at-cell.ensures) ∙ declared-back (registered (cell_at x q)) in
    let passes = rw here at (c.passed_on.ensures (result_at x q).column (column-octet c.result_at-result.ensures)) in
    rw (passes, l.invariant) at c.merge_two-sum.ensures ∙ merged-more x l.p q (omega arith) (omega arith)

pub returns : goal.returns
returns c =
    let e : c.loop-p.p ≡ 0 = omega arith in
    rw e at c.loop-p.invariant ∙ merged-all _
