use Rattle.std.proofs.Common.{◌≡◌, sym, ◌∙◌, arith}
use Rattle.model.specs.Table.{decode}
use Rattle.model.proofs.Fits.{laid-fits}
use Rattle.table.proofs.ByPlace.{stream-fits, lent-cell-at, left-cell-at}
use Rattle.table.proofs.EachStream.{no-turn-yet, all-turns, cells-none, cells-done}
use Rattle.settling.proofs.Removal.{expire-cells, lapses-here, lapses-next}
use Rattle.settling.proofs.expire_stream.Goals as goal

pub loop-p-init : goal.loop-p-init
loop-p-init c = no-turn-yet _ c.requires.0 (cells-none _ _)

pub cell_in-a-requires : goal.cell_in-a-requires
cell_in-a-requires c = lapses-here c.requires.0 c.args.time _ _ c.loop-p.invariant (omega arith)

pub expire-requires : goal.expire-requires
expire-requires c =
    let on = lapses-here c.requires.0 c.args.time _ _ c.loop-p.invariant (omega arith) in
    let r = lent-cell-at on _ c.cell_in-a.ensures.0 in
    let w = (laid-fits _ c.requires.0.laid).settings.leave_time in
    record { laid = r.laid; size = r.size; leaves = omega (arith, c.requires.1) }

pub loop-p-preserved : goal.loop-p-preserved
loop-p-preserved c =
    let l = c.loop-p in
    let on = lapses-here c.requires.0 c.args.time _ _ l.invariant (omega arith) in
    lapses-next c.requires.0 c.args.time l.p l.table l.invariant _
    (left-cell-at on _ c.cell_in-a.ensures.0 _ _ (c.expire.ensures (decode c.args.table.now).settings (sym c.requires.1)))

pub returns : goal.returns
returns c =
    let e : c.loop-p.p ≡ 8 = omega arith in
    all-turns _ c.requires.0 8 _ (rw e at c.loop-p.invariant) _
    (cells-done _ 8 _ (stream-fits c.requires.0).eight_cells ∙ expire-cells _ c.args.time _)
