use Rattle.std.proofs.Common.{◌≡◌, arith}
use Rattle.columns.proofs.EarlyTables.{ports-start, ports-failure, ports-turn}
use Rattle.columns.proofs.early_ports.Goals as goal

pub loop-p-init : goal.loop-p-init
loop-p-init c = ports-start c.requires.talker _ (omega arith)

pub early_at-requires : goal.early_at-requires
early_at-requires c =
    let l = c.loop-p in
    (ports-failure c.requires.talker c.args.time (omega arith) l.p (omega arith) _ l.invariant c.requires, omega arith)

pub loop-p-preserved : goal.loop-p-preserved
loop-p-preserved c =
    let l = c.loop-p in
    ports-turn c.requires.talker c.args.time (omega arith) l.p (omega arith) _ l.invariant (omega arith) _ c.early_at.ensures

pub returns : goal.returns
returns c =
    let e : c.loop-p.p ≡ 8 = omega arith in
    rw e at c.loop-p.invariant
