use Rattle.std.proofs.Common.{arith}
use Rattle.table.proofs.EachStream.{none_yet}
use Rattle.columns.proofs.EarlyTables.{next-stands, next-settled, next-inbound, next-done, every-done}
use Rattle.columns.proofs.early_all.Goals as goal

pub loop-k-init : goal.loop-k-init
loop-k-init c = none_yet _ _ c.requires

pub early_record-requires : goal.early_record-requires
early_record-requires c =
    let l = c.loop-k in (
      next-stands _ c.requires c.args.time (omega arith) l.k _ l.invariant (omega (arith, c.count-count.ensures.0)),
      next-settled _ c.requires c.args.time (omega arith) l.k _ l.invariant (omega (arith, c.count-count.ensures.0)),
      next-inbound _ c.requires c.args.time (omega arith) l.k _ l.invariant _ c.inbound_ports-inbound.ensures,
    )

pub loop-k-preserved : goal.loop-k-preserved
loop-k-preserved c =
    let l = c.loop-k in
    next-done _ c.requires c.args.time (omega arith) l.k _ l.invariant _ c.early_record.ensures

pub returns : goal.returns
returns c = every-done _ c.requires c.args.time (omega arith) c.loop-k.k _ c.loop-k.invariant (omega (arith, c.count-count.ensures.0))
