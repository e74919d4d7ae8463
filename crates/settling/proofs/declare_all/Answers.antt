use Rattle.std.proofs.Common.{arith}
use Rattle.table.proofs.EachStream.{none_yet, partly-stands, one_more, all_done}
use Rattle.model.specs.Settling.{declare}
use Rattle.settling.proofs.Declared.{declare-fits, declare-id}
use Rattle.settling.proofs.declare_all.Goals as goal

pub loop-k-init : goal.loop-k-init
loop-k-init c = none_yet _ _ c.requires

pub declare_stream-requires : goal.declare_stream-requires
declare_stream-requires c = partly-stands declare declare-fits declare-id _ c.requires c.loop-k.k _ c.loop-k.invariant (omega (arith, c.count-k-end.ensures.0))

pub loop-k-preserved : goal.loop-k-preserved
loop-k-preserved c = one_more declare declare-fits declare-id _ c.requires c.loop-k.k _ c.loop-k.invariant _ c.declare_stream.ensures

pub returns : goal.returns
returns c = all_done _ _ _ c.loop-k.k c.loop-k.invariant (omega (arith, c.count-k-end.ensures.0))
