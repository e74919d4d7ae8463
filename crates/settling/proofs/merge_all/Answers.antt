use Rattle.std.proofs.Common.{arith}
use Rattle.table.proofs.EachStream.{none_yet, partly-stands, one_more, all_done}
use Rattle.columns.specs.Stages.{merging}
use Rattle.settling.proofs.Merging.{merging-fits, merging-id}
use Rattle.settling.proofs.merge_all.Goals as goal

pub loop-k-init : goal.loop-k-init
loop-k-init c = none_yet _ _ c.requires

pub merge_stream-requires : goal.merge_stream-requires
merge_stream-requires c = partly-stands merging merging-fits merging-id _ c.requires c.loop-k.k _ c.loop-k.invariant (omega (arith, c.count-k-end.ensures.0))

pub loop-k-preserved : goal.loop-k-preserved
loop-k-preserved c = one_more merging merging-fits merging-id _ c.requires c.loop-k.k _ c.loop-k.invariant _ c.merge_stream.ensures

pub returns : goal.returns
returns c = all_done _ _ _ c.loop-k.k c.loop-k.invariant (omega (arith, c.count-k-end.ensures.0))
