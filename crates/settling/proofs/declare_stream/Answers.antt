use Rattle.std.proofs.Common.{◌≡◌, arith}
use Rattle.table.proofs.ByPlace.{stream-fits}
use Rattle.table.proofs.EachStream.{no-turn-yet, all-turns}
use Rattle.table.proofs.EachPort.{sends_none}
use Rattle.settling.proofs.Declared.{declared-all, declares-here, declares-next}
use Rattle.settling.proofs.declare_stream.Goals as goal

pub loop-p-init : goal.loop-p-init
loop-p-init c = no-turn-yet _ c.requires (sends_none _ _)

pub declare_on-requires : goal.declare_on-requires
declare_on-requires c = declares-here c.requires c.loop-p.p (omega arith) c.loop-p.table c.loop-p.invariant

pub loop-p-preserved : goal.loop-p-preserved
loop-p-preserved c = declares-next c.requires c.loop-p.p (omega arith) c.loop-p.table c.loop-p.invariant _ c.declare_on.ensures

pub returns : goal.returns
returns c =
    let e : c.loop-p.p ≡ 8 = omega arith in
    all-turns _ c.requires 8 _ (rw e at c.loop-p.invariant) _ (declared-all _ (stream-fits c.requires))
