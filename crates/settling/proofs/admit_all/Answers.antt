use Rattle.std.proofs.Common.{arith}
use Rattle.model.specs.State.{class_a}
use Rattle.streams.specs.Answers.{named}
use Rattle.settling.proofs.Sharing.{sharing-start, sharing-turn, sharing-done, shared-laid}
use Rattle.settling.proofs.admit_all.Goals as goal

pub loop-p-init : goal.loop-p-init
loop-p-init c = sharing-start _ _ c.requires

pub admit_class-requires : goal.admit_class-requires
admit_class-requires c = (c.loop-p.invariant.laid, omega (arith, c.ports-p-end.ensures.1))

pub admit_class-requires-in-loop-p : goal.admit_class-requires-in-loop-p
unfolding named
admit_class-requires-in-loop-p c =
    let l = c.loop-p in
    (shared-laid l.table l.invariant.laid l.p (omega (arith, c.ports-p-end.ensures.1)) class_a _ c.admit_class.ensures, omega (arith, c.ports-p-end.ensures.1))

pub loop-p-preserved : goal.loop-p-preserved
unfolding named
loop-p-preserved c =
    let l = c.loop-p in
    sharing-turn _ _ l.table _ _ l.p l.invariant (omega (arith, c.ports-p-end.ensures.0)) (omega (arith, c.ports-p-end.ensures.1)) c.admit_class.ensures c.admit_class-in-loop-p.ensures

pub returns : goal.returns
returns c = sharing-done _ _ c.loop-p.table c.loop-p.p c.loop-p.invariant (omega (arith, c.ports-p-end.ensures.0))
