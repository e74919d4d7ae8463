use Rattle.std.proofs.Common.{arith}
use Rattle.model.specs.Attributes.{kind_of}
use Rattle.table.proofs.ByPlace.{stands_on}
use Rattle.table.proofs.EachStream.{none_yet, partly-stands, one_more, all_done}
use Rattle.hearing.specs.Hears.{meant}
use Rattle.registrar.proofs.Touched.{heard-fits, heard-id}
use Rattle.registrar.proofs.hear_streams.Goals as goal

pub loop-k-init : goal.loop-k-init
loop-k-init c = none_yet _ _ c.requires.laid

pub hear_sends-requires : goal.hear_sends-requires
hear_sends-requires c =
    let k = kind_of c.args.attribute in
    stands_on
    (partly-stands _ (heard-fits c.args.p k) (heard-id c.args.p k) _ c.requires.laid c.loop-k.k _ c.loop-k.invariant (omega (arith, c.count-k-end.ensures.0)))
    _ c.requires.port

pub loop-k-preserved : goal.loop-k-preserved
unfolding meant
loop-k-preserved c =
    let k = kind_of c.args.attribute in
    one_more _ (heard-fits c.args.p k) (heard-id c.args.p k) _ c.requires.laid c.loop-k.k _ c.loop-k.invariant _ c.hear_sends.ensures

pub returns : goal.returns
returns c = all_done _ _ _ c.loop-k.k c.loop-k.invariant (omega (arith, c.count-k-end.ensures.0))
