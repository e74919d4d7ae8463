use Rattle.std.proofs.Common.{arith, rules}
use Rattle.model.specs.Attributes.{kind_of}
use Rattle.table.proofs.ByPlace.{stands_on}
use Rattle.table.proofs.EachStream.{none_yet, partly-stands, one_more, all_done}
use Rattle.registrar.proofs.Touched.{leaving-fits, leaving-id, all_left}
use Rattle.registrar.proofs.leave_all.Goals as goal

pub loop-k-init : goal.loop-k-init
loop-k-init c = none_yet _ _ c.requires.laid

pub quit_cell-requires : goal.quit_cell-requires
quit_cell-requires c =
    let n = c.clock-now.result in
    let k = kind_of c.args.attribute in
    stands_on
    (partly-stands _ (leaving-fits c.args.p n (search rules) k) (leaving-id c.args.p n k) _ c.requires.laid c.loop-k.k _ c.loop-k.invariant (omega (arith, c.count-k-end.ensures.0)))
    _ c.requires.port

pub loop-k-preserved : goal.loop-k-preserved
loop-k-preserved c =
    let n = c.clock-now.result in
    let k = kind_of c.args.attribute in
    one_more _ (leaving-fits c.args.p n (search rules) k) (leaving-id c.args.p n k) _ c.requires.laid c.loop-k.k _ c.loop-k.invariant _ c.quit_cell.ensures

pub returns : goal.returns
returns c =
    all_left c.args.p (kind_of c.args.attribute) c.args.table.now c.loop-k.table c.requires.laid
    (rw c.clock-now.ensures at (all_done _ _ _ c.loop-k.k c.loop-k.invariant (omega (arith, c.count-k-end.ensures.0))))
