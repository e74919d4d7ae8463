use Rattle.std.proofs.Common.{◌≡◌, refl, ap, ◌∙◌, add-one, arith}
use Rattle.model.specs.Settling.{source_of}
use Rattle.model.specs.Table.{decode}
use Rattle.table.specs.Updates.{stream_at}
use Rattle.table.proofs.ByPlace.{stream-fits}
use Rattle.streams.specs.Answers.{source_port}
use Rattle.streams.proofs.Sources.{source-here, source-past, source-none}
use Rattle.streams.proofs.source.Goals as goal

pub loop-p-init : goal.loop-p-init
unfolding source_of
loop-p-init c = refl

pub returns-then-here-ne0 : goal.returns-then-here-ne0
returns-then-here-ne0 c =
    let l = c.loop-p in
    source-here _ (stream-fits c.requires).eight_cells l.p (omega arith) _ c.cell_at-here.ensures.is c.if-here-ne0.true ∙ ap source_port l.invariant

pub loop-p-preserved : goal.loop-p-preserved
loop-p-preserved c =
    let l = c.loop-p in
    rw add-one (source-past _ (stream-fits c.requires).eight_cells l.p (omega arith) _ c.cell_at-here.ensures.is c.if-here-ne0.false ∙ l.invariant)

pub returns : goal.returns
unfolding source_port
returns c =
    let l = c.loop-p in
    let e : l.p ≡ 8 = omega arith in
    rw (← l.invariant, e, source-none (stream_at c.args.k (decode c.args.table.now)) (stream-fits c.requires).eight_cells)
