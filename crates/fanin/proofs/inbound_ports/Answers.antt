use Rattle.std.proofs.Common.{◌∙◌, arith}
use Rattle.model.specs.Table.{decode}
use Rattle.table.specs.Updates.{stream_at}
use Rattle.table.specs.Places.{Stands}
use Rattle.table.proofs.ByPlace.{stream-fits}
use Rattle.fanin.proofs.Sets.{placed, none-inbound, next-inbound, all-inbound}
use Rattle.fanin.proofs.inbound_ports.Goals as goal

pub loop-k-init : goal.loop-k-init
loop-k-init c = none-inbound (decode c.args.table.now).streams

pub including-set-requires : goal.including-set-requires
including-set-requires c =
    let s : Stands c.args.table.now c.loop-k.k = record { laid = c.requires; held = omega (arith, c.count-k-end.ensures.0) } in
    rw c.source.ensures (placed (stream_at c.loop-k.k (decode c.args.table.now)) (stream-fits s).eight_cells)

pub loop-k-preserved : goal.loop-k-preserved
loop-k-preserved c =
    let l = c.loop-k in
    let s : Stands c.args.table.now l.k = record { laid = c.requires; held = omega (arith, c.count-k-end.ensures.0) } in
    next-inbound (decode c.args.table.now).streams l.k l.set _ s.held (stream-fits s).eight_cells l.invariant (rw c.source.ensures at c.including-set.ensures)

pub returns : goal.returns
returns c =
    let l = c.loop-k in
    l.invariant ∙ all-inbound (decode c.args.table.now).streams l.k (omega (arith, c.count-k-end.ensures.0))
