use Rattle.std.proofs.Common.{ap, ◌∙◌, arith}
use Rattle.model.specs.State.{Settings, stream_at}
use Rattle.model.specs.Settling.{expire}
use Rattle.model.specs.Table.{encode, decode}
use Rattle.table.specs.Updates.{with_stream}
use Rattle.table.proofs.EachStream.{none_yet, partly-stands, partly-settings, one_more, all_done}
use Rattle.settling.proofs.Removal.{expired-fits, same_id}
use Rattle.settling.proofs.expire_all.Goals as goal

pub loop-k-init : goal.loop-k-init
loop-k-init c = none_yet _ _ c.requires

pub expire_stream-requires : goal.expire_stream-requires
expire_stream-requires c =
    let l = c.loop-k in
    let st = (decode c.args.table.now).settings in
    let keeps = expired-fits st c.args.time in
    let same = same_id st c.args.time in (
      partly-stands _ keeps same _ c.requires l.k _ l.invariant (omega (arith, c.count-k-end.ensures.0)),
      rw (partly-settings _ keeps same _ c.requires l.k _ l.invariant) c.leave_time-leave.ensures.0,
    )

pub loop-k-preserved : goal.loop-k-preserved
loop-k-preserved c =
    let l = c.loop-k in
    let st = (decode c.args.table.now).settings in
    let keeps = expired-fits st c.args.time in
    let same = same_id st c.args.time in
    one_more _ keeps same _ c.requires l.k _ l.invariant _
    (c.expire_stream.ensures
    ∙ ap (λ (v : Settings). encode (with_stream l.k (expire v c.args.time (stream_at l.k (decode l.table))) (decode l.table)))
    (partly-settings _ keeps same _ c.requires l.k l.table l.invariant))

pub returns : goal.returns
returns c = all_done _ _ _ c.loop-k.k c.loop-k.invariant (omega (arith, c.count-k-end.ensures.0))
