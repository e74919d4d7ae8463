use Rattle.std.proofs.Common.{◌≡◌, ◌^◌, ◌<◌, arith, rules}
use Rattle.table.proofs.EachPort.{no-sender-yet, all-senders, sender-next-in}
use Rattle.settling.proofs.Timed.{timed-at-fits, timed-next}
use Rattle.settling.proofs.time_all.Goals as goal

pub loop-p-init : goal.loop-p-init
loop-p-init c = no-sender-yet _ _ c.requires

pub time_sender-requires : goal.time_sender-requires
time_sender-requires c =
    let small : c.args.time < 2 ^ 32 = search rules in
    let l = c.loop-p in
    sender-next-in _ _ c.requires (timed-at-fits _ c.requires c.args.time small) l.p (omega arith) l.table l.invariant

pub loop-p-preserved : goal.loop-p-preserved
loop-p-preserved c =
    let small : c.args.time < 2 ^ 32 = search rules in
    let l = c.loop-p in
    timed-next _ c.requires c.args.time small l.p (omega arith) l.table l.invariant _ c.time_sender.ensures

pub returns : goal.returns
returns c =
    let e : c.loop-p.p ≡ 8 = omega arith in
    all-senders _ _ c.requires _ (rw e at c.loop-p.invariant)
