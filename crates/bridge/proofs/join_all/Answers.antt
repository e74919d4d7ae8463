-- Each place in turn.
use Rattle.std.proofs.Common.{◌≡◌, ◌<◌, arith}
use Rattle.table.proofs.EachPort.{no-sender-yet, all-senders, sender-next-in}
use Rattle.bridge.proofs.Joining.{joined-fits, joined-next}
use Rattle.bridge.proofs.join_all.Goals as goal

pub loop-place-init : goal.loop-place-init
loop-place-init c = no-sender-yet _ _ c.requires

pub join_domains-requires : goal.join_domains-requires
join_domains-requires c =
    let l = c.loop-place in
    let h : l.place < 8 = omega arith in
    sender-next-in _ _ c.requires (joined-fits _ c.requires) l.place h l.table l.invariant

pub loop-place-preserved : goal.loop-place-preserved
loop-place-preserved c =
    let l = c.loop-place in
    let h : l.place < 8 = omega arith in
    joined-next _ c.requires l.place h l.table l.invariant _ c.join_domains.ensures

pub returns : goal.returns
returns c =
    let l = c.loop-place in
    let e : l.place ≡ 8 = omega arith in
    all-senders _ _ c.requires _ (rw e at l.invariant)
