use Prim.Native.Nat.{◌^◌, ◌<◌}
use borrow.Author.Rules.{rules}
use Rattle.settling.proofs.Removal.{expired-laid, clocked-laid, cleared-laid, removed-octets}
use Rattle.settling.proofs.remove.Goals as goal

pub set_clock-requires : goal.set_clock-requires
set_clock-requires c =
    let small : c.args.time < 2 ^ 32 = search rules in
    expired-laid _ c.requires c.args.time small _ c.expire_all.ensures

pub clear_totals-requires : goal.clear_totals-requires
clear_totals-requires c =
    let small : c.args.time < 2 ^ 32 = search rules in
    clocked-laid _ c.requires c.args.time small _ c.expire_all.ensures _ c.set_clock.ensures

pub decide_owns-requires : goal.decide_owns-requires
decide_owns-requires c =
    let small : c.args.time < 2 ^ 32 = search rules in
    cleared-laid _ c.requires c.args.time small _ c.expire_all.ensures _ c.set_clock.ensures _ c.clear_totals.ensures

pub returns : goal.returns
returns c =
    let small : c.args.time < 2 ^ 32 = search rules in
    removed-octets _ c.requires c.args.time small _ c.expire_all.ensures _ c.set_clock.ensures _ c.clear_totals.ensures _
    c.decide_owns.ensures
