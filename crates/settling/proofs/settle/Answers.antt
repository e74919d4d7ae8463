use Prim.Native.Nat.{◌^◌, ◌<◌}
use borrow.Author.Rules.{rules}
use Rattle.settling.proofs.Sent.{decided-laid, decided-clock, settled-octets}
use Rattle.settling.proofs.settle.Goals as goal

pub send-requires : goal.send-requires
send-requires c =
    let small : c.args.time < 2 ^ 32 = search rules in
    let e = c.decide.ensures in
    (decided-laid _ c.requires c.args.time small _ e, decided-clock _ c.requires c.args.time small _ e)

pub returns : goal.returns
returns c =
    let small : c.args.time < 2 ^ 32 = search rules in
    settled-octets _ c.requires c.args.time small _ c.decide.ensures _ c.send.ensures
