use Prim.Native.Nat.{◌^◌, ◌<◌}
use borrow.Author.Rules.{rules}
use Rattle.settling.proofs.Settled.{removed-laid, early-laid, all-shared-laid, decided-octets}
use Rattle.settling.proofs.decide.Goals as goal

pub early_all-requires : goal.early_all-requires
early_all-requires c =
    let small : c.args.time < 2 ^ 32 = search rules in
    removed-laid _ c.requires c.args.time small _ c.remove.ensures

pub admit_all-requires : goal.admit_all-requires
admit_all-requires c =
    let small : c.args.time < 2 ^ 32 = search rules in
    early-laid _ c.requires c.args.time small _ c.remove.ensures _ c.early_all.ensures

pub merge_all-requires : goal.merge_all-requires
merge_all-requires c =
    let small : c.args.time < 2 ^ 32 = search rules in
    all-shared-laid _ c.requires c.args.time small _ c.remove.ensures _ c.early_all.ensures _ c.admit_all.ensures

pub returns : goal.returns
returns c =
    let small : c.args.time < 2 ^ 32 = search rules in
    decided-octets _ c.requires c.args.time small _ c.remove.ensures _ c.early_all.ensures _
    c.admit_all.ensures _ c.merge_all.ensures
