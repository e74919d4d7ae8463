use mathlib.Core.Path.{refl}
use Rattle.domains.proofs.Ports.{leaving}
use Rattle.settling.proofs.Edges.{first-laid, both-expired}
use Rattle.settling.proofs.expire_held.Goals as goal

pub expire-requires : goal.expire-requires
expire-requires c =
    let st = leaving c.args.leave in
    first-laid st c.args.time c.args.own.now c.requires.0 _ (c.expire_all.ensures st refl)

pub returns : goal.returns
returns c st e =
    both-expired st c.args.time c.args.own.now c.requires.0 _ (c.expire_all.ensures st e) _
    (c.expire.ensures st e)
