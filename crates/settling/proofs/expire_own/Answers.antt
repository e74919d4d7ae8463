use mathlib.Core.Path.{sym}
use Rattle.model.specs.Table.{decode}
use Rattle.table.proofs.OwnParts.{lent-own-at, left-own-at}
use Rattle.settling.specs.Removed.{expired_own}
use Rattle.settling.proofs.expire_own.Goals as goal

pub own_in-a-requires : goal.own_in-a-requires
own_in-a-requires c = c.requires.0

pub expire_held-requires : goal.expire_held-requires
expire_held-requires c =
    let r = lent-own-at c.requires.0 _ c.own_in-a.ensures.0 in
    (r.laid, r.size)

pub returns : goal.returns
returns c =
    left-own-at c.requires.0 _ c.own_in-a.ensures.0 (expired_own (decode c.args.table.now).settings c.args.time) _
    (c.expire_held.ensures (decode c.args.table.now).settings (sym c.requires.1))
