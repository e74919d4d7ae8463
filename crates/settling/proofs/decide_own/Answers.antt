use mathlib.Core.Path.{refl}
use Rattle.model.specs.Table.{decode}
use Rattle.settling.proofs.Edges.{expired-own-in, decided-octets}
use Rattle.settling.proofs.decide_own.Goals as goal

pub decide_flags-requires : goal.decide_flags-requires
decide_flags-requires c =
    expired-own-in (decode c.args.table.now).settings c.args.time c.args.table.now c.args.p c.requires.0 _
    c.expire_own.ensures

pub returns : goal.returns
returns c =
    decided-octets (decode c.args.table.now).settings c.args.time c.args.table.now c.args.p c.requires.0 _
    c.expire_own.ensures refl _ c.decide_flags.ensures
