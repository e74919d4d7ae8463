use Rattle.std.proofs.Common.{sym, ◌∙◌, arith}
use Rattle.model.specs.Table.{decode}
use Rattle.fanin.proofs.Addresses.{asked-with, search-ends, search-finds, search-goes-on}
use Rattle.fanin.proofs.is_taken.Goals as goal

pub returns-then-has_address : goal.returns-then-has_address
returns-then-has_address g c =
    let l = c.loop-j in
    let wanted = c.requires.1.gives _ _ (omega arith) c.address-wanted.ensures in
    let found = asked-with (decode c.args.table.now) c.args.k l.j _ _ wanted c.has_address.ensures in
    search-finds _ _ l.j l.invariant c.loop-j-test.true (sym found ∙ c.if-has_address.true)

pub loop-j-preserved : goal.loop-j-preserved
loop-j-preserved g c =
    let l = c.loop-j in
    let wanted = c.requires.1.gives _ _ (omega arith) c.address-wanted.ensures in
    let found = asked-with (decode c.args.table.now) c.args.k l.j _ _ wanted c.has_address.ensures in
    search-goes-on _ _ l.j l.invariant c.loop-j-test.true (sym found ∙ c.if-has_address.false)

pub returns : goal.returns
returns g c = search-ends _ _ c.loop-j.j c.loop-j.invariant c.loop-j-test.false
