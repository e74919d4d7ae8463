use Rattle.std.proofs.Common.{◌≡◌}
use Rattle.model.specs.State.{own_at, class_priority}
use Rattle.model.specs.Settling.{any_domain, domains_of}
use Rattle.model.specs.Table.{decode}
use Rattle.table.proofs.OwnParts.{own-fits}
use Rattle.streams.specs.Answers.{named, class_shown}
use Rattle.streams.specs.declared.Class.TheVariants.{A, B}
use Rattle.settling.proofs.Edges.{a-from, b-from}
use Rattle.settling.proofs.unmatched.Goals as goal

pub returns-in-None : goal.returns-in-None
unfolding class_shown domains_of any_domain
returns-in-None c = rw c.in-None.is

pub returns-in-Some-A : goal.returns-in-Some-A
unfolding named class_shown class_priority
returns-in-Some-A c =
    let ds = (own_at (decode c.args.table.now).owns c.args.p).domains in
    let e : c.in-Some-A.field-0 ≡ A = rw c.in-Some-A.is at c.in-Some-A.field-0-is in
    rw (c.in-Some-A.is, e, ← (a-from ds (own-fits c.requires).slotted), ← c.own_at-own.ensures.is, ← c.priority_a.ensures)
    c.unmatched.ensures

pub returns-in-Some-B : goal.returns-in-Some-B
unfolding named class_shown class_priority
returns-in-Some-B c =
    let ds = (own_at (decode c.args.table.now).owns c.args.p).domains in
    let e : c.in-Some-B.field-0 ≡ B = rw c.in-Some-B.is at c.in-Some-B.field-0-is in
    rw (c.in-Some-B.is, e, ← (b-from ds), ← c.own_at-own.ensures.is, ← c.priority_b.ensures)
    c.unmatched-in-Some-B.ensures
