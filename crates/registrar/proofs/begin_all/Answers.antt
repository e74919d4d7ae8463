use Rattle.std.proofs.Common.{true, sym, ◌∙◌}
use Rattle.model.specs.Attributes.{type_of, kind_of}
use Rattle.model.proofs.Attributes.{stream_type, no_stream_type}
use borrow.Author.Tests.{not-true, not-false}
use Rattle.registrar.proofs.VectorActs.{domain-leaves, none-leaves, all-leaves, leaves-room}
use Rattle.registrar.proofs.Walks.{walked_none, walked_on}
use Rattle.registrar.proofs.begin_all.Goals as goal

pub returns-then-not-walk : goal.returns-then-not-walk
returns-then-not-walk c =
    let w = c.args.walk in
    rw (not-true w.applying c.if-not-walk.true) (leaves-room w.p (type_of w.attribute) c.args.leaves c.args.table.now c.requires.laid)

pub returns-then-not-leaves : goal.returns-then-not-leaves
returns-then-not-leaves c =
    let w = c.args.walk in
    rw (none-leaves (type_of w.attribute) c.args.leaves c.if-not-leaves.true) (walked_none w.applying w.p c.args.table.now c.requires.laid)

pub returns-in_default : goal.returns-in_default
returns-in_default c =
    let w = c.args.walk in
    rw (no_stream_type w.attribute (sym c.of_stream.ensures ∙ c.in_default.is), domain-leaves c.args.leaves c.if-not-leaves.false, not-false w.applying c.if-not-walk.false)
    (walked_on true w.p _ _ c.args.table.now _ c.leave_domains.ensures c.hear_domains.ensures)

pub returns : goal.returns
returns c =
    let w = c.args.walk in
    let s = c.in-Some.attribute in
    rw (stream_type w.attribute s (sym c.of_stream.ensures ∙ c.in-Some.is), all-leaves (kind_of s) c.args.leaves c.if-not-leaves.false, not-false w.applying c.if-not-walk.false)
    (walked_on true w.p _ _ c.args.table.now _ c.leave_all.ensures c.hear_all.ensures)
