-- `bridge::join_class` meets its contract. Assumes nothing.
use mathlib.Core.Path.{◌≡◌, sym, ap, ◌∙◌}
use mathlib.Core.Bool.{true, false}
use borrow.Author.Rules.{rules}
use Rattle.model.specs.State.{Port, port_at, supports}
use Rattle.model.specs.Table.{decode}
use Rattle.streams.specs.Answers.{named, class_shown}
use Rattle.table.proofs.SenderParts.{lent-sender-at, left-sender-at}
use Rattle.bridge.specs.Joining.{joined_slot}
use Rattle.bridge.proofs.Joining.{none-joined, one-joined}
use Rattle.bridge.proofs.join_class.Statement.{statement}
use Rattle.bridge.proofs.join_class.Tie as tie

join-slot-requires : tie.Need-join_slot-requires
join-slot-requires c κs =
    let first = c.before.before.before.before.before.before in
    let r = lent-sender-at first.requires.0 _ c.sender_in-a.ensures.0 in
    (r.laid, r.size, first.requires.1)

returns : tie.Need-returns-then-supports
unfolding class_shown
returns c =
    let first = c.before.before.before.before.before.before.before.before.before in
    let k = named first.args.class in
    let e : supports (port_at (decode first.args.table.now).settings first.args.p) k ≡ true =
    sym (ap (λ (q : Port). supports q k) c.port_at.ensures.is) ∙ sym c.supports.ensures ∙ c.if-supports.true in
    one-joined first.requires.0 first.args.slot _ e _
    (left-sender-at first.requires.0 _ c.sender_in-a.ensures.0 (joined_slot first.args.slot) _ c.join_slot.ensures)

returns-2 : tie.Need-returns-else-supports
unfolding class_shown
returns-2 c =
    let first = c.before.before.before.before in
    let k = named first.args.class in
    let e : supports (port_at (decode first.args.table.now).settings first.args.p) k ≡ false =
    sym (ap (λ (q : Port). supports q k) c.port_at.ensures.is) ∙ sym c.supports.ensures ∙ c.if-supports.false in
    none-joined first.requires.0 first.args.slot _ e

pub join_class_spec : {M : Type 1} → statement M
join_class_spec =
    tie.close
    (tie.spec (λ c κs. search rules) (λ c κs. search rules) (λ c κs. search rules) (λ c. search rules) (λ c. search rules) (λ c. search rules) (λ c. search rules)
    join-slot-requires (λ c. search rules) returns (λ c. search rules) returns-2)
