use Rattle.std.proofs.Common.{◌∙◌, ap, refl, rules, arith}
use mathlib.Core.Path.{ap₂}
use Rattle.model.specs.Lists.{all_zero}
use Rattle.form.specs.Asks.{all_pairs, sender_beside}
use Rattle.form.proofs.Tables.{sending-tests}
use Rattle.form.proofs.sending_formed.Goals as goal

pub returns : goal.returns
returns c =
    let a = c.args in
    let ports = c.split_parts.ensures in
    let senders = c.split_parts-2.ensures in
    let rule = sender_beside a.head.slot_a a.head.slot_b a.head.times.clock in
    let beside = c.every_pair.ensures rule (λ x y r h. search rules) in
    sending-tests a.table.now a.head c.requires (omega arith) _ _ refl refl _ _
    (beside ∙ ap₂ (all_pairs rule) ports.parts senders.parts)
    (c.is_zero.ensures ∙ ap all_zero senders.behind)
