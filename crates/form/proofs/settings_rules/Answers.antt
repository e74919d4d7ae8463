use Rattle.std.proofs.Common.{◌≤◌, ◌/◌, ◌∙◌, ap, length, arith, rules}
use Rattle.std.specs.List.{list_all}
use lib.ListN.{length-drop}
use Rattle.octets.specs.Be.{be_at}
use Rattle.model.specs.Layout.{in_head, in_table, port_place, port_size, ports_unit}
use Rattle.model.specs.Table.{ports_field, port_rule}
use Rattle.form.proofs.Parts.{lent-rest, all-parts}
use Rattle.form.proofs.Tests.{all-together}
use Rattle.form.proofs.Settings.{too-many-ports, settings-tests}
use Rattle.form.proofs.settings_rules.Goals as goal

pub returns-then-ports-gt8 : goal.returns-then-ports-gt8
returns-then-ports-gt8 c = too-many-ports _ _ c.get-head.ensures.0 c.if-ports-gt8.true

pub split_parts-requires : goal.split_parts-requires
unfolding ports_field
split_parts-requires c =
    let s = c.args.settings.now in
    let h : port_place (be_at 3 s in_head.word / ports_unit) ≤ length s = c.requires.1 (omega arith) in
    rw (lent-rest in_table.ports s) (search (rules, arith, length-drop))

pub returns : goal.returns
returns c =
    let s = c.args.settings.now in
    let each = c.every.ensures port_rule (λ x r h. search rules) ∙ ap (list_all port_rule) c.split_parts.ensures.parts ∙ all-parts port_size port_rule _ _ in
    rw (each, lent-rest in_table.ports s, c.get-vlan.ensures.0, c.get-fan_in.ensures.0)
    (all-together _ _ ∙ settings-tests _ _ c.get-head.ensures.0 c.if-ports-gt8.false)
