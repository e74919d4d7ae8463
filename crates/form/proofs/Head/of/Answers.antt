use Rattle.std.proofs.Common.{◌∙◌, ap, rules, ℕ, ◌+◌, ◌/◌, ◌%◌, sym}
use Rattle.model.specs.Layout.{ports_unit, priority_a_unit, priority_b_unit}
use Rattle.model.specs.Table.{ports_field, to_settings, clock_field}
use Rattle.form.proofs.Tables.{word}
use Rattle.form.proofs.Head.of.Goals as goal

pub returns : goal.returns
unfolding ports_field to_settings clock_field
returns c =
    let e = c.get-word.ensures.0 ∙ sym (word c.args.table.now) in
    record {
      ports = ap (λ (w : ℕ). w / ports_unit) e;
      slot_a = ap (λ (w : ℕ). 8 + w / priority_a_unit % 8) e;
      slot_b = ap (λ (w : ℕ). w / priority_b_unit % 8) e;
      clock = search rules;
      leave = ap (λ (w : ℕ). w % priority_b_unit) e;
    }
