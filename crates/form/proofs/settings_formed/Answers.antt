use Rattle.std.proofs.Common.{◌≡◌, length, arith}
use borrow.Author.Tests.{ne_eqb, eq-eqb}
use Rattle.model.specs.Layout.{port_place}
use Rattle.model.specs.Table.{ports_field, settings_formed}
use Rattle.form.proofs.settings_formed.Goals as goal

pub returns-then-settings-lt-PORTS : goal.returns-then-settings-lt-PORTS
unfolding settings_formed
returns-then-settings-lt-PORTS c =
    let s = c.args.settings.now in
    let n : length s ≡ port_place (ports_field s) → ⊥ = λ e. omega arith in
    rw (ne_eqb (length s) (port_place (ports_field s)) n)

pub returns-then-settings-ports : goal.returns-then-settings-ports
unfolding settings_formed ports_field
returns-then-settings-ports c = rw (← c.get-ports.ensures.0, ne_eqb _ _ c.if-settings-ports.true)

pub settings_rules-requires : goal.settings_rules-requires
unfolding ports_field
settings_rules-requires c = (omega arith, λ h. rw (← c.get-ports.ensures.0) (omega arith))

pub returns : goal.returns
unfolding settings_formed ports_field
returns c = rw (← c.get-ports.ensures.0, eq-eqb _ _ c.if-settings-ports.false) c.settings_rules.ensures
