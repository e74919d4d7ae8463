-- The lesser of both lengths.
use Rattle.std.proofs.Common.{ℕ, min, ap, ◌∙◌, length, arith}
use Rattle.sheets.specs.Records.{settings_length}
use Rattle.sheets.proofs.settings_length.Goals as goal

pub returns : goal.returns
unfolding settings_length
returns c =
    let input = c.args.input.now in
    (c.min.ensures ∙ ap (λ (n : ℕ). min n (length input)) (omega (arith, c.ports_field.ensures.0)), omega (arith, c.min.ensures))
