-- So many digits are all that the number has.
use Rattle.std.proofs.Common.{◌≡◌, ◌∙◌, ap, arith, ℕ, min, max}
use Rattle.io.specs.Digits.{last_digits}
use Rattle.console.proofs.Laws.{fixed-width}
use Rattle.console.proofs.text.Text.put_hex.Goals as goal

pub returns : goal.returns
returns c =
    let made = c.hex-k.ensures in
    let width : min (max c.args.width 1) 16 ≡ c.args.width = omega (arith, c.requires.some, c.requires.few) in
    let e =
    made.digits
    ∙ ap (λ (k : ℕ). last_digits 16 k c.args.n) (fixed-width 16 c.args.width c.args.n _ (omega arith) c.requires.fits (rw width at made.len)) in
    rw (← e) c.put.ensures
