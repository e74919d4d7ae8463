-- The space and behind it the octets, or nothing.
use Rattle.std.proofs.Common.{◌≡◌, sym, true, false, length, eqb}
use Rattle.octets.specs.Pick.{pick}
use Rattle.console.proofs.Texts.{puts-none, puts-append}
use Rattle.answers.specs.Lines.{octets_text}
use Rattle.answers.proofs.put_some.Goals as goal

pub returns-then-not-is_empty : goal.returns-then-not-is_empty
unfolding octets_text pick
returns-then-not-is_empty c =
    let e : eqb (length c.args.octets.now) 0 ≡ false = sym c.if-not-is_empty.ensures in
    rw e (puts-append c.put.ensures c.put_octets.ensures)

pub returns-else-not-is_empty : goal.returns-else-not-is_empty
unfolding octets_text pick
returns-else-not-is_empty c =
    let e : eqb (length c.args.octets.now) 0 ≡ true = sym c.if-not-is_empty.ensures in
    rw e (puts-none _)
