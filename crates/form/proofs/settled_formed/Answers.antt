use Rattle.std.proofs.Common.{arith}
use borrow.Author.Tests.{eq-eqb}
use Rattle.octets.specs.Parts.{part}
use Rattle.octets.specs.Fields.{fields, width}
use Rattle.model.specs.Layout.{fixed_widths, in_record}
use Rattle.form.proofs.Zeros.{zero-fields}
use Rattle.form.proofs.settled_formed.Goals as goal

pub returns-then-talkers-eq0 : goal.returns-then-talkers-eq0
unfolding fields width part
returns-then-talkers-eq0 c =
    rw (eq-eqb _ _ c.if-talkers-eq0.true, c.is_zero.ensures, zero-fields fixed_widths in_record.settled c.args.rec.now (omega arith))
