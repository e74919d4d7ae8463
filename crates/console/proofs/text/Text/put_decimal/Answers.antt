-- The digits are the number in decimal.
use Rattle.std.proofs.Common.{arith}
use Rattle.console.proofs.Laws.{no_more, decimal-is}
use Rattle.console.proofs.text.Text.put_decimal.Goals as goal

pub returns : goal.returns
returns c =
    let made = c.decimal-k.ensures in
    rw (← (decimal-is 20 _ _ (no_more 10 1 20 _ _ (omega arith) (omega arith) (omega arith) made.len) made.len), ← made.digits) c.put.ensures
