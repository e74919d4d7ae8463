-- A cut record, or a time.
use Rattle.std.proofs.Common.{refl, arith}
use Rattle.sheets.proofs.Reading.{stopped-called, time-cut, time-called}
use Rattle.sheets.proofs.advance.Goals as goal

pub returns-then-rest-lt5 : goal.returns-then-rest-lt5
returns-then-rest-lt5 c = stopped-called _ _ _ _ _ (time-cut _ c.if-rest-lt5.true) refl refl

pub returns : goal.returns
returns c = (time-called _ _ _ _ c.if-rest-lt5.false (rw c.get-time.ensures.0 at c.advance-answer.ensures), omega arith)
