-- A cut record, or a PDU behind the first three octets.
use Rattle.std.proofs.Common.{refl, arith}
use Rattle.sheets.proofs.Reading.{stopped-called, frame-cut, frame-called}
use Rattle.sheets.proofs.receive.Goals as goal

pub returns-then-rest-lt3 : goal.returns-then-rest-lt3
returns-then-rest-lt3 c = stopped-called _ _ _ _ _ (frame-cut _ (omega (arith, c.if-rest-lt3.true))) refl refl

pub returns-then-rest-size : goal.returns-then-rest-size
returns-then-rest-size c = stopped-called _ _ _ _ _ (frame-cut _ (rw c.get.ensures.0 at c.if-rest-size.true)) refl refl

pub returns : goal.returns
returns c = (frame-called _ _ _ _ _ c.get.ensures.0 c.if-rest-size.false c.receive-answer.ensures, omega arith)
