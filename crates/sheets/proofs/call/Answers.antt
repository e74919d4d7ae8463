-- The record in front, by its first octet.
use Rattle.std.proofs.Common.{refl, arith}
use Rattle.sheets.proofs.Reading.{stopped-called, of-frame, of-time, of_other}
use Rattle.sheets.proofs.call.Goals as goal

pub returns-in-32 : goal.returns-in-32
returns-in-32 c = rw (of-time c.args.rest.now (omega (arith, c.in-32.is)) c.in-32.is) c.advance.ensures

pub returns-in-16-to-31 : goal.returns-in-16-to-31
returns-in-16-to-31 c = rw (of-frame c.args.rest.now (omega arith)) c.receive.ensures

pub returns-in_default : goal.returns-in_default
returns-in_default c = stopped-called _ _ _ _ _ (of_other c.args.rest.now (omega arith) (omega arith)) refl refl

pub returns-in_default-2 : goal.returns-in_default-2
returns-in_default-2 c = stopped-called _ _ _ _ _ (of_other c.args.rest.now (omega arith) (omega arith)) refl refl
