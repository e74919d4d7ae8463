-- Four bits of an octet, where it is there.
use Rattle.std.proofs.Common.{sym, arith}
use Rattle.sheets.proofs.Reading.{ports-none, ports-is}
use Rattle.sheets.proofs.ports_field.Goals as goal

pub returns-then-input-le-PORTS_FIELD : goal.returns-then-input-le-PORTS_FIELD
returns-then-input-le-PORTS_FIELD c = (sym (ports-none _ c.if-input-le-PORTS_FIELD.true), omega arith)

pub returns : goal.returns
returns c = (sym (ports-is _ (λ i. omega (arith, c.type_inv.input i))), omega (arith, c.type_inv.input 8))
