-- The tests, way by way.
use Rattle.std.proofs.Common.{arith}
use Rattle.std.proofs.lemmas.Result.{err_from_is_err_and}
use Rattle.model.proofs.Parts.{octets-of}
use Rattle.bridge.proofs.OnTables.{not-accepted}
use Rattle.bridge.proofs.Reading.{refused, write-refused, write-short, write-above, write_done}
use Rattle.bridge.proofs.write.Goals as goal

pub returns-in_err-p : goal.returns-in_err-p
returns-in_err-p c =
    let p = err_from_is_err_and c.from_residual.result c.from_residual.ensures.1 in
    rw (p.1, p.2) (refused _ _ _ _ _ (write-refused _ _ _ _ _ c.in_err-p.ensures (not-accepted _)))

pub returns-in_err-long_enough : goal.returns-in_err-long_enough
returns-in_err-long_enough c =
    let p = err_from_is_err_and c.from_residual-in_err-long_enough.result c.from_residual-in_err-long_enough.ensures.1 in
    let v = c.in_ok-p.ensures in
    let short = c.in_err-long_enough.ensures in
    rw (p.1, p.2, short.0) (refused _ _ _ _ 10 (write-short _ _ _ _ v.formed v.right short.1))

pub returns-then-count_declarations-from : goal.returns-then-count_declarations-from
returns-then-count_declarations-from c =
    let v = c.in_ok-p.ensures in
    refused _ _ _ _ 13
    (write-above _ _ _ _ v.formed v.right c.in_ok-long_enough.ensures
    (rw (c.count_declarations.ensures.0, v.place_is) at c.if-count_declarations-from.true))

pub returns : goal.returns
returns c =
    let v = c.in_ok-p.ensures in
    write_done _ _ _ _ v.formed v.right c.in_ok-long_enough.ensures (octets-of _ (λ i. omega (arith, c.slice_known-1.given i)))
    (rw (c.count_declarations.ensures.0, v.place_is) at c.if-count_declarations-from.false) _ _ (rw v.place_is at c.write_pdu-pdu.ensures) _ _
    (rw v.place_is at c.move_list-next.ensures)
