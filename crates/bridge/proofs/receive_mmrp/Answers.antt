-- The tests, way by way.
use Rattle.std.proofs.Common.{arith, sym}
use Rattle.std.proofs.lemmas.Result.{err_from_is_err_and}
use Rattle.model.proofs.Parts.{octets-of}
use Rattle.bridge.proofs.OnTables.{Passed, answers, not-accepted}
use Rattle.bridge.proofs.OnAddresses.{mmrp-refused, mmrp-faulty}
use Rattle.bridge.proofs.Registering.{given, mmrp-done, mmrp-no-room}
use Rattle.bridge.proofs.receive_mmrp.Goals as goal

pub returns-in_err-p : goal.returns-in_err-p
returns-in_err-p c =
    let p = err_from_is_err_and c.from_residual.result c.from_residual.ensures.1 in
    rw (p.1, p.2) (answers _ _ _ (mmrp-refused _ _ _ _ c.in_err-p.ensures (not-accepted _)))

pub returns-in_err-check : goal.returns-in_err-check
returns-in_err-check c =
    let p = err_from_is_err_and c.from_residual-in_err-check.result c.from_residual-in_err-check.ensures.1 in
    let v = c.in_ok-p.ensures in
    rw (p.1, p.2) (answers _ _ _ (mmrp-faulty _ _ _ v.formed v.right _ (rw c.in_err-check.was at c.check.ensures) (not-accepted _)))

pub receive_frame-requires : goal.receive_frame-requires
receive_frame-requires c =
    let a = c.args in
    let v = c.in_ok-p.ensures in
    let w : Passed a.table.now a.port = record { octets = octets-of a.table.now (λ i. omega (arith, c.slice_known-1.given i)); formed = v.formed; port = v.right } in
    given _ _ _ w (sym (rw c.in_ok-check.was at c.check.ensures)) _ (rw v.place_is at c.own_in-a.ensures.0)

pub returns-then-not-receive_frame : goal.returns-then-not-receive_frame
returns-then-not-receive_frame c =
    let a = c.args in
    let v = c.in_ok-p.ensures in
    let w : Passed a.table.now a.port = record { octets = octets-of a.table.now (λ i. omega (arith, c.slice_known-1.given i)); formed = v.formed; port = v.right } in
    answers _ _ _
    (mmrp-no-room _ _ _ w (sym (rw c.in_ok-check.was at c.check.ensures)) _ (rw v.place_is at c.own_in-a.ensures.0) _ c.clock-clock.ensures _ _ c.receive_frame.ensures c.if-not-receive_frame.true)

pub returns : goal.returns
returns c =
    let a = c.args in
    let v = c.in_ok-p.ensures in
    let w : Passed a.table.now a.port = record { octets = octets-of a.table.now (λ i. omega (arith, c.slice_known-1.given i)); formed = v.formed; port = v.right } in
    answers _ _ _
    (mmrp-done _ _ _ w (sym (rw c.in_ok-check.was at c.check.ensures)) _ (rw v.place_is at c.own_in-a.ensures.0) _ c.clock-clock.ensures _ _ c.receive_frame.ensures c.if-not-receive_frame.false)
