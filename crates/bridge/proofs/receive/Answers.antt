-- The tests, way by way.
use Rattle.std.proofs.Common.{arith, sym}
use Rattle.std.proofs.lemmas.Result.{err_from_is_err_and}
use Rattle.model.proofs.Parts.{octets-of}
use Rattle.registrar.proofs.Receiving.{formed-held, accepted-found}
use Rattle.bridge.proofs.OnTables.{answers, not-accepted, receive-refused, receive-faulty}
use Rattle.bridge.proofs.Receiving.{receive-done, receive-no-room}
use Rattle.bridge.proofs.receive.Goals as goal

pub returns-in_err-p : goal.returns-in_err-p
returns-in_err-p c =
    let p = err_from_is_err_and c.from_residual.result c.from_residual.ensures.1 in
    rw (p.1, p.2) (answers _ _ _ (receive-refused _ _ _ _ c.in_err-p.ensures (not-accepted _)))

pub returns-in_err-check : goal.returns-in_err-check
returns-in_err-check c =
    let p = err_from_is_err_and c.from_residual-in_err-check.result c.from_residual-in_err-check.ensures.1 in
    let v = c.in_ok-p.ensures in
    rw (p.1, p.2) (answers _ _ _ (receive-faulty _ _ _ v.formed v.right _ (rw c.in_err-check.was at c.check.ensures) (not-accepted _)))

pub receive_frame-requires : goal.receive_frame-requires
receive_frame-requires c =
    let v = c.in_ok-p.ensures in (
      record { laid = v.here.laid; port = v.here.port; found = accepted-found _ (sym (rw c.in_ok-check.was at c.check.ensures)) },
      formed-held _ (octets-of _ (λ i. omega (arith, c.slice_known-1.given i))) v.formed,
    )

pub returns-then-not-receive_frame : goal.returns-then-not-receive_frame
returns-then-not-receive_frame c =
    let v = c.in_ok-p.ensures in
    answers _ _ _ (receive-no-room _ _ _ v.formed v.right (sym (rw c.in_ok-check.was at c.check.ensures)) _ _ (rw v.place_is at c.receive_frame.ensures) c.if-not-receive_frame.true)

pub returns : goal.returns
returns c =
    let v = c.in_ok-p.ensures in
    answers _ _ _ (receive-done _ _ _ v.formed v.right (sym (rw c.in_ok-check.was at c.check.ensures)) _ _ (rw v.place_is at c.receive_frame.ensures) c.if-not-receive_frame.false)
