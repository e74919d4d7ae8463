-- `registrar::receive_frame` meets its contract. Assumes nothing.
use borrow.Author.Rules.{rules}
use Rattle.registrar.proofs.Walks.{walked-laid}
use Rattle.registrar.proofs.Receiving.{received-not, received-all}
use Rattle.registrar.proofs.receive_frame.Statement.{statement}
use Rattle.registrar.proofs.receive_frame.Tie as tie

frame-requires : tie.Need-frame-fits-requires
frame-requires c κs = c.requires.0

drop-unheld-requires : tie.Need-drop_unheld-requires
drop-unheld-requires c κs = walked-laid c.frame-fits.ensures

returns : tie.Need-returns-then-not-fits
returns c =
    let a = c.before.before.before.before.before.before.before.before.before.before.before in
    received-not a.args.p a.args.pdu.now a.args.table.now a.requires.0.laid _ _ a.requires.1
    (rw c.if-not-fits.true at c.frame-fits.ensures) c.drop_unheld.ensures

frame-requires-2 : tie.Need-frame-requires
frame-requires-2 c κs =
    let p = c.requires.0 in
    record { laid = walked-laid c.frame-fits.ensures; port = p.port; found = p.found }

returns-2 : tie.Need-returns
returns-2 c =
    let a = c.before.before.before.before.before.before.before.before.before.before.before in
    received-all a.args.p a.args.pdu.now a.args.table.now a.requires.0.laid _ _ _
    (rw c.if-not-fits.false at c.frame-fits.ensures) c.frame.ensures

pub receive_frame_spec : {M : Type 1} → statement M
receive_frame_spec =
    tie.close
    (tie.spec frame-requires drop-unheld-requires (λ c. search rules) returns frame-requires-2 (λ c. search rules) returns-2)
