-- `mmrp::receive_frame` meets its contract. Assumes nothing.
use mathlib.Core.Bool.{false}
use borrow.Author.Rules.{rules}
use Rattle.model.specs.AddressFrames.{address_walk}
use Rattle.mmrp.specs.Walked.{acts_of}
use Rattle.mmrp.proofs.Walks.{laid-size, walked-laid}
use Rattle.mmrp.proofs.Reading.{received-not, received-all}
use Rattle.mmrp.proofs.receive_frame.Statement.{statement}
use Rattle.mmrp.proofs.receive_frame.Tie as tie

frame-requires : tie.Need-frame-fits-requires
frame-requires c κs = c.requires.frame

drop-vacant-requires : tie.Need-drop_vacant-requires
drop-vacant-requires c κs =
    let a = c.before.before.before.before.before.before.before.before in
    let l = walked-laid false a.args.clock a.args.own.now a.requires.frame.laid (acts_of (address_walk a.args.pdu.now)) c.frame-fits.result _ c.frame-fits.ensures in
    (l, laid-size _ l)

returns : tie.Need-returns-then-not-fits
returns c =
    let a = c.before.before.before.before.before.before.before.before.before.before.before in
    received-not a.args.clock a.args.pdu.now a.args.own.now a.requires.frame.laid a.requires.present _ _
    (rw c.if-not-fits.true at c.frame-fits.ensures) c.drop_vacant.ensures

frame-requires-2 : tie.Need-frame-requires
frame-requires-2 c κs =
    let a = c.before.before.before.before.before.before.before.before in
    let p = a.requires.frame in
    record { laid = walked-laid false a.args.clock a.args.own.now p.laid (acts_of (address_walk a.args.pdu.now)) c.frame-fits.result _ c.frame-fits.ensures; acts = p.acts; found = p.found }

returns-2 : tie.Need-returns
returns-2 c =
    let a = c.before.before.before.before.before.before.before.before.before.before.before in
    received-all a.args.clock a.args.pdu.now a.args.own.now a.requires.frame.laid _
    (rw c.if-not-fits.false at c.frame-fits.ensures) c.frame.result _ c.frame.ensures

pub receive_frame_spec : {M : Type 1} → statement M
receive_frame_spec =
    tie.close
    (tie.spec frame-requires drop-vacant-requires (λ c. search rules) returns frame-requires-2 (λ c. search rules) returns-2)
