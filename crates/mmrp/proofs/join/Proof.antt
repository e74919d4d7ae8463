-- `mmrp::join` meets its contract. Assumes nothing.
use borrow.Author.Rules.{rules}
use Rattle.mmrp.proofs.Walks.{laid-size, join-stopped, join-room, join-held, join-done}
use Rattle.mmrp.proofs.join.Statement.{statement}
use Rattle.mmrp.proofs.join.Tie as tie

enrol-requires : tie.Need-enrol-there-requires
enrol-requires c κs = let a = c.before.before in (a.requires.0, laid-size a.args.own.now a.requires.0)

returns : tie.Need-returns-then-not-there
returns c =
    let a = c.before.before.before.before.before.before in
    let e = c.enrol-there in
    join-stopped a.args.walk.clock a.args.own.now a.requires.0 a.args.mac a.requires.1 e.result _ e.ensures.0 e.ensures.1 a.args.walk.applying
    c.if-not-there.true

join-requires : tie.Need-join-requires
join-requires c κs =
    let a = c.before.before.before.before.before.before.before.before in
    let e = c.enrol-there in
    join-held a.args.walk.clock a.args.own.now a.requires.0 a.args.mac a.requires.1 e.result _ e.ensures.0 e.ensures.1
    c.if-not-there.false

returns-2 : tie.Need-returns-then-walk
returns-2 c =
    let a = c.before.before.before.before.before.before.before.before.before.before.before in
    let e = c.enrol-there in
    join-done a.args.walk.clock a.args.own.now a.requires.0 a.args.mac a.requires.1 e.result _ e.ensures.0 e.ensures.1
    c.if-not-there.false a.args.walk.applying c.if-walk.true _ c.join.ensures

returns-3 : tie.Need-returns-else-walk
returns-3 c =
    let a = c.before.before.before.before.before.before.before in
    let e = c.enrol-there in
    join-room a.args.walk.clock a.args.own.now a.requires.0 a.args.mac a.requires.1 e.result _ e.ensures.0 e.ensures.1
    c.if-not-there.false a.args.walk.applying c.if-walk.false

pub join_spec : {M : Type 1} → statement M
join_spec =
    tie.close
    (tie.spec enrol-requires (λ c. search rules) returns join-requires (λ c. search rules) returns-2 (λ c. search rules) returns-3)
