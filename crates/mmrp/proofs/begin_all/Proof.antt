-- `mmrp::begin_all` meets its contract. Assumes nothing.
use borrow.Author.Rules.{rules}
use Rattle.model.specs.Registrations.{leave_all_addresses}
use Rattle.model.specs.AddressFrames.{all_addresses}
use Rattle.mmrp.proofs.Walks.{laid-size, walked_none, room-leave-all, leaving-room, all_left}
use Rattle.mmrp.proofs.begin_all.Statement.{statement}
use Rattle.mmrp.proofs.begin_all.Tie as tie

returns : tie.Need-returns-then-not-leaves
unfolding all_addresses
returns c =
    let a = c.before.before in
    rw c.if-not-leaves.true (walked_none a.args.walk.applying a.args.walk.clock a.args.own.now a.requires)

leave-all-requires : tie.Need-leave_all-requires
leave-all-requires c κs = let a = c.before.before.before.before in (a.requires, laid-size a.args.own.now a.requires)

returns-2 : tie.Need-returns-then-walk
unfolding all_addresses
returns-2 c =
    let a = c.before.before.before.before.before.before.before in
    rw (c.if-not-leaves.false, c.if-walk.true)
    (all_left a.args.walk.clock a.args.own.now a.requires (search rules) _ c.leave_all.ensures)

returns-3 : tie.Need-returns-else-walk
unfolding all_addresses
returns-3 c =
    let a = c.before.before.before in
    rw c.if-not-leaves.false
    (leaving-room a.args.walk.clock a.args.own.now a.requires a.args.walk.applying leave_all_addresses c.if-walk.false (room-leave-all _))

pub begin_all_spec : {M : Type 1} → statement M
begin_all_spec = tie.close (tie.spec returns leave-all-requires (λ c. search rules) returns-2 returns-3)
