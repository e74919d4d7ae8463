use Rattle.model.specs.Attributes.{kind_of}
use Rattle.model.specs.Table.{decode}
use Rattle.table.proofs.Places.{at_place}
use Rattle.registrar.proofs.ValueActs.{join-joins, join-fits}
use Rattle.registrar.proofs.Enrolling.{join-stopped, enrolled-laid, enrolled-found, join-room, join-applied}
use Rattle.registrar.proofs.join.Goals as goal

pub returns-in_default : goal.returns-in_default
returns-in_default c =
    let a = c.args in
    let j = join-joins (kind_of a.walk.attribute) a.first.now a.four a.n a.id c.requires.id in
    join-stopped a.walk.p a.id _ j a.table.now c.requires.walk.laid a.walk.applying _ (rw c.in_default.is at c.enrol.ensures)

pub join_cell-requires : goal.join_cell-requires
join_cell-requires c =
    let a = c.args in
    let p = c.requires in
    let k = kind_of a.walk.attribute in
    let j = join-joins k a.first.now a.four a.n a.id p.id in
    let f = join-fits k a.first.now a.n p.value (λ i. (c.type_inv.first i).fits) a.four in
    let e = rw c.in-Some.is at c.enrol.ensures in
    let u = c.enrol.new.table in
    record {
      stands = record {
        laid = enrolled-laid a.walk.p a.id _ j a.table.now p.walk.laid c.in-Some.k u e f;
        held = (at_place a.id c.in-Some.k (decode u).streams (enrolled-found a.walk.p a.id _ j a.table.now p.walk.laid c.in-Some.k u e f)).within;
        port = p.walk.port;
      };
      value = p.value;
      four = p.four;
    }

pub returns-then-walk : goal.returns-then-walk
returns-then-walk c =
    let a = c.args in
    let p = c.requires in
    let k = kind_of a.walk.attribute in
    let j = join-joins k a.first.now a.four a.n a.id p.id in
    let f = join-fits k a.first.now a.n p.value (λ i. (c.type_inv.first i).fits) a.four in
    rw c.if-walk.true
    (join-applied a.walk.p a.id _ j a.table.now p.walk.laid c.in-Some.k c.enrol.new.table (rw c.in-Some.is at c.enrol.ensures) f _ c.join_cell.ensures)

pub returns-else-walk : goal.returns-else-walk
returns-else-walk c =
    let a = c.args in
    let p = c.requires in
    let k = kind_of a.walk.attribute in
    let j = join-joins k a.first.now a.four a.n a.id p.id in
    let f = join-fits k a.first.now a.n p.value (λ i. (c.type_inv.first i).fits) a.four in
    rw c.if-walk.false
    (join-room a.walk.p a.id _ j a.table.now p.walk.laid c.in-Some.k c.enrol.new.table (rw c.in-Some.is at c.enrol.ensures) f)
