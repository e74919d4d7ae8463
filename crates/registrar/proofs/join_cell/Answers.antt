use Rattle.table.proofs.ByPlace.{lent-cell-at, left-cell-at}
use Rattle.registrar.proofs.ValueActs.{join-listens, join-talks, destination-fits}
use Rattle.registrar.proofs.join_cell.Goals as goal

pub join_listener-requires : goal.join_listener-requires
join_listener-requires c =
    let p = c.requires in
    let r = lent-cell-at p.stands _ c.cell_in-a.ensures.0 in
    let f = rw c.in-Listener.is at p.four in
    record { laid = r.laid; size = r.size; low = f.0; high = f.1 }

pub join_talker-requires : goal.join_talker-requires
join_talker-requires c =
    let p = c.requires in
    let r = lent-cell-at p.stands _ c.cell_in-a.ensures.0 in
    let v = rw c.in-Talker.is at p.value in
    record {
      laid = r.laid;
      size = r.size;
      octets = v.octets;
      destination = destination-fits c.in-Talker.talker c.args.first.now c.args.n v;
    }

pub returns-in-Listener : goal.returns-in-Listener
returns-in-Listener c clock =
    let a = c.args in
    rw (c.in-Listener.is, join-listens a.first.now a.four a.n)
    (left-cell-at c.requires.stands _ c.cell_in-a.ensures.0 _ _ (c.join_listener.ensures clock _))

pub returns-in-Talker : goal.returns-in-Talker
returns-in-Talker c clock =
    let a = c.args in
    rw (c.in-Talker.is, join-talks c.in-Talker.talker a.first.now a.four a.n)
    (left-cell-at c.requires.stands _ c.cell_in-a.ensures.0 _ _ (c.join_talker.ensures clock))
