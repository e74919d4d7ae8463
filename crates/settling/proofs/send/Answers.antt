use Rattle.settling.proofs.Sent.{declared-laid, dropped-laid, sent-octets}
use Rattle.settling.proofs.send.Goals as goal

pub drop_unheld-requires : goal.drop_unheld-requires
drop_unheld-requires c = declared-laid _ c.requires.0 _ c.declare_all.ensures

pub time_all-requires : goal.time_all-requires
time_all-requires c = dropped-laid _ c.requires.0 _ c.declare_all.ensures _ c.drop_unheld.ensures

pub returns : goal.returns
returns c =
    sent-octets _ c.requires.0 _ c.declare_all.ensures _ c.drop_unheld.ensures c.args.time c.requires.1 _ c.time_all.ensures
