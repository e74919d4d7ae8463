use Rattle.std.proofs.Common.{◌≡◌}
use Rattle.model.specs.Settling.{time_sender}
use Rattle.model.specs.Table.{encode, decode}
use Rattle.table.proofs.EachPort.{senders_to}
use Rattle.settling.proofs.time_all.Given as goal

abbrev pub invariant-loop-p : goal.invariant-loop-p
invariant-loop-p l =
    let b = decode l.initial.table in
    l.table ≡ encode (senders_to (time_sender b.settings l.time b.senders) l.initial.table l.p)
