-- What each place before has is joined.
use Rattle.std.proofs.Common.{◌≡◌}
use Rattle.model.specs.Table.{encode, decode}
use Rattle.table.proofs.EachPort.{senders_to}
use Rattle.bridge.specs.Joining.{joined_at}
use Rattle.bridge.proofs.join_all.Given as goal

abbrev pub invariant-loop-place : goal.invariant-loop-place
invariant-loop-place l =
    let b = decode l.initial.table in
    l.table ≡ encode (senders_to (joined_at b.settings b.senders) l.initial.table l.place)
