use Rattle.std.proofs.Common.{◌≡◌, drop}
use Rattle.model.specs.Registrations.{macs}
use Rattle.model.specs.Table.{to_own}
use Rattle.table.specs.Find.{found_at}
use Rattle.addresses.proofs.find.Given as goal

-- the search from the place k on finds what the whole one finds
abbrev pub invariant-loop-k : goal.invariant-loop-k
invariant-loop-k l =
    found_at l.mac l.k (drop l.k (macs (to_own l.own).addresses)) ≡ found_at l.mac 0 (macs (to_own l.own).addresses)
