use Rattle.std.proofs.Common.{◌≡◌, ◌≤◌, ◌++◌, length, take, drop}
use Rattle.model.specs.Table.{decode}
use Rattle.streams.specs.Answers.{named}
use Rattle.admission.specs.Sharing.{orders, orders_on}
use Rattle.admission.proofs.gather.Given as goal

abbrev pub invariant-loop-k : goal.invariant-loop-k
invariant-loop-k l =
    let b = decode l.table in
    let c = named l.class in
    (l.n ≤ l.k) × (length l.numbers ≡ 64) × (take l.n l.numbers ++ orders b.settings l.p c l.k (drop l.k b.streams) ≡ orders_on l.p c b)
