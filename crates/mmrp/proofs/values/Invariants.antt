use Rattle.std.proofs.Common.{◌≡◌, ◌-◌, ◌≤◌, length}
use Rattle.model.specs.AddressFrames.{address_values}
use Rattle.mmrp.specs.Walked.{vector_of}
use Rattle.mmrp.proofs.Walks.{Going}
use Rattle.mmrp.proofs.values.Given as goal

-- the acts of the values from n on are left
abbrev pub invariant-loop-n : goal.invariant-loop-n
invariant-loop-n l =
    (length l.own ≡ length l.initial.own) × Going l.walk.applying l.walk.clock (address_values (vector_of l.first l.events) 0 l.count) l.initial.own (address_values (vector_of l.first l.events) l.n (l.count - l.n)) l.own
