use Rattle.std.proofs.Common.{◌≡◌, ◌≤◌, ◌-◌}
use Rattle.octets.specs.Be.{be}
use Rattle.octets.specs.Parts.{patch}
use Rattle.octets.proofs.put.Given as goal

-- what is left to store, from its end
abbrev pub invariant-loop-i : goal.invariant-loop-i
invariant-loop-i l =
    (l.at ≤ l.i) × (patch l.at (l.i - l.at) (be (l.i - l.at) l.rest) l.s ≡ patch l.at l.n (be l.n l.x) l.initial.s)
