use Rattle.std.proofs.Common.{◌≡◌, drop}
use Rattle.model.specs.Settling.{any_supports}
use Rattle.model.specs.Table.{decode}
use Rattle.streams.specs.Answers.{class_shown}
use Rattle.settling.proofs.any_supports.Given as goal

-- what the ports from here on support gives the answer
abbrev pub invariant-loop-p : goal.invariant-loop-p
invariant-loop-p l =
    let ports = (decode l.table).settings.ports in
    any_supports (class_shown l.class) (drop l.p ports) ≡ any_supports (class_shown l.class) ports
