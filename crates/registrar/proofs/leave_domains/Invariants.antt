-- The Domain values before the loop's slot are leaving.
use Rattle.std.proofs.Common.{◌≡◌}
use Rattle.model.specs.Table.{encode}
use Rattle.registrar.proofs.DomainsLeft.{slots_left}
use Rattle.registrar.proofs.leave_domains.Given as goal

abbrev pub invariant-loop-slot : goal.invariant-loop-slot
invariant-loop-slot l = l.table ≡ encode (slots_left l.p l.now l.initial.table l.slot)
