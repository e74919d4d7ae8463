use Rattle.std.proofs.Common.{◌≡◌}
use Rattle.model.specs.State.{Settings}
use Rattle.model.specs.Table.{own_octets, to_own}
use Rattle.domains.proofs.Ports.{lapsed_to}
use Rattle.domains.proofs.expire_all.Given as goal

abbrev pub invariant-loop-i : goal.invariant-loop-i
invariant-loop-i l = (st : Settings) → st.leave_time ≡ l.leave → l.own ≡ own_octets (lapsed_to st l.time l.i (to_own l.initial.own))
