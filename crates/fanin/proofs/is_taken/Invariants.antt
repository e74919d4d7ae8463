use Rattle.model.specs.Table.{decode}
use Rattle.fanin.specs.Failures.{shares_with}
use Rattle.fanin.proofs.Addresses.{Searched}
use Rattle.fanin.proofs.is_taken.Given as goal

-- what is left to search gives the answer
abbrev pub invariant-loop-j : goal.invariant-loop-j
invariant-loop-j g l = Searched (shares_with (decode l.table) l.k) l.j l.k
