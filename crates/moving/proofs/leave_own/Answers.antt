use Rattle.registrar.proofs.Walks.{walked-laid}
use Rattle.moving.proofs.Whole.{four-left}
use Rattle.moving.proofs.leave_own.Goals as goal

pub leave_all-requires-2 : goal.leave_all-requires-2
leave_all-requires-2 c = record { laid = walked-laid c.leave_all.ensures; port = c.requires.port }

pub leave_all-requires-3 : goal.leave_all-requires-3
leave_all-requires-3 c = record { laid = walked-laid c.leave_all-2.ensures; port = c.requires.port }

pub leave_domains-requires : goal.leave_domains-requires
leave_domains-requires c = record { laid = walked-laid c.leave_all-3.ensures; port = c.requires.port }

pub returns : goal.returns
returns c = four-left _ c.leave_all.ensures c.leave_all-2.ensures c.leave_all-3.ensures c.leave_domains.ensures
