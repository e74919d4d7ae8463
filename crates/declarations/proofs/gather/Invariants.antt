-- those gathered, and those to gather of the streams to come
use Rattle.std.proofs.Common.{length, take}
use Rattle.model.specs.Registrations.{listeners}
use Rattle.model.specs.Frames.{registers}
use Rattle.model.specs.Table.{decode}
use Rattle.declarations.specs.Passes.{said_from}
use Rattle.declarations.proofs.Packed.{Gathering}
use Rattle.declarations.proofs.gather.Given as goal

abbrev pub invariant-loop-k : goal.invariant-loop-k
invariant-loop-k l = Gathering l.table l.p (take (length l.fn.places) (said_from (registers listeners) l.p (decode l.table) l.first)) l.places l.n l.k
