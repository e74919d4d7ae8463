use Rattle.std.proofs.Common.{◌≡◌, drop}
use Rattle.model.specs.Settling.{source, source_of}
use Rattle.model.specs.Table.{decode}
use Rattle.table.specs.Updates.{stream_at}
use Rattle.streams.proofs.source.Given as goal

-- the search from here on finds what that of the whole stream does
abbrev pub invariant-loop-p : goal.invariant-loop-p
invariant-loop-p l = source l.p (drop l.p (stream_at l.k (decode l.table)).cells) ≡ source_of (stream_at l.k (decode l.table))
