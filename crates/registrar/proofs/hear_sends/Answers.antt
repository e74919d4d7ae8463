use Rattle.table.proofs.ByPlace.{lent-sends-at, left-sends-at}
use Rattle.registrar.proofs.hear_sends.Goals as goal

pub hear_of-requires : goal.hear_of-requires
hear_of-requires c = let r = lent-sends-at c.requires _ c.sends_in-a.ensures.0 in (r.laid, r.size)

pub returns : goal.returns
returns c = left-sends-at c.requires _ c.sends_in-a.ensures.0 _ _ c.hear_of.ensures
