use Rattle.table.proofs.ByPlace.{lent-totals-at, left-totals-at}
use Rattle.admission.proofs.store_total.Goals as goal

pub returns : goal.returns
returns c =
    let there = c.totals_in-a.ensures.0 in
    left-totals-at c.requires _ there _ _ (c.put_total.ensures _ (lent-totals-at c.requires _ there).laid)
