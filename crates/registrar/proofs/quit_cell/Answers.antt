use Rattle.table.proofs.ByPlace.{lent-cell-at, left-cell-at}
use Rattle.registrar.proofs.quit_cell.Goals as goal

pub quit-requires : goal.quit-requires
quit-requires c = let r = lent-cell-at c.requires _ c.cell_in-a.ensures.0 in record { laid = r.laid; size = r.size }

pub returns : goal.returns
returns c = left-cell-at c.requires _ c.cell_in-a.ensures.0 _ _ c.quit.ensures
