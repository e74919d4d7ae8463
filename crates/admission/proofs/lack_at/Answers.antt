use mathlib.Core.Path.{sym}
use Rattle.table.proofs.ByPlace.{lent-result-at, changed-result-at}
use Rattle.columns.specs.Stages.{lacking}
use Rattle.admission.proofs.lack_at.Goals as goal

pub lack-requires : goal.lack-requires
lack-requires c =
    let part = lent-result-at c.requires _ c.result_in-r.ensures.0 in
    (part.laid, part.size)

pub returns : goal.returns
returns c =
    changed-result-at c.requires _ c.result_in-r.ensures.0 (lacking _) _ (c.lack.ensures _ (sym c.bridge_id-id.ensures))
