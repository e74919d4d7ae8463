use Rattle.std.proofs.Common.{sym, ◌∙◌}
use Rattle.table.proofs.ByPlace.{lent-result-at}
use Rattle.settling.proofs.Merging.{left_alone, talker-on, left-merged}
use Rattle.settling.proofs.merge_stream.Goals as goal

pub returns-in_default : goal.returns-in_default
returns-in_default c = left_alone c.requires (sym c.source.ensures ∙ c.in_default.is)

pub result_in-a-requires : goal.result_in-a-requires
result_in-a-requires c = talker-on c.requires _ (sym c.source.ensures ∙ c.in-Some.is)

pub set_listener-requires : goal.set_listener-requires
set_listener-requires c =
    let on = talker-on c.requires _ (sym c.source.ensures ∙ c.in-Some.is) in
    let r = lent-result-at on _ c.result_in-a.ensures.0 in
    (r.laid, r.size)

pub returns : goal.returns
returns c =
    left-merged c.requires _ (sym c.source.ensures ∙ c.in-Some.is) _ c.result_in-a.ensures.0 _
    (rw c.merged-listener.ensures at c.set_listener.ensures)
