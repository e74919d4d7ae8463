use Rattle.std.proofs.Common.{sym, ◌∙◌}
use Rattle.admission.proofs.Turns.{turn-lacks, turn-heard, turn-unheard}
use Rattle.admission.proofs.turn.Goals as goal

pub returns-then-limit-used : goal.returns-then-limit-used
returns-then-limit-used c =
    turn-lacks c.requires.0 _ _ _ c.requires.1 _ c.demand_in-d.ensures.0 c.if-limit-used.true _ c.lack_at.ensures

pub returns-then-is_heard : goal.returns-then-is_heard
returns-then-is_heard c =
    turn-heard c.requires.0 _ _ _ c.requires.1 _ c.demand_in-d.ensures.0 c.if-limit-used.false (sym c.is_heard.ensures ∙ c.if-is_heard.true)

pub returns : goal.returns
returns c =
    turn-unheard c.requires.0 _ _ _ c.requires.1 _ c.demand_in-d.ensures.0 c.if-limit-used.false (sym c.is_heard.ensures ∙ c.if-is_heard.false)
