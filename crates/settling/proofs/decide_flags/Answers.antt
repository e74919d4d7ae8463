use mathlib.Core.Path.{ap, ◌∙◌}
use mathlib.Core.Bool.{Bool}
use Rattle.model.specs.State.{own_at, class_a}
use Rattle.model.specs.Settling.{flag_of}
use Rattle.model.specs.Table.{encode, decode}
use Rattle.table.specs.Updates.{with_own}
use Rattle.table.proofs.OwnParts.{lent-own-at, left-own-at}
use Rattle.streams.specs.Answers.{named, class_shown}
use Rattle.domains.specs.Classes.{flagged}
use Rattle.settling.proofs.decide_flags.Goals as goal

pub set_flags-requires : goal.set_flags-requires
set_flags-requires c =
    let r = lent-own-at c.requires _ c.own_in-a.ensures.0 in
    (r.laid, r.size)

pub returns : goal.returns
unfolding named class_shown
returns c =
    let b = decode c.args.table.now in
    let p = c.args.p in
    let o = own_at b.owns p in
    let x = c.flag-edge_a.result in
    let y = c.flag-edge_b.result in
    left-own-at c.requires _ c.own_in-a.ensures.0 (flagged x y) _ c.set_flags.ensures
    ∙ ap (λ (f : Bool). encode (with_own p (flagged f y o) b)) c.flag-edge_a.ensures
    ∙ ap (λ (f : Bool). encode (with_own p (flagged (flag_of b.settings p class_a o.domains) f o) b)) c.flag-edge_b.ensures
