use Rattle.std.proofs.Common.{◌≡◌, ◌<◌, ap, ◌∙◌, arith}
use Rattle.model.specs.State.{Settings, Own}
use Rattle.model.specs.Settling.{decide_own, decide_owns}
use Rattle.model.specs.Table.{encode, decode}
use Rattle.table.specs.Updates.{with_own}
use Rattle.table.proofs.EachPort.{no-own-yet, all_own, own-next-in, owns-settings, own-next, one-own-more}
use Rattle.settling.proofs.Edges.{decision, decided-fits, same-decision}
use Rattle.settling.proofs.decide_owns.Goals as goal

pub loop-p-init : goal.loop-p-init
loop-p-init c = no-own-yet (decision _ c.args.time) _ c.requires

pub decide_own-requires : goal.decide_own-requires
decide_own-requires c =
    let l = c.loop-p in
    let t₀ = c.args.table.now in
    let f = decided-fits t₀ c.requires c.args.time in
    let h : l.p < 8 = omega arith in (
      own-next-in (decision t₀ c.args.time) t₀ c.requires f l.p h l.table l.invariant,
      rw (owns-settings (decision t₀ c.args.time) t₀ c.requires f l.p h l.table l.invariant) c.leave_time-leave.ensures.0,
    )

pub loop-p-preserved : goal.loop-p-preserved
loop-p-preserved c =
    let l = c.loop-p in
    let t₀ = c.args.table.now in
    let f = decided-fits t₀ c.requires c.args.time in
    let h : l.p < 8 = omega arith in
    let b = decode l.table in
    one-own-more (decision t₀ c.args.time) t₀ c.requires f l.p h l.table l.invariant _
    (c.decide_own.ensures
    ∙ ap (λ (st : Settings). encode (with_own l.p (decide_own st c.args.time b.owns l.p) b))
    (owns-settings (decision t₀ c.args.time) t₀ c.requires f l.p h l.table l.invariant)
    ∙ ap (λ (o : Own). encode (with_own l.p o b))
    (same-decision (decode t₀).settings c.args.time b.owns (decode t₀).owns l.p
    (own-next (decision t₀ c.args.time) t₀ c.requires f l.p h l.table l.invariant)))

pub returns : goal.returns
unfolding decide_owns
returns c =
    let e : c.loop-p.p ≡ 8 = omega arith in
    all_own (decision _ c.args.time) _ c.requires _ (rw e at c.loop-p.invariant)
