use Rattle.std.proofs.Common.{◌≡◌, refl, sym, ap, ◌∙◌, length, arith}
use Rattle.model.specs.State.{Port, supports}
use Rattle.model.specs.Table.{decode}
use Rattle.streams.specs.Answers.{class_shown}
use Rattle.settling.proofs.Edges.{supported-here, unsupported-next, no-port-left}
use Rattle.settling.proofs.any_supports.Goals as goal

pub loop-p-init : goal.loop-p-init
loop-p-init c = refl

pub port_at-requires : goal.port_at-requires
port_at-requires c = record { laid = c.requires; port = omega (arith, c.ports-ports.ensures) }

pub returns-then-supports : goal.returns-then-supports
returns-then-supports c =
    let l = c.loop-p in
    let k = class_shown c.args.class in
    let e = sym (ap (λ (q : Port). supports q k) c.port_at.ensures.is) ∙ sym c.supports.ensures ∙ c.if-supports.true in
    sym (supported-here (decode c.args.table.now).settings k l.p (omega (arith, c.ports-ports.ensures)) e) ∙ l.invariant

pub loop-p-preserved : goal.loop-p-preserved
loop-p-preserved c =
    let l = c.loop-p in
    let k = class_shown c.args.class in
    let e = sym (ap (λ (q : Port). supports q k) c.port_at.ensures.is) ∙ sym c.supports.ensures ∙ c.if-supports.false in
    sym (unsupported-next (decode c.args.table.now).settings k l.p (omega (arith, c.ports-ports.ensures)) e) ∙ l.invariant

pub returns : goal.returns
returns c =
    let st = (decode c.args.table.now).settings in
    let e : c.loop-p.p ≡ length st.ports = omega (arith, c.ports-ports.ensures) in
    sym (no-port-left st (class_shown c.args.class)) ∙ (rw e at c.loop-p.invariant)
