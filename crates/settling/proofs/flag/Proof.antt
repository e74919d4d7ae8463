-- `settling::flag` meets its contract. Assumes nothing.
use Prim.Native.Nat.{◌<◌}
use mathlib.Core.Path.{sym, ap, ◌∙◌}
use native.Mathlib.Omega.{arith}
use borrow.Author.Rules.{rules}
use lib.ListN.{length}
use Rattle.model.specs.State.{Port, own_at, supports}
use Rattle.model.specs.Table.{decode}
use Rattle.streams.specs.Answers.{class_shown}
use Rattle.settling.proofs.Edges.{no_flag, supported-flag, unsupported-flag}
use Rattle.settling.proofs.flag.Statement.{statement}
use Rattle.settling.proofs.flag.Tie as tie

returns : tie.Need-returns-then-ports-p
returns c =
    let first = c.before.before.before in
    let b = decode first.args.table.now in
    let p = first.args.p in
    sym (no_flag b.settings p (class_shown first.args.class) (own_at b.owns p).domains (omega (arith, c.ports.ensures.0, c.if-ports-p.true)))

returns-2 : tie.Need-returns-then-supports
returns-2 c =
    let first = c.before.before.before.before.before.before.before in
    let b = decode first.args.table.now in
    let p = first.args.p in
    let k = class_shown first.args.class in
    let h : p < length b.settings.ports = omega (arith, c.ports.ensures.0, c.if-ports-p.false) in
    let e = sym (ap (λ (q : Port). supports q k) c.port_at.ensures.is) ∙ sym c.supports.ensures ∙ c.if-supports.true in
    c.unmatched.ensures ∙ sym (supported-flag b.settings p k (own_at b.owns p).domains h e)

returns-3 : tie.Need-returns
returns-3 c =
    let first = c.before.before.before.before.before.before.before in
    let b = decode first.args.table.now in
    let p = first.args.p in
    let k = class_shown first.args.class in
    let h : p < length b.settings.ports = omega (arith, c.ports.ensures.0, c.if-ports-p.false) in
    let e = sym (ap (λ (q : Port). supports q k) c.port_at.ensures.is) ∙ sym c.supports.ensures ∙ c.if-supports.false in
    c.any_supports.ensures ∙ sym (unsupported-flag b.settings p k (own_at b.owns p).domains h e)

pub flag_spec : {M : Type 1} → statement M
flag_spec =
    tie.close
    (tie.spec (λ c κs. c.requires.laid) returns (λ c κs. search rules) (λ c κs. c.port_at.ensures.size) (λ c κs. search rules) returns-2
    (λ c κs. c.requires.laid) returns-3)
