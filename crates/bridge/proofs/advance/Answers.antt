-- The tests, way by way.
use Rattle.std.proofs.Common.{sym, ap, ◌∙◌, List, ℕ, arith}
use Rattle.model.proofs.Parts.{octets-of}
use Rattle.model.proofs.Fits.{formed-laid}
use Rattle.bridge.proofs.OnTables.{answers, advance-unformed, advance-early, advance-settles}
use Rattle.bridge.proofs.advance.Goals as goal

pub returns-then-not-is_formed : goal.returns-then-not-is_formed
returns-then-not-is_formed c = answers _ _ _ (advance-unformed _ _ (sym c.is_formed.ensures ∙ c.if-not-is_formed.true))

pub clock-requires : goal.clock-requires
clock-requires c =
    let t = c.args.table.now in
    formed-laid t (octets-of t (λ i. omega (arith, c.slice_known-1.given i))) (sym c.is_formed.ensures ∙ c.if-not-is_formed.false)

pub returns-then-time-clock : goal.returns-then-time-clock
returns-then-time-clock c =
    let f = sym c.is_formed.ensures ∙ c.if-not-is_formed.false in
    answers _ _ _ (advance-early _ _ f (rw c.clock.ensures at c.if-time-clock.true))

pub settle-requires : goal.settle-requires
settle-requires c =
    let t = c.args.table.now in
    formed-laid t (octets-of t (λ i. omega (arith, c.slice_known-1.given i))) (sym c.is_formed.ensures ∙ c.if-not-is_formed.false)

pub returns : goal.returns
returns c =
    let f = sym c.is_formed.ensures ∙ c.if-not-is_formed.false in
    let e = advance-settles _ _ f (rw c.clock.ensures at c.if-time-clock.false) in
    answers _ _ _ (e ∙ ap (λ (u : List ℕ). record { number = 0; table = u }) (sym c.settle.ensures))
