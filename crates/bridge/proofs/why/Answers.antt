-- The tests, way by way.
use Rattle.std.proofs.Common.{◌≡◌, sym, ◌∙◌, ◌-◌, arith}
use Rattle.std.proofs.lemmas.Result.{err_from_is_err_and}
use Rattle.model.specs.Lists.{Octets}
use Rattle.model.specs.Table.{decode}
use Rattle.model.specs.Why.{held_as, seek}
use Rattle.model.proofs.Parts.{octets-of}
use Rattle.model.proofs.Tables.{valid-decode}
use Rattle.model.proofs.Fits.{laid-fits}
use Rattle.model.proofs.HeldClock.{own-domains-stay, own-addresses-stay}
use Rattle.model.proofs.WhyRefusals.{why-15, why-10, why-tells}
use Rattle.table.specs.Updates.{stream_at}
use Rattle.why.specs.Shown.{why_answered}
use Rattle.bridge.proofs.OnTables.{not-accepted}
use Rattle.bridge.proofs.Asking.{found-held, not_found, refuses, why-of-port}
use Rattle.bridge.proofs.why.Goals as goal

pub returns-in_err-p : goal.returns-in_err-p
unfolding why_answered
returns-in_err-p c =
    let p = err_from_is_err_and c.from_residual.result c.from_residual.ensures.1 in
    rw (p.1, p.2) (why-of-port _ _ _ _ _ c.in_err-p.ensures (not-accepted _))

pub returns-in_default : goal.returns-in_default
unfolding why_answered
returns-in_default c =
    let v = c.in_ok-p.ensures in
    let f = laid-fits _ v.here.laid in
    refuses _ _ _ _ 15 (λ e. omega arith)
    ((why-15 _ _ _ _).1 ((v.formed, v.right), not_found _ _ f.ascending 0 _ (sym c.find.ensures ∙ c.in_default.is)))

pub returns-in_err-long_enough : goal.returns-in_err-long_enough
unfolding why_answered
returns-in_err-long_enough c =
    let p = err_from_is_err_and c.from_residual-in_err-long_enough.result c.from_residual-in_err-long_enough.ensures.1 in
    let v = c.in_ok-p.ensures in
    let w = found-held _ _ 0 _ (sym c.find.ensures ∙ c.in-Ok.is) in
    let short = c.in_err-long_enough.ensures in
    rw (p.1, p.2, short.0) (refuses _ _ _ _ 10 (λ e. omega arith) ((why-10 _ _ _ _).1 ((v.formed, v.right), (_, w.is, short.1))))

pub explain-requires : goal.explain-requires
explain-requires c =
    let t = c.args.table.now in
    let v = c.in_ok-p.ensures in
    let w = found-held _ _ 0 _ (sym c.find.ensures ∙ c.in-Ok.is) in
    let octets : Octets t = octets-of t (λ i. omega (arith, c.type_inv.table i)) in (
      record { laid = v.here.laid; held = omega (arith, w.within); port = v.here.port },
      record { domains = own-domains-stay _ (valid-decode t octets v.formed); addresses = own-addresses-stay _ (valid-decode t octets v.formed) },
      c.in_ok-long_enough.ensures,
    )

pub returns : goal.returns
unfolding why_answered
returns c =
    let t = c.args.table.now in
    let k = c.in-Ok.k in
    let v = c.in_ok-p.ensures in
    let w = found-held _ _ 0 _ (sym c.find.ensures ∙ c.in-Ok.is) in
    let z : k - 0 ≡ k = omega arith in
    let held : seek c.args.id (decode t).streams ≡ held_as (stream_at k (decode t)) = rw z at w.is in
    rw v.place_is at c.explain.ensures ∙ sym (why-tells _ _ _ _ (v.formed, v.right) _ held c.in_ok-long_enough.ensures)
