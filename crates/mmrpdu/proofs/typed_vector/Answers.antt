use Rattle.std.proofs.Common.{Ok, length, rules, arith, refl, sym, ap, ◌∙◌}
use Rattle.mmrpdu.proofs.Laws.{named_again, overruns-any, none_out, typed-refused, typed-other, first-length, few-values, typed-past, typed-within}
use Rattle.mmrpdu.proofs.typed_vector.Goals as goal

pub returns-in_err-read : goal.returns-in_err-read
returns-in_err-read c =
    let a = rw c.first_octets-width.ensures at c.vector.ensures in
    let h = typed-refused c.args.version _ c.args.pdu.now c.args.at _ (sym a ∙ c.in_err-read.was) in
    search rules

pub returns-in_default : goal.returns-in_default
returns-in_default c =
    let a = rw c.first_octets-width.ensures at c.vector.ensures in
    sym (typed-other _ _ _ _ _ (sym c.in_ok-read.was ∙ a) (λ w e. c.in_default.not-Vector w cc))

pub runs_out-requires : goal.runs_out-requires
runs_out-requires c =
    let a = sym (rw c.first_octets-width.ensures at c.vector.ensures) ∙ (c.in_ok-read.was ∙ ap Ok c.in-Vector.is) in
    let e = ap length c.first_value_at-first.ensures ∙ first-length _ _ _ _ _ a in
    (omega (arith, few-values _ _ _ _ _ a), rw e (sym (named_again _ _)))

pub returns-then-runs_out : goal.returns-then-runs_out
returns-then-runs_out c =
    let a = sym (rw c.first_octets-width.ensures at c.vector.ensures) ∙ (c.in_ok-read.was ∙ ap Ok c.in-Vector.is) in
    let z = rw c.first_value_at-first.ensures at c.runs_out.ensures in
    sym (typed-past _ _ _ _ _ a _ (z ∙ overruns-any _ _ _ _ _) c.if-runs_out.true)

pub returns-else-runs_out : goal.returns-else-runs_out
returns-else-runs_out c =
    let a = sym (rw c.first_octets-width.ensures at c.vector.ensures) ∙ (c.in_ok-read.was ∙ ap Ok c.in-Vector.is) in
    let z = rw c.first_value_at-first.ensures at c.runs_out.ensures in
    sym (typed-within _ _ _ _ _ a _ (z ∙ overruns-any _ _ _ _ _) c.if-runs_out.false)

-- none of its values runs out of a vector that has none
pub returns-else-head-gt0 : goal.returns-else-head-gt0
returns-else-head-gt0 c =
    let a = sym (rw c.first_octets-width.ensures at c.vector.ensures) ∙ (c.in_ok-read.was ∙ ap Ok c.in-Vector.is) in
    sym (typed-within _ _ _ _ _ a _ refl (none_out _ _ _ (omega arith)))
