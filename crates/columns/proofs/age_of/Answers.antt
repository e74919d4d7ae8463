use Rattle.std.proofs.Common.{◌∙◌, ap, not, arith}
use Rattle.columns.proofs.Entries.{age-begins, age-stays, kept_age, no_age}
use Rattle.columns.proofs.age_of.Goals as goal

pub returns-then-is_none : goal.returns-then-is_none
returns-then-is_none c = (no_age c.args.entry _ (c.is_none.ensures ∙ ap not c.if-is_none.true), omega arith)

pub returns-then-res-eq0 : goal.returns-then-res-eq0
returns-then-res-eq0 c = (age-begins _ _ c.if-res-eq0.true ∙ kept_age c.args.entry _ c.if-is_none.ensures, omega (arith, c.ranges))

pub returns : goal.returns
returns c = (c.get.ensures.0 ∙ age-stays _ _ c.if-res-eq0.false ∙ kept_age c.args.entry _ c.if-is_none.ensures, c.get.ensures.1)
