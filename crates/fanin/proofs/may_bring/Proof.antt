-- `fanin::may_bring` meets its contract. Assumes nothing.
use mathlib.Core.Path.{sym, ◌∙◌}
use Prim.Native.Nat.{◌-◌, ◌*◌, ◌%◌, ◌^◌, ◌<◌}
use native.Mathlib.Omega.{arith}
use borrow.Author.Rules.{rules}
use lib.Pow.{pow_pos}
use Rattle.fanin.proofs.Sets.{unit, few_ones, no-limit, by_count}
use Rattle.fanin.proofs.may_bring.Statement.{statement}
use Rattle.fanin.proofs.may_bring.Tie as tie

returns : tie.Need-returns-then-limit-eq0
returns c = no-limit _ _ _ (sym c.fan_in-limit.ensures ∙ c.if-limit-eq0.true)

sub-below : tie.Need-overflow_sub-below
sub-below c =
    let a = c.before.before.before in
    omega (arith, unit a.args.t a.requires.1, pow_pos a.args.t)

cast-result : tie.Need-overflow_cast-result
cast-result c =
    let a = c.args in
    let h : a.inbound < 256 = omega arith in
    omega (arith, few_ones a.inbound ((1 * 2 ^ a.t) % 2 ^ 8 - 1) h)

returns-2 : tie.Need-returns
returns-2 c =
    let a = c.before.before.before in
    rw (← c.fan_in-limit.ensures) (by_count _ _ _ c.if-limit-eq0.false a.requires.1 _ _ a.requires.2 (unit a.args.t a.requires.1))

pub may_bring_spec : {M : Type 1} → statement M
may_bring_spec =
    tie.close
    (tie.spec (λ c κs. search rules) returns (λ c. search rules) (λ c. search rules) sub-below cast-result returns-2)
