-- `domains::quit` meets its contract. Assumes nothing.
use mathlib.Core.Path.{◌∙◌}
use native.Mathlib.Omega.{arith}
use borrow.Author.Rules.{rules}
use Rattle.domains.proofs.Values.{quits, quits-none}
use Rattle.domains.proofs.quit.Statement.{statement}
use Rattle.domains.proofs.quit.Tie as tie

returns : tie.Need-returns-then-slot-gt0
returns c =
    let first = c.before.before.before.before.before.before.before in
    c.begin.ensures ∙ quits first.args.clock first.args.slot.now first.requires.0 c.if-slot-gt0.true

returns-2 : tie.Need-returns-else-slot-gt0
returns-2 c =
    let first = c.before.before.before in
    quits-none first.args.clock first.args.slot.now first.requires.0 (omega (arith, c.if-slot-gt0.false))

pub quit_spec : {M : Type 1} → statement M
quit_spec = tie.close (tie.spec (λ c. search rules) (λ c κs. search rules) (λ c. search rules) returns returns-2)
