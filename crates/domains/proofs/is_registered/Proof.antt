-- `domains::is_registered` meets its contract. Assumes nothing.
use mathlib.Core.Path.{sym, ◌∙◌}
use borrow.Author.Rules.{rules}
use borrow.Author.Tests.{eq-eqb, ne_eqb}
use Rattle.domains.proofs.Registered.{domain-registered}
use Rattle.domains.proofs.is_registered.Statement.{statement}
use Rattle.domains.proofs.is_registered.Tie as tie

returns : tie.Need-returns-then-slot-eq0
returns c = sym (domain-registered c.args.slot.now ∙ rw (eq-eqb _ _ c.if-slot-eq0.true))

returns-2 : tie.Need-returns
returns-2 c = sym (domain-registered c.args.slot.now ∙ rw (ne_eqb _ _ c.if-slot-eq0.false))

pub is_registered_spec : {M : Type 1} → statement M
is_registered_spec = tie.close (tie.spec (λ c. search rules) returns (λ c. search rules) returns-2)
