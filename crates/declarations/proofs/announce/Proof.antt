-- `declarations::announce` meets its contract. Assumes nothing.
use mathlib.Core.Path.{sym, ◌∙◌}
use Rattle.octets.specs.Parts.{patch}
use Rattle.declarations.specs.Vectors.{announced}
use borrow.Author.Rules.{rules}
use Rattle.declarations.proofs.announce.Statement.{statement}
use Rattle.declarations.proofs.announce.Tie as tie

returns : tie.Need-returns-then-leaves_all
unfolding announced patch
returns c = rw (sym c.leaves_all.ensures ∙ c.if-leaves_all.true) (c.put.ensures ∙ rw c.get-values.ensures.0)

returns-2 : tie.Need-returns-else-leaves_all
unfolding announced
returns-2 c = rw (sym c.leaves_all.ensures ∙ c.if-leaves_all.false)

pub announce_spec : {M : Type 1} → statement M
announce_spec = tie.close (tie.spec (λ c κs. search rules) (λ c κs. search rules) (λ c. search rules) (λ c κs. search rules) (λ c. search rules) returns returns-2)
