-- `cutting::id_of` meets its contract. Assumes nothing.
use mathlib.Core.Path.{◌∙◌}
use native.Mathlib.Omega.{arith}
use borrow.Author.Rules.{rules}
use Rattle.cutting.proofs.Named.{ids_at, named-at}
use Rattle.cutting.proofs.id_of.Statement.{statement}
use Rattle.cutting.proofs.id_of.Tie as tie

cast-id-at : tie.Need-overflow_cast-places
cast-id-at c = omega (arith, c.shared_slice_known-3-1.given c.args.i)

id-at-requires : tie.Need-id_at-requires
id-at-requires c κs =
    let a = c.args in
    let p = c.requires in
    named-at a.table.now a.places.now a.i p.0 p.1

returns : tie.Need-returns
returns c =
    let a = c.args in
    c.id_at.ensures ∙ ids_at a.table.now a.places.now a.i c.requires.1

pub id_of_spec : {M : Type 1} → statement M
id_of_spec = tie.close (tie.spec (λ c. search rules) cast-id-at id-at-requires returns)
