-- `cutting::pack` gives the longest run and the plan of its least cutting. Assumes nothing.
use Prim.Native.Nat.{ℕ}
use mathlib.Core.Path.{◌≡◌, sym, ◌∙◌}
use native.Mathlib.Omega.{arith}
use borrow.Author.Rules.{rules}
use lib.ListN.{length, take}
use lib.Seq.{length-take-le}
use Rattle.cutting.specs.Named.{ids_of}
use Rattle.cutting.proofs.Named.{ids-length, ids-take, named-take}
use Rattle.cutting.proofs.pack.Statement.{statement}
use Rattle.cutting.proofs.pack.Tie as tie

slice-aggregate-plan : tie.Need-slice_bounds-plan-end
slice-aggregate-plan c = sym (length-take-le c.fit-n.result c.args.places.now c.fit-n.ensures.1)

plan-requires : tie.Need-plan-requires
plan-requires c κs =
    let a = c.args in
    (named-take a.table.now c.fit-n.result a.places.now c.requires.0, omega arith, omega arith)

returns : tie.Need-returns
returns c =
    let a = c.args in
    let n : ℕ = c.fit-n.result in
    let cut : ids_of a.table.now (take n a.places.now) ≡ take n (ids_of a.table.now a.places.now) = ids-take a.table.now n a.places.now in
    let planned = rw cut at c.plan.ensures in
    let said = c.fit-n.ensures in
    let long : length (take n a.places.now) ≡ n = length-take-le n a.places.now said.1 in (
      record {
        number = said.0;
        within = omega (arith, said.1, ids-length a.table.now a.places.now);
        weighed = planned.0;
        counted = planned.1;
      },
      (rw long at planned.2) ∙ said.2,
      rw long at planned.3,
    )

pub pack_spec : {M : Type 1} → statement M
pack_spec = tie.close (tie.spec (λ c κs. search rules) slice-aggregate-plan plan-requires (λ c. search rules) (λ c. search rules) returns)
