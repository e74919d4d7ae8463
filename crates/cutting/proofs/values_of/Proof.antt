-- `cutting::values_of` meets its contract. Assumes nothing.
use Prim.Native.Nat.{ℕ, ◌-◌, ◌<◌}
use mathlib.Core.Path.{◌≡◌}
use mathlib.Core.List.{List}
use native.Mathlib.Omega.{arith}
use lib.ListN.{length, get_or}
use Rattle.cutting.specs.Named.{ids_of, PartIn}
use Rattle.cutting.proofs.Named.{Ends, part-ends, ids-length}
use Rattle.cutting.proofs.values_of.Statement.{statement}
use Rattle.cutting.proofs.values_of.Tie as tie

ends : (t places : List ℕ) → PartIn t places → Ends (ids_of t places)
ends t places p = part-ends (ids_of t places) p.part p.named.ascending

some : (t places : List ℕ) → PartIn t places → 0 < length places
some t places p = omega (arith, ids-length t places, (ends t places p).some)

id-of-requires : tie.Need-id_of-first-requires
id-of-requires c κs =
    let a = c.args in
    (c.requires.named, some a.table.now a.places.now c.requires)

sub-id-of : tie.Need-overflow_sub-places
sub-id-of c = let a = c.args in omega (arith, some a.table.now a.places.now c.requires)

id-of-requires-2 : tie.Need-id_of-requires
id-of-requires-2 c κs =
    let a = c.args in
    (c.requires.named, omega (arith, some a.table.now a.places.now c.requires))

-- the last StreamID is as far from the first
last : (c : tie.After-id_of) → let a = c.args in c.id_of.result ≡ get_or (ids_of a.table.now a.places.now) (length (ids_of a.table.now a.places.now) - 1) 0
last c = let a = c.args in rw (ids-length a.table.now a.places.now) c.id_of.ensures

sub-result : tie.Need-overflow_sub-result
sub-result c = let a = c.args in omega (arith, last c, c.id_of-first.ensures, (ends a.table.now a.places.now c.requires).order)

add-result : tie.Need-overflow_add-result
add-result c = let a = c.args in omega (arith, last c, c.id_of-first.ensures, (ends a.table.now a.places.now c.requires).near)

returns : tie.Need-returns
returns c =
    let a = c.args in
    let e = ends a.table.now a.places.now c.requires in
    (omega (arith, last c, c.id_of-first.ensures, e.is), omega (arith, last c, c.id_of-first.ensures, e.near))

pub values_of_spec : {M : Type 1} → statement M
values_of_spec =
    tie.close (tie.spec id-of-requires sub-id-of id-of-requires-2 sub-result add-result returns)
