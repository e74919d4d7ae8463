-- `declarations::write_part` meets its contract. Assumes nothing.
use Prim.Native.Nat.{ℕ, ◌+◌, ◌-◌, ◌≤◌}
use mathlib.Core.Path.{◌≡◌, ap, ◌∙◌}
use mathlib.Core.List.{List}
use mathlib.Core.Bool.{true}
use native.Mathlib.Omega.{arith}
use borrow.Author.Rules.{rules}
use lib.ListN.{length}
use Rattle.octets.proofs.Parts.{lent-part, length_part}
use Rattle.model.specs.Frames.{three_length, four_length}
use Rattle.model.specs.Cutting.{octets_for, values}
use Rattle.cutting.specs.Named.{ids_of}
use Rattle.cutting.proofs.Named.{ids-length, part-ends}
use Rattle.declarations.specs.Packed.{listeners_at, events_of, VectorOfPart}
use Rattle.declarations.proofs.Packed.{listeners-ids}
use Rattle.declarations.proofs.Packing.{events-room, vector-is}
use Rattle.declarations.proofs.Written.{holding-lent, holding-all}
use Rattle.declarations.proofs.write_part.Statement.{statement}
use Rattle.declarations.proofs.write_part.Tie as tie

-- there are header and FirstValue before the events
long : {t : List ℕ} {p : ℕ} {places out : List ℕ} → VectorOfPart t p places out
    → length out ≡ 10 + (three_length (values (ids_of t places)) + (four_length true (values (ids_of t places))))
unfolding octets_for
long w = w.room ∙ omega arith

id-of-requires : tie.Need-id_of-requires
id-of-requires c κs =
    let a = c.args in
    let pre = c.requires in
    (pre.telling.named, omega (arith, ids-length a.table.now a.places.now, (part-ends (ids_of a.table.now a.places.now) pre.part pre.telling.named.ascending).some))

write-values-requires : tie.Need-write_values-requires
write-values-requires c κs =
    let pre = c.requires in
    let n : ℕ = length c.args.out.now - 10 in
    let begun = c.begin_vector.new.out in
    let inside : 10 + n ≤ length begun = omega (arith, long pre) in
    record {
      telling = pre.telling;
      part = pre.part;
      room = ap length (lent-part 10 n begun) ∙ length_part 10 n begun inside ∙ omega (arith, long pre);
    }

returns : tie.Need-returns
returns c =
    let a = c.args in
    let pre = c.requires in
    let g = listeners_at a.p a.table.now a.places.now in
    let same = listeners-ids a.table.now a.p a.places.now in
    let n : ℕ = length a.out.now - 10 in
    let events : length (events_of g) ≡ n = omega (arith, events-room g, rw (← same) at pre.room) in
    holding-all (holding-lent c.begin_vector.ensures n c.write_values.ensures events) (omega arith)
    ∙ vector-is g _ _ (rw same c.values_of-values.ensures.0) (rw same c.id_of.ensures)

pub write_part_spec : {M : Type 1} → statement M
write_part_spec =
    tie.close
    (tie.spec (λ c. omega (arith, long c.requires)) (λ c κs. record { named = c.requires.telling.named; part = c.requires.part }) id-of-requires
    (λ c κs. omega (arith, long c.requires)) (λ c. search rules) (λ c. search rules) (λ c. search rules) (λ c. omega (arith, long c.requires))
    write-values-requires (λ c. search rules) returns)
