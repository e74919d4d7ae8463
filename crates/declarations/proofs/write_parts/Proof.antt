-- `declarations::write_parts` meets its contract. Assumes nothing.
use Prim.Native.Nat.{ℕ, ◌+◌, ◌-◌, ◌≤◌}
use mathlib.Core.Path.{◌≡◌, refl, ap, ◌∙◌}
use native.Mathlib.Omega.{arith}
use borrow.Author.Rules.{rules}
use lib.ListN.{length, get_or, take, drop}
use Rattle.octets.proofs.Parts.{lent-part, length_part}
use Rattle.model.specs.Cutting.{Part, values, octets_for}
use Rattle.model.specs.WrittenFrames.{packed_vector, vector_octets}
use Rattle.model.proofs.Lists.{all_take, all_drop}
use Rattle.cutting.specs.Named.{ids_of}
use Rattle.cutting.proofs.Named.{ids-length, named-take, named-drop}
use Rattle.cutting.proofs.Loops.{Next, next}
use Rattle.declarations.specs.Packed.{listeners_at, Tells}
use Rattle.declarations.proofs.Packed.{PartsLeft, parts-begin, parts-end, part-shares, part-inside, part-fits, parts-long, parts_more}
use Rattle.declarations.proofs.write_parts.Statement.{statement}
use Rattle.declarations.proofs.write_parts.Tie as tie

abbrev invariant-loop-i : tie.invariant-loop-i
invariant-loop-i table p places firsts out₀ i₀ at₀ out i at = (length out ≡ length out₀) × PartsLeft table p places out i at

abbrev decreases-loop-i : tie.decreases-loop-i
decreases-loop-i table p places firsts out₀ i₀ at₀ out i at = length places - i

-- the next part, and that it ends within the places
part_at : (c : tie.After-shared_slice_known-in-loop-i-1 invariant-loop-i decreases-loop-i)
    → let a = c.args in Next (ids_of a.table.now a.places.now) c.loop-i.i (get_or a.firsts.now c.loop-i.i 0)
part_at c =
    let a = c.args in
    let i : ℕ = c.loop-i.i in
    let long = ids-length a.table.now a.places.now in
    next (ids_of a.table.now a.places.now) i (get_or a.firsts.now i 0) (omega (arith, long)) (c.requires.planned i (omega arith) (omega (arith, long)))

ends : (c : tie.After-shared_slice_known-in-loop-i-1 invariant-loop-i decreases-loop-i) → c.loop-i.i + get_or c.args.firsts.now c.loop-i.i 0 ≤ length c.args.places.now
ends c = part-inside _ _ _ c.loop-i.invariant.1 _ (part_at c)

shares : (c : tie.After-shared_slice_known-in-loop-i-1 invariant-loop-i decreases-loop-i)
    → let a = c.args in
    let i : ℕ = c.loop-i.i in
    Part (ids_of a.table.now (take (i + get_or a.firsts.now i 0 - i) (drop i a.places.now)))
shares c =
    let a = c.args in
    let i : ℕ = c.loop-i.i in
    let e : i + get_or a.firsts.now i 0 - i ≡ get_or a.firsts.now i 0 = omega arith in
    rw e (part-shares _ _ _ c.loop-i.invariant.1 _ (part_at c))

shared-slice-read-end : tie.Need-bounds-firsts-i invariant-loop-i decreases-loop-i
shared-slice-read-end c = omega (arith, c.requires.long, c.requires.telling.named.few)

size-of-requires : tie.Need-size_of-size-requires invariant-loop-i decreases-loop-i
size-of-requires c κs =
    let a = c.args in
    let i : ℕ = c.loop-i.i in
    record {
      named = named-take a.table.now (i + get_or a.firsts.now i 0 - i) (drop i a.places.now) (named-drop a.table.now i a.places.now c.requires.telling.named);
      part = shares c.before;
    }

-- the octets of its vector
size_is : (c : tie.After-size_of-size invariant-loop-i decreases-loop-i)
    → let a = c.args in
    let i : ℕ = c.loop-i.i in
    c.size_of-size.result ≡ octets_for (values (ids_of a.table.now (take (get_or a.firsts.now i 0) (drop i a.places.now))))
size_is c =
    let a = c.args in
    let i : ℕ = c.loop-i.i in
    let e : i + get_or a.firsts.now i 0 - i ≡ get_or a.firsts.now i 0 = omega arith in
    rw e at c.size_of-size.ensures.0

fits : (c : tie.After-size_of-size invariant-loop-i decreases-loop-i) → c.loop-i.at + c.size_of-size.result ≤ length c.loop-i.out
fits c = omega (arith, size_is c, part-fits _ _ _ c.loop-i.invariant.1 _ (part_at c.before.before))

write-part-requires : tie.Need-write_part-requires invariant-loop-i decreases-loop-i
write-part-requires c κs =
    let a = c.args in
    let l = c.loop-i in
    let w = c.requires.telling in
    let size : ℕ = c.size_of-size.result in
    let f : ℕ = l.i + get_or a.firsts.now l.i 0 - l.i in
    record {
      telling = record {
        port = w.port;
        named = named-take a.table.now f (drop l.i a.places.now) (named-drop a.table.now l.i a.places.now w.named);
        each = all_take (Tells a.table.now a.p) f (drop l.i a.places.now) (all_drop (Tells a.table.now a.p) l.i a.places.now w.each);
      };
      part = shares c.before.before.before.before;
      room = ap length (lent-part l.at size l.out) ∙ length_part l.at size l.out (fits c.before.before) ∙ c.size_of-size.ensures.0;
    }

loop-again : tie.Need-loop-i-preserved invariant-loop-i decreases-loop-i
loop-again c =
    let a = c.args in
    let l = c.loop-i in
    let f : ℕ = get_or a.firsts.now l.i 0 in
    let e : l.i + f - l.i ≡ f = omega arith in
    let size : ℕ = c.size_of-size.result in
    let y = c.write_part.new.out in
    let lent = ap length (lent-part l.at size l.out) ∙ length_part l.at size l.out (fits c.before.before.before.before.before) in
    let y-long : length y ≡ size = omega (arith, lent) in
    let written : y ≡ vector_octets (packed_vector (listeners_at a.p a.table.now (take f (drop l.i a.places.now)))) = rw e at c.write_part.ensures in
    (parts-long _ _ _ l.invariant.1 f (part_at c.before.before.before.before.before.before.before) size (size_is c.before.before.before.before.before) y y-long ∙ l.invariant.0, parts_more _ _ _ l.invariant.1 f (part_at c.before.before.before.before.before.before.before) size (size_is c.before.before.before.before.before) y y-long written)

pub write_parts_spec : {M : Type 1} → statement M
write_parts_spec =
    tie.close
    (tie.spec invariant-loop-i decreases-loop-i (λ c. (refl, parts-begin _ _ _ _ c.requires.fits)) shared-slice-read-end (λ c. omega (arith, c.shared_slice_known-in-loop-i-1.given c.loop-i.i))
    (λ c. omega (arith, c.shared_slice_known-in-loop-i-1.given c.loop-i.i, c.requires.telling.named.few)) (λ c. search rules) (λ c. search rules) (λ c. omega (arith, ends c)) size-of-requires
    (λ c. search rules) (λ c. search rules) (λ c. omega (arith, ends c.before.before)) (λ c. search rules) (λ c. search rules) (λ c. search rules)
    (λ c. omega (arith, fits c.before)) write-part-requires (λ c. search rules) (λ c. omega (arith, ends c.before.before.before.before.before.before.before, (part_at c.before.before.before.before.before.before.before).some)) loop-again
    (λ c. search rules) (λ c. parts-end _ _ _ c.loop-i.invariant.1 (omega arith)))
