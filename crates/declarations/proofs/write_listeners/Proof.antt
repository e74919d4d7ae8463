-- `declarations::write_listeners` meets its contract. Assumes nothing.
use mathlib.Core.Path.{◌≡◌, refl, ap, ◌∙◌}
use Prim.Native.Nat.{ℕ, ◌+◌, ◌-◌, ◌≤◌}
use native.Mathlib.Omega.{arith}
use lib.ListN.{length}
use Rattle.octets.proofs.Parts.{lent-part, length_part}
use Rattle.octets.specs.Fields.{flat}
use Rattle.model.specs.FrameLayout.{longest_pdu}
use Rattle.model.specs.Registrations.{listeners}
use Rattle.model.specs.Frames.{registers}
use Rattle.model.specs.Writing.{leaves_all}
use Rattle.model.specs.WrittenFrames.{vectors_of, vector_octets}
use Rattle.model.specs.Table.{decode}
use Rattle.declarations.specs.Packed.{listeners_at, packed_vectors}
use Rattle.declarations.proofs.Packed.{listeners-own, listeners-length}
use Rattle.declarations.proofs.Written.{lent-vectors, packed-plain}
use borrow.Author.Rules.{rules}
use Rattle.declarations.proofs.write_listeners.Statement.{statement}
use Rattle.declarations.proofs.write_listeners.Tie as tie

write-parts-requires : tie.Need-write_parts-requires
write-parts-requires c κs =
    let out = c.args.out.now in
    let pre = c.requires in
    let n : ℕ = length out - 6 in
    let inside : 4 + n ≤ length out = omega (arith, pre.some) in
    pre.cut _ (omega (arith, ap length (lent-part 4 n out), length_part 4 n out inside, pre.some))

-- some octets of vectors
finish-requires : tie.Need-finish-requires
finish-requires c κs = (c.requires.port, omega (arith, c.requires.some))

returns : tie.Need-returns
returns c =
    let start = c.before.before.before.before.before.before.before.before.before.before.before.before in
    let a = start.args in
    let pre = start.requires in
    let b = decode a.table.now in
    let out = a.out.now in
    let n : ℕ = length out - 6 in
    let run = listeners_at a.p a.table.now a.places.now in
    let y = c.write_parts.new.out in
    let inside : 4 + n ≤ length out = omega (arith, pre.some) in
    let lent = ap length (lent-part 4 n out) ∙ length_part 4 n out inside in
    let y-long : length y ≡ n = omega (arith, lent) in
    let some : 1 ≤ length run = omega (arith, listeners-length a.table.now a.p a.places.now, pre.any) in
    let is : y ≡ flat vector_octets (vectors_of (registers listeners) run) = c.write_parts.ensures ∙ unfold packed_vectors in refl in
    let short : length (flat vector_octets (vectors_of (registers listeners) run)) ≤ longest_pdu = omega (arith, ap length is, y-long, pre.short) in
    c.finish.ensures
    ∙ lent-vectors (leaves_all b a.p) (registers listeners) run n y out y-long (omega (arith, pre.some)) (listeners-own a.table.now a.p a.places.now) some (packed-plain run short) is

pub write_listeners_spec : {M : Type 1} → statement M
write_listeners_spec = tie.close (tie.spec (λ c. omega (arith, c.requires.some)) (λ c. search rules) (λ c. search rules) (λ c. search rules) (λ c. search rules) write-parts-requires finish-requires (λ c. search rules) returns)
