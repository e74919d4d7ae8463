-- `declarations::write_message` meets its contract. Assumes nothing.
use Rattle.model.specs.Attributes.{type_of}
use mathlib.Core.Path.{◌≡◌, ap, ◌∙◌}
use native.Mathlib.Nat.{suc-mul}
use Prim.Native.Nat.{ℕ, suc, ◌+◌, ◌-◌, ◌≤◌}
use native.Mathlib.Omega.{arith}
use lib.ListN.{length}
use lib.Seq.{length-take-le}
use Rattle.octets.proofs.Parts.{lent-part, length_part}
use Rattle.model.specs.Writing.{leaves_all}
use Rattle.model.specs.Table.{decode}
use Rattle.model.specs.Declarations.{vector_size}
use Rattle.model.proofs.Lists.{all_take}
use Rattle.model.proofs.WritingPasses.{OfAttribute}
use Rattle.declarations.specs.Passes.{said_from, run_of}
use Rattle.declarations.proofs.Fitting.{from-type, vector-least}
use Rattle.declarations.proofs.Written.{lent-vectors, singles-vectors}
use borrow.Author.Rules.{rules}
use Rattle.declarations.proofs.write_message.Statement.{statement}
use Rattle.declarations.proofs.write_message.Tie as tie

-- a vector has some octets
finish-requires : tie.Need-finish-requires
finish-requires c κs =
    let a = c.args in
    let pre = c.requires in
    let size : ℕ = vector_size (type_of a.run.attribute) in
    let i : suc (a.run.count - 1) ≡ a.run.count = omega (arith, pre.0.any) in
    (pre.0.port, omega (arith, pre.1, rw i at (suc-mul (a.run.count - 1) size), vector-least (type_of a.run.attribute)))

returns : tie.Need-returns
returns c =
    let start = c.before.before.before.before.before.before.before.before.before.before in
    let a = start.args in
    let k = type_of a.run.attribute in
    let b = decode a.table.now in
    let out = a.out.now in
    let n : ℕ = length out - 6 in
    let all = said_from k a.p b a.run.first in
    let run = run_of a.table.now a.p a.run in
    let y = c.write_vectors.new.out in
    let inside : 4 + n ≤ length out = omega arith in
    let lent = ap length (lent-part 4 n out) ∙ length_part 4 n out inside in
    let y-long : length y ≡ n = omega (arith, lent) in
    let some : 1 ≤ length run = omega (arith, length-take-le a.run.count all start.requires.0.enough, start.requires.0.any) in
    let own = all_take (OfAttribute k) a.run.count all (from-type b a.p k a.run.first) in
    let written = singles-vectors k start.requires.0.single run in
    c.finish.ensures
    ∙ lent-vectors (leaves_all b a.p) k run n y out y-long (omega arith) own some written.1 (c.write_vectors.ensures ∙ written.0)

pub write_message_spec : {M : Type 1} → statement M
write_message_spec = tie.close (tie.spec (λ c. search rules) (λ c. search rules) (λ c. search rules) (λ c. search rules) (λ c. search rules) (λ c κs. search rules) finish-requires (λ c. search rules) returns)
