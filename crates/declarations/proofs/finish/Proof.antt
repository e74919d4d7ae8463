-- `declarations::finish` meets its contract. Assumes nothing.
use Rattle.model.specs.Attributes.{type_of}
use mathlib.Core.Path.{refl, ap, ◌∙◌}
use Prim.Native.Nat.{ℕ, ◌-◌}
use native.Mathlib.Omega.{arith}
use lib.ListN.{length}
use Rattle.octets.proofs.Parts.{lent-part, length_part}
use Rattle.model.specs.Writing.{leaves_all}
use Rattle.model.specs.Table.{decode}
use Rattle.declarations.specs.Vectors.{announced}
use Rattle.declarations.proofs.Written.{lent-announced}
use borrow.Author.Rules.{rules}
use Rattle.declarations.proofs.finish.Statement.{statement}
use Rattle.declarations.proofs.finish.Tie as tie

announce-requires : tie.Need-announce-requires
announce-requires c κs =
    let out = c.args.out.now in
    let n : ℕ = length out - 6 in
    (c.requires.0, omega (arith, c.requires.1, ap length (lent-part 4 n out), length_part 4 n out (omega (arith, c.requires.1))))

returns : tie.Need-returns
returns c =
    let a = c.args in
    let out = a.out.now in
    let n : ℕ = length out - 6 in
    let y = c.announce.new.out in
    c.close_message.ensures
    ∙ lent-announced (leaves_all (decode a.table.now) a.p) (type_of a.attribute) n y out (omega (arith, c.requires.1)) refl
    (c.announce.ensures ∙ ap (announced (leaves_all (decode a.table.now) a.p)) (lent-part 4 n out))

pub finish_spec : {M : Type 1} → statement M
finish_spec = tie.close (tie.spec (λ c. search rules) (λ c. search rules) (λ c. search rules) (λ c. search rules) (λ c. search rules) announce-requires (λ c κs. search rules) (λ c. search rules) returns)
