-- `declarations::close_message` meets its contract. Assumes nothing.
use Rattle.model.specs.Attributes.{type_of}
use Prim.Native.Nat.{ℕ, ◌+◌, ◌-◌, ◌≤◌}
use mathlib.Core.Path.{◌∙◌}
use native.Mathlib.Omega.{arith}
use borrow.Author.Rules.{rules}
use lib.ListN.{length}
use Rattle.octets.specs.Parts.{part}
use Rattle.octets.proofs.Parts.{length_part}
use Rattle.declarations.proofs.Written.{holding-none, holding-put, holding-kept, holding-all, message-is}
use Rattle.declarations.proofs.close_message.Statement.{statement}
use Rattle.declarations.proofs.close_message.Tie as tie

returns : tie.Need-returns
returns c =
    let start = c.before.before.before.before.before.before.before.before.before.before.before.before.before.before in
    let a = start.args in
    let out = a.out.now in
    let n : ℕ = length out - 6 in
    let header = c.type_and_length in
    let inside : 4 + n ≤ length out = omega arith in
    let typed = holding-put (holding-none out) 2 header.result c.put.ensures in
    let counted = holding-put typed 2 (n + 2) c.put-2.ensures in
    let listed = holding-kept counted n inside in
    holding-all (holding-put listed 2 0 c.put-3.ensures) (omega arith)
    ∙ message-is (type_of a.attribute) (part 4 n out) header.result n header.ensures (length_part 4 n out inside)

pub close_message_spec : {M : Type 1} → statement M
close_message_spec =
    tie.close
    (tie.spec (λ c. search rules) (λ c κs. search rules) (λ c κs. search rules) (λ c. search rules) (λ c κs. search rules) (λ c. search rules)
    (λ c κs. search rules) (λ c. search rules) returns)
