-- `domains::set_flags` meets its contract. Assumes nothing.
use mathlib.Core.Path.{ap, ◌∙◌}
use borrow.Author.Rules.{rules}
use Rattle.octets.specs.Be.{be}
use Rattle.octets.specs.Parts.{patch}
use Rattle.model.specs.Layout.{in_own}
use Rattle.model.specs.Lists.{bit}
use Rattle.model.specs.Table.{to_own}
use Rattle.domains.proofs.Ports.{laid-own-is, laid-own-fits, flags-put}
use Rattle.domains.proofs.set_flags.Statement.{statement}
use Rattle.domains.proofs.set_flags.Tie as tie

returns : tie.Need-returns
unfolding bit
returns c =
    let first = c.before.before.before.before.before.before.before.before.before in
    let s = first.args.own.now in
    let a = first.args.a in
    let b = first.args.b in
    c.put-2.ensures
    ∙ ap (patch in_own.boundary_b 1 (be 1 (bit b))) (c.put.ensures ∙ ap (patch in_own.boundary_a 1 (be 1 (bit a))) (laid-own-is s first.requires.0))
    ∙ flags-put (to_own s) (laid-own-fits s first.requires.0).slotted a b

pub set_flags_spec : {M : Type 1} → statement M
set_flags_spec =
    tie.close
    (tie.spec (λ c. search rules) (λ c κs. search rules) (λ c. search rules) (λ c κs. search rules) (λ c. search rules) returns)
