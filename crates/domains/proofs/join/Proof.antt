-- `domains::join` meets its contract. Assumes nothing.
use mathlib.Core.Path.{ap, ◌∙◌}
use mathlib.Core.List.{List}
use Prim.Native.Nat.{ℕ}
use borrow.Author.Rules.{rules}
use Rattle.octets.specs.Be.{be}
use Rattle.octets.specs.Parts.{patch}
use Rattle.model.specs.Layout.{in_slot}
use Rattle.domains.proofs.Values.{joins}
use Rattle.domains.proofs.join.Statement.{statement}
use Rattle.domains.proofs.join.Tie as tie

returns : tie.Need-returns
returns c =
    let first = c.before.before.before.before.before.before.before.before.before.before.before.before.before in
    let v = first.args.vlan in
    c.put-2.ensures
    ∙ ap (patch in_slot.vlan 2 (be 2 v)) c.put.ensures
    ∙ ap (λ (t : List ℕ). patch in_slot.vlan 2 (be 2 v) (patch 0 1 (be 1 1) t)) c.clear.ensures
    ∙ joins v first.args.slot.now first.requires.0

pub join_spec : {M : Type 1} → statement M
join_spec =
    tie.close
    (tie.spec (λ c κs. search rules) (λ c κs. search rules) (λ c κs. search rules) (λ c. search rules) returns)
