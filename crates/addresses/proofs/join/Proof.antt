-- `most_addresses::join` meets its contract. Assumes nothing.
use Prim.Native.Nat.{◌<◌}
use mathlib.Core.Path.{sym, ◌∙◌}
use native.Mathlib.Omega.{arith}
use borrow.Author.Rules.{rules}
use Rattle.model.specs.Layout.{most_addresses}
use Rattle.model.specs.Registrations.{joined_address, with_joined}
use Rattle.model.specs.Table.{to_own}
use Rattle.table.proofs.OwnParts.{laid-own-is, laid-own-fits}
use Rattle.addresses.proofs.Records.{lent-address, left-address, changed-same}
use Rattle.addresses.proofs.Searching.{HeldAt, held_at, held-somewhere}
use Rattle.addresses.proofs.join.Statement.{statement}
use Rattle.addresses.proofs.join.Tie as tie

returns : tie.Need-returns-in_default
returns c =
    let first = c.before.before.before in
    let s = first.args.own.now in
    let e = sym c.find.ensures ∙ c.in_default.is in
    absurd (held-somewhere first.args.mac (to_own s).addresses (laid-own-fits s first.requires.laid).addresses.ascending first.requires.holds _ e)

-- the address is found at its place
there : (c : tie.In-Ok) → HeldAt c.args.mac c.in-Ok.k (to_own c.args.own.now).addresses
there c = held_at _ _ _ (sym c.find.ensures ∙ c.in-Ok.is)

few : (c : tie.In-Ok) → c.in-Ok.k < most_addresses
few c =
    let first = c.before.before.before in
    omega (arith, (there c).within, (laid-own-fits first.args.own.now first.requires.laid).addresses.at_most_64)

register-requires : tie.Need-register-requires
register-requires c κs =
    let first = c.before.before.before.before in
    let s = first.args.own.now in
    (lent-address (to_own s) (laid-own-fits s first.requires.laid) s (laid-own-is s first.requires.laid) _ (there c.before).within).size

returns-2 : tie.Need-returns
returns-2 c =
    let first = c.before.before.before.before.before.before.before in
    let s = first.args.own.now in
    let m = first.args.mac in
    let h = there c.before.before.before.before in
    left-address (to_own s) (laid-own-fits s first.requires.laid) s (laid-own-is s first.requires.laid) _ h.within (λ a. joined_address m) _ c.register.ensures
    ∙ changed-same (to_own s) _ (with_joined m) (sym h.joins)

pub join_spec : {M : Type 1} → statement M
join_spec =
    tie.close
    (tie.spec (λ c κs. (c.requires.laid, c.requires.size)) (λ c. search rules) (λ c. search rules) (λ c. search rules) returns (λ c. omega (arith, few c)) (λ c. omega (arith, few c)) (λ c. omega (arith, few c))
    (λ c. search rules) (λ c. search rules) (λ c. omega (arith, few c)) register-requires (λ c. search rules) returns-2)
