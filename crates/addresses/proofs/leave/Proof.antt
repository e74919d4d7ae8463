-- `most_addresses::leave` meets its contract. Assumes nothing.
use Prim.Native.Nat.{◌<◌}
use mathlib.Core.Path.{sym, ◌∙◌}
use native.Mathlib.Omega.{arith}
use borrow.Author.Rules.{rules}
use Rattle.model.specs.Layout.{most_addresses}
use Rattle.model.specs.Registrations.{quit_address, with_left}
use Rattle.model.specs.Table.{to_own}
use Rattle.table.proofs.OwnParts.{laid-own-is, laid-own-fits}
use Rattle.addresses.proofs.Records.{lent-address, left-address, own_same, changed-same}
use Rattle.addresses.proofs.Searching.{HeldAt, held_at, missing_at}
use Rattle.addresses.proofs.leave.Statement.{statement}
use Rattle.addresses.proofs.leave.Tie as tie

returns : tie.Need-returns-in_default
returns c =
    let first = c.before.before.before in
    let s = first.args.own.now in
    let f = laid-own-fits s first.requires.0 in
    let e = sym c.find.ensures ∙ c.in_default.is in
    laid-own-is s first.requires.0
    ∙ own_same (to_own s)
    ∙ changed-same (to_own s) (λ l. l) (with_left first.args.clock first.args.mac)
    (sym (((missing_at first.args.mac _ (to_own s).addresses e).lacks f.addresses.ascending).leaves first.args.clock))

-- the address is found at its place
there : (c : tie.In-Ok) → HeldAt c.args.mac c.in-Ok.k (to_own c.args.own.now).addresses
there c = held_at _ _ _ (sym c.find.ensures ∙ c.in-Ok.is)

few : (c : tie.In-Ok) → c.in-Ok.k < most_addresses
few c =
    let first = c.before.before.before in
    omega (arith, (there c).within, (laid-own-fits first.args.own.now first.requires.0).addresses.at_most_64)

quit-requires : tie.Need-quit-requires
quit-requires c κs =
    let first = c.before.before.before.before in
    let s = first.args.own.now in
    let r = lent-address (to_own s) (laid-own-fits s first.requires.0) s (laid-own-is s first.requires.0) _ (there c.before).within in
    (r.laid, r.size)

returns-2 : tie.Need-returns
returns-2 c =
    let first = c.before.before.before.before.before.before.before in
    let s = first.args.own.now in
    let h = there c.before.before.before.before in
    left-address (to_own s) (laid-own-fits s first.requires.0) s (laid-own-is s first.requires.0) _ h.within (quit_address first.args.clock) _ c.quit.ensures
    ∙ changed-same (to_own s) _ (with_left first.args.clock first.args.mac) (sym (h.leaves first.args.clock))

pub leave_spec : {M : Type 1} → statement M
leave_spec =
    tie.close
    (tie.spec (λ c κs. search rules) (λ c. search rules) (λ c. search rules) (λ c. search rules) returns (λ c. omega (arith, few c)) (λ c. omega (arith, few c)) (λ c. omega (arith, few c))
    (λ c. search rules) (λ c. search rules) (λ c. omega (arith, few c)) quit-requires (λ c. search rules) returns-2)
