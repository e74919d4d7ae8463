-- `addresses::enrol` meets its contract. Assumes nothing.
use mathlib.Core.Path.{refl, sym, ◌∙◌}
use native.Mathlib.Omega.{arith}
use borrow.Author.Rules.{rules}
use Rattle.addresses.proofs.Searching.{missing_at}
use Rattle.addresses.proofs.Places.{enrolled-there, enrolled-full, enrolled-made}
use Rattle.addresses.proofs.enrol.Statement.{statement}
use Rattle.addresses.proofs.enrol.Tie as tie

returns : tie.Need-returns-in_default
returns c =
    let first = c.before.before.before in
    enrolled-there first.args.own.now first.requires.0 first.args.mac _ (sym c.find.ensures ∙ c.in_default.is)

returns-2 : tie.Need-returns-then-count-eq-MOST_ADDRESSES
returns-2 c =
    let first = c.before.before.before.before.before in
    let e = sym c.find.ensures ∙ c.in-Err.is in
    (enrolled-full first.args.own.now first.requires.0 first.args.mac _ e (sym c.count.ensures.0 ∙ c.if-count-eq-MOST_ADDRESSES.true), refl)

insert-requires : tie.Need-insert-requires
insert-requires c κs =
    let first = c.before.before.before.before.before.before in
    let n = c.count.ensures in
    let r = missing_at _ _ _ (sym c.find.ensures ∙ c.in-Err.is) in
    record { laid = first.requires.0; size = first.requires.1; few = search rules; within = r.within }

returns-3 : tie.Need-returns
returns-3 c =
    let first = c.before.before.before.before.before.before.before.before.before in
    let n = c.count.ensures in
    let e = sym c.find.ensures ∙ c.in-Err.is in
    enrolled-made first.args.own.now first.requires.0 first.args.mac _ e _ (omega arith) c.insert.ensures

pub enrol_spec : {M : Type 1} → statement M
enrol_spec =
    tie.close
    (tie.spec (λ c κs. search rules) (λ c. search rules) (λ c. search rules) (λ c. search rules) returns (λ c κs. search rules) (λ c. search rules) returns-2 insert-requires (λ c. search rules) returns-3)
