-- `registrar::enrol` meets its contract. Assumes nothing.
use mathlib.Core.Path.{sym, ◌∙◌}
use native.Mathlib.Omega.{arith}
use borrow.Author.Rules.{rules}
use Rattle.table.proofs.Places.{at_gap}
use Rattle.registrar.proofs.Enrolling.{enrolled-there, enrolled-made, no_room}
use Rattle.registrar.proofs.enrol.Statement.{statement}
use Rattle.registrar.proofs.enrol.Tie as tie

find-requires : tie.Need-find-requires
find-requires c κs = c.requires

count-requires : tie.Need-count-requires
count-requires c κs = c.requires

returns : tie.Need-returns-then-count-eq64
returns c =
    let a = c.args in
    no_room a.table.now c.requires a.id _ (sym c.find.ensures ∙ c.in-Err.is)
    (sym c.count.ensures.0 ∙ c.if-count-eq64.true)

insert-requires : tie.Need-insert-requires
insert-requires c κs =
    let n = c.count.ensures in
    let g = at_gap _ _ _ (sym c.find.ensures ∙ c.in-Err.is) in
    record { laid = c.requires; few = search rules; within = g.within }

returns-2 : tie.Need-returns-in-Ok
returns-2 c =
    let a = c.args in
    enrolled-there a.table.now c.requires a.id _ (sym c.find.ensures ∙ c.in-Ok.is)

returns-3 : tie.Need-returns-else-count-eq64
returns-3 c =
    let a = c.args in
    let n = c.count.ensures in
    enrolled-made a.table.now c.requires a.id _ (sym c.find.ensures ∙ c.in-Err.is) _ (search rules) (omega arith)
    c.insert.ensures

pub enrol_spec : {M : Type 1} → statement M
enrol_spec =
    tie.close
    (tie.spec find-requires (λ c. search rules) (λ c. search rules) count-requires (λ c. search rules) returns insert-requires
    (λ c. search rules) returns-2 (λ c. search rules) returns-3)
