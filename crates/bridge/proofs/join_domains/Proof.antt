-- `bridge::join_domains` meets its contract. Assumes nothing.
use native.Mathlib.Omega.{arith}
use borrow.Author.Rules.{rules}
use Rattle.model.proofs.Fits.{laid-fits}
use Rattle.streams.specs.Answers.{named}
use Rattle.bridge.proofs.Joining.{then-in, both-done}
use Rattle.bridge.proofs.join_domains.Statement.{statement}
use Rattle.bridge.proofs.join_domains.Tie as tie

join-class-requires : tie.Need-join_class-requires
join-class-requires c κs =
    let first = c.before.before.before.before in
    let w = (laid-fits _ first.requires.laid).settings in
    (first.requires, omega (arith, c.priority_b-b.ensures, w.priority_b))

add-join-class : tie.Need-overflow_add-a
add-join-class c =
    let w = (laid-fits _ c.requires.laid).settings in
    omega (arith, c.priority_a-a.ensures, w.priority_a)

join-class-requires-2 : tie.Need-join_class-requires-2
unfolding named
join-class-requires-2 c κs =
    let first = c.before.before.before.before.before.before.before.before in
    let w = (laid-fits _ first.requires.laid).settings in
    (then-in first.requires _ _ c.join_class.ensures, omega (arith, c.priority_a-a.ensures, w.priority_a))

returns : tie.Need-returns
unfolding named
returns c =
    let first = c.before.before.before.before.before.before.before.before.before.before.before in
    both-done first.requires _ _ c.join_class.ensures _ c.priority_a-a.ensures c.priority_b-b.ensures _ c.join_class-2.ensures

pub join_domains_spec : {M : Type 1} → statement M
join_domains_spec =
    tie.close
    (tie.spec (λ c κs. c.requires.laid) (λ c κs. c.requires.laid) join-class-requires add-join-class join-class-requires-2 (λ c. search rules) returns)
