-- `declarations::pass_open` meets its contract. Assumes nothing.
use Rattle.model.specs.Attributes.{type_of}
use native.Mathlib.Omega.{arith}
use Rattle.declarations.proofs.Written.{pass-open}
use borrow.Author.Rules.{rules}
use Rattle.declarations.proofs.pass_open.Statement.{statement}
use Rattle.declarations.proofs.pass_open.Tie as tie

take-requires : tie.Need-take-made-requires
take-requires c κs =
    (c.requires.0.message, record { few = c.count_saying-left.ensures.1; all = c.count_saying-left.ensures.0 })

returns : tie.Need-returns
returns c =
    let a = c.args in
    pass-open a.table.now a.p (type_of a.attribute) a.from c.requires.1 c.seek-start.ensures c.count_saying-left.ensures.0 c.take-made.ensures c.reach.ensures.0 c.reach.ensures.1

pub pass_open_spec : {M : Type 1} → statement M
pass_open_spec = tie.close (tie.spec (λ c κs. c.requires.0.message.port) (λ c κs. c.requires.0.message.port) take-requires (λ c κs. c.requires.0.message.port) (λ c. omega (arith, c.requires.0.end, c.reach.ensures.1)) (λ c. search rules) returns)
