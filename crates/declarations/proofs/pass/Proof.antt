-- `declarations::pass` meets its contract. Assumes nothing.
use Rattle.model.specs.Attributes.{type_of}
use borrow.Author.Tests.{not-true, not-false}
use Rattle.declarations.proofs.Written.{pass-full}
use borrow.Author.Rules.{rules}
use Rattle.declarations.proofs.pass.Statement.{statement}
use Rattle.declarations.proofs.pass.Tie as tie

returns-2 : tie.Need-returns
returns-2 c =
    let a = c.args in
    pass-full a.table.now a.p (type_of a.attribute) a.from (not-false a.from.full c.if-not-from.false) c.write_none-made.ensures

pub pass_spec : {M : Type 1} → statement M
pass_spec = tie.close (tie.spec (λ c κs. (c.requires, not-true c.args.from.full c.if-not-from.true)) (λ c. search rules) (λ c. c.pass_open.ensures) (λ c κs. c.requires.message) (λ c. search rules) returns-2)
