-- `declarations::begin_vector` meets its contract. Assumes nothing.
use borrow.Author.Rules.{rules}
use Rattle.declarations.specs.Vectors.{headed}
use Rattle.declarations.proofs.Written.{holding-none, holding-put}
use Rattle.declarations.proofs.begin_vector.Statement.{statement}
use Rattle.declarations.proofs.begin_vector.Tie as tie

returns : tie.Need-returns
unfolding headed
returns c =
    let a = c.args in
    holding-put (holding-put (holding-none a.out.now) 2 a.values c.put.ensures) 8 a.id c.put-2.ensures

pub begin_vector_spec : {M : Type 1} → statement M
begin_vector_spec = tie.close (tie.spec (λ c κs. search rules) (λ c κs. search rules) (λ c. search rules) returns)
