-- `domains::expire` meets its contract. Assumes nothing.
use borrow.Author.Rules.{rules}
use Rattle.domains.proofs.Values.{expires}
use Rattle.domains.proofs.expire.Statement.{statement}
use Rattle.domains.proofs.expire.Tie as tie

returns : tie.Need-returns
returns c st e =
    let first = c.before.before.before.before.before in
    expires st first.args.leave first.args.time e first.args.slot.now _ first.requires.0 c.lapse.ensures

pub expire_spec : {M : Type 1} → statement M
expire_spec = tie.close (tie.spec (λ c κs. search rules) (λ c. search rules) returns)
