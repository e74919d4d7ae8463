-- `moving::sent_all` meets its contract. Assumes nothing.
use borrow.Author.Rules.{rules}
use Rattle.moving.proofs.OfPort.{machine-sent}
use Rattle.moving.proofs.sent_all.Statement.{statement}
use Rattle.moving.proofs.sent_all.Tie as tie

returns : tie.Need-returns
returns c clock =
    let s = c.before.before.before.before.before in
    machine-sent clock s.args.sender.now s.requires.0 _ c.put.ensures

pub sent_all_spec : {M : Type 1} → statement M
sent_all_spec = tie.close (tie.spec (λ c κs. search rules) (λ c. search rules) returns)
