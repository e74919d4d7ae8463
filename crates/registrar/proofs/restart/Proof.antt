-- `registrar::restart` meets its contract. Assumes nothing.
use borrow.Author.Rules.{rules}
use Rattle.table.proofs.SenderParts.{lent-sender-at, left-sender-at}
use Rattle.registrar.proofs.restart.Statement.{statement}
use Rattle.registrar.proofs.restart.Tie as tie

clock-requires : tie.Need-clock-now-requires
clock-requires c κs = c.requires.laid

sender-in-requires : tie.Need-sender_in-a-requires
sender-in-requires c κs = c.requires

restart-requires : tie.Need-restart-requires
restart-requires c κs = let r = lent-sender-at c.requires _ c.sender_in-a.ensures.0 in (r.laid, r.size)

returns : tie.Need-returns
returns c =
    left-sender-at c.requires _ c.sender_in-a.ensures.0 _ _ (rw c.clock-now.ensures at c.restart.ensures)

pub restart_spec : {M : Type 1} → statement M
restart_spec =
    tie.close
    (tie.spec clock-requires sender-in-requires (λ c. search rules) (λ c. search rules) (λ c. search rules) (λ c. search rules) restart-requires
    (λ c. search rules) returns)
