-- `registrar::hear_domains` meets its contract. Assumes nothing.
use borrow.Author.Rules.{rules}
use Rattle.table.proofs.SenderParts.{lent-sender-at, left-sender-at}
use Rattle.model.specs.Registrations.{hear_all_domains, moves_sender}
use Rattle.registrar.proofs.Walks.{domain-heard}
use Rattle.registrar.proofs.hear_domains.Statement.{statement}
use Rattle.registrar.proofs.hear_domains.Tie as tie

clock-requires : tie.Need-clock-now-requires
clock-requires c κs = c.requires.laid

sender-in-requires : tie.Need-sender_in-a-requires
sender-in-requires c κs = c.requires

hear-domains-requires : tie.Need-hear_domains-requires
hear-domains-requires c κs = let r = lent-sender-at c.requires _ c.sender_in-a.ensures.0 in (r.laid, r.size)

returns : tie.Need-returns
unfolding moves_sender
returns c =
    let s = c.before.before.before.before.before.before.before in
    let a = s.args in
    domain-heard a.p hear_all_domains a.table.now s.requires.laid tt tt _
    (left-sender-at s.requires _ c.sender_in-a.ensures.0 _ _ (rw c.clock-now.ensures at c.hear_domains.ensures))

pub hear_domains_spec : {M : Type 1} → statement M
hear_domains_spec =
    tie.close
    (tie.spec clock-requires sender-in-requires (λ c. search rules) (λ c. search rules) (λ c. search rules) (λ c. search rules) hear-domains-requires
    (λ c. search rules) returns)
