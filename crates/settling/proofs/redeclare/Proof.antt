-- `settling::redeclare` meets its contract. Assumes nothing.
use borrow.Author.Rules.{rules}
use Rattle.model.specs.State.{result_at, stream_at}
use Rattle.model.specs.Settling.{declare_sends}
use Rattle.model.specs.Table.{decode}
use Rattle.table.proofs.ByPlace.{lent-sends-at, left-sends-at}
use Rattle.settling.proofs.Declared.{offered-there}
use Rattle.settling.proofs.redeclare.Statement.{statement}
use Rattle.settling.proofs.redeclare.Tie as tie

declare-all-requires : tie.Need-declare_all-requires
declare-all-requires c κs =
    let r = lent-sends-at c.requires _ c.sends_in-a.ensures.0 in
    (r.laid, r.size, search rules)

returns : tie.Need-returns
returns c =
    let first = c.before.before.before.before.before.before.before.before.before.before.before.before.before in
    let x = stream_at first.args.k (decode first.args.table.now) in
    let r = result_at x first.args.p in
    left-sends-at first.requires _ c.sends_in-a.ensures.0 (declare_sends x.settled r) _
    (c.declare_all.ensures x.settled r (offered-there first.requires _ c.offer.ensures c.result_at-result.ensures))

pub redeclare_spec : {M : Type 1} → statement M
redeclare_spec =
    tie.close
    (tie.spec (λ c. search rules) (λ c κs. search rules) (λ c κs. search rules) (λ c. search rules) (λ c. search rules) (λ c κs. search rules) (λ c. search rules)
    (λ c. search rules) (λ c. search rules) (λ c. search rules) (λ c. search rules) declare-all-requires (λ c. search rules) returns)
