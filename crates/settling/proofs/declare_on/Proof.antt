-- `settling::declare_on` meets its contract. Assumes nothing.
use borrow.Author.Rules.{rules}
use Rattle.model.specs.State.{result_at, stream_at}
use Rattle.model.specs.Settling.{declare_sends}
use Rattle.model.specs.Table.{decode}
use Rattle.settling.proofs.Declared.{told-there, left-steady}
use Rattle.settling.proofs.declare_on.Statement.{statement}
use Rattle.settling.proofs.declare_on.Tie as tie

returns : tie.Need-returns-then-stays
returns c =
    let first = c.before.before.before.before.before.before in
    let x = stream_at first.args.k (decode first.args.table.now) in
    let r = result_at x first.args.p in
    left-steady first.requires (declare_sends x.settled r) c.sends_at-sends.ensures
    (c.stays.ensures c.if-stays.true x.settled r (told-there first.requires c.settled_at-settled.ensures c.result_at-result.ensures))

pub declare_on_spec : {M : Type 1} → statement M
declare_on_spec =
    tie.close
    (tie.spec (λ c κs. search rules) (λ c κs. search rules) (λ c κs. search rules) (λ c κs. search rules) (λ c. search rules) returns (λ c κs. search rules)
    (λ c. search rules) (λ c. search rules))
