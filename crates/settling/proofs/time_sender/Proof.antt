-- `settling::time_sender` meets its contract. Assumes nothing.
use Prim.Native.Nat.{◌≤◌, ◌<◌}
use native.Mathlib.Omega.{arith}
use borrow.Author.Rules.{rules}
use lib.ListN.{length}
use Rattle.model.specs.Table.{decode}
use Rattle.table.proofs.SenderParts.{lent-sender-at, left-sender-at}
use Rattle.declaring.specs.Octets.{timed}
use Rattle.settling.proofs.Timed.{no-port-timed, port-timed}
use Rattle.settling.proofs.time_sender.Statement.{statement}
use Rattle.settling.proofs.time_sender.Tie as tie

returns : tie.Need-returns-then-ports-p
returns c =
    let first = c.before.before.before in
    let h : length (decode first.args.table.now).settings.ports ≤ first.args.p = omega (arith, c.ports.ensures.0, c.if-ports-p.true) in
    no-port-timed first.requires first.args.time h

time-requires : tie.Need-time-requires
time-requires c κs =
    let r = lent-sender-at c.requires _ c.sender_in-a.ensures.0 in
    (r.laid, r.size)

returns-2 : tie.Need-returns
returns-2 c =
    let first = c.before.before.before.before.before.before.before.before in
    let h : first.args.p < length (decode first.args.table.now).settings.ports = omega (arith, c.ports.ensures.0, c.if-ports-p.false) in
    port-timed first.requires first.args.time h _ (left-sender-at first.requires _ c.sender_in-a.ensures.0 (timed first.args.time) _ c.time.ensures)

pub time_sender_spec : {M : Type 1} → statement M
time_sender_spec =
    tie.close
    (tie.spec (λ c κs. search rules) (λ c. search rules) returns (λ c κs. search rules) (λ c. search rules) (λ c. search rules) (λ c. search rules)
    (λ c. search rules) time-requires (λ c. search rules) returns-2)
