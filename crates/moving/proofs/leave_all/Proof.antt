-- `moving::leave_all` meets its contract. Assumes nothing.
use mathlib.Core.Path.{refl}
use borrow.Author.Rules.{rules}
use Rattle.model.proofs.Fits.{laid-is, laid-fits}
use Rattle.table.proofs.SenderParts.{lent-sender-at}
use Rattle.moving.specs.Moves.{leave_all_sent}
use Rattle.moving.proofs.Whole.{encodes-laid, machine-left, all_left}
use Rattle.moving.proofs.leave_all.Statement.{statement}
use Rattle.moving.proofs.leave_all.Tie as tie

sender-in-requires : tie.Need-sender_in-a-requires
sender-in-requires c κs = c.requires

sent-all-requires : tie.Need-sent_all-requires
sent-all-requires c κs =
    let reads = lent-sender-at c.requires _ c.sender_in-a.ensures.0 in
    (reads.laid, reads.size)

leave-own-requires : tie.Need-leave_own-requires
leave-own-requires c κs =
    let s = c.before.before.before.before.before.before.before.before in
    record {
      laid = encodes-laid (machine-left s.args.p s.args.table.now s.requires _ c.sender_in-a.ensures.0 _ _ c.sent_all.ensures refl);
      port = s.requires.port;
    }

returns : tie.Need-returns-then-all
returns c =
    let s = c.before.before.before.before.before.before.before.before.before.before.before in
    rw c.if-all.true
    (all_left s.args.p s.args.table.now s.requires _ c.sender_in-a.ensures.0 _ _ c.sent_all.ensures refl _
    c.leave_own.ensures)

returns-2 : tie.Need-returns-else-all
unfolding leave_all_sent
returns-2 c =
    let s = c.before.before in
    rw c.if-all.false record { fits = laid-fits s.args.table.now s.requires.laid; is = laid-is s.args.table.now s.requires.laid }

pub leave_all_spec : {M : Type 1} → statement M
leave_all_spec =
    tie.close
    (tie.spec sender-in-requires (λ c. search rules) (λ c. search rules) (λ c. search rules) (λ c. search rules) sent-all-requires
    leave-own-requires (λ c. search rules) returns returns-2)
