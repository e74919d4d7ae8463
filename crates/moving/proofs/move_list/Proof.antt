-- `moving::move_list` meets its contract. Assumes nothing.
use borrow.Author.Rules.{rules}
use Rattle.moving.proofs.Whole.{encodes-laid, list-moved}
use Rattle.moving.proofs.move_list.Statement.{statement}
use Rattle.moving.proofs.move_list.Tie as tie

move-streams-requires : tie.Need-move_streams-streams-requires
move-streams-requires c κs = c.requires

move-domains-requires : tie.Need-move_domains-met-requires
move-domains-requires c κs =
    let streams = c.move_streams-streams.ensures in
    record { port = record { laid = encodes-laid streams.table; port = c.requires.port }; few = streams.few }

leave-all-requires : tie.Need-leave_all-requires
leave-all-requires c κs = record { laid = encodes-laid c.move_domains-met.ensures.table; port = c.requires.port }

drop-unheld-requires : tie.Need-drop_unheld-requires
drop-unheld-requires c κs = encodes-laid c.leave_all.ensures

returns : tie.Need-returns
returns c =
    let a = c.args in
    list-moved a.span a.p a.table.now c.move_streams-streams.ensures c.move_domains-met.ensures c.leave_all.ensures _
    c.drop_unheld.ensures

pub move_list_spec : {M : Type 1} → statement M
move_list_spec =
    tie.close
    (tie.spec move-streams-requires move-domains-requires leave-all-requires drop-unheld-requires (λ c. search rules) returns)
