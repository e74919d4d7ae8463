-- `columns::early_record` meets its contract. Assumes nothing.
use borrow.Author.Rules.{rules}
use Rattle.columns.specs.Places.{TalkerAt}
use Rattle.columns.proofs.EarlyTables.{settled-talker, settled-inbound, settled-next, settled-ports}
use Rattle.table.proofs.ByPlace.{stands, stands_on}
use Rattle.columns.proofs.early_record.Statement.{statement}
use Rattle.columns.proofs.early_record.Tie as tie

-- the Talker's place as it was read
talker : (c : tie.After-talker_port-t) → TalkerAt c.args.table.now c.args.k c.talker_port-t.result
talker c = record { stands = stands_on c.requires.0 _ c.talker_port-t.ensures.1; is = c.talker_port-t.ensures.0 }

taken-settled-requires : tie.Need-taken_settled-taken-requires
taken-settled-requires c κs = settled-next (talker c.before.before.before.before) _ c.copy_fixed.ensures c.requires.1

common-failure-requires : tie.Need-common_failure-common-requires
common-failure-requires c κs =
    let i = talker c.before.before.before.before.before in
    let e = c.copy_fixed.ensures in
    (stands (settled-talker i _ e).stands, settled-inbound i _ e _ c.requires.2, c.taken_settled-taken.ensures)

early-ports-requires : tie.Need-early_ports-requires
early-ports-requires c κs = record {
  talker = settled-talker (talker c.before.before.before.before.before.before.before) _ c.copy_fixed.ensures;
  is = c.common_failure-common.ensures;
}

returns : tie.Need-returns
returns c =
    settled-ports (talker c.before.before.before.before.before.before.before.before.before.before) _ c.copy_fixed.ensures _ _ c.early_ports.ensures

pub early_record_spec : {M : Type 1} → statement M
early_record_spec =
    tie.close
    (tie.spec (λ c κs. search rules) (λ c κs. search rules) taken-settled-requires common-failure-requires early-ports-requires (λ c. search rules) returns)
