use Rattle.std.proofs.Common.{arith}
use Rattle.moving.proofs.Whole.{encodes-laid, none-few, few-more, then-few, types-moved}
use Rattle.moving.proofs.move_streams.Goals as goal

pub move_kind-advertises-requires : goal.move_kind-advertises-requires
move_kind-advertises-requires c = record { port = c.requires; few = few-more _ 0 128 none-few (omega arith) }

pub move_kind-faileds-requires : goal.move_kind-faileds-requires
move_kind-faileds-requires c =
    let first = c.move_kind-advertises.ensures in
    record {
      port = record { laid = encodes-laid first.table; port = c.requires.port };
      few = few-more _ 64 128 (then-few c.args.span c.args.p first c.requires.laid 0 none-few) (omega arith);
    }

pub move_kind-requires : goal.move_kind-requires
move_kind-requires c =
    let first = c.move_kind-advertises.ensures in
    let second = c.move_kind-faileds.ensures in
    record {
      port = record { laid = encodes-laid second.table; port = c.requires.port };
      few =
          then-few c.args.span c.args.p second (encodes-laid first.table) 64
          (then-few c.args.span c.args.p first c.requires.laid 0 none-few);
    }

pub returns : goal.returns
returns c =
    types-moved c.args.span c.args.p c.args.table.now c.requires.laid c.move_kind-advertises.ensures c.move_kind-faileds.ensures
    c.move_kind.ensures
