use Rattle.table.specs.Places.{PortIn}
use Rattle.admission.proofs.Admitted.{sorted-numbered, after-in, whole}
use Rattle.admission.proofs.admit_class.Goals as goal

pub take_turns-used-requires : goal.take_turns-used-requires
take_turns-used-requires c =
    let port : PortIn c.args.table.now c.args.p = record { laid = c.requires.0; port = c.requires.1 } in
    (sorted-numbered port _ c.in_order-numbers.result.now c.in_order-numbers.ensures, c.requires.1)

pub store_total-requires : goal.store_total-requires
store_total-requires c =
    let port : PortIn c.args.table.now c.args.p = record { laid = c.requires.0; port = c.requires.1 } in
    let t = c.take_turns-used.ensures in
    after-in port _ c.in_order-numbers.result.now c.in_order-numbers.ensures _ _ c.limit_in_force-limit.ensures.0 _ t.used t.table

pub returns : goal.returns
returns c =
    let port : PortIn c.args.table.now c.args.p = record { laid = c.requires.0; port = c.requires.1 } in
    let t = c.take_turns-used.ensures in
    whole port _ c.in_order-numbers.result.now c.in_order-numbers.ensures _ _ c.limit_in_force-limit.ensures.0 _ t.used t.table _ c.store_total.ensures
