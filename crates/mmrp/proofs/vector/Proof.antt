-- `mmrp::vector` meets its contract. Assumes nothing.
use Prim.Native.Nat.{◌-◌}
use mathlib.Core.List.{List}
use mathlib.Core.Bool.{true}
use native.Mathlib.Omega.{arith}
use borrow.Author.Rules.{rules}
use lib.ListN.{take, drop}
use Rattle.model.specs.Registrations.{AddressAct}
use Rattle.model.specs.AddressFrames.{mac_list, address_values, all_addresses}
use Rattle.msrpdu.specs.Reader.{first_part}
use Rattle.mmrp.specs.Walked.{vector_of}
use Rattle.mmrpdu.proofs.Walking.{Within, within}
use Rattle.mmrp.proofs.Walks.{walked-laid, walked_on}
use Rattle.mmrp.proofs.Reading.{enough-events, has-addresses, vector-acts}
use Rattle.mmrp.proofs.vector.Statement.{statement}
use Rattle.mmrp.proofs.vector.Tie as tie

-- the places of the vector are within the PDU
places : (a : tie.Start) → Within a.requires.version mac_list a.args.pdu.now a.requires.at a.args.head
places a = within a.requires.version mac_list a.args.pdu.now a.requires.at a.args.head a.requires.read

values-requires : tie.Need-values-requires
values-requires c κs =
    let a = c.before.before.before.before.before.before.before.before.before in
    let p = a.requires in
    record {
      laid = walked-laid a.args.walk.applying a.args.walk.clock a.args.own.now p.laid (all_addresses a.args.head.leaves) true _ c.begin_all.ensures;
      events = enough-events p.version a.args.pdu.now p.at a.args.head p.read;
      values = rw c.first_value_at-first.ensures (has-addresses p.version a.args.pdu.now p.at a.args.head p.read);
    }

-- the acts of its values
values : (a : tie.Start) → List AddressAct
values a =
    let w = a.args.head in
    let s = a.args.pdu.now in
    address_values (vector_of (first_part s w) (take (w.four - w.three) (drop w.three s))) 0 w.values

returns : tie.Need-returns
unfolding values
returns c =
    let a = c.before.before.before.before.before.before.before.before.before.before.before.before in
    rw (vector-acts a.args.pdu.now a.args.head)
    (walked_on a.args.walk.applying a.args.walk.clock a.args.own.now a.requires.laid (all_addresses a.args.head.leaves) (values a) _
    c.begin_all.ensures c.values.result _ (rw c.first_value_at-first.ensures at c.values.ensures))

pub vector_spec : {M : Type 1} → statement M
vector_spec =
    tie.close
    (tie.spec (λ c κs. search rules) (λ c κs. c.requires.laid)
    (λ c. omega (arith, places c.before.before.before.before.before.before.before.before))
    (λ c. omega (arith, places c.before.before.before.before.before.before.before.before))
    (λ c. omega (arith, places c.before.before.before.before.before.before.before.before)) values-requires
    (λ c. search rules) returns)
