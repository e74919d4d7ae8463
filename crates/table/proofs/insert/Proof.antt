-- `table::insert` meets its contract. Assumes nothing.
use Prim.Native.Nat.{ℕ}
use mathlib.Core.Path.{ap, ◌∙◌}
use native.Mathlib.Omega.{arith}
use borrow.Author.Rules.{rules}
use Rattle.model.proofs.Fits.{laid-is, laid-fits}
use Rattle.table.specs.Octets.{record_put}
use Rattle.table.proofs.Header.{laid-length}
use Rattle.table.proofs.Inserting.{record-put}
use Rattle.table.proofs.insert.Statement.{statement}
use Rattle.table.proofs.insert.Tie as tie

put-record-requires : tie.Need-put_record-requires
put-record-requires c κs =
    let p = c.requires in
    record { size = laid-length _ p.laid; within = omega arith; few = omega arith }

returns : tie.Need-returns
returns c =
    let a = c.args in
    let p = c.requires in
    c.put_record.ensures
    ∙ ap (λ (n : ℕ). record_put n a.k a.id a.table.now) c.count-n.ensures.0
    ∙ ap (record_put _ a.k a.id) (laid-is _ p.laid)
    ∙ record-put _ (laid-fits _ p.laid) a.k a.id p.within p.few

pub insert_spec : {M : Type 1} → statement M
insert_spec = tie.close (tie.spec (λ c κs. search rules) put-record-requires (λ c. search rules) returns)
