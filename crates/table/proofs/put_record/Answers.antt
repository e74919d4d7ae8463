use Rattle.std.proofs.Common.{ℕ, ◌≡◌, ◌∙◌, ◌+◌, ◌-◌, ◌*◌, ◌++◌, take, drop, length, arith}
use Rattle.octets.specs.Parts.{part, patch}
use Rattle.octets.proofs.Patches.{copied-in-part}
use Rattle.model.specs.Layout.{record_place, record_size}
use Rattle.table.specs.Octets.{record_put}
use Rattle.table.proofs.put_record.Goals as goal

pub returns : goal.returns
unfolding record_put
returns c =
    let a = c.args in
    let s = a.table.now in
    let at = record_place a.k in
    let k : ℕ = length s - at in
    let m : ℕ = (a.n - a.k) * record_size in
    let moved : take at s ++ (c.copy_within.new.self ++ drop k (drop at s)) ≡ patch (at + record_size) m (part at m s) s =
    rw c.copy_within.ensures.after
    (copied-in-part at k 0 m record_size m at (at + record_size) s (omega arith) (omega arith) (omega arith) (omega arith) (omega arith) (omega arith)) in
    c.put-2.ensures ∙ rw (c.put.ensures, c.clear.ensures, moved)
