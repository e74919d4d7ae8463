use Rattle.std.proofs.Common.{ℕ, ◌+◌, ◌-◌, ◌*◌, ◌≡◌, ◌∙◌, arith}
use Rattle.octets.specs.Be.{be}
use Rattle.octets.specs.Parts.{part, patch, zeros}
use Rattle.octets.proofs.Patches.{copied_within}
use Rattle.model.specs.Layout.{address_in, address_size, in_own}
use Rattle.model.specs.Table.{to_own}
use Rattle.table.proofs.OwnParts.{laid-own-is, laid-own-fits}
use Rattle.addresses.proofs.Places.{taken_out_lem}
use Rattle.addresses.proofs.remove.Goals as goal

pub returns : goal.returns
returns c =
    let a = c.args in
    let p = c.requires in
    let n = c.count-last in
    let m : ℕ = (n.result - 1 - a.k) * address_size in
    let end : ℕ = in_own.addresses + (n.result - 1) * address_size in
    let f = laid-own-fits a.own.now p.laid in
    let moved : c.copy_within.new.self ≡ patch (address_in a.k) m (part (address_in a.k + address_size) m a.own.now) a.own.now =
    c.copy_within.ensures.after ∙ copied_within (address_in a.k + address_size) (end + address_size) (address_in a.k) m a.own.now (omega arith) in
    let all : c.put.new.s
    ≡ patch in_own.count 1 (be 1 (n.result - 1)) (patch end address_size (zeros address_size)
    (patch (address_in a.k) m (part (address_in a.k + address_size) m a.own.now) a.own.now)) = cc in
    all ∙ taken_out_lem (to_own a.own.now) f a.k p.held a.own.now (laid-own-is a.own.now p.laid) _ n.ensures.0 f.addresses.at_most_64
