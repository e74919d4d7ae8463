use Rattle.std.proofs.Common.{ℕ, ◌+◌, ◌-◌, ◌*◌, ◌≡◌, ◌∙◌, arith}
use Rattle.octets.specs.Be.{be}
use Rattle.octets.specs.Parts.{part, patch, zeros}
use Rattle.octets.proofs.Patches.{copied_within}
use Rattle.model.specs.Layout.{address_in, address_size, in_own, in_address}
use Rattle.model.specs.Table.{to_own}
use Rattle.table.proofs.OwnParts.{laid-own-is, laid-own-fits}
use Rattle.addresses.proofs.Places.{put-in}
use Rattle.addresses.proofs.insert.Goals as goal

pub returns : goal.returns
returns c =
    let a = c.args in
    let p = c.requires in
    let n = c.count-n in
    let m : ℕ = (n.result - a.k) * address_size in
    let moved : c.copy_within.new.self ≡ patch (address_in a.k + address_size) m (part (address_in a.k) m a.own.now) a.own.now =
    c.copy_within.ensures.after ∙ copied_within (address_in a.k) (address_in n.result) (address_in a.k + address_size) m a.own.now (omega arith) in
    let all : c.put-2.new.s
    ≡ patch in_own.count 1 (be 1 (n.result + 1)) (patch (address_in a.k + in_address.mac) 6 (be 6 a.mac)
    (patch (address_in a.k) address_size (zeros address_size) (patch (address_in a.k + address_size) m (part (address_in a.k) m a.own.now) a.own.now))) = cc in
    all ∙ put-in (to_own a.own.now) (laid-own-fits a.own.now p.laid) a.k a.mac p.within p.few a.own.now (laid-own-is a.own.now p.laid) _ n.ensures.0
