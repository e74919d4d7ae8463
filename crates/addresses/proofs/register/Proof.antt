-- `addresses::register` meets its contract. Assumes nothing.
use mathlib.Core.Path.{◌≡◌, ◌∙◌}
use borrow.Author.Rules.{rules}
use Rattle.octets.specs.Be.{be}
use Rattle.octets.specs.Parts.{patch, zeros}
use Rattle.model.specs.Layout.{address_size, in_address}
use Rattle.addresses.proofs.Values.{joins}
use Rattle.addresses.proofs.register.Statement.{statement}
use Rattle.addresses.proofs.register.Tie as tie

returns : tie.Need-returns
returns c =
    let first = c.before.before.before.before.before.before.before.before.before.before.before.before.before in
    let a = first.args in
    let all : c.put-2.new.s ≡ patch in_address.mac 6 (be 6 a.mac) (patch 0 1 (be 1 1) (patch 0 address_size (zeros address_size) a.address.now)) = cc in
    all ∙ joins a.mac a.address.now first.requires

pub register_spec : {M : Type 1} → statement M
register_spec =
    tie.close
    (tie.spec (λ c κs. search rules) (λ c κs. search rules) (λ c κs. search rules) (λ c. search rules) returns)
