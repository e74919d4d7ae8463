-- `addresses::expire` meets its contract. Assumes nothing.
use mathlib.Core.Path.{ap, ◌∙◌}
use mathlib.Core.List.{map}
use borrow.Author.Rules.{rules}
use Rattle.model.specs.State.{Own}
use Rattle.model.specs.Registrations.{change_addresses}
use Rattle.model.specs.Settling.{remain_addresses}
use Rattle.model.specs.Table.{own_octets, to_own}
use Rattle.table.specs.Reads.{ReadsOwn}
use Rattle.table.proofs.OwnParts.{reads-own}
use Rattle.addresses.specs.Room.{present_only, lapse_address}
use Rattle.addresses.proofs.Records.{changed-twice}
use Rattle.addresses.proofs.Loops.{lapsing, mapped-fits, remains}
use Rattle.addresses.proofs.expire.Statement.{statement}
use Rattle.addresses.proofs.expire.Tie as tie

-- the octets with the lapsed ones vacant
lapsed-read : (c : tie.After-lapse_all)
    → ReadsOwn c.lapse_all.new.own (change_addresses (map (lapse_address c.args.leave c.args.time)) (to_own c.args.own.now))
lapsed-read c =
    let first = c.before.before.before in
    let a = first.args in
    reads-own _ (mapped-fits (lapse_address a.leave a.time) (lapsing a.leave a.time) a.own.now first.requires.0) _ c.lapse_all.ensures

drop-vacant-requires : tie.Need-drop_vacant-requires
drop-vacant-requires c κs = let r = lapsed-read c.before.before.before in (r.laid, r.size)

returns : tie.Need-returns
returns c st e =
    let a = c.args in
    let r = lapsed-read c.before.before.before.before.before.before in
    c.drop_vacant.ensures
    ∙ ap (λ (o : Own). own_octets (change_addresses present_only o)) r.is
    ∙ changed-twice (to_own a.own.now) (map (lapse_address a.leave a.time)) present_only (remain_addresses st a.time) (remains st a.leave a.time e (to_own a.own.now).addresses)

pub expire_spec : {M : Type 1} → statement M
expire_spec = tie.close (tie.spec (λ c κs. search rules) drop-vacant-requires (λ c. search rules) returns)
