use Rattle.std.proofs.Common.{◌∙◌, refl}
use Rattle.fanin.proofs.Addresses.{address_read}
use Rattle.fanin.proofs.registered_address.Goals as goal

pub returns : goal.returns
returns c = c.get.ensures.0 ∙ address_read c.requires _ _ c.registered.ensures.laid refl
