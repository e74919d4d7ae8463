use Rattle.std.proofs.Common.{◌∙◌}
use Rattle.fanin.proofs.Addresses.{address_read}
use Rattle.fanin.proofs.settled_address.Goals as goal

pub returns : goal.returns
returns c = c.get.ensures.0 ∙ address_read c.requires.0 _ _ c.settled_at.ensures.laid c.requires.1
