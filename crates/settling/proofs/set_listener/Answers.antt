use Rattle.std.proofs.Common.{◌∙◌}
use Rattle.settling.proofs.Merging.{declaring-octets}
use Rattle.settling.proofs.set_listener.Goals as goal

pub returns : goal.returns
returns c = (rw (c.into.ensures, c.octet-octet.ensures) at c.put.ensures) ∙ declaring-octets _ c.requires.0 _
