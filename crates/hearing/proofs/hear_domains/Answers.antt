use Rattle.hearing.proofs.OfPort.{both-heard}
use Rattle.hearing.proofs.hear_domains.Goals as goal

pub returns : goal.returns
returns c = both-heard c.args.sender.now c.requires.0 _ c.hear_every.ensures c.args.clock _ c.restart.ensures
