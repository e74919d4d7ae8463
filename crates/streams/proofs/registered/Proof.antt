-- `streams::registered` meets its contract. Assumes nothing.
use borrow.Author.Rules.{rules}
use Rattle.octets.specs.Parts.{part}
use Rattle.table.proofs.ByPlace.{stream-fits}
use Rattle.streams.proofs.Fixed.{fixed-read}
use Rattle.streams.proofs.registered.Statement.{statement}
use Rattle.streams.proofs.registered.Tie as tie

returns : tie.Need-returns
unfolding part
returns c = fixed-read _ _ c.talker_port.ensures.0 _ c.cell_at-said.ensures (stream-fits c.requires)

pub registered_spec : {M : Type 1} → statement M
registered_spec = tie.close (tie.spec (λ c κs. search rules) (λ c κs. search rules) (λ c. search rules) (λ c. search rules) (λ c. search rules) (λ c. search rules) returns)
