-- `table::port_at` meets its contract. Assumes nothing.
use mathlib.Core.Path.{refl}
use borrow.Author.Rules.{rules}
use Rattle.table.proofs.Header.{laid-length}
use Rattle.table.proofs.ByPlace.{lent-port-at}
use Rattle.table.proofs.port_at.Statement.{statement}
use Rattle.table.proofs.port_at.Tie as tie

part-result-end : tie.Need-slice_bounds-result-end
part-result-end c = let f = laid-length _ c.requires.laid in search rules

returns : tie.Need-returns
returns c = lent-port-at c.requires _ refl

pub port_at_spec : {M : Type 1} → statement M
port_at_spec = tie.close (tie.spec (λ c. search rules) (λ c. search rules) (λ c. search rules) (λ c. search rules) (λ c. search rules) part-result-end returns)
