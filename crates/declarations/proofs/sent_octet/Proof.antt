-- `declarations::sent_octet` meets its contract. Assumes nothing.
use mathlib.Core.Path.{ap}
use Prim.Native.Nat.{ℕ}
use mathlib.Core.List.{List}
use lib.ListN.{get_or}
use Rattle.declarations.proofs.Vectors.{sends-is}
use borrow.Author.Rules.{rules}
use Rattle.declarations.proofs.sent_octet.Statement.{statement}
use Rattle.declarations.proofs.sent_octet.Tie as tie

returns : tie.Need-returns
returns c = ap (λ (s : List ℕ). get_or s c.args.at 0) (sends-is c.sends_at-sends.ensures)

pub sent_octet_spec : {M : Type 1} → statement M
sent_octet_spec = tie.close (tie.spec (λ c κs. search rules) (λ c. search rules) returns)
