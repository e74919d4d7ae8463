-- `declarations::fits` meets its contract. Assumes nothing.
use borrow.Author.Rules.{rules}
use Rattle.octets.proofs.Pick.{tests}
use Rattle.declarations.specs.Passes.{fits}
use Rattle.declarations.proofs.fits.Statement.{statement}
use Rattle.declarations.proofs.fits.Tie as tie

returns : tie.Need-returns-then-used-gt-LONGEST
unfolding fits
returns c = simp (tests, c.if-used-gt-LONGEST.true)

returns-2 : tie.Need-returns-then-room-left
unfolding fits
returns-2 c = simp (tests, c.if-used-gt-LONGEST.false, c.if-room-left.true)

returns-3 : tie.Need-returns
unfolding fits
returns-3 c = simp (tests, c.if-used-gt-LONGEST.false, c.if-room-left.false)

pub fits_spec : {M : Type 1} → statement M
fits_spec = tie.close (tie.spec returns (λ c. search rules) returns-2 returns-3)
