-- `declarations::listener_number` meets its contract. Assumes nothing.
use mathlib.Core.Path.{◌∙◌}
use native.Mathlib.Omega.{arith}
use lib.ListN.{get_or}
use Rattle.model.specs.Table.{decode}
use Rattle.model.proofs.Lists.{all-at}
use Rattle.cutting.proofs.Named.{named-at}
use Rattle.table.proofs.ByPlace.{stands_on}
use Rattle.declarations.specs.Packed.{Tells}
use Rattle.declarations.proofs.Vectors.{listener_said}
use borrow.Author.Rules.{rules}
use Rattle.declarations.proofs.listener_number.Statement.{statement}
use Rattle.declarations.proofs.listener_number.Tie as tie

cast-sent-octet : tie.Need-overflow_cast-places
cast-sent-octet c = omega (arith, c.shared_slice_known-3-1.given c.args.i)

sent-octet-requires : tie.Need-sent_octet-requires
sent-octet-requires c κs =
    let a = c.args in
    let pre = c.requires in
    (stands_on (named-at a.table.now a.places.now a.i pre.0.named pre.1) a.p pre.0.port, omega arith)

returns : tie.Need-returns
returns c =
    let a = c.args in
    let pre = c.requires in
    let told = listener_said a.p (decode a.table.now) (get_or a.places.now a.i 0) (all-at (Tells a.table.now a.p) a.places.now pre.0.each a.i 0 pre.1) in
    (c.sent_octet.ensures ∙ told.0, omega (arith, c.sent_octet.ensures, told.0, told.1))

pub listener_number_spec : {M : Type 1} → statement M
listener_number_spec = tie.close (tie.spec (λ c. search rules) cast-sent-octet sent-octet-requires returns)
