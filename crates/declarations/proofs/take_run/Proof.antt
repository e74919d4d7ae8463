-- `declarations::take_run` meets its contract. Assumes nothing.
use Rattle.model.specs.Attributes.{type_of}
use mathlib.Core.Path.{◌≡◌, sym, ap, ◌∙◌}
use Prim.Native.Nat.{ℕ, ◌+◌, ◌*◌, ◌≤◌, ◌<◌}
use native.Mathlib.Omega.{arith}
use lib.ListN.{length}
use Rattle.octets.proofs.Parts.{lent-part, length_part}
use Rattle.model.specs.FrameLayout.{longest_pdu}
use Rattle.model.specs.Writing.{leaves_all}
use Rattle.model.specs.Table.{decode}
use Rattle.declarations.specs.Passes.{said_from, later, fits}
use Rattle.declarations.proofs.Fitting.{fits-within, fits-room, from-type, single-number, single-length}
use Rattle.declarations.proofs.Written.{none-fits, some_fit}
use borrow.Author.Rules.{rules}
use Rattle.declarations.proofs.take_run.Statement.{statement}
use Rattle.declarations.proofs.take_run.Tie as tie

-- the number that fits
number_is : (c : tie.After-fits-n) → c.fits-n.result ≡ fits (c.args.at + 8 + later (leaves_all (decode c.args.table.now) c.args.p) (type_of c.args.run.attribute)) c.vector_size-size.result c.args.run.count
number_is c = rw (← c.leaves_all.ensures, ← c.later_sizes-later.ensures.0) c.fits-n.ensures

returns : tie.Need-returns-then-n-eq0
returns c =
    let a = c.args in
    let pre = c.requires in
    let b = decode a.table.now in
    let k = type_of a.run.attribute in
    let l = said_from k a.p b a.run.first in
    let n = single-number (leaves_all b a.p) k pre.2 l (from-type b a.p k a.run.first) a.at pre.0.after _ _ _ c.vector_size-size.ensures.0 (sym pre.1.all) (number_is c.before.before.before.before.before) in
    none-fits (leaves_all b a.p) k l a.at (sym n ∙ c.if-n-eq0.true) c.write_none.ensures

-- where some fit, the Message does
room : (c : tie.Else-n-eq0) → c.args.at + 8 + c.later_sizes-later.result + c.fits-n.result * c.vector_size-size.result ≤ longest_pdu
room c =
    let a = c.args in
    let size = c.vector_size-size.result in
    let e = c.fits-n.ensures in
    let some : 0 < fits (a.at + 8 + c.later_sizes-later.result) size a.run.count = omega (arith, e) in
    rw (← e) at (fits-room (a.at + 8 + c.later_sizes-later.result) size a.run.count some)

few : (c : tie.Else-n-eq0) → c.fits-n.result ≤ c.args.run.count
few c = let a = c.args in rw (← c.fits-n.ensures) at (fits-within (a.at + 8 + c.later_sizes-later.result) c.vector_size-size.result a.run.count)

write-message-requires : tie.Need-write_message-requires
write-message-requires c κs =
    let start = c.before.before.before.before.before.before.before.before in
    let b = start.args.buffer.now in
    let at = start.args.at in
    let n = c.fits-n.result in
    let size = c.vector_size-size in
    let long : ℕ = 6 + n * size.result in
    let fits_in : at + long ≤ length b = omega (arith, room c.before, start.requires.0.buffer) in
    let e = ap (λ (m : ℕ). n * m) size.ensures.0 in (
      record { port = start.requires.0.port; any = omega arith; single = start.requires.2; enough = omega (arith, few c.before, start.requires.1.all) },
      ap length (lent-part at long b) ∙ length_part at long b fits_in ∙ omega (arith, e),
    )

returns-2 : tie.Need-returns
returns-2 c =
    let a = c.args in
    let pre = c.requires in
    let b = decode a.table.now in
    let all = leaves_all b a.p in
    let k = type_of a.run.attribute in
    let l = said_from k a.p b a.run.first in
    let own = from-type b a.p k a.run.first in
    let number = number_is c.before.before.before.before.before in
    let n = single-number all k pre.2 l own a.at pre.0.after _ _ _ c.vector_size-size.ensures.0 (sym pre.1.all) number in
    let long = single-length all k pre.2 l own a.at pre.0.after _ _ _ c.vector_size-size.ensures.0 (sym pre.1.all) number c.if-n-eq0.false in
    let later-is : c.later_sizes-later.result ≡ later all k = rw (← c.leaves_all.ensures) c.later_sizes-later.ensures.0 in
    some_fit all k l own a.at _ _ a.buffer.now _ n long c.write_message.ensures pre.0.after (omega (arith, room c.before.before.before.before, later-is))

pub take_run_spec : {M : Type 1} → statement M
take_run_spec = tie.close (tie.spec (λ c κs. search rules) (λ c κs. c.requires.0.port) (λ c κs. search rules) (λ c. omega (arith, c.requires.0.room)) (λ c. omega (arith, c.requires.0.room, c.later_sizes-later.ensures.1)) (λ c κs. search rules) (λ c κs. c.requires.0) (λ c. search rules) returns
    (λ c. omega (arith, room c)) (λ c. omega (arith, room c)) (λ c. omega (arith, room c)) (λ c. search rules) (λ c. search rules) (λ c. omega (arith, room c, c.requires.0.buffer)) write-message-requires
    (λ c. omega (arith, room c.before.before.before.before)) (λ c. search rules) returns-2)
