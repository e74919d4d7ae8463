-- `declarations::write_none` meets its contract. Assumes nothing.
use Rattle.model.specs.Attributes.{type_of}
use mathlib.Core.Path.{◌≡◌, sym, ap, ◌∙◌}
use Prim.Native.Nat.{ℕ, ◌+◌, ◌≤◌}
use native.Mathlib.Omega.{arith}
use lib.ListN.{length}
use mathlib.Core.Bool.{Bool}
use Rattle.octets.proofs.Parts.{lent-part, length_part}
use Rattle.model.specs.Declarations.{empty_size}
use Rattle.model.specs.Writing.{leaves_all}
use Rattle.model.specs.Table.{decode}
use Rattle.declarations.proofs.Written.{empty-least, empty-written, nothing_written}
use borrow.Author.Rules.{rules}
use Rattle.declarations.proofs.write_none.Statement.{statement}
use Rattle.declarations.proofs.write_none.Tie as tie

returns : tie.Need-returns-then-size-eq0
returns c =
    let a = c.args in
    let pre = c.requires in
    let all : Bool = leaves_all (decode a.table.now) a.p in
    let size : c.empty_size-size.result ≡ empty_size all (type_of a.attribute) = rw (← c.leaves_all.ensures) c.empty_size-size.ensures.0 in
    nothing_written all (type_of a.attribute) a.at a.buffer.now (sym size ∙ c.if-size-eq0.true) pre.after pre.room

-- the octets of the Message, and that they have room
size_is : (c : tie.Else-size-eq0) → c.empty_size-size.result ≡ empty_size (leaves_all (decode c.args.table.now) c.args.p) (type_of c.args.attribute)
size_is c = rw (← c.leaves_all.ensures) c.empty_size-size.ensures.0

room : (c : tie.Else-size-eq0) → c.args.at + c.empty_size-size.result + 2 ≤ 1500
room c = omega (arith, size_is c, c.requires.room)

clear-requires : tie.Need-clear-requires
clear-requires c κs = omega (arith, room c.before, c.requires.buffer)

finish-requires : tie.Need-finish-requires
finish-requires c κs =
    let a = c.args in
    let now = c.clear.new.s in
    let n : ℕ = c.empty_size-size.result in
    (c.requires.port, omega (arith, ap length (lent-part a.at n now), length_part a.at n now (omega (arith, room c.before.before.before.before.before, c.requires.buffer)), size_is c.before.before.before.before.before, empty-least _ _ (λ e. c.if-size-eq0.false (size_is c.before.before.before.before.before ∙ e))))

returns-2 : tie.Need-returns
returns-2 c =
    let a = c.args in
    let pre = c.requires in
    let all : Bool = leaves_all (decode a.table.now) a.p in
    empty-written all (type_of a.attribute) a.at a.buffer.now c.empty_size-size.result (size_is c.before.before.before.before.before.before.before.before) c.if-size-eq0.false pre.after pre.room pre.buffer _ c.clear.ensures _ c.finish.ensures

pub write_none_spec : {M : Type 1} → statement M
write_none_spec = tie.close (tie.spec (λ c κs. c.requires.port) (λ c κs. search rules) returns clear-requires (λ c. omega (arith, room c.before.before.before.before)) (λ c. search rules) (λ c. search rules) (λ c. omega (arith, room c.before.before.before.before, c.requires.buffer)) finish-requires (λ c. omega (arith, room c.before.before.before.before.before.before.before.before)) (λ c. search rules) returns-2)
