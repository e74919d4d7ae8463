-- `declarations::take_listeners` meets its contract. Assumes nothing.
use mathlib.Core.Path.{◌≡◌, sym, ap, ◌∙◌}
use Prim.Native.Nat.{◌+◌, ◌-◌, ◌<◌}
use native.Mathlib.Omega.{arith}
use mathlib.Core.List.{[]}
use lib.ListN.{length, take, drop}
use lib.Seq.{take_all, take_at, length-take-le}
use Rattle.model.specs.FrameLayout.{longest_pdu}
use Rattle.model.specs.Registrations.{listeners}
use Rattle.model.specs.Frames.{registers}
use Rattle.model.specs.Writing.{leaves_all}
use Rattle.model.specs.Table.{decode}
use Rattle.model.proofs.WritingPasses.{fitting-over}
use Rattle.model.proofs.PlaceLists.{no_length}
use Rattle.declarations.specs.Passes.{said_from, earlier, later, fitting}
use Rattle.declarations.specs.Packed.{listeners_at}
use Rattle.declarations.proofs.Fitting.{used-is, from-type}
use Rattle.declarations.proofs.Written.{none-fits}
use borrow.Author.Rules.{rules}
use Rattle.declarations.proofs.take_listeners.Statement.{statement}
use Rattle.declarations.proofs.take_listeners.Tie as tie

later-is : (c : tie.After-later_sizes-later) → c.later_sizes-later.result ≡ later (leaves_all (decode c.args.table.now) c.args.p) (registers listeners)
later-is c = rw (← c.leaves_all.ensures) c.later_sizes-later.ensures.0

-- as many are left as are to say
left_is : (c : tie.After-later_sizes-later) → c.args.run.count ≡ length (said_from (registers listeners) c.args.p (decode c.args.table.now) c.args.run.first)
left_is c = rw c.requires.2 at c.requires.1.all

write-none-requires : tie.Need-write_none-requires
write-none-requires c κs = c.requires.0

write-none-requires-2 : tie.Need-write_none-requires-then-left-eq0
write-none-requires-2 c κs = c.requires.0

returns : tie.Need-returns-then-at-later-gt-LONGEST
returns c =
    let a = c.args in
    let pre = c.requires in
    let b = decode a.table.now in
    let all = leaves_all b a.p in
    let k = registers listeners in
    let l = said_from k a.p b a.run.first in
    let over : longest_pdu < a.at + 8 + later all k = omega (arith, later-is c.before.before.before.before.before) in
    let none : fitting all k a.at l ≡ 0 =
    unfold fitting in (fitting-over all (a.at + 2 - earlier all k) k l (from-type b a.p k a.run.first) (omega (arith, used-is all k a.at pre.0.after, over))) in
    none-fits all k l a.at none c.write_none.ensures

returns-2 : tie.Need-returns-then-left-eq0
returns-2 c =
    let a = c.args in
    let b = decode a.table.now in
    let k = registers listeners in
    let l = said_from k a.p b a.run.first in
    let none : l ≡ [] = no_length l (omega (arith, left_is c.before.before.before.before.before.before, c.if-left-eq0.true)) in
    rw none c.write_none-then-left-eq0.ensures

-- so many of the places are lent
lent : (c : tie.After-gather-arg-1) → length (take c.args.run.count c.args.places.now) ≡ c.args.run.count
lent c = length-take-le c.args.run.count c.args.places.now (omega (arith, c.requires.1.few, c.requires.3))

gather-requires : tie.Need-gather-requires
gather-requires c κs =
    let pre = c.requires in
    record { port = pre.0.port; few = omega (arith, lent c, pre.1.few); enough = omega (arith, lent c, left_is c.before.before.before) }

slice-aggregate-take-packed : tie.Need-slice_bounds-take_packed-end-2
slice-aggregate-take-packed c =
    let a = c.args in
    let y = c.gather.new.places in
    let long : length y ≡ a.run.count = omega (arith, lent c.before.before.before) in
    sym (ap length (take_at y (drop a.run.count a.places.now) a.run.count long) ∙ long)

take-packed-requires : tie.Need-take_packed-requires
take-packed-requires c κs =
    let a = c.args in
    let pre = c.requires in
    let y = c.gather.new.places in
    let long : length y ≡ a.run.count = omega (arith, lent c.before.before.before.before) in
    rw (take_at y (drop a.run.count a.places.now) a.run.count long)
    (record { message = pre.0; room = omega (arith, later-is c.before.before.before.before.before.before.before); any = omega (arith, long); telling = c.gather.ensures.telling })

returns-3 : tie.Need-returns
returns-3 c =
    let a = c.args in
    let b = decode a.table.now in
    let k = registers listeners in
    let l = said_from k a.p b a.run.first in
    let y = c.gather.new.places in
    let long : length y ≡ a.run.count = omega (arith, lent c.before.before.before.before.before.before.before) in
    let are : listeners_at a.p a.table.now y ≡ l = c.gather.ensures.are ∙ take_all (length y) l (omega (arith, long, left_is c.before.before.before.before.before.before.before.before.before.before)) in
    let same : listeners_at a.p a.table.now (take a.run.count _) ≡ l = ap (listeners_at a.p a.table.now) (take_at y (drop a.run.count a.places.now) a.run.count long) ∙ are in
    rw same at c.take_packed.ensures

pub take_listeners_spec : {M : Type 1} → statement M
take_listeners_spec = tie.close (tie.spec (λ c κs. c.requires.0.port) (λ c κs. search rules) (λ c. omega (arith, c.requires.0.room)) (λ c. omega (arith, c.requires.0.room, c.later_sizes-later.ensures.1)) write-none-requires (λ c. search rules) returns
    write-none-requires-2 (λ c. search rules) returns-2 (λ c. omega (arith, c.requires.1.few, c.requires.3)) (λ c. sym (lent c)) gather-requires (λ c. search rules) slice-aggregate-take-packed take-packed-requires (λ c. search rules) (λ c. search rules) returns-3)
