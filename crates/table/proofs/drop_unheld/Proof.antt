-- `table::drop_unheld` meets its contract. The invariant: the records seen and held stand first, those not yet seen are as they
-- were. Assumes nothing.
use Prim.Native.Nat.{ℕ, ◌-◌, ◌≤◌, ◌<◌}
use mathlib.Core.Path.{◌≡◌, sym, ap, ◌∙◌}
use mathlib.Core.List.{List}
use mathlib.Core.Logic.{⊎_elim}
use native.Mathlib.Omega.{arith}
use lib.ListN.{length, get_or}
use Rattle.octets.specs.Be.{be}
use Rattle.octets.specs.Parts.{patch}
use Rattle.model.specs.Layout.{in_table, table_length}
use Rattle.model.specs.State.{fresh}
use Rattle.model.specs.Settling.{is_held}
use Rattle.model.specs.Table.{decode}
use borrow.Author.Rules.{rules}
use Rattle.model.proofs.Fits.{laid-fits}
use Rattle.table.proofs.Header.{laid-length}
use Rattle.table.proofs.Dropping.{Closing, closing-start, seen-held, closing-drop, closing-keep, closing_end}
use Rattle.table.proofs.drop_unheld.Statement.{statement}
use Rattle.table.proofs.drop_unheld.Tie as tie

record Dropping (t₀ : List ℕ) (n : ℕ) (t : List ℕ) (j i : ℕ) : Type 0 where
  size : length t ≡ table_length
  few : n ≤ 64
  count : n ≡ length (decode t₀).streams
  closing : Closing (decode t₀) t i j

abbrev invariant-loop-i : tie.invariant-loop-i
invariant-loop-i table₀ n j₀ i₀ table j i = Dropping table₀ n table j i

abbrev decreases-loop-i : tie.decreases-loop-i
decreases-loop-i table₀ n j₀ i₀ table j i = n - i

loop-holds : tie.Need-loop-i-init invariant-loop-i decreases-loop-i
loop-holds c =
    let t = c.args.table.now in
    let p = c.requires in
    record { size = laid-length t p; few = c.count-n.ensures.1; count = c.count-n.ensures.0; closing = closing-start t p }

-- the record that was looked at is held, or not, as its stream is
looked : (c : tie.After-is_held invariant-loop-i decreases-loop-i)
    → c.is_held.result ≡ is_held (get_or (decode c.args.table.now).streams
    c.loop-i.i (fresh 0))
looked c =
    let l = c.loop-i in
    let p = c.requires in
    c.is_held.ensures ∙ seen-held _ (laid-fits _ p) l.table l.i l.j l.invariant.closing (omega arith)

loop-again : tie.Need-loop-i-preserved invariant-loop-i decreases-loop-i
loop-again c =
    let l = c.loop-i in
    let p = c.requires in
    let f = laid-fits _ p in
    let e = looked c.before in
    let h : l.i < length (decode c.args.table.now).streams = omega arith in
    ⊎_elim
    (λ w. record {
      size = ap length w.table-is ∙ w.keep_record.auto.table ∙ l.invariant.size;
      few = l.invariant.few;
      count = l.invariant.count;
      closing = rw (w.table-is ∙ w.keep_record.ensures, w.j-is) (closing-keep _ f l.table l.i l.j l.invariant.closing h (sym e ∙ w.if-is_held.true));
    })
    (λ w. record {
      size = ap length w.table-is ∙ l.invariant.size;
      few = l.invariant.few;
      count = l.invariant.count;
      closing = rw (w.table-is, w.j-is) (closing-drop _ f l.table l.i l.j l.invariant.closing h (sym e ∙ w.if-is_held.false));
    })
    c.if-is_held.branch-raw

same_length : tie.Need-shape_of-table invariant-loop-i decreases-loop-i
same_length c = omega (arith, laid-length _ c.requires)

returns : tie.Need-returns invariant-loop-i decreases-loop-i
returns c =
    let l = c.loop-i in
    let f = laid-fits _ c.requires in
    let n = c.count-n.result in
    c.put.ensures
    ∙ ap (patch in_table.count 1 (be 1 l.j)) c.clear.ensures
    ∙ closing_end _ f l.table l.i l.j l.invariant.closing n l.invariant.count (omega arith)

pub drop_unheld_spec : {M : Type 1} → statement M
drop_unheld_spec =
    tie.close
    (tie.spec invariant-loop-i decreases-loop-i (λ c κs. c.requires) loop-holds (λ c. omega arith) (λ c. omega arith) (λ c. omega arith)
    (λ c. omega arith) (λ c. omega arith) (λ c. omega arith) (λ c κs. search rules) (λ c κs. omega arith) (λ c. omega arith)
    (λ c. omega arith) (λ c. omega arith) loop-again (λ c. omega arith) (λ c. omega arith) (λ c. omega arith) (λ c. omega arith)
    (λ c κs. omega arith) (λ c κs. omega arith) same_length returns)
