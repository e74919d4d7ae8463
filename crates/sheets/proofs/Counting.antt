-- One line more, and how many streams a report counts. Assumes nothing.
use Prim.Native.Nat.{ℕ, ◌+◌, ◌≤◌}
use mathlib.Core.Path.{◌≡◌, refl}
use mathlib.Core.Bool.{Bool, true, false}
use mathlib.Core.List.{List, ◌++◌}
use native.Mathlib.Numerals.{add-one}
use native.Mathlib.Omega.{arith}
use lib.ListN.{length}
use lib.Dec.{ltb}
use Rattle.model.specs.Layout.{record_size}
use Rattle.model.specs.Reports.{refused_report, report}
use Rattle.model.specs.Frames.{wrong_port}
use Rattle.model.specs.Table.{formed, decode, count_field, records_part, to_stream}
use Rattle.model.specs.Calls.{report_on}
use Rattle.model.proofs.Parts.{length-parts}
use Rattle.model.proofs.Tables.{count_kept}
use Rattle.sheets.specs.Sheet.{lines}

pub lines_more : (line : ℕ → List ℕ) (n : ℕ) → lines line (n + 1) ≡ lines line n ++ line n
unfolding lines
lines_more line n = rw add-one

module _ (t : List ℕ) where
  streams-few : formed t ≡ true → length (decode t).streams ≤ 64
  unfolding decode
  streams-few f = omega (arith, length-parts record_size to_stream (count_field t) (records_part t), count_kept t f)

  -- a report that is refused counts none
  pub count-few : (p place : ℕ) → (report_on t p place).count ≤ 64
  unfolding report_on report refused_report
  count-few p place = formed-or (formed t) refl (wrong_port (decode t).settings p) refl (ltb (length (decode t).streams) place) refl
    where
      formed-or : (f : Bool) → formed t ≡ f → (w : Bool) → wrong_port (decode t).settings p ≡ w → (a : Bool) → ltb (length (decode t).streams) place ≡ a
          → (report_on t p place).count ≤ 64
      formed-or false e w d a g = rw e (omega arith)
      formed-or true e true d a g = rw (e, d) (omega arith)
      formed-or true e false d true g = rw (e, d, g) (omega arith)
      formed-or true e false d false g = rw (e, d, g) (streams-few e)
