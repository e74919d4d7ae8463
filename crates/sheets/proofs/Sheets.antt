-- The sheet of an input, put part by part. Assumes nothing.
use Prim.Native.Nat.{ℕ}
use mathlib.Core.Path.{◌≡◌, refl, sym, ◌∙◌}
use mathlib.Core.Bool.{true, false}
use mathlib.Core.List.{List}
use lib.ListN.{take, drop}
use lib.Dec.{eqb}
use borrow.Author.Tests.{eq-eqb, ne_eqb}
use Rattle.octets.specs.Pick.{pick}
use Rattle.model.specs.Table.{ports_field}
use Rattle.std.specs.Prelude.{Result, Ok, Err}
use Rattle.std.specs.Result.{is_err}
use Rattle.model.specs.Numbers.{answer_number}
use Rattle.model.specs.declared.refusal.Refusal.{Refusal}
use Rattle.bridge.specs.Promises.{Starts}
use Rattle.bridge.proofs.OnTables.{not-accepted}
use Rattle.console.specs.declared.text.Text.{Text}
use Rattle.console.specs.Texts.{Puts}
use Rattle.console.proofs.Texts.{puts-append}
use Rattle.sheets.specs.Lines.{stop_line}
use Rattle.sheets.specs.Records.{settings_length}
use Rattle.sheets.specs.Sheet.{report_lines, left_by, printed, started_by, sheet_text, sheet_table}
use Rattle.sheets.specs.Promises.{CalledAll, Printed}

-- the settings are the first n octets
module _ (table input after : List ℕ) (n number : ℕ) (e : n ≡ settings_length input) (s : Starts table (take n input) number after) where
  begun : Starts table (take (settings_length input) input) number after
  begun = rw e at s

  pub sheet-refused : {text text_exit : Text} → text.end ≡ 0 → (number ≡ 0 → ⊥) → Puts text stop_line text_exit
      → Printed table input text.octets.now text_exit.end after text_exit.octets.now
  unfolding sheet_table sheet_text left_by printed started_by pick
  sheet-refused z h p =
      let no : eqb (started_by table input).number 0 ≡ false = ne_eqb _ _ (λ q. h (begun.0 ∙ q)) in
      record { table_is = rw no begun.1; text_is = rw no (rw z at p.put) }

  pub sheet-accepted : {text called text_exit : Text} {table_exit : List ℕ} {ports : ℕ} → text.end ≡ 0 → number ≡ 0 → ports ≡ ports_field input
      → CalledAll after (drop n input) text table_exit called → Puts called (report_lines table_exit ports) text_exit
      → Printed table input text.octets.now text_exit.end table_exit text_exit.octets.now
  unfolding sheet_table sheet_text left_by printed started_by pick
  sheet-accepted z h same c p =
      let yes : eqb (started_by table input).number 0 ≡ true = eq-eqb _ _ (sym begun.0 ∙ h) in
      let all = rw (e, begun.1) at c in
      record {
        table_is = rw yes all.table_is;
        text_is = rw (yes, ← all.table_is, ← same) (rw z at (puts-append all.text_is p).put);
      }

-- the octets lent are those of the text, before and afterwards
pub lent : {table input before octets table_exit after octets_exit : List ℕ} {e end : ℕ} → Printed table input before e table_exit after
    → before ≡ octets → end ≡ e → octets_exit ≡ after → Printed table input octets end table_exit octets_exit
lent p a b d = rw (← a, b, d) p

-- the number of an answer, by whether it is a refusal
pub refused-number : (a : Result (Unit {0}) Refusal) → is_err a ≡ true → answer_number a ≡ 0 → ⊥
refused-number (Ok u) e = absurd (cc)
refused-number (Err r) e = not-accepted r

pub accepted-number : (a : Result (Unit {0}) Refusal) → is_err a ≡ false → answer_number a ≡ 0
accepted-number (Ok u) e = refl
accepted-number (Err r) e = absurd (cc)
