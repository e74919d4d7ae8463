-- What the functions that make calls and put lines promise. Assumes nothing.
use Rattle.std.specs.Prelude.{ℕ, ◌≤◌, ◌<◌, ◌≡◌, List, Option, Some, None}
use Rattle.model.specs.Numbers.{answer_number}
use Rattle.console.specs.declared.text.Text.{Text}
use Rattle.console.specs.Text.{Put}
use Rattle.console.specs.Texts.{Puts}
use Rattle.sheets.specs.declared.Done.{Done}
use Rattle.sheets.specs.Records.{Record, size_of, called, records_of, table_after, records_text}
use Rattle.sheets.specs.Sheet.{sheet_table, sheet_text}

-- the call of a record in front of so many octets: the number given back, the record's octets, and the table afterwards
pub record Called (table : List ℕ) (r : Record) (left number size : ℕ) (after : List ℕ) : Type 0 where
  pub number_is : number ≡ (called r table).number
  pub size_is : size ≡ size_of r
  pub table_is : after ≡ (called r table).table
  pub within : size ≤ left

-- the same of what a record did, which has some octets; none where the record ends the reading
abbrev pub Took : List ℕ → Record → ℕ → Option Done → List ℕ → Type 0
Took table r left (Some d) after = Called table r left (answer_number d.answer) d.size after × (0 < d.size)
Took table r left None after = Called table r left 0 0 after

-- the calls of all records: the table afterwards, and the text put for them
pub record CalledAll (table records : List ℕ) (text : Text) (table_exit : List ℕ) (text_exit : Text) : Type 0 where
  pub table_is : table_exit ≡ table_after (records_of records) table
  pub text_is : Puts text (records_text (records_of records) table) text_exit

-- the sheet of an input: the table afterwards, and the text put in front
pub record Printed (table input text : List ℕ) (end : ℕ) (table_exit text_exit : List ℕ) : Type 0 where
  pub table_is : table_exit ≡ sheet_table table input
  pub text_is : Put text 0 (sheet_text table input) end text_exit
