-- A report at the boundary: its parts as numbers, in the order of include/srp.h. All else that the boundary promises are crate
-- bridge's relations themselves.
use Rattle.std.specs.Prelude.{◌≡◌, List, [], ◌∷◌, ℕ}
use Rattle.model.specs.Reports.{ColumnWord, none_word, advertise_word, failed_word, Report}
use Rattle.model.specs.Table.{declared_number, entry_number}
use Rattle.model.specs.Why.{letter}
use Rattle.model.specs.Calls.{WhyCall}
use Rattle.bridge.specs.Promises.{Reports, Explains}

-- a column's number in the table, by its word
unfoldable pub word_number : ColumnWord → ℕ
word_number none_word = 0
word_number advertise_word = 1
word_number failed_word = 2

unfoldable pub parts_of : Report → List ℕ
parts_of r =
    r.count ∷ r.total_a ∷ r.limit_a ∷ r.total_b ∷ r.limit_b ∷ r.id ∷ word_number r.column ∷ r.code ∷ declared_number r.listener
    ∷ entry_number r.entry ∷ []

-- a table, a port and a place: a number, and the parts behind the pointer, are those of the report
pub record Told (table : List ℕ) (port place number : ℕ) (parts : List ℕ) : Type 0 where
  pub answer : Report
  pub reports : Reports table port place answer
  pub number_is : number ≡ answer.number
  pub parts_are : parts ≡ parts_of answer

unfoldable pub why_parts : WhyCall → List ℕ
why_parts r = letter r.step ∷ r.count ∷ r.limit ∷ r.shortfall ∷ []

-- a table, a StreamID, a port and a buffer: a number, the parts behind the pointer and the buffer afterwards are those of why
pub record Explained (table : List ℕ) (id port : ℕ) (buffer : List ℕ) (number : ℕ) (parts after : List ℕ) : Type 0 where
  pub answer : WhyCall
  pub explains : Explains table id port buffer answer
  pub number_is : number ≡ answer.number
  pub parts_are : parts ≡ why_parts answer
  pub buffer_is : after ≡ answer.buffer
