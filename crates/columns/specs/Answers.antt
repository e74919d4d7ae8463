-- What the code's answers say in the words of the definitions, and what it writes of a result.
use Rattle.std.specs.Prelude.{Option, Some, None, List, [], ◌∷◌, ℕ, ◌+◌, ◌-◌, take, drop}
use Rattle.model.specs.Layout.{before, in_result, in_cell, fixed_widths, in_port, result_size, result_widths}
use Rattle.model.specs.State.{Column, none, advertise, failed, Entry, no_entry, filters, forwards}
use Rattle.model.specs.Settling.{latency_kept}
use Rattle.model.specs.Table.{column_number, column_bridge, column_code}
use Rattle.streams.specs.declared.Class.{Class}
use Rattle.streams.specs.declared.Class.TheVariants.{A, B}
use Rattle.columns.specs.declared.Column as code
use Rattle.columns.specs.declared.Column.TheVariants as column
use Rattle.columns.specs.declared.Entry as code_entry
use Rattle.columns.specs.declared.Entry.TheVariants.{Filter, Forward}
use Rattle.model.specs.declared.attribute.TalkerAttribute.{TalkerAttribute}
use Rattle.model.specs.declared.attribute.TalkerAttribute.TheVariants as talker

unfoldable pub column_shown : Option code.Column → Column
column_shown None = none
column_shown (Some column.Advertise) = advertise
column_shown (Some (column.Failed b c)) = failed b c

-- an entry, or none
unfoldable pub entry_shown : Option code_entry.Entry → Entry
entry_shown None = no_entry
entry_shown (Some Filter) = filters
entry_shown (Some Forward) = forwards

-- what a column declares of a Talker, as its number
unfoldable pub talker_number : Option TalkerAttribute → ℕ
talker_number None = 0
talker_number (Some talker.Advertise) = 1
talker_number (Some talker.Failed) = 2

-- a result's fields: those of its column, and behind them those of its entry with the Listener declared
abbrev pub column_widths : List ℕ
column_widths = take 4 result_widths

unfoldable pub column_numbers : Column → ℕ → List ℕ
column_numbers c latency = column_number c ∷ latency_kept c latency ∷ column_bridge c ∷ column_code c ∷ []

abbrev pub entry_widths : List ℕ
entry_widths = drop 4 result_widths

abbrev pub entry_size : ℕ
entry_size = result_size - in_result.entry

-- MaxFrameSize in a cell
abbrev pub size_place : ℕ
size_place = in_cell.fixed + before 2 fixed_widths

-- the latency of a class in a port's settings
unfoldable pub latency_place_of : Class → ℕ
latency_place_of A = in_port.latency_a
latency_place_of B = in_port.latency_b
