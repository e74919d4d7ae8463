-- The parts of a report as the boundary puts them: a word by its variant's number.
use Rattle.std.proofs.Common.{◌≡◌, refl, [], ◌∷◌}
use denote.Enum.Declared.{tag_of}
use Rattle.model.specs.State.{ready_number}
use Rattle.model.specs.Table.{declared_number, entry_number}
use Rattle.reports.specs.declared.ColumnShown.{ColumnShown}
use Rattle.reports.specs.declared.ColumnShown.TheVariants as column
use Rattle.reports.specs.contracts.ColumnShown as columns
use Rattle.reports.specs.declared.ListenerShown.{ListenerShown}
use Rattle.reports.specs.declared.ListenerShown.TheVariants as listener
use Rattle.reports.specs.contracts.ListenerShown as listeners
use Rattle.reports.specs.declared.EntryShown.{EntryShown}
use Rattle.reports.specs.declared.EntryShown.TheVariants as entry
use Rattle.reports.specs.contracts.EntryShown as entries
use Rattle.reports.specs.declared.Reported.{Reported}
use Rattle.reports.specs.Shown.{column_word, declared, entered, shown}
use Rattle.embed.specs.Boundary.{word_number, parts_of}

column-number : (c : ColumnShown) → tag_of columns.the_type c ≡ word_number (column_word c)
unfolding word_number column_word
column-number column.None = refl
column-number column.Advertise = refl
column-number column.Failed = refl

listener-number : (l : ListenerShown) → tag_of listeners.the_type l ≡ declared_number (declared l)
unfolding declared_number declared ready_number
listener-number listener.None = refl
listener-number listener.AskingFailed = refl
listener-number listener.Ready = refl
listener-number listener.ReadyFailed = refl

entry-number : (e : EntryShown) → tag_of entries.the_type e ≡ entry_number (entered e)
unfolding entry_number entered
entry-number entry.None = refl
entry-number entry.Filter = refl
entry-number entry.Forward = refl

pub parts-put : (r : Reported)
    → r.count ∷ r.port.a.total ∷ r.port.a.limit ∷ r.port.b.total ∷ r.port.b.limit ∷ r.stream.id ∷ tag_of columns.the_type r.stream.column ∷ r.stream.code
    ∷ tag_of listeners.the_type r.stream.listener ∷ tag_of entries.the_type r.stream.entry ∷ []
    ≡ parts_of (shown r)
unfolding parts_of shown
parts-put r = rw (column-number r.stream.column, listener-number r.stream.listener, entry-number r.stream.entry)
