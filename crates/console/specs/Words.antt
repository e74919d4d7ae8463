-- The words of a report, as octets: "none, advertise, failed, asking, ready, readyfailed, filter, forward are printed exactly as
-- spelled here". Assumes nothing.
use Rattle.std.specs.Prelude.{ℕ, List, [], ◌∷◌, ◌++◌}
use Rattle.model.specs.State.{Entry, no_entry, filters, forwards, asking_failed, ready, ready_failed, Declared, nothing, tells}
use Rattle.model.specs.Reports.{ColumnWord, none_word, advertise_word, failed_word}
use Rattle.console.specs.Text.{spaced}

-- none, advertise, failed
unfoldable pub column_text : ColumnWord → List ℕ
column_text none_word = 110 ∷ 111 ∷ 110 ∷ 101 ∷ []
column_text advertise_word = 97 ∷ 100 ∷ 118 ∷ 101 ∷ 114 ∷ 116 ∷ 105 ∷ 115 ∷ 101 ∷ []
column_text failed_word = 102 ∷ 97 ∷ 105 ∷ 108 ∷ 101 ∷ 100 ∷ []

-- none, asking, ready, readyfailed
unfoldable pub listener_text : Declared → List ℕ
listener_text nothing = 110 ∷ 111 ∷ 110 ∷ 101 ∷ []
listener_text (tells asking_failed) = 97 ∷ 115 ∷ 107 ∷ 105 ∷ 110 ∷ 103 ∷ []
listener_text (tells ready) = 114 ∷ 101 ∷ 97 ∷ 100 ∷ 121 ∷ []
listener_text (tells ready_failed) = 114 ∷ 101 ∷ 97 ∷ 100 ∷ 121 ∷ 102 ∷ 97 ∷ 105 ∷ 108 ∷ 101 ∷ 100 ∷ []

-- none, filter, forward
unfoldable pub entry_text : Entry → List ℕ
entry_text no_entry = 110 ∷ 111 ∷ 110 ∷ 101 ∷ []
entry_text filters = 102 ∷ 105 ∷ 108 ∷ 116 ∷ 101 ∷ 114 ∷ []
entry_text forwards = 102 ∷ 111 ∷ 114 ∷ 119 ∷ 97 ∷ 114 ∷ 100 ∷ []

-- what a report shows of a stream, a space before each
unfoldable pub shown_text : ColumnWord → ℕ → Declared → Entry → List ℕ
shown_text column code listener entry =
    (((32 ∷ column_text column) ++ spaced code) ++ (32 ∷ listener_text listener)) ++ (32 ∷ entry_text entry)
