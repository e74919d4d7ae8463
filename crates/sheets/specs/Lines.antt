-- The lines of a sheet (01, "The printed sheet"), as octets. Each ends with a line feed. Assumes nothing.
use Rattle.std.specs.Prelude.{ℕ, List, [], ◌∷◌, ◌++◌}
use Rattle.io.specs.Digits.{last_digits}
use Rattle.model.specs.Reports.{Report}
use Rattle.console.specs.Text.{decimal, spaced}
use Rattle.console.specs.Words.{shown_text}

abbrev pub line_end : List ℕ
line_end = 10 ∷ []

-- a class of a port: its name, and "totals/limits, in decimal"
unfoldable pub class_text : List ℕ → ℕ → ℕ → List ℕ
class_text name total limit = name ++ (decimal total ++ (47 ∷ decimal limit))

-- both classes, and the line's end
unfoldable pub classes_text : ℕ → ℕ → ℕ → ℕ → List ℕ
classes_text total_a limit_a total_b limit_b = class_text (32 ∷ 65 ∷ 32 ∷ []) total_a limit_a ++ (class_text (32 ∷ 66 ∷ 32 ∷ []) total_b limit_b ++ line_end)

-- "a line per port": port P A TOTAL/LIMIT B TOTAL/LIMIT
unfoldable pub port_text : ℕ → List ℕ
port_text p = (112 ∷ 111 ∷ 114 ∷ 116 ∷ []) ++ spaced p

unfoldable pub port_line : ℕ → Report → List ℕ
port_line p r = port_text p ++ classes_text r.total_a r.limit_a r.total_b r.limit_b

-- "StreamID (16 lower-case hex digits), port, Talker column, code (0 unless failed), Listener declared there, entry"
unfoldable pub stream_text : ℕ → ℕ → List ℕ
stream_text id p = last_digits 16 16 id ++ spaced p

unfoldable pub stream_line : ℕ → Report → List ℕ
stream_line p r = stream_text r.id p ++ (shown_text r.column r.code r.listener r.entry ++ line_end)

-- "It prints `refused N` for a refused call"
unfoldable pub refused_line : ℕ → List ℕ
refused_line n = (114 ∷ 101 ∷ 102 ∷ 117 ∷ 115 ∷ 101 ∷ 100 ∷ []) ++ (spaced n ++ line_end)

-- "refused settings, another octet or a cut record prints `stop`"
unfoldable pub stop_line : List ℕ
stop_line = 115 ∷ 116 ∷ 111 ∷ 112 ∷ line_end
