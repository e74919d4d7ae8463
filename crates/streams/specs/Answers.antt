-- What the code's answers say in the words of the definitions.
use Rattle.std.specs.Prelude.{ℕ, Option, Some, None, unwrap_or}
use Rattle.model.specs.State as model
use Rattle.model.specs.State.{no_talker, talker, Cell, no_class, class_a, class_b}
use Rattle.model.specs.Settling.{Source, nowhere, from}
use Rattle.streams.specs.declared.Class.{Class}
use Rattle.streams.specs.declared.Class.TheVariants.{A, B}

unfoldable pub named : Class → model.Class
named A = class_a
named B = class_b

-- of a priority that may have no class
unfoldable pub class_shown : Option Class → model.Class
class_shown None = no_class
class_shown (Some c) = named c

-- the intervals of a class in a second
unfoldable pub intervals_of : Class → ℕ
intervals_of A = 8000
intervals_of B = 4000

-- a stream's Talker port
unfoldable pub source_port : Source → Option ℕ
source_port nowhere = None
source_port (from o) = Some o.port

-- the same as a number; 0 where there is none, as no port then has a Talker
abbrev pub talker_port : Source → ℕ
talker_port s = unwrap_or (source_port s) 0

-- what a cell at place t has registered, as a source
unfoldable pub source_in : ℕ → Cell → Source
source_in t c = elim c.talks [ no_talker ↦ nowhere | talker r ↦ from record { port = t; registration = r } ]
