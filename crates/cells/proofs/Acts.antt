-- `talk_of` says what the reader says: the act of a Talker's join.
use mathlib.Core.Path.{◌≡◌, refl}
use mathlib.Core.List.{List, [], ◌∷◌}
use Prim.Native.Nat.{ℕ}
use Rattle.octets.specs.Fields.{fields}
use Rattle.model.specs.Registrations.{Kind}
use Rattle.model.specs.Frames.{registers, first_widths, join, talker_act}
use Rattle.cells.specs.Acts.{talk_of}

pub talker-joins : (k : Kind) (first : List ℕ) (n : ℕ) → talker_act k (fields (first_widths (registers k)) 0 first) n join ≡ talk_of k first n ∷ []
unfolding talker_act talk_of
talker-joins k first n = refl
