-- The place of a StreamID among those that a table holds, as `binary_search` answers it.
use Rattle.std.specs.Prelude.{List, [], ◌∷◌, cond, ℕ, suc, ltb, eqb, Result, Ok, Err}

-- among ascending StreamIDs of which the first stands at place k: where it is, or where it would stand
unfoldable pub found_at : ℕ → ℕ → List ℕ → Result ℕ ℕ
found_at id k [] = Err k
found_at id k (i ∷ l) = cond (ltb id i) (Err k) (cond (eqb id i) (Ok k) (found_at id (suc k) l))
