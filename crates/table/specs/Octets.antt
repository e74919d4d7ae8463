-- What the code does to the octets of a table, step by step.
use Rattle.std.specs.Prelude.{List, ℕ, ◌+◌, ◌-◌, ◌*◌}
use Rattle.octets.specs.Be.{be}
use Rattle.octets.specs.Parts.{part, patch, zeros}
use Rattle.model.specs.Layout.{in_table, record_place, record_size}

-- of n records those from place k on moved up, and an empty one for the stream id put there
unfoldable pub record_put : ℕ → ℕ → ℕ → List ℕ → List ℕ
record_put n k id t =
    let at = record_place k in
    let moved = patch (at + record_size) ((n - k) * record_size) (part at ((n - k) * record_size) t) t in
    patch in_table.count 1 (be 1 (n + 1)) (patch at 8 (be 8 id) (patch at record_size (zeros record_size) moved))

-- the record at place i in the place of that at j
unfoldable pub record_kept : ℕ → ℕ → List ℕ → List ℕ
record_kept i j t = patch (record_place j) record_size (part (record_place i) record_size t) t
