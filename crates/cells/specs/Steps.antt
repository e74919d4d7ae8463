-- The steps in which the octets of a cell are changed (docs/TABLE.md, "Cell").
use Rattle.std.specs.Prelude.{List, Bool, false, ℕ, ◌+◌, ◌*◌, ◌/◌, get_or, eqb, leb}
use Rattle.octets.specs.Be.{be_at, be}
use Rattle.octets.specs.Parts.{patch, zeros}
use Rattle.octets.specs.Pick.{pick}
use Rattle.model.specs.FrameLayout.{in_first_value}
use Rattle.model.specs.Layout.{in_cell, failure_size, leaving_size}
use Rattle.model.specs.Attributes.{talker_number}
use Rattle.model.specs.declared.attribute.TalkerAttribute.{TalkerAttribute}
use Rattle.model.specs.declared.attribute.TalkerAttribute.TheVariants.{Advertise, Failed}

-- leaving begun at the clock, unless it was: the mark at a place, and the time behind it
unfoldable pub begun : ℕ → ℕ → List ℕ → List ℕ
begun at clock s = pick (eqb (get_or s at 0) 0) (patch (at + 1) 4 (be 4 clock) (patch at 1 (be 1 1) s)) s

-- the n octets from a place cleared, where the leaving with its mark at another has lasted the leave time
unfoldable pub lapsed : ℕ → ℕ → ℕ → ℕ → ℕ → List ℕ → List ℕ
lapsed from n mark leave time s =
    pick (eqb (get_or s mark 0) 0) s
    (pick (leb (be_at 4 s (mark + 1) + leave) time) (patch from n (zeros n) s) s)

-- a Listener that stays
unfoldable pub heard : ℕ → List ℕ → List ℕ
heard four s = patch in_cell.listener_leaves leaving_size (zeros leaving_size) (patch in_cell.listener 1 (be 1 four) s)

-- a Talker that stays, with the changed mark
unfoldable pub marked : List ℕ → List ℕ
marked s = patch in_cell.talker_leaves leaving_size (zeros leaving_size) (patch in_cell.changed 1 (be 1 1) s)

-- the failure of a FirstValue, or none
unfoldable pub failing : TalkerAttribute → List ℕ → List ℕ → List ℕ
failing Failed first s = patch in_cell.code 1 (be 1 (get_or first in_first_value.code 0)) (patch in_cell.bridge 8 (be 8 (be_at 8 first in_first_value.bridge)) s)
failing Advertise first s = patch in_cell.bridge failure_size (zeros failure_size) s

-- a Talker that stays, without the changed mark; type, latency and failure of a FirstValue
unfoldable pub varied : TalkerAttribute → List ℕ → List ℕ → List ℕ
varied a first s =
    failing a first (patch in_cell.latency 4 (be 4 (be_at 4 first in_first_value.latency)) (patch in_cell.changed (1 + leaving_size) (zeros (1 + leaving_size)) (patch 0 1 (be 1 (talker_number a)) s)))

-- destination, VLAN, TSpec, priority and rank of value n of a FirstValue, and its latency as the first
unfoldable pub fixed : List ℕ → ℕ → List ℕ → List ℕ
fixed first n s =
    patch in_cell.first_latency 4 (be 4 (be_at 4 first in_first_value.latency))
    (patch in_cell.priority 1 (be 1 (get_or first in_first_value.priority 0 / 16 * 16))
    (patch in_cell.vlan 6 (be 6 (be_at 6 first in_first_value.vlan)) (patch in_cell.fixed 6 (be 6 (be_at 6 first in_first_value.destination + n)) s)))

-- whether these are the cell's
unfoldable pub same : List ℕ → ℕ → List ℕ → Bool
same first n s =
    pick (eqb (be_at 6 s in_cell.fixed) (be_at 6 first in_first_value.destination + n))
    (pick (eqb (be_at 6 s in_cell.vlan) (be_at 6 first in_first_value.vlan)) (eqb (get_or s in_cell.priority 0 / 16) (get_or first in_first_value.priority 0 / 16)) false)
    false

-- a Talker's join
unfoldable pub joined : TalkerAttribute → List ℕ → ℕ → List ℕ → List ℕ
joined a first n s =
    pick (eqb (get_or s 0 0) 0) (fixed first n (varied a first s))
    (pick (same first n s) (varied a first s) (marked s))
