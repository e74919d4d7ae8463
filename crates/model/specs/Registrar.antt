-- The Registrar machine of 802.1Q 10.7.8 (Table 10-4): one row for each event, in the standard's order of columns; an entry is what the
-- leave timer does, the indication to the application, and the next state.
use Rattle.std.specs.Prelude.{List, [], ◌∷◌, ℕ, get_or}
use Rattle.model.specs.State.{Leaving, stays, since}

-- IN registered; LV registered and leaving; MT not registered
pub data RegistrarState : Type 0 where
  is_in is_leaving is_empty : RegistrarState

pub data RegistrarEvent : Type 0 where
  begin r_new r_join_in r_join_mt r_lv r_la tx_la redeclare flush leavetimer : RegistrarEvent

pub data Timer : Type 0 where
  goes_on starts stops : Timer

pub data Indication : Type 0 where
  unsaid new_value joined left : Indication

pub record RegistrarEntry : Type 0 where
  pub timer : Timer
  pub indicates : Indication
  pub next : RegistrarState

unfoldable pub registrar_to : Timer → Indication → RegistrarState → RegistrarEntry
registrar_to t i x = record { timer = t; indicates = i; next = x }

unfoldable pub only : RegistrarState → RegistrarEntry
only x = registrar_to goes_on unsaid x

-- the row of rLv!, rLA!, txLA! and Re-declare!: "if already leaving, the first time stays"
unfoldable pub leaving_row : List RegistrarEntry
leaving_row = registrar_to starts unsaid is_leaving ∷ only is_leaving ∷ only is_empty ∷ []

unfoldable pub joining_row : List RegistrarEntry
joining_row = only is_in ∷ registrar_to stops unsaid is_in ∷ registrar_to goes_on joined is_in ∷ []

-- the row of an event: IN, LV, MT (leavetimer! is inapplicable in IN)
unfoldable pub registrar_row : RegistrarEvent → List RegistrarEntry
registrar_row begin = only is_empty ∷ only is_empty ∷ only is_empty ∷ []
registrar_row r_new = registrar_to goes_on new_value is_in ∷ registrar_to stops new_value is_in ∷ registrar_to goes_on new_value is_in ∷ []
registrar_row r_join_in = joining_row
registrar_row r_join_mt = joining_row
registrar_row r_lv = leaving_row
registrar_row r_la = leaving_row
registrar_row tx_la = leaving_row
registrar_row redeclare = leaving_row
registrar_row flush = registrar_to goes_on left is_empty ∷ registrar_to goes_on left is_empty ∷ only is_empty ∷ []
registrar_row leavetimer = only is_in ∷ registrar_to goes_on left is_empty ∷ only is_empty ∷ []

unfoldable pub registrar_column : RegistrarState → ℕ
registrar_column is_in = 0
registrar_column is_leaving = 1
registrar_column is_empty = 2

unfoldable pub registrar_entry : RegistrarEvent → RegistrarState → RegistrarEntry
registrar_entry e x = get_or (registrar_row e) (registrar_column x) (only x)

-- A registration of the bridge as its Registrar: held and staying is IN, held and leaving is LV since a time, not held is MT.
pub data Registered : Type 0 where
  unheld : Registered
  held_with : Leaving → Registered

unfoldable pub registrar_of : Registered → RegistrarState
registrar_of unheld = is_empty
registrar_of (held_with stays) = is_in
registrar_of (held_with (since t)) = is_leaving

-- the leave time counts from the time at which the timer was started
unfoldable pub timed : ℕ → Timer → Leaving → Leaving
timed now goes_on l = l
timed now starts l = since now
timed now stops l = stays

unfoldable pub leaving_of : Registered → Leaving
leaving_of unheld = stays
leaving_of (held_with l) = l

unfoldable pub registered_as : RegistrarState → Leaving → Registered
registered_as is_in l = held_with l
registered_as is_leaving l = held_with l
registered_as is_empty l = unheld

-- a registration after an event, at the held clock
unfoldable pub registrar_next : ℕ → RegistrarEvent → Registered → Registered
registrar_next now e x =
    let c = registrar_entry e (registrar_of x) in
    registered_as c.next (timed now c.timer (leaving_of x))
