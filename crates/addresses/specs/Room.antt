-- Room for the addresses that a frame joins, before it is applied: a vacant one for each that is not held.
use Rattle.std.specs.Prelude.{List, [], ◌∷◌, ◌++◌, Bool, true, false, cond, ℕ, suc, ◌+◌, take, drop, ltb, leb, eqb}
use Rattle.model.specs.Lists.{keep}
use Rattle.model.specs.State.{stays, since, Presence, vacant, present, Address}

unfoldable pub vacant_at : ℕ → Address
vacant_at m = record { mac = m; presence = vacant }

unfoldable pub with_room : ℕ → List Address → List Address
with_room m [] = vacant_at m ∷ []
with_room m (a ∷ l) = cond (ltb m a.mac) (vacant_at m ∷ a ∷ l) (cond (eqb m a.mac) (a ∷ l) (a ∷ with_room m l))

-- one put in at place k, and one taken out
unfoldable pub put_in : ℕ → ℕ → List Address → List Address
put_in k m l = take k l ++ (vacant_at m ∷ drop k l)

unfoldable pub taken_out : ℕ → List Address → List Address
taken_out k l = take k l ++ drop (suc k) l

-- those that are registered
unfoldable pub is_held : Presence → Bool
is_held vacant = false
is_held (present l) = true

unfoldable pub present_only : List Address → List Address
present_only [] = []
present_only (a ∷ l) = keep (is_held a.presence) a (present_only l)

-- one that has been leaving for the leave time is vacant
unfoldable pub lapse_presence : ℕ → ℕ → Presence → Presence
lapse_presence leave now vacant = vacant
lapse_presence leave now (present stays) = present stays
lapse_presence leave now (present (since t)) = cond (leb (t + leave) now) vacant (present (since t))

unfoldable pub lapse_address : ℕ → ℕ → Address → Address
lapse_address leave now a = record { mac = a.mac; presence = lapse_presence leave now a.presence }
