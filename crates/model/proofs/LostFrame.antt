-- One lost frame: a declaration in VP is joined at its first write and at its second, one in VN is new at both, so that losing either
-- leaves the other; and what is not so.
use mathlib.Core.Path.{◌≡◌, refl}
use mathlib.Core.List.{List, [], ◌∷◌}
use mathlib.Core.Bool.{Bool, true, false}
use Rattle.model.specs.Applicant.{ApplicantEvent, r_join_in, tx, tx_la, Message, s_n, s_j, s, s_l, optional, Standing, very_anxious_passive, very_anxious_new, anxious_active, quiet_active, leaving_active, becomes, sent}
use Rattle.model.proofs.ApplicantEntries.{tables}

-- what a machine writes at its first opportunity and at its second, nothing being received between: New, Join or another message, or
-- nothing where it has left the list
pub data Said : Type 0 where
  gone : Said
  said_with : Message → Said

unfoldable pub said_by : Bool → ApplicantEvent → List Standing → Said
said_by r e [] = gone
said_by r e (q ∷ l) = said_with (sent r e q)

-- at the two, of which the first has LeaveAll or not; the Registrar is IN or is not at each
unfoldable pub said_twice : (r k : Bool) → ApplicantEvent → Standing → List Said
said_twice r k e q = said_by r e (q ∷ []) ∷ said_by k tx (becomes r e q) ∷ []

pub joined-twice : (r k : Bool) → said_twice r k tx very_anxious_passive ≡ said_with s_j ∷ said_with s_j ∷ []
unfolding said_twice said_by tables
joined-twice r k = refl

pub new-twice : (r k : Bool) → said_twice r k tx very_anxious_new ≡ said_with s_n ∷ said_with s_n ∷ []
unfolding said_twice said_by tables
new-twice r k = refl

-- with LeaveAll in the first of the two
pub new-twice-leaving-all : (r k : Bool) → said_twice r k tx_la very_anxious_new ≡ said_with s_n ∷ said_with s_n ∷ []
unfolding said_twice said_by tables
new-twice-leaving-all r k = refl

-- What is not so. An Lv is written once, and its declaration has gone.
pub left-once : (r k : Bool) → said_twice r k tx leaving_active ≡ said_with s_l ∷ gone ∷ []
unfolding said_twice said_by tables
left-once r k = refl

-- A JoinIn of the neighbour between the two writes: the second is in brackets, so not written. (The neighbour then has it.)
pub answered-once : (becomes false tx very_anxious_passive ≡ anxious_active ∷ []) × (becomes false r_join_in anxious_active ≡ quiet_active ∷ [])
    × (sent true tx quiet_active ≡ optional s_j)
unfolding tables
answered-once = (refl, refl, refl)

-- VP at a write with LeaveAll: In or Mt, then one Join.
pub joined-once-leaving-all : (r k : Bool) → said_twice r k tx_la very_anxious_passive ≡ said_with s ∷ said_with s_j ∷ []
unfolding said_twice said_by tables
joined-once-leaving-all r k = refl

-- One that was joined once, in AA: once more.
pub last-join : (r k : Bool) → said_twice r k tx anxious_active ≡ said_with s_j ∷ said_with (optional s_j) ∷ []
unfolding said_twice said_by tables
last-join r k = refl
