-- One Applicant with what it declares: what an advance, a received event and a write do to it. The values last declared are kept with
-- the machine, so that an Lv still has them (35.2.3.1.3, 35.2.3.1.7).
use Rattle.std.specs.Prelude.{List, [], ◌∷◌, map, Bool, true, false, cond}
use Rattle.model.specs.Applicant.{vo, ApplicantEvent, new, join, lv, r_join_in, r_join_mt, r_lv, tx, tx_la, tx_laf, applicant_entry, Standing, very_anxious_passive, very_anxious_new, anxious_new, anxious_active, quiet_active, leaving_active, standing, becomes, speaks}
use Rattle.model.specs.Places.{Way, itself}

-- a declaration in a port's list: its Applicant's state, and what it says
pub record Listed (D : Type 0) : Type 0 where
  pub state : Standing
  pub value : D

-- a machine, where there is a declaration
pub data Applicant (D : Type 0) : Type 0 where
  no_applicant : Applicant D
  applicant : Listed D → Applicant D

-- what an advance decides of a declaration
pub data Decided (D : Type 0) : Type 0 where
  undeclared : Decided D
  declared : D → Decided D

-- "Other content" is New!, where the old content may stand at the neighbour; in VP it is Join!, which moves nothing.
unfoldable pub other_content : Standing → ApplicantEvent
other_content very_anxious_passive = join
other_content very_anxious_new = new
other_content anxious_new = new
other_content anxious_active = new
other_content quiet_active = new
other_content leaving_active = new

-- What is received of a declaration's AttributeType and key: In where the neighbour has it registered (JoinIn, In), empty where it has not
-- (JoinMt, Mt), leave (Lv, LeaveAll). New moves nothing.
pub data Heard : Type 0 where
  heard_in heard_empty heard_leave : Heard

unfoldable pub heard_event : Heard → ApplicantEvent
heard_event heard_in = r_join_in
heard_event heard_empty = r_join_mt
heard_event heard_leave = r_lv

module _ {D : Type 0} where
  unfoldable pub with : D → Standing → Listed D
  with v q = record { state = q; value = v }

  -- what is left of a machine
  unfoldable pub applicant_of : List (Listed D) → Applicant D
  applicant_of [] = no_applicant
  applicant_of (x ∷ l) = applicant x

  -- the machine as a list: one element, or none
  unfoldable pub listed_of : Applicant D → List (Listed D)
  listed_of no_applicant = []
  listed_of (applicant x) = x ∷ []

  -- what an event leaves of a machine that keeps a value, where the Registrar of its attribute is IN or is not
  unfoldable pub after : (D → Bool) → ApplicantEvent → Listed D → List (Listed D)
  after registered e x = map (with x.value) (becomes (registered x.value) e x.state)

  -- born by Join! in VO
  unfoldable pub born : D → Applicant D
  born v = applicant_of (map (with v) (standing (applicant_entry false join vo).next))

  -- An advance: Join! where the declaration was decided, with the octets decided; Lv! where it was not.
  unfoldable pub decided : (D → D → Bool) → Decided D → Applicant D → Applicant D
  decided same undeclared no_applicant = no_applicant
  decided same undeclared (applicant x) = applicant_of (after (λ v. false) lv x)
  decided same (declared v) no_applicant = born v
  decided same (declared v) (applicant x) =
      applicant_of (map (with v) (becomes false (cond (same v x.value) join (other_content x.state)) x.state))

  -- an event that moves a machine, where there is one: one received for its AttributeType and key, or a write's
  unfoldable pub moved : (Standing → List Standing) → Applicant D → Applicant D
  moved f no_applicant = no_applicant
  moved f (applicant x) = applicant_of (map (with x.value) (f x.state))

  unfoldable pub heard : Heard → Applicant D → Applicant D
  heard h a = moved (becomes false (heard_event h)) a

  -- A write without LeaveAll, and one with it: "one that found no room" gets txLAF!.
  unfoldable pub way : Bool → (D → Bool) → Way (Listed D)
  way false registered = record { says = λ x. speaks tx x.state; inside = after registered tx; outside = itself }
  way true registered = record { says = λ x. speaks tx_la x.state; inside = after registered tx_la; outside = after registered tx_laf }
