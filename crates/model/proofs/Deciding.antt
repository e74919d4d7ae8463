-- What an advance leaves of one machine: what was decided stands, with its values; what was not is LA with the values last declared, and
-- only VP goes without an Lv. What is received neither makes nor ends a machine.
use mathlib.Core.Path.{◌≡◌, refl}
use mathlib.Core.List.{List, [], ◌∷◌, map}
use mathlib.Core.Bool.{Bool, true, false, cond}
use Rattle.model.specs.Applicant.{ApplicantEvent, join, lv, r_new, r_join_in, r_in, r_join_mt, r_mt, r_lv, r_la, Standing, very_anxious_passive, very_anxious_new, anxious_new, anxious_active, quiet_active, leaving_active, becomes}
use Rattle.model.specs.Machines.{Listed, Applicant, no_applicant, applicant, undeclared, declared, other_content, with, applicant_of, after, born, decided}
use Rattle.model.proofs.ApplicantEntries.{tables}

-- An event on each state, in the order VP, VN, AN, AA, QA, LA.
unfoldable pub after-each : ApplicantEvent → List (List Standing)
after-each e =
    becomes false e very_anxious_passive ∷ becomes false e very_anxious_new ∷ becomes false e anxious_new
    ∷ becomes false e anxious_active ∷ becomes false e quiet_active ∷ becomes false e leaving_active ∷ []

abbrev one : Standing → List Standing
one q = q ∷ []

-- received: none ends
pub heard-in : (after-each r_join_in ≡ one very_anxious_passive ∷ one very_anxious_new ∷ one anxious_new ∷ one quiet_active ∷ one quiet_active ∷ one leaving_active ∷ [])
    × (after-each r_in ≡ after-each r_join_in)
unfolding tables after-each
heard-in = (refl, refl)

pub heard-empty : (after-each r_join_mt ≡ one very_anxious_passive ∷ one very_anxious_new ∷ one anxious_new ∷ one anxious_active ∷ one anxious_active ∷ one leaving_active ∷ [])
    × (after-each r_mt ≡ after-each r_join_mt)
unfolding tables after-each
heard-empty = (refl, refl)

pub heard-leave : (after-each r_lv ≡ one very_anxious_passive ∷ one very_anxious_new ∷ one very_anxious_new ∷ one very_anxious_passive ∷ one very_anxious_passive ∷ one leaving_active ∷ [])
    × (after-each r_la ≡ after-each r_lv)
unfolding tables after-each
heard-leave = (refl, refl)

pub heard-new : after-each r_new ≡ one very_anxious_passive ∷ one very_anxious_new ∷ one anxious_new ∷ one anxious_active ∷ one quiet_active ∷ one leaving_active ∷ []
unfolding tables after-each
heard-new = refl

-- a declaration, not an unsent Lv
abbrev pub Stands : Standing → Type 0
Stands very_anxious_passive = Unit {0}
Stands very_anxious_new = Unit {0}
Stands anxious_new = Unit {0}
Stands anxious_active = Unit {0}
Stands quiet_active = Unit {0}
Stands leaving_active = ⊥

-- New may be at the neighbour, or is on its way
abbrev pub IsNew : Standing → Type 0
IsNew very_anxious_passive = ⊥
IsNew very_anxious_new = Unit {0}
IsNew anxious_new = Unit {0}
IsNew anxious_active = ⊥
IsNew quiet_active = ⊥
IsNew leaving_active = ⊥

module _ {D : Type 0} where
  -- a machine in a state of some kind, with a value
  abbrev pub Holds : (Standing → Type 0) → D → Applicant D → Type 0
  Holds P v no_applicant = ⊥
  Holds P v (applicant x) = P x.state × (x.value ≡ v)

  -- nothing, or an unsent Lv of what was declared
  abbrev pub Unsent : Applicant D → Applicant D → Type 0
  Unsent no_applicant no_applicant = Unit {0}
  Unsent no_applicant (applicant y) = ⊥
  Unsent (applicant x) no_applicant = x.state ≡ very_anxious_passive
  Unsent (applicant x) (applicant y) = (y.state ≡ leaving_active) × (y.value ≡ x.value)

  born-stands : (v : D) → Holds Stands v (born v)
  unfolding born applicant_of with tables
  born-stands v = (tt, refl)

  module _ (v : D) where
    -- equal content: only LA moves, to AA; other content: VP stays, AN stays, all others are VN
    same-stands : (q : Standing) → Holds Stands v (applicant_of (map (with v) (becomes false join q)))
    unfolding applicant_of with tables
    same-stands very_anxious_passive = (tt, refl)
    same-stands very_anxious_new = (tt, refl)
    same-stands anxious_new = (tt, refl)
    same-stands anxious_active = (tt, refl)
    same-stands quiet_active = (tt, refl)
    same-stands leaving_active = (tt, refl)

    other-stands : (q : Standing) → Holds Stands v (applicant_of (map (with v) (becomes false (other_content q) q)))
    unfolding applicant_of with other_content tables
    other-stands very_anxious_passive = (tt, refl)
    other-stands very_anxious_new = (tt, refl)
    other-stands anxious_new = (tt, refl)
    other-stands anxious_active = (tt, refl)
    other-stands quiet_active = (tt, refl)
    other-stands leaving_active = (tt, refl)

    -- where the old content may stand at the neighbour, New is written
    other-new : (q : Standing) → (q ≡ very_anxious_passive → ⊥) → Holds IsNew v (applicant_of (map (with v) (becomes false (other_content q) q)))
    unfolding applicant_of with other_content tables
    other-new very_anxious_passive n = absurd (n refl)
    other-new very_anxious_new n = (tt, refl)
    other-new anxious_new n = (tt, refl)
    other-new anxious_active n = (tt, refl)
    other-new quiet_active n = (tt, refl)
    other-new leaving_active n = (tt, refl)

  module _ (same : D → D → Bool) where
    -- what was decided stands, with its value
    pub decided-stands : (v : D) (a : Applicant D) → Holds Stands v (decided same (declared v) a)
    unfolding decided
    decided-stands v no_applicant = born-stands v
    decided-stands v (applicant x) = go (same v x.value)
      where
        go : (b : Bool) → Holds Stands v (applicant_of (map (with v) (becomes false (cond b join (other_content x.state)) x.state)))
        go true = same-stands v x.state
        go false = other-stands v x.state

    pub changed-new : (v : D) (x : Listed D) → same v x.value ≡ false → (x.state ≡ very_anxious_passive → ⊥)
        → Holds IsNew v (decided same (declared v) (applicant x))
    unfolding decided
    changed-new v x e n = rw e (other-new v x.state n)

    -- what was not: nothing, or LA with the value last declared; one that goes at once was in VP
    pub withdrawn-unsent : (a : Applicant D) → Unsent a (decided same undeclared a)
    unfolding decided after with
    withdrawn-unsent no_applicant = tt
    withdrawn-unsent (applicant x) = go x.state refl
      where
        go : (q : Standing) → x.state ≡ q → Unsent (applicant x) (applicant_of (map (with x.value) (becomes false lv q)))
        go very_anxious_passive e = unfold applicant_of with tables in e
        go very_anxious_new e = unfold applicant_of with tables in (refl, refl)
        go anxious_new e = unfold applicant_of with tables in (refl, refl)
        go anxious_active e = unfold applicant_of with tables in (refl, refl)
        go quiet_active e = unfold applicant_of with tables in (refl, refl)
        go leaving_active e = unfold applicant_of with tables in (refl, refl)
