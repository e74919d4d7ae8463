-- The code's answers about steps in the words of the definitions, and a port's flags.
use Rattle.std.specs.Prelude.{◌≡◌, Option, Some, None, List, [], ◌∷◌, Bool, false, cond}
use Rattle.model.specs.State.{Own, Class, no_class, class_a, class_b}
use Rattle.model.specs.Settling.{Outcome, column_none, as_registered, as_advertise, own_failure, About, StepName, step_a, step_b, step_c, step_d, step_e, step_f, step_g, step_h, step_i, step_j, step_k, step_l, step_m, step_n}
use Rattle.model.specs.Settling as model
use Rattle.model.specs.Why.{same_step}
use Rattle.columns.specs.declared.Step.{Step}
use Rattle.columns.specs.declared.Step.TheVariants as step
use Rattle.columns.specs.declared.Outcome as declared
use Rattle.columns.specs.declared.Outcome.TheVariants.{Nothing, Registered, Admitted, Failure}
use Rattle.columns.specs.declared.About as told
use Rattle.columns.specs.declared.Edges.{Edges}

-- the step that the code names
unfoldable pub step_shown : Step → StepName
step_shown step.A = step_a
step_shown step.B = step_b
step_shown step.C = step_c
step_shown step.D = step_d
step_shown step.E = step_e
step_shown step.F = step_f
step_shown step.G = step_g
step_shown step.H = step_h
step_shown step.I = step_i
step_shown step.J = step_j
step_shown step.K = step_k
step_shown step.L = step_l
step_shown step.M = step_m
step_shown step.N = step_n

-- or another where it names none
abbrev pub step_or : Option Step → StepName → StepName
step_or None m = m
step_or (Some s) m = step_shown s

-- the steps before one, and those from it on
unfoldable pub steps_before : StepName → List model.Step → List model.Step
steps_before n [] = []
steps_before n (s ∷ l) = cond (same_step s.name n) [] (s ∷ steps_before n l)

unfoldable pub steps_since : StepName → List model.Step → List model.Step
steps_since n [] = []
steps_since n (s ∷ l) = cond (same_step s.name n) (s ∷ l) (steps_since n l)

-- what is told of a step
unfoldable pub outcome_shown : declared.Outcome → Outcome
outcome_shown Nothing = column_none
outcome_shown Registered = as_registered
outcome_shown Admitted = as_advertise
outcome_shown (Failure code) = own_failure code

unfoldable pub about_shown : told.About → About
about_shown r = record { letter = r.0; outcome = outcome_shown r.1 }

-- the flag of a class
unfoldable pub edge_of : Edges → Class → Bool
edge_of e no_class = false
edge_of e class_a = e.a
edge_of e class_b = e.b

pub record EdgesOf (e : Edges) (o : Own) : Type 0 where
  pub in_a : e.a ≡ o.boundary_a
  pub in_b : e.b ≡ o.boundary_b
