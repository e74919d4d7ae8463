-- Which of the steps before h is the first that applies, by the octets that the code tests.
use mathlib.Core.Path.{◌≡◌, refl, sym, ap, ◌∙◌}
use mathlib.Core.List.{List, [], ◌∷◌}
use mathlib.Core.Bool.{Bool, true, false, cond, not, false≢true}
use Prim.Native.Nat.{ℕ, ◌+◌, ◌/◌, ◌≤◌, ◌<◌}
use native.Mathlib.Omega.{arith}
use lib.ListN.{length, get_or, set}
use lib.Seq.{get_or-set_same}
use lib.Dec.{eqb, ltb}
use borrow.Author.Tests.{eq-eqb, lt-ltb, le-ltb}
use Rattle.std.specs.Prelude.{Option, Some, None}
use Rattle.octets.specs.Be.{be_at}
use Rattle.octets.specs.Fields.{fields}
use Rattle.model.specs.Layout.{in_cell, in_port}
use Rattle.model.specs.Lists.{is_one}
use Rattle.model.specs.State.{Settings, Bridge, Port, talker_advertise, talker_failed, Own, Stream, Class, no_class, class_a, class_b, no_own, no_fixed, port_at, is_port, cell_at, own_at, class_of, is_no_class, supports}
use Rattle.model.specs.Frames.{priority_of}
use Rattle.model.specs.Settling as model
use Rattle.model.specs.Settling.{Scene, scene_of, boundary, source_of, fixed_of, is_talking, is_talker_failed, is_pruned, inbounds_of, shares, is_kept_out, Outcome, about, outcome_column, StepName, step_a, step_b, step_c, step_d, step_e, step_f, step_g, step_i, step_j, step_k, step_l, step_m, step_n, Step, steps_from, steps, Source, nowhere, from}
use Rattle.model.specs.Table.{to_port, to_cell, registration_from, to_talker_type, port_from}
use Rattle.model.specs.Why.{letter, same_step, first_name, column_by}
use Rattle.model.proofs.SettingsOctets.{octet-field}
use Rattle.streams.specs.declared.Class as code
use Rattle.streams.specs.Answers.{named, class_shown, source_in}
use Rattle.streams.proofs.Sources.{no-talker, a-talker}
use Rattle.fanin.specs.declared.CommonFailure.{CommonFailure}
use Rattle.fanin.specs.declared.CommonFailure.TheVariants.{SharedAddress, FanIn}
use Rattle.fanin.specs.Failures.{failure_from, common_failure}
use Rattle.columns.proofs.Talkers.{a-class}
use Rattle.columns.specs.declared.Edges.{Edges}
use Rattle.columns.specs.declared.Step as declared
use Rattle.columns.specs.declared.Step.TheVariants as step
use Rattle.columns.specs.declared.Outcome as code_outcome
use Rattle.columns.specs.contracts.Step as contracts
use denote.Enum.Declared.{tag_of}
use Rattle.columns.specs.Answers.{size_place}
use Rattle.columns.specs.Steps.{step_shown, step_or, outcome_shown, steps_before, steps_since, edge_of, EdgesOf}
use Rattle.columns.specs.Places.{SceneOn, pruned_on}
use Rattle.columns.specs.Stages.{last_step}
use Rattle.model.specs.WrittenFrames.{fixed_from}

-- Whether a cell has a Talker, by its first octet.

pub not-talking : (s : List ℕ) → get_or s 0 0 ≡ 0 → is_talking (to_cell s) ≡ false
unfolding is_talking
not-talking s e = rw (no-talker s e)

pub talking : (s : List ℕ) → (get_or s 0 0 ≡ 0 → ⊥) → is_talking (to_cell s) ≡ true
unfolding is_talking
talking s n = rw (a-talker s n)

-- c: a Talker is Failed where its kind is not Advertise's
failed-asked : (k b c : ℕ) → is_talker_failed (to_talker_type k b c) ≡ not (eqb k 1)
unfolding to_talker_type is_talker_failed
failed-asked k b c = go (eqb k 1)
  where
    go : (e : Bool) → is_talker_failed (cond e talker_advertise (talker_failed b c)) ≡ not e
    go true = refl
    go false = refl

-- The steps, from each on, every test as the code asks it: of a scene, the cell here on the port at place p, the Talker's
-- cell said at place t.

module _ (sc : Scene) (here said : List ℕ) (p t : ℕ) (m : StepName) where
  abbrev pub class : Class
  class = class_of sc.settings (be_at 1 said in_cell.priority / 32)

  abbrev from-a : StepName
  from-a =
      cond (eqb p t) step_a
      (cond (not (supports (port_at sc.settings p) class)) step_b
      (cond (is_pruned sc.settings (own_at sc.owns p) (fixed_of (source_in t (to_cell said)))) step_n
      (cond (not (eqb (get_or said 0 0) 1)) step_c
      (cond (eqb (get_or said in_cell.changed 0) 1) step_d
      (cond (ltb (be_at 4 said in_cell.first_latency) (be_at 4 said in_cell.latency)) step_k
      (cond (is_talking (to_cell here)) step_e
      (cond (is_no_class class) step_f
      (cond (boundary (own_at sc.owns p) class) step_j m))))))))

  -- the first of them, of the stream with StreamID n, and m where none applies
  abbrev pub decided : ℕ → StepName
  decided n = first_name (steps_before step_l (steps_from sc p (to_cell here) n (source_in t (to_cell said)))) m

  -- a, no Talker port
  pub no_source : (n : ℕ) → get_or said 0 0 ≡ 0 → step_a ≡ decided n
  unfolding source_in steps_from steps_before first_name same_step letter
  no_source n e = rw (no-talker said e)

  steps-asked : (n : ℕ) → (get_or said 0 0 ≡ 0 → ⊥) → decided n ≡ from-a
  unfolding source_in fixed_of registration_from steps_from steps_before first_name same_step letter is_one fields fixed_from priority_of
  steps-asked n k = rw (a-talker said k, octet-field said 0, octet-field said in_cell.changed, failed-asked)

-- the flag of a class, in a scene
edge-is : (e : Edges) (o : Own) → EdgesOf e o → (c : Class) → boundary o c ≡ edge_of e c
unfolding edge_of boundary
edge-is e o w no_class = refl
edge-is e o w class_a = sym w.in_a
edge-is e o w class_b = sym w.in_b

-- The same of a bridge, with a port's flags: what they give is that in any scene of the bridge with these flags.

module _ (b : Bridge) (e : Edges) (here said : List ℕ) (p t : ℕ) where
  abbrev pub asked : Class
  asked = class_of b.settings (be_at 1 said in_cell.priority / 32)

  abbrev pub told : StepName → StepName
  told m =
      cond (eqb p t) step_a
      (cond (not (supports (port_at b.settings p) asked)) step_b
      (cond (pruned_on b p (source_in t (to_cell said))) step_n
      (cond (not (eqb (get_or said 0 0) 1)) step_c
      (cond (eqb (get_or said in_cell.changed 0) 1) step_d
      (cond (ltb (be_at 4 said in_cell.first_latency) (be_at 4 said in_cell.latency)) step_k
      (cond (is_talking (to_cell here)) step_e
      (cond (is_no_class asked) step_f
      (cond (edge_of e asked) step_j m))))))))

  pub steps-told : (sc : Scene) (n : ℕ) → SceneOn b p e sc → (m : StepName) → (get_or said 0 0 ≡ 0 → ⊥) → decided sc here said p t m n ≡ told m
  unfolding is_pruned
  steps-told sc n w m k =
      steps-asked sc here said p t m n k
      ∙ rw (w.settings, w.addresses, edge-is e (own_at sc.owns p) w.edges asked)

  -- what the code asks of the class, which it has read
  module _ (g : ℕ) (f : g ≡ be_at 1 said in_cell.priority) (c : Option code.Class) (h : class_shown c ≡ class_of b.settings (g / 32)) where
    pub class-told : class_shown c ≡ asked
    class-told = h ∙ rw f

    pub supports-told : (r : Bool) (port : List ℕ) → r ≡ supports (to_port port) (class_shown c) → to_port port ≡ port_at b.settings p
        → supports (port_at b.settings p) asked ≡ r
    supports-told r port q i = rw (← i, ← class-told, ← q)

    pub none-told : c ≡ None → is_no_class asked ≡ true
    unfolding is_no_class class_shown
    none-told q = rw (← class-told, q)

    pub some-told : (d : code.Class) → c ≡ Some d → is_no_class asked ≡ false
    unfolding class_shown
    some-told d q = rw (← class-told, q) (a-class d)

    pub edge-told : (d : code.Class) → c ≡ Some d → (r : Bool) → r ≡ edge_of e (named d) → edge_of e asked ≡ r
    unfolding class_shown
    edge-told d q r i = rw (← class-told, q, ← i)

-- The last step, of a stream without a failure on every port, from what is read of the port and of the Talker's cell.

module _ (q : Port) (port said : List ℕ) (there : to_port port ≡ q) (a b : ℕ) (e : a ≡ be_at 2 port in_port.largest) (f : b ≡ be_at 2 said size_place) where
  pub too_large : a < b → step_g ≡ last_step None q (be_at 2 said size_place)
  unfolding last_step to_port port_from fields
  too_large h = rw (← there, ← e, ← f, lt-ltb a b h)

  pub no_step : b ≤ a → step_i ≡ last_step None q (be_at 2 said size_place)
  unfolding last_step to_port port_from fields
  no_step h = rw (← there, ← e, ← f, le-ltb a b h)

-- A place that is no port has column none; a port has what the steps before one of them give, and those from it on where none of these
-- applies.

first-split : (m : StepName) (l : List Step) (n : StepName) → first_name l n ≡ first_name (steps_before m l) (first_name (steps_since m l) n)
unfolding first_name steps_before steps_since
first-split m [] n = refl
first-split m (s ∷ l) n = go (same_step s.name m) (first-split m l n)
  where
    go : (b : Bool) → first_name l n ≡ first_name (steps_before m l) (first_name (steps_since m l) n)
        → cond s.test s.name (first_name l n) ≡ first_name (cond b [] (s ∷ steps_before m l)) (first_name (cond b (s ∷ l) (steps_since m l)) n)
    go true ih = refl
    go false ih = ap (λ (d : StepName). cond s.test s.name d) ih

module _ (sc : Scene) (p : ℕ) (x : Stream) where
  pub no-port : length sc.settings.ports ≤ p → step_a ≡ first_name (steps sc p x) step_i
  unfolding steps first_name is_port
  no-port h = rw (le-ltb p (length sc.settings.ports) h)

  abbrev pub all : List Step
  all = steps_from sc p (cell_at x p) x.id (source_of x)

  last-from : (o : Source) (common : Option CommonFailure) → common ≡ failure_from sc x.id o
      → first_name (steps_since step_l (steps_from sc p (cell_at x p) x.id o)) step_i ≡ last_step common (port_at sc.settings p) (fixed_of o).size
  unfolding first_name steps_since steps_from same_step letter last_step failure_from fixed_of no_fixed
  last-from nowhere common e = rw (e, le-ltb (port_at sc.settings p).largest 0 (omega arith))
  last-from (from o) common e =
      rw e (go (shares sc.inbound record { id = x.id; origin = o }) (is_kept_out sc.settings.fan_in sc.inbound o))
    where
      go : (a b : Bool) → let size = o.registration.fixed.size in
          cond a step_l (cond b step_m (cond (ltb (port_at sc.settings p).largest size) step_g step_i))
          ≡ last_step (cond a (Some SharedAddress) (cond b (Some FanIn) None)) (port_at sc.settings p) size
      go true b = refl
      go false true = refl
      go false false = refl

  -- the step of a port, from what the two functions give
  a-port : p < length sc.settings.ports → first_name (steps sc p x) step_i ≡ first_name (steps_before step_l all) (first_name (steps_since step_l all) step_i)
  unfolding steps first_name is_port
  a-port h = rw (lt-ltb p (length sc.settings.ports) h) (first-split step_l all step_i)

  -- the first of all, where the code has found the first of those before l, if one of them applies
  pub named-by : p < length sc.settings.ports → (r : Option declared.Step)
      → ((m : StepName) → step_or r m ≡ first_name (steps_before step_l all) m)
      → (common : Option CommonFailure) → common ≡ common_failure sc x → (size : ℕ) → size ≡ (fixed_of (source_of x)).size
      → step_or r (last_step common (port_at sc.settings p) size) ≡ first_name (steps sc p x) step_i
  named-by h r e common g size q =
      e (last_step common (port_at sc.settings p) size)
      ∙ ap (first_name (steps_before step_l all)) (rw q (sym (last-from (source_of x) common g)))
      ∙ sym (a-port h)

-- the column of a step, by what the code finds that it gives
pub told-column : (st : Settings) (s : Source) (n : StepName) (r o : code_outcome.Outcome) → outcome_shown r ≡ (about n).outcome → r ≡ o
    → outcome_column st s (outcome_shown o) ≡ column_by st s n
unfolding column_by
told-column st s n r o e q = rw (← q) (ap (λ (v : Outcome). outcome_column st s v) e)

-- the letters of the code
pub letter_is : (r : declared.Step) → tag_of contracts.the_type r + 97 ≡ letter (step_shown r)
unfolding step_shown letter
letter_is step.A = refl
letter_is step.B = refl
letter_is step.C = refl
letter_is step.D = refl
letter_is step.E = refl
letter_is step.F = refl
letter_is step.G = refl
letter_is step.H = refl
letter_is step.I = refl
letter_is step.J = refl
letter_is step.K = refl
letter_is step.L = refl
letter_is step.M = refl
letter_is step.N = refl

-- another step than i
pub other_step : (r : declared.Step) → (r ≡ step.I → ⊥) → same_step (step_shown r) step_i ≡ false
unfolding step_shown same_step letter
other_step step.A n = refl
other_step step.B n = refl
other_step step.C n = refl
other_step step.D n = refl
other_step step.E n = refl
other_step step.F n = refl
other_step step.G n = refl
other_step step.H n = refl
other_step step.I n = absurd (n refl)
other_step step.J n = refl
other_step step.K n = refl
other_step step.L n = refl
other_step step.M n = refl
other_step step.N n = refl

-- nothing but i, neither no step nor another one, has the letter of i
pub none-but-i : (r : Option declared.Step) → (r ≡ Some step.I → ⊥) → letter (step_or r model.no_step) ≡ letter step_i → ⊥
none-but-i r n e = false≢true (sym (unlike r n) ∙ unfold same_step in (eq-eqb (letter (step_or r model.no_step)) (letter step_i) e))
  where
    unlike : (r : Option declared.Step) → (r ≡ Some step.I → ⊥) → same_step (step_or r model.no_step) step_i ≡ false
    unlike None n = unfold same_step letter in refl
    unlike (Some s) n = other_step s (λ e. n (ap (λ (q : declared.Step). Some q) e))

-- the own failure on every port is that in any scene of the bridge
pub same-failure : {b : Bridge} {p : ℕ} {e : Edges} {sc : Scene} (x : Stream) (common : Option CommonFailure) → SceneOn b p e sc → common ≡ common_failure (scene_of b) x → common ≡ common_failure sc x
same-failure {b} {p} {e} {sc} x common w f = f ∙ go (source_of x)
  where
    go : (o : Source) → failure_from (scene_of b) x.id o ≡ failure_from sc x.id o
    go nowhere = unfold failure_from in refl
    go (from o) = unfold failure_from in (rw (w.settings, w.inbound))

-- whatever the flags, there is a scene of the bridge with them, so that the step named is one for every input
abbrev flagged : Edges → Own → Own
flagged e o = record { domains = o.domains; boundary_a = e.a; boundary_b = e.b; addresses = o.addresses }

pub some-scene : (b : Bridge) (p : ℕ) (e : Edges) → p < length b.owns
    → SceneOn b p e record { settings = b.settings; owns = set b.owns p (flagged e (own_at b.owns p)); inbound = inbounds_of b.streams }
some-scene b p e h =
    let there = get_or-set_same b.owns p (flagged e (own_at b.owns p)) no_own h in
    record { settings = refl; inbound = refl; edges = rw there record { in_a = refl; in_b = refl }; addresses = rw there }
