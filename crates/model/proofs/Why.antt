-- Why a stream was refused (02, ix): the named step applies and no earlier one does, and each step's name gives its column. That an
-- advance to the held clock gives just that column is in HeldClock, and what is listed in Listed.
use mathlib.Core.Path.{◌≡◌, refl, sym, ◌∙◌, ap}
use mathlib.Core.Logic.{◌↔◌}
use mathlib.Core.List.{List, [], ◌∷◌, ◌++◌}
use mathlib.Core.Bool.{Bool, true, false, cond, not, ◌&&◌, false≢true, true≢false}
use Prim.Native.Nat.{ℕ, ◌-◌, ◌≤◌, ◌<◌}
use native.Mathlib.Omega.{arith}
use lib.Dec.{leb}
use borrow.Author.Tests.{leb-true, leb-false}
use Rattle.model.specs.Lists.{All}
use Rattle.model.specs.State.{Settings, Cell, Column, advertise, failed, Stream, cell_at}
use Rattle.model.specs.Settling.{Scene, Source, nowhere, from, source_of, stream_class, StepName, step_h, step_i, Step, first, clear, outcome_column, steps_from, steps, claim, limit_on, left_for, by_bandwidth, column_of, Outcome, column_none, as_registered, as_advertise, own_failure, about, outcome_of, bandwidth_steps}
use Rattle.model.specs.Table.{column_code}
use Rattle.model.proofs.Lists.{all_map}
use Rattle.model.proofs.StepNames.{every_step, every-all, is_registered}
use Rattle.model.specs.Why.{letter, same_step, code, column_by, first_name, last_name, step_on, listed, plainly, reason_on, own_code}

-- A step's name gives the column.
module _ (st : Settings) (s : Source) where
  first-named : (l : List Step) (n : StepName) (c : Column) → c ≡ column_by st s n → first (outcome_column st s) l c ≡ column_by st s (first_name l n)
  unfolding first first_name
  first-named [] n c e = e
  first-named (t ∷ l) n c e = go t.test (first-named l n c e)
    where
      go : (b : Bool) → first (outcome_column st s) l c ≡ column_by st s (first_name l n)
          → cond b (outcome_column st s (outcome_of t)) (first (outcome_column st s) l c) ≡ column_by st s (cond b t.name (first_name l n))
      go true ih = unfold column_by in refl
      go false ih = ih

-- and the code that it stands for is that of its column, but where that is the registered one
pub code-named : (st : Settings) (s : Source) (n : StepName) → is_registered (about n).outcome ≡ false → column_code (column_by st s n) ≡ code n
unfolding column_by code
code-named st s n = go (about n).outcome
  where
    go : (o : Outcome) → is_registered o ≡ false → column_code (outcome_column st s o) ≡ own_code o
    go o = unfold is_registered outcome_column column_code own_code in
        elim o as (λ k. is_registered k ≡ false → column_code (outcome_column st s k) ≡ own_code k) [ column_none ↦ λ h. refl | as_registered ↦ λ h. absurd (true≢false h) | as_advertise ↦ λ h. refl | own_failure c ↦ λ h. refl ]

module _ (sc : Scene) (p : ℕ) (x : Stream) where
  -- whatever follows the steps
  pub steps-named : (n : StepName) (c : Column) → c ≡ column_by sc.settings (source_of x) n
      → first (outcome_column sc.settings (source_of x)) (steps sc p x) c ≡ column_by sc.settings (source_of x) (first_name (steps sc p x) n)
  steps-named = first-named sc.settings (source_of x) (steps sc p x)

  -- h and i too, whatever the Talker
  last-named : (d left : ℕ) → by_bandwidth sc.settings d left ≡ column_by sc.settings (source_of x) (last_name d left)
  unfolding by_bandwidth last_name bandwidth_steps first first_name column_by outcome_column
  last-named d left = go (leb d left)
    where
      go : (b : Bool) → cond (not b) (failed sc.settings.bridge_id 1) advertise
          ≡ outcome_column sc.settings (source_of x) (about (cond (not b) step_h step_i)).outcome
      go true = refl
      go false = refl

  pub column-named : (now : ℕ) (s : List Stream) → column_of sc now s p x ≡ column_by sc.settings (source_of x) (step_on sc now s p x)
  unfolding column_of step_on
  column-named now s = steps-named _ _ (last-named _ _)

-- The steps before h have other names than h and i, so that i stands for none of them.

abbrev pub Before : Step → Type 0
Before t = (same_step t.name step_h ≡ false) × (same_step t.name step_i ≡ false)

others : StepName → Bool
others n = not (same_step n step_h) && not (same_step n step_i)

before-each : (l : List Step) → every_step others l ≡ true → All Before l
unfolding others
before-each l h = all_map (λ t. others t.name ≡ true) Before (λ t. both (same_step t.name step_h) (same_step t.name step_i)) l (every-all others l h)
  where
    both : (a b : Bool) → (not a && not b) ≡ true → (a ≡ false) × (b ≡ false)
    both true b e = absurd (false≢true e)
    both false true e = absurd (false≢true e)
    both false false e = (refl, refl)

pub before-from : (sc : Scene) (p : ℕ) (here : Cell) (n : ℕ) (o : Source) → All Before (steps_from sc p here n o)
unfolding steps_from every_step others same_step letter
before-from sc p here n o = before-each (steps_from sc p here n o) (elim o as (λ k. every_step others (steps_from sc p here n k) ≡ true) [ nowhere ↦ refl | from q ↦ refl ])

before-all : (sc : Scene) (p : ℕ) (x : Stream) → All Before (steps sc p x)
unfolding steps same_step letter
before-all sc p x = ((refl, refl), before-from sc p (cell_at x p) x.id (source_of x))

-- some step of a list applies, or none does
module _ (n : StepName) where
  pub name-stays : (l : List Step) → same_step (first_name l step_i) step_i ≡ false → first_name l n ≡ first_name l step_i
  unfolding first_name same_step letter
  name-stays [] h = absurd (true≢false h)
  name-stays (t ∷ l) h = go t.test h (name-stays l)
    where
      go : (b : Bool) → same_step (cond b t.name (first_name l step_i)) step_i ≡ false → (same_step (first_name l step_i) step_i ≡ false → first_name l n ≡ first_name l step_i)
          → cond b t.name (first_name l n) ≡ cond b t.name (first_name l step_i)
      go true h ih = refl
      go false h ih = ih h

  pub name-clear : (l : List Step) → clear l ≡ true → first_name l n ≡ n
  unfolding first_name clear
  name-clear [] h = refl
  name-clear (t ∷ l) h = go t.test h (name-clear l)
    where
      go : (b : Bool) → (not b && clear l) ≡ true → (clear l ≡ true → first_name l n ≡ n) → cond b t.name (first_name l n) ≡ n
      go true h ih = absurd (false≢true h)
      go false h ih = ih h

pub clear-named : (l : List Step) → All Before l → clear l ≡ same_step (first_name l step_i) step_i
unfolding first_name clear
clear-named [] a = unfold same_step letter in refl
clear-named (t ∷ l) a = go t.test (clear-named l a.1)
  where
    go : (b : Bool) → clear l ≡ same_step (first_name l step_i) step_i → (not b && clear l) ≡ same_step (cond b t.name (first_name l step_i)) step_i
    go true ih = sym a.0.1
    go false ih = ih

-- i is given where no step before h applies
pub steps-clear : (sc : Scene) (p : ℕ) (x : Stream) → clear (steps sc p x) ≡ same_step (first_name (steps sc p x) step_i) step_i
steps-clear sc p x = clear-named (steps sc p x) (before-all sc p x)

-- steps none of which is named m, with n behind them
pub not_named : (m : StepName) (l : List Step) → All (λ t. same_step t.name m ≡ false) l → (n : StepName) → same_step n m ≡ false → same_step (first_name l n) m ≡ false
unfolding first_name
not_named m [] a n h = h
not_named m (t ∷ l) a n h = go t.test (not_named m l a.1 n h)
  where
    go : (b : Bool) → same_step (first_name l n) m ≡ false → same_step (cond b t.name (first_name l n)) m ≡ false
    go true ih = a.0
    go false ih = ih

-- as those before h
pub steps-not-h : (sc : Scene) (p : ℕ) (x : Stream) (n : StepName) → same_step n step_h ≡ false → same_step (first_name (steps sc p x) n) step_h ≡ false
steps-not-h sc p x = not_named step_h (steps sc p x) (all_map Before (λ t. same_step t.name step_h ≡ false) (λ t b. b.0) (steps sc p x) (before-all sc p x))

-- The named step applies, and no earlier one does.
pub record Deciding (l : List Step) (n : StepName) : Type 0 where
  pub earlier : List Step
  pub step : Step
  pub later : List Step
  pub all : l ≡ earlier ++ (step ∷ later)
  pub none : clear earlier ≡ true
  pub applies : step.test ≡ true
  pub named : step.name ≡ n

deciding : (l : List Step) (n : StepName) → clear l ≡ false → Deciding l (first_name l n)
unfolding clear first_name
deciding [] n h = absurd (true≢false h)
deciding (t ∷ l) n h = go t.test refl h (deciding l n)
  where
    go : (b : Bool) → t.test ≡ b → (not b && clear l) ≡ false → (clear l ≡ false → Deciding l (first_name l n)) → Deciding (t ∷ l) (cond b t.name (first_name l n))
    go true e h ih = record { earlier = []; step = t; later = l; all = refl; none = refl; applies = e; named = refl }
    go false e h ih =
        let w = ih h in
        record { earlier = t ∷ w.earlier; step = w.step; later = w.later; all = ap (λ (m : List Step). t ∷ m) w.all; none = rw e w.none; applies = w.applies; named = w.named }

module _ (sc : Scene) (now : ℕ) (s : List Stream) (p : ℕ) (x : Stream) where
  abbrev decides : StepName
  decides = step_on sc now s p x

  abbrev demanded : ℕ
  demanded = (claim sc.settings now p x).demand

  abbrev left : ℕ
  left = left_for sc now s p x

  -- The three ways in which a step decides: h, i, or one before them.
  data Way : Type 0 where
    lacking : clear (steps sc p x) ≡ true → left < demanded → decides ≡ step_h → Way
    fitting : clear (steps sc p x) ≡ true → demanded ≤ left → decides ≡ step_i → Way
    earlier : clear (steps sc p x) ≡ false → same_step decides step_h ≡ false → same_step decides step_i ≡ false → Way

  way : Way
  unfolding step_on
  way = go (clear (steps sc p x)) refl (leb demanded left) refl
    where
      named : (b : Bool) → leb demanded left ≡ b → last_name demanded left ≡ cond b step_i step_h
      named true e = unfold last_name bandwidth_steps first_name in (rw e)
      named false e = unfold last_name bandwidth_steps first_name in (rw e)

      go : (a : Bool) → clear (steps sc p x) ≡ a → (b : Bool) → leb demanded left ≡ b → Way
      go true c false e = lacking c (leb-false demanded left e) (name-clear _ (steps sc p x) c ∙ named false e)
      go true c true e = fitting c (leb-true demanded left e) (name-clear _ (steps sc p x) c ∙ named true e)
      go false c b e =
          let other : same_step (first_name (steps sc p x) step_i) step_i ≡ false = sym (steps-clear sc p x) ∙ c in
          let same = name-stays (last_name demanded left) (steps sc p x) other in
          earlier c (rw same (steps-not-h sc p x step_i (unfold same_step letter in refl))) (rw same other)

  -- A step decides: h where no step before it applies and the demand is above what is left, i where none applies and it is not; any
  -- other is the first that applies.
  pub record Decided (n : StepName) : Type 0 where
    pub refused : (n ≡ step_h) ↔ ((clear (steps sc p x) ≡ true) × (left < demanded))
    pub admitted : (n ≡ step_i) ↔ ((clear (steps sc p x) ≡ true) × (demanded ≤ left))
    pub before : (n ≡ step_h → ⊥) → (n ≡ step_i → ⊥) → Deciding (steps sc p x) n

  apart : step_h ≡ step_i → ⊥
  unfolding letter
  apart e = let n : letter step_h ≡ letter step_i = ap letter e in absurd (omega arith)

  pub step-decides : Decided decides
  unfolding step_on same_step letter
  step-decides = go way
    where
      go : Way → Decided decides
      go (lacking c h e) = record {
        refused = (λ q. (c, h), λ a. e);
        admitted = (λ q. absurd (apart (sym e ∙ q)), λ a. absurd (omega (arith, a.1)));
        before = λ n. absurd (n e);
      }
      go (fitting c h e) = record {
        refused = (λ q. absurd (apart (sym q ∙ e)), λ a. absurd (omega (arith, a.1)));
        admitted = (λ q. (c, h), λ a. e);
        before = λ n m. absurd (m e);
      }
      go (earlier c h i) = record {
        refused = (λ q. absurd (true≢false (rw q at h)), λ a. absurd (true≢false (sym a.0 ∙ c)));
        admitted = (λ q. absurd (true≢false (rw q at i)), λ a. absurd (true≢false (sym a.0 ∙ c)));
        before = λ n m. deciding (steps sc p x) (last_name demanded left) c;
      }

  -- What is told: for step h the list, the limit in force and the shortfall, and for any other nothing more.
  pub told-h : decides ≡ step_h
      → reason_on sc now s p x ≡ record { step = step_h; streams = listed sc now s p x; limit = limit_on sc now s p (stream_class sc.settings x); shortfall = demanded - left }
  unfolding reason_on same_step letter
  told-h e = rw e

  pub told-other : (decides ≡ step_h → ⊥) → reason_on sc now s p x ≡ plainly decides
  unfolding reason_on same_step letter
  told-other n = go way
    where
      go : Way → reason_on sc now s p x ≡ plainly decides
      go (lacking c h e) = absurd (n e)
      go (fitting c h e) = rw e
      go (earlier c h i) = rw h

  -- the step that is told is the deciding one
  pub step-told : (reason_on sc now s p x).step ≡ decides
  unfolding plainly
  step-told = go way
    where
      go : Way → (reason_on sc now s p x).step ≡ decides
      go (lacking c h e) = rw (told-h e) (sym e)
      go (fitting c h e) = rw (told-other (λ q. apart (sym q ∙ e)))
      go (earlier c h i) = rw (told-other (λ q. true≢false (unfold same_step letter in (rw q at h))))
