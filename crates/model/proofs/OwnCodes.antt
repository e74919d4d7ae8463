-- Own failures: a step that gives an own code decides a column exactly where it applies and none before it does.
use mathlib.Core.Path.{◌≡◌, refl, sym, ap, ◌∙◌}
use mathlib.Core.List.{List, [], ◌∷◌}
use mathlib.Core.Bool.{Bool, true, false, cond, not, ◌&&◌, true≢false, false≢true}
use Prim.Native.Nat.{ℕ, ◌≤◌}
use native.Mathlib.Omega.{arith}
use lib.Dec.{eqb, leb}
use borrow.Author.Tests.{eqb-true, eq-eqb}
use Rattle.model.specs.State.{Settings, TalkerType, talker_advertise, talker_failed, Column, advertise, failed, Cell, Stream, is_port}
use Rattle.model.specs.Settling.{Source, nowhere, source_of, talker_type_of, Scene, Outcome, column_none, as_registered, own_failure, step_a, Step, first, clear, is_talker_failed, failed_column, outcome_column, steps_from, steps, claim, left_for, by_bandwidth, column_of, as_advertise, outcome_of, bandwidth_steps}
use Rattle.model.specs.Table.{column_code}

-- whether an outcome is the own failure of code n
unfoldable pub gives : ℕ → Outcome → Bool
gives n column_none = false
gives n as_registered = false
gives n as_advertise = false
gives n (own_failure code) = eqb code n

-- the steps before the one that gives it, and what that one tests
unfoldable pub earlier : ℕ → List Step → List Step
earlier n [] = []
earlier n (s ∷ l) = cond (gives n (outcome_of s)) [] (s ∷ earlier n l)

unfoldable pub asked : ℕ → List Step → Bool
asked n [] = false
asked n (s ∷ l) = cond (gives n (outcome_of s)) s.test (asked n l)

-- no step gives it; not more than one does
unfoldable pub never : ℕ → List Step → Bool
never n [] = true
never n (s ∷ l) = not (gives n (outcome_of s)) && never n l

unfoldable pub once : ℕ → List Step → Bool
once n [] = true
once n (s ∷ l) = cond (gives n (outcome_of s)) (never n l) (once n l)

-- Of any steps, with c behind them.
module _ (says : Outcome → Column) (n : ℕ) (c : Column) where
  gives-is : (o : Outcome) → gives n o ≡ true → o ≡ own_failure n
  unfolding gives
  gives-is column_none e = absurd (false≢true e)
  gives-is as_registered e = absurd (false≢true e)
  gives-is as_advertise e = absurd (false≢true e)
  gives-is (own_failure code) e = ap own_failure (eqb-true code n e)

  decides : (l : List Step) → clear (earlier n l) ≡ true → asked n l ≡ true → first says l c ≡ says (own_failure n)
  unfolding first clear earlier asked
  decides [] free a = absurd (false≢true a)
  decides (s ∷ l) free a = go (gives n (outcome_of s)) s.test refl free a (decides l)
    where
      go : (g t : Bool) → gives n (outcome_of s) ≡ g → clear (cond g [] (record { name = s.name; test = t } ∷ earlier n l)) ≡ true
          → cond g t (asked n l) ≡ true → (clear (earlier n l) ≡ true → asked n l ≡ true → first says l c ≡ says (own_failure n))
          → cond t (says (outcome_of s)) (first says l c) ≡ says (own_failure n)
      go true true e f a ih = ap says (gives-is (outcome_of s) e)
      go true false e f a ih = absurd (false≢true a)
      go false true e f a ih = absurd (false≢true f)
      go false false e f a ih = ih f a

  -- the other way, where no other outcome has the code, and c has not
  module _ (coded : (o : Outcome) → column_code (says o) ≡ n → gives n o ≡ true) (other : column_code c ≡ n → ⊥) where
    silent : (l : List Step) → never n l ≡ true → column_code (first says l c) ≡ n → ⊥
    unfolding first never
    silent [] h e = other e
    silent (s ∷ l) h e = go (gives n (outcome_of s)) s.test refl h e (silent l)
      where
        go : (g t : Bool) → gives n (outcome_of s) ≡ g → (not g && never n l) ≡ true → column_code (cond t (says (outcome_of s)) (first says l c)) ≡ n
            → (never n l ≡ true → column_code (first says l c) ≡ n → ⊥) → ⊥
        go true t f h e ih = false≢true h
        go false true f h e ih = true≢false (sym (coded (outcome_of s) e) ∙ f)
        go false false f h e ih = ih h e

    only : (l : List Step) → once n l ≡ true → column_code (first says l c) ≡ n → (clear (earlier n l) ≡ true) × (asked n l ≡ true)
    unfolding first clear earlier asked once
    only [] h e = absurd (other e)
    only (s ∷ l) h e = go (gives n (outcome_of s)) s.test refl h e (only l)
      where
        go : (g t : Bool) → gives n (outcome_of s) ≡ g → cond g (never n l) (once n l) ≡ true
            → column_code (cond t (says (outcome_of s)) (first says l c)) ≡ n
            → (once n l ≡ true → column_code (first says l c) ≡ n → (clear (earlier n l) ≡ true) × (asked n l ≡ true))
            → (clear (cond g [] (record { name = s.name; test = t } ∷ earlier n l)) ≡ true) × (cond g t (asked n l) ≡ true)
        go true true f h e ih = (refl, refl)
        go true false f h e ih = absurd (silent l h e)
        go false true f h e ih = absurd (true≢false (sym (coded (outcome_of s) e) ∙ f))
        go false false f h e ih = ih h e

-- the step of a code does not apply where none of the steps does.
pub not-asked : (n : ℕ) (l : List Step) → clear l ≡ true → asked n l ≡ false
unfolding clear asked
not-asked n [] h = refl
not-asked n (s ∷ l) h = go (gives n (outcome_of s)) s.test h (not-asked n l)
  where
    go : (g t : Bool) → (not t && clear l) ≡ true → (clear l ≡ true → asked n l ≡ false) → cond g t (asked n l) ≡ false
    go g true h ih = absurd (false≢true h)
    go true false h ih = refl
    go false false h ih = ih h

-- Of a stream on a port. A code above 1: 0 is none, and 1 is that of bandwidth.

-- the steps by the cell here, the StreamID, and the Talker's place, if there is one
abbrev pub steps_of : Scene → ℕ → Cell → ℕ → Source → List Step
steps_of sc p here n o = record { name = step_a; test = not (is_port sc.settings p) } ∷ steps_from sc p here n o

-- without a Talker one of them applies before any own failure
pub no-talker : (sc : Scene) (p : ℕ) (here : Cell) (n code : ℕ) → clear (earlier code (steps_of sc p here n nowhere)) ≡ true → ⊥
unfolding steps_from clear earlier gives
no-talker sc p here n code free = go (is_port sc.settings p) free
  where
    go : (t : Bool) → (not (not t) && false) ≡ true → ⊥
    go true e = false≢true e
    go false e = false≢true e

advertise-code : (st : Settings) (o : Source) (n : ℕ) → 2 ≤ n → is_talker_failed (talker_type_of o) ≡ false
    → (w : Outcome) → column_code (outcome_column st o w) ≡ n → gives n w ≡ true
unfolding outcome_column column_code gives
advertise-code st o n h whole column_none e = absurd (omega arith)
advertise-code st o n h whole as_advertise e = absurd (omega arith)
advertise-code st o n h whole as_registered e = absurd (go (talker_type_of o) whole e)
  where
    go : (b : TalkerType) → is_talker_failed b ≡ false → column_code (failed_column b) ≡ n → ⊥
    go talker_advertise f e = unfold failed_column column_code in omega arith
    go (talker_failed b code) f e = true≢false (unfold is_talker_failed in f)
advertise-code st o n h whole (own_failure code) e = eq-eqb code n e

bandwidth-code : (st : Settings) (n d left : ℕ) → 2 ≤ n → column_code (by_bandwidth st d left) ≡ n → ⊥
unfolding by_bandwidth bandwidth_steps first outcome_column
bandwidth-code st n d left h = go (not (leb d left))
  where
    go : (t : Bool) → column_code (cond t (failed st.bridge_id 1) advertise) ≡ n → ⊥
    go true e = unfold column_code in omega arith
    go false e = unfold column_code in omega arith

module _ (sc : Scene) (now : ℕ) (s : List Stream) (p : ℕ) (x : Stream) (n : ℕ) where
  pub own-decided : clear (earlier n (steps sc p x)) ≡ true → asked n (steps sc p x) ≡ true → column_of sc now s p x ≡ failed sc.settings.bridge_id n
  unfolding column_of outcome_column
  own-decided = decides (outcome_column sc.settings (source_of x)) n _ (steps sc p x)

  -- and the code of a stream that is not registered as Failed says so
  pub own-only : 2 ≤ n → once n (steps sc p x) ≡ true → is_talker_failed (talker_type_of (source_of x)) ≡ false → column_code (column_of sc now s p x) ≡ n
      → (clear (earlier n (steps sc p x)) ≡ true) × (asked n (steps sc p x) ≡ true)
  unfolding column_of
  own-only h one whole =
      only (outcome_column sc.settings (source_of x)) n _ (advertise-code sc.settings (source_of x) n h whole)
      (bandwidth-code sc.settings n (claim sc.settings now p x).demand (left_for sc now s p x) h) (steps sc p x) one
