-- The order of the steps, computed (01, "Settling": a to i; 02: n "tested after step b", k "tested after 16 and before 4", j "tested after 13
-- and before 14", l and m "after 13 (after 8 where present)"). What is proved of each step stands under any order; this is the one.
use mathlib.Core.Path.{◌≡◌, refl, sym, ◌∙◌}
use mathlib.Core.List.{List, [], ◌∷◌, map}
use mathlib.Core.Bool.{Bool, true, false, cond}
use Prim.Native.Nat.{ℕ}
use lib.Dec.{ltb, leb}
use borrow.Author.Tests.{lt-ltb, le-ltb, leb-true, leb-false}
use Rattle.model.specs.State.{Cell, Stream, cell_at, class_of, is_no_class}
use Rattle.model.specs.Settling.{Scene, Origin, Source, nowhere, from, source_of, fixed_of, stream_class, step_a, step_b, step_c, step_d, step_e, step_f, step_g, step_h, step_i, step_j, step_k, step_l, step_m, step_n, Step, clear, steps_from, steps, claim, left_for, bandwidth_steps}
use Rattle.model.specs.Why.{first_name, last_name, step_on}
use Rattle.model.proofs.Why.{name-clear}
use Rattle.model.proofs.OwnCodes.{gives, earlier, asked, not-asked, steps_of, no-talker}

-- Of a stream with a Talker; the first a is that of a place that is no port
pub steps-in-order : (sc : Scene) (p : ℕ) (x : Stream) (o : Origin) → source_of x ≡ from o →
    map (λ (s : Step). s.name) (steps sc p x)
    ≡ step_a ∷ step_a ∷ step_b ∷ step_n ∷ step_c ∷ step_d ∷ step_k ∷ step_e ∷ step_f ∷ step_j ∷ step_l ∷ step_m ∷ step_g ∷ []
unfolding steps steps_from
steps-in-order sc p x o e = rw e

-- Where none of them applies, h decides if the demand is above what is left, and else i.
pub then-h-i : (sc : Scene) (now : ℕ) (s : List Stream) (p : ℕ) (x : Stream) → clear (steps sc p x) ≡ true →
    step_on sc now s p x ≡ cond (ltb (left_for sc now s p x) (claim sc.settings now p x).demand) step_h step_i
unfolding step_on
then-h-i sc now s p x free = name-clear _ (steps sc p x) free ∙ go (leb demanded left) refl
  where
    demanded : ℕ
    demanded = (claim sc.settings now p x).demand

    left : ℕ
    left = left_for sc now s p x

    go : (b : Bool) → leb demanded left ≡ b → last_name demanded left ≡ cond (ltb left demanded) step_h step_i
    go true e = unfold last_name bandwidth_steps first_name in (rw (e, le-ltb left demanded (leb-true demanded left e)))
    go false e = unfold last_name bandwidth_steps first_name in (rw (e, lt-ltb left demanded (leb-false demanded left e)))

-- 13 comes before 8: a stream that no step before 8's decides is of a class.
module _ (sc : Scene) (p : ℕ) where
  thirteen-first : (here : Cell) (n : ℕ) (o : Source) → clear (earlier 8 (steps_of sc p here n o)) ≡ true
      → asked 13 (earlier 8 (steps_of sc p here n o)) ≡ is_no_class (class_of sc.settings (fixed_of o).priority)
  unfolding steps_from clear earlier asked gives fixed_of
  thirteen-first here n nowhere free = absurd (no-talker sc p here n 8 free)
  thirteen-first here n (from o) free = refl

  pub classed-before-eight : (x : Stream) → clear (earlier 8 (steps sc p x)) ≡ true → is_no_class (stream_class sc.settings x) ≡ false
  unfolding steps stream_class
  classed-before-eight x free =
      sym (thirteen-first (cell_at x p) x.id (source_of x) free) ∙ not-asked 13 (earlier 8 (steps_of sc p (cell_at x p) x.id (source_of x))) free
