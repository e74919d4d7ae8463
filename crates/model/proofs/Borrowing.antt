-- Class B may borrow (02, i): where no stream is of class A, B has the sum of the limits; and streams of B change nothing of class A.
use mathlib.Core.Path.{◌≡◌, refl, sym, ◌∙◌, ap}
use mathlib.Core.List.{List, [], ◌∷◌, ◌++◌}
use mathlib.Core.Bool.{false}
use Prim.Native.Nat.{ℕ}
use native.Mathlib.Nat.{sub-zero}
use Rattle.model.specs.Lists.{All}
use Rattle.model.specs.State.{Stream, Class, class_a, class_b, same_class, both_limits, in_force, port_at}
use Rattle.model.specs.Bandwidth.{Claim, sort, reserved, total}
use Rattle.model.specs.Settling.{Scene, stream_class, clear, steps, claims, reserved_a, limit_on, left_for, column_of, total_on}
use Rattle.model.proofs.Lists.{and-false}
use Rattle.model.proofs.ColumnRule.{claims-append}

module _ (sc : Scene) (now p : ℕ) where
  -- a stream of another class claims nothing of a class
  pub unclaimed : (c : Class) (x : Stream) (s : List Stream) → same_class (stream_class sc.settings x) c ≡ false → claims sc now p c (x ∷ s) ≡ claims sc now p c s
  unfolding claims
  unclaimed c x s e = rw (e, and-false (clear (steps sc p x)))

  no-claims : (c : Class) (s : List Stream) → All (λ x. same_class (stream_class sc.settings x) c ≡ false) s → claims sc now p c s ≡ []
  no-claims c [] a = unfold claims in refl
  no-claims c (x ∷ s) a = unclaimed c x s a.0 ∙ no-claims c s a.1

  -- Where no stream is of class A, class B has the whole sum.
  pub whole_sum : (s : List Stream) → All (λ x. same_class (stream_class sc.settings x) class_a ≡ false) s →
      limit_on sc now s p class_b ≡ both_limits (port_at sc.settings p)
  unfolding limit_on in_force reserved_a total sort reserved
  whole_sum s a = rw (no-claims class_a s a, sub-zero)

  -- A stream of class B changes no claim of class A,
  module _ (s t : List Stream) (x : Stream) (e : stream_class sc.settings x ≡ class_b) where
    same-claims : claims sc now p class_a (s ++ x ∷ t) ≡ claims sc now p class_a (s ++ t)
    same-claims =
        claims-append sc now p class_a s (x ∷ t)
        ∙ ap (λ (l : List Claim). claims sc now p class_a s ++ l) (unclaimed class_a x t (unfold same_class in rw e))
        ∙ sym (claims-append sc now p class_a s t)

    -- and so neither A's total
    pub a-total-stays : total_on sc now (s ++ x ∷ t) p class_a ≡ total_on sc now (s ++ t) p class_a
    unfolding total_on limit_on in_force
    a-total-stays = rw same-claims

    -- nor the column of any stream of A.
    pub a-column-stays : (y : Stream) → stream_class sc.settings y ≡ class_a → column_of sc now (s ++ x ∷ t) p y ≡ column_of sc now (s ++ t) p y
    unfolding column_of left_for limit_on in_force
    a-column-stays y f = rw (f, same-claims)
