-- A loop that takes tests together: what it has so far, and what is left to test, give the answer.
use mathlib.Core.Path.{◌≡◌, sym, ◌∙◌}
use mathlib.Core.Bool.{Bool, true, ◌&&◌, and_assoc, and-true}
use Prim.Native.Nat.{ℕ, ◌+◌, ◌≤◌, ◌<◌}
use native.Mathlib.Omega.{arith}

-- what is left from a place on, up to place k
module _ (rest : ℕ → Bool) (k : ℕ) (answer : Bool) where
  abbrev pub Left : Bool → ℕ → Type 0
  Left ok p = (p ≤ k) × ((ok && rest p) ≡ answer)

  module _ (ok : Bool) (p : ℕ) where
    pub left-more : (t : Bool) → p < k → rest p ≡ (t && rest (p + 1)) → Left ok p → Left (ok && t) (p + 1)
    left-more t h e l = (omega arith, rw (and_assoc ok t (rest (p + 1)), ← e) l.1)

    pub left-none : rest p ≡ true → Left ok p → ok ≡ answer
    left-none e l = sym (and-true ok) ∙ (rw e at l.1)
