-- What is kept, in order, of the elements of a list that pass a test.
use Prim.Native.Nat.{ℕ, zero, suc, ◌+◌, ◌<◌}
use mathlib.Core.Path.{◌≡◌, refl}
use mathlib.Core.List.{List, [], ◌∷◌, Memᴰ}
use mathlib.Core.Bool.{Bool, true, false}
use native.Mathlib.Omega.{arith}
use native.Mathlib.Nat.{add-zero}
use lib.ListN.{get_or, length}
use Rattle.model.specs.Lists.{All, keep}

-- the values of f at the place and the element, for those elements that pass; the first stands at place k
module _ {A B : Type 0} (test : A → Bool) (f : ℕ → A → B) where
  unfoldable pub kept : ℕ → List A → List B
  kept k [] = []
  kept k (x ∷ l) = keep (test x) (f k x) (kept (k + 1) l)

  module _ (d : A) where
    pub all-kept : (P : B → Type 0) (k : ℕ) (l : List A) →
        ((i : ℕ) → i < length l → test (get_or l i d) ≡ true → P (f (k + i) (get_or l i d))) → All P (kept k l)
    unfolding kept
    all-kept P k [] h = tt
    all-kept P k (x ∷ l) h = go (test x) refl (all-kept P (k + 1) l rest)
      where
        rest : (i : ℕ) → i < length l → test (get_or l i d) ≡ true → P (f (k + 1 + i) (get_or l i d))
        rest i b t =
            let e : k + suc i ≡ k + 1 + i = omega arith in
            rw e at (h (suc i) (omega arith) t)

        go : (t : Bool) → test x ≡ t → All P (kept (k + 1) l) → All P (keep t (f k x) (kept (k + 1) l))
        go true e ih = (rw (add-zero k) at (h 0 (omega arith) e), ih)
        go false e ih = ih

    pub mem-kept : (k : ℕ) (l : List A) (i : ℕ) → i < length l → test (get_or l i d) ≡ true → Memᴰ (f (k + i) (get_or l i d)) (kept k l)
    unfolding kept
    mem-kept k [] i b t = absurd (omega arith)
    mem-kept k (x ∷ l) zero b t = rw (t, add-zero k) (Memᴰ.head refl)
    mem-kept k (x ∷ l) (suc i) b t =
        let e : k + suc i ≡ k + 1 + i = omega arith in
        rw e (go (test x) (mem-kept (k + 1) l i (omega arith) t))
      where
        go : (u : Bool) → Memᴰ (f (k + 1 + i) (get_or l i d)) (kept (k + 1) l)
            → Memᴰ (f (k + 1 + i) (get_or l i d)) (keep u (f k x) (kept (k + 1) l))
        go true ih = Memᴰ.tail ih
        go false ih = ih
