-- A list changed at a place: by a change that does nothing, by changes that do the same, and twice.
use Prim.Native.Nat.{ℕ, zero, suc}
use mathlib.Core.Path.{◌≡◌, refl, ap}
use mathlib.Core.List.{List, [], ◌∷◌}
use Rattle.model.specs.Lists.{All}
use Rattle.model.specs.Registrations.{at}

module _ {A : Type 0} where
  pub at_none : (p : ℕ) (u : A → A) → ((x : A) → u x ≡ x) → (l : List A) → at p u l ≡ l
  unfolding at
  at_none p u k [] = refl
  at_none zero u k (x ∷ l) = ap (λ (y : A). y ∷ l) (k x)
  at_none (suc p) u k (x ∷ l) = ap (λ (m : List A). x ∷ m) (at_none p u k l)

  pub at-alike : (P : A → Type 0) (p : ℕ) (u v : A → A) → ((x : A) → P x → u x ≡ v x) → (l : List A) → All P l → at p u l ≡ at p v l
  unfolding at
  at-alike P p u v k [] a = refl
  at-alike P zero u v k (x ∷ l) a = ap (λ (y : A). y ∷ l) (k x a.0)
  at-alike P (suc p) u v k (x ∷ l) a = ap (λ (m : List A). x ∷ m) (at-alike P p u v k l a.1)

  pub at_again : (p : ℕ) (u v : A → A) (l : List A) → at p u (at p v l) ≡ at p (λ x. u (v x)) l
  unfolding at
  at_again p u v [] = refl
  at_again zero u v (x ∷ l) = refl
  at_again (suc p) u v (x ∷ l) = ap (λ (m : List A). x ∷ m) (at_again p u v l)
