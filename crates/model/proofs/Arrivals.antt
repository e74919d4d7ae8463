-- Arrivals at several ports: two orders of the same arrivals that keep each port's own order lead to one state, wherever the
-- steps of two different ports commute.
use mathlib.Core.Path.{◌≡◌, refl, sym, ◌∙◌, ap, ap₂}
use mathlib.Core.List.{List, [], ◌∷◌, nil≢cons, head-eq_of_cons-eq, tail-eq_of_cons-eq}
use Prim.Native.Nat.{ℕ}
use native.Mathlib.Decide.{ℕ_discrete}
use lib.Dec.{eqb}
use Rattle.model.specs.Lists.{keep, on}
use Rattle.model.proofs.Lists.{on_same, on-other}

-- steps taken one after another
module _ {S X : Type 0} (step : ℕ → X → S → S) where
  unfoldable pub run : List (ℕ × X) → S → S
  run [] s = s
  run (a ∷ f) s = run f (step a.0 a.1 s)

  -- g with its first arrival at p, which is x, taken to the front
  record Front (p : ℕ) (x : X) (ys : List X) (g : List (ℕ × X)) : Type 0 where
    rest : List (ℕ × X)
    moved : (s : S) → run g s ≡ run rest (step p x s)
    own : on p rest ≡ ys
    others : (q : ℕ) → (p ≡ q → ⊥) → on q rest ≡ on q g

  module _ (commute : (p q : ℕ) (x y : X) (s : S) → (p ≡ q → ⊥) → step p x (step q y s) ≡ step q y (step p x s)) where
    front : (p : ℕ) (x : X) (ys : List X) (g : List (ℕ × X)) → on p g ≡ x ∷ ys → Front p x ys g
    unfolding on run
    front p x ys [] e = absurd (nil≢cons e)
    front p x ys (a ∷ g) e = go (ℕ_discrete a.0 p) (front p x ys g)
      where
        go : Dec (a.0 ≡ p) → (on p g ≡ x ∷ ys → Front p x ys g) → Front p x ys (a ∷ g)
        go (yes d) ih =
            let h : a.1 ∷ on p g ≡ x ∷ ys = sym (on_same p a g d) ∙ e in
            record {
              rest = g;
              moved = λ s. ap₂ (λ (k : ℕ) (z : X). run g (step k z s)) d (head-eq_of_cons-eq h);
              own = tail-eq_of_cons-eq h;
              others = λ q n. sym (on-other q a g (λ d'. n (sym d ∙ d')));
            }
        go (no d) ih =
            let r = ih (sym (on-other p a g d) ∙ e) in
            record {
              rest = a ∷ r.rest;
              moved = λ s. r.moved (step a.0 a.1 s) ∙ ap (run r.rest) (commute p a.0 x a.1 s (λ d'. d (sym d')));
              own = on-other p a r.rest d ∙ r.own;
              others = λ q n. ap (keep (eqb a.0 q) a.1) (r.others q n);
            }

    none_left : (g : List (ℕ × X)) → ((p : ℕ) → [] ≡ on p g) → [] ≡ g
    none_left [] h = refl
    none_left (a ∷ g) h = absurd (nil≢cons (h a.0 ∙ on_same a.0 a g refl))

    pub same-run : (f g : List (ℕ × X)) (s : S) → ((p : ℕ) → on p f ≡ on p g) → run f s ≡ run g s
    unfolding on run
    same-run [] g s h = ap (λ (l : List (ℕ × X)). run l s) (none_left g h)
    same-run (a ∷ f) g s h =
        let r = front a.0 a.1 (on a.0 f) g (sym (h a.0) ∙ on_same a.0 a f refl) in
        same-run f r.rest (step a.0 a.1 s) (λ q. go r q (ℕ_discrete a.0 q)) ∙ sym (r.moved s)
      where
        go : (r : Front a.0 a.1 (on a.0 f) g) (q : ℕ) → Dec (a.0 ≡ q) → on q f ≡ on q r.rest
        go r q (yes d) = rw (← d) (sym r.own)
        go r q (no d) = sym (on-other q a f d) ∙ h q ∙ sym (r.others q d)
