-- Of streams named by their places: how many StreamIDs they have, the one at a place, the first few of them, and a part's ends.
use mathlib.Core.Path.{◌≡◌, refl, ap}
use mathlib.Core.List.{List, [], ◌∷◌}
use Prim.Native.Nat.{ℕ, zero, suc, ◌+◌, ◌-◌, ◌/◌, ◌≤◌, ◌<◌}
use native.Mathlib.Omega.{arith}
use lib.ListN.{length, get_or, take, drop, length-drop}
use Rattle.model.specs.State.{stream_at}
use Rattle.model.specs.Cutting.{mac, Shares, Part, last_of, values}
use Rattle.model.specs.Laid.{Ascending}
use Rattle.model.specs.Table.{decode}
use Rattle.model.proofs.Lists.{all_take, all_drop, all-at}
use Rattle.model.proofs.Ascents.{ascending-rising, ascending-take, ascending-drop, rises-last}
use Rattle.table.specs.Places.{Stands}
use Rattle.cutting.specs.Named.{ids_of, Named}
use Rattle.model.proofs.LongestRun.{length_cut}

module _ (t : List ℕ) where
  pub ids-length : (l : List ℕ) → length (ids_of t l) ≡ length l
  unfolding ids_of
  ids-length [] = refl
  ids-length (k ∷ l) = ap suc (ids-length l)

  pub ids_at : (l : List ℕ) (i : ℕ) → i < length l → (stream_at (get_or l i 0) (decode t)).id ≡ get_or (ids_of t l) i 0
  unfolding ids_of
  ids_at [] i h = absurd (omega arith)
  ids_at (k ∷ l) zero h = refl
  ids_at (k ∷ l) (suc i) h = ids_at l i (omega arith)

  pub ids-take : (n : ℕ) (l : List ℕ) → ids_of t (take n l) ≡ take n (ids_of t l)
  unfolding ids_of
  ids-take zero l = refl
  ids-take (suc n) [] = refl
  ids-take (suc n) (k ∷ l) = ap (λ (r : List ℕ). (stream_at k (decode t)).id ∷ r) (ids-take n l)

  pub ids-drop : (n : ℕ) (l : List ℕ) → ids_of t (drop n l) ≡ drop n (ids_of t l)
  unfolding ids_of
  ids-drop zero l = refl
  ids-drop (suc n) [] = refl
  ids-drop (suc n) (k ∷ l) = ids-drop n l

  pub named-at : (l : List ℕ) (i : ℕ) → Named t l → i < length l → Stands t (get_or l i 0)
  named-at l i w h = record { laid = w.laid; held = all-at (λ k. k < length (decode t).streams) l w.held i 0 h }

  pub named-take : (n : ℕ) (l : List ℕ) → Named t l → Named t (take n l)
  named-take n l w = record {
    laid = w.laid;
    few = omega (arith, length_cut n l, w.few);
    held = all_take (λ k. k < length (decode t).streams) n l w.held;
    ascending = rw (ids-take n l) (ascending-take n (ids_of t l) w.ascending);
  }

-- those from a place on
pub named-drop : (t : List ℕ) (n : ℕ) (l : List ℕ) → Named t l → Named t (drop n l)
named-drop t n l w = record {
  laid = w.laid;
  few = omega (arith, length-drop n l, w.few);
  held = all_drop (λ k. k < length (decode t).streams) n l w.held;
  ascending = rw (ids-drop t n l) (ascending-drop n (ids_of t l) w.ascending);
}

-- The first and the last StreamID of a part.

last-at : (x : ℕ) (g : List ℕ) → last_of x g ≡ get_or (x ∷ g) (length g) 0
last-at x [] = refl
last-at x (y ∷ g) = last-at y g

shares-last : (x z : ℕ) (g : List ℕ) → Shares x g → z / 65536 ≡ x / 65536 → last_of z g / 65536 ≡ x / 65536
shares-last x z [] s e = e
shares-last x z (y ∷ g) s e = shares-last x y g s.1 (unfold mac in s.0)

pub record Ends (l : List ℕ) : Type 0 where
  pub some : 0 < length l
  pub order : get_or l 0 0 ≤ get_or l (length l - 1) 0
  pub near : get_or l (length l - 1) 0 - get_or l 0 0 ≤ 65535
  pub is : values l ≡ get_or l (length l - 1) 0 - get_or l 0 0 + 1

pub part-ends : (l : List ℕ) → Part l → Ascending l → Ends l
unfolding values
part-ends [] p a = absurd p
part-ends (x ∷ g) p a =
    let e : suc (length g) - 1 ≡ length g = omega arith in
    let order = rises-last x g (ascending-rising (x ∷ g) a) in
    let last = last-at x g in
    record {
      some = omega arith;
      order = rw (e, ← last) order;
      near = rw (e, ← last) (omega (arith, order, shares-last x x g p refl));
      is = rw (e, ← last);
    }
