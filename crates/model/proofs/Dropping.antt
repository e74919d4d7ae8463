-- What an advance leaves is what it decides, with Lv! and Join! given and unheld streams dropped (02, xiv): what is sent plays no part in
-- what the rules of settling give, nor does a stream without a registration.
use mathlib.Core.Path.{◌≡◌, refl, sym, ◌∙◌, ap}
use mathlib.Core.List.Memᴰ
use mathlib.Core.List.{List, [], ◌∷◌, map, Memᴰ}
use mathlib.Core.Logic.{◌⊎◌, inl, inr}
use mathlib.Core.Bool.{Bool, true, false, cond, ◌&&◌}
use Prim.Native.Nat.{ℕ, ◌+◌, ◌-◌, ◌≤◌, ◌<◌}
use native.Mathlib.Omega.{arith}
use lib.Dec.{ltb}
use Rattle.model.specs.Lists.{All, keep}
use Rattle.model.specs.State.{Settings, Own, Column, Stream, Bridge, Class, no_class, class_a, class_b, same_class, both_limits, in_force, port_at, cell_at, result_at}
use Rattle.model.specs.Registrations.{ids}
use Rattle.model.specs.Bandwidth.{Claim, key}
use Rattle.model.specs.Settling.{held, any_sending, is_held, drop_unheld, Source, nowhere, source_of, stream_class, is_advertise, Inbound, add_inbound, inbounds_of, Scene, scene_of, Step, first, outcome_column, steps, claim, by_bandwidth, latency_out, deciding, declare, declaring, settle}
use Rattle.model.proofs.Lists.{mem-keep, and-false}
use Rattle.model.proofs.Valid.{Rising}
use Rattle.model.proofs.AdvanceKeepsForm.{or-false, unheld-nowhere, nowhere-stops, all-dropped, all-mapped}
use Rattle.model.proofs.ColumnRule.{reserves, spent, limit_by, left_by, ruled, column_at, total_at, SettledAt, SettledStream, Settled, Decides, Small, advertised, settled, decides}

pub unheld-source : (x : Stream) → is_held x ≡ false → source_of x ≡ nowhere
unfolding is_held source_of
unheld-source x e = unheld-nowhere 0 x.cells (or-false (held x.cells) (any_sending x.sends) e).0

-- what is left are the streams held
pub dropped-none : (t : List Stream) → All (λ x. is_held x ≡ true) t → drop_unheld t ≡ t
unfolding drop_unheld
dropped-none [] a = refl
dropped-none (x ∷ t) a = rw (a.0, dropped-none t a.1)

pub held-left : (y : Stream) (t : List Stream) → Memᴰ y t → is_held y ≡ true → Memᴰ y (drop_unheld t)
unfolding drop_unheld
held-left y [] m e = absurd (Memᴰ.not-nil m)
held-left y (x ∷ t) m e = (mem-keep (is_held x) y x (drop_unheld t)).1 (go (Memᴰ.cases_cons m) (λ k. held-left y t k e))
  where
    go : (y ≡ x) ⊎ Memᴰ y t → (Memᴰ y t → Memᴰ y (drop_unheld t)) → ((is_held x ≡ true) × (y ≡ x)) ⊎ Memᴰ y (drop_unheld t)
    go (inl same) ih = inl (rw (sym same) e, same)
    go (inr k) ih = inr (ih k)

-- What the steps ask of the other streams: nothing of one without a registration.

inbounds-dropped : (t : List Stream) → inbounds_of (drop_unheld t) ≡ inbounds_of t
unfolding drop_unheld inbounds_of
inbounds-dropped [] = refl
inbounds-dropped (x ∷ t) = go (is_held x) refl (inbounds-dropped t)
  where
    go : (h : Bool) → is_held x ≡ h → inbounds_of (drop_unheld t) ≡ inbounds_of t
        → inbounds_of (keep h x (drop_unheld t)) ≡ add_inbound x.id (source_of x) (inbounds_of t)
    go true e ih = ap (add_inbound x.id (source_of x)) ih
    go false e ih = rw (unheld-source x e) (unfold add_inbound in ih)

module _ (st : Settings) (o : List Own) where
  abbrev scene : List Inbound → Scene
  scene i = record { settings = st; owns = o; inbound = i }

  steps-dropped : (t : List Stream) (p : ℕ) (x : Stream) → steps (scene (inbounds_of (drop_unheld t))) p x ≡ steps (scene (inbounds_of t)) p x
  steps-dropped t p x = ap (λ (i : List Inbound). steps (scene i) p x) (inbounds-dropped t)

-- What is spent: a stream that is not Advertise spends nothing.

module _ (st : Settings) (now p : ℕ) (c : Class) (test : Claim → Bool) where
  none-reserved : (col : Column) (x : Stream) → is_advertise col ≡ false → reserves st p c col x ≡ false
  unfolding reserves
  none-reserved col x e = rw (e, and-false (same_class (stream_class st x) c))

  spent-dropped : (t : List Stream) → All (λ x. is_held x ≡ false → is_advertise (column_at p x) ≡ false) t
      → spent st now p c (column_at p) test (drop_unheld t) ≡ spent st now p c (column_at p) test t
  unfolding spent drop_unheld
  spent-dropped [] a = refl
  spent-dropped (x ∷ t) a = go (is_held x) refl (spent-dropped t a.1)
    where
      d : Claim
      d = claim st now p x

      go : (h : Bool) → is_held x ≡ h → spent st now p c (column_at p) test (drop_unheld t) ≡ spent st now p c (column_at p) test t
          → spent st now p c (column_at p) test (keep h x (drop_unheld t))
          ≡ spent st now p c (column_at p) test t + cond (test d && reserves st p c (column_at p x) x) d.demand 0
      go true e ih = ap (λ (n : ℕ). n + cond (test d && reserves st p c (column_at p x) x) d.demand 0) ih
      go false e ih =
          let none : cond (test d && reserves st p c (column_at p x) x) d.demand 0 ≡ 0 = rw (none-reserved (column_at p x) x (a.0 e), and-false (test d)) in
          omega (arith, ih, none)

  spent-declared : (s : List Stream) → spent st now p c (column_at p) test (map declare s) ≡ spent st now p c (column_at p) test s
  unfolding spent declare claim reserves stream_class source_of cell_at result_at column_at
  spent-declared [] = refl
  spent-declared (x ∷ s) =
      ap (λ (n : ℕ). n + cond (test (claim st now p x) && reserves st p c (column_at p x) x) (claim st now p x).demand 0) (spent-declared s)

declared-inbounds : (s : List Stream) → inbounds_of (map declare s) ≡ inbounds_of s
unfolding inbounds_of declare source_of
declared-inbounds [] = refl
declared-inbounds (x ∷ s) = ap (add_inbound x.id (source_of x)) (declared-inbounds s)

declared-source : (y : Stream) → is_held (declare y) ≡ false → source_of y ≡ nowhere
unfolding source_of declare
declared-source y e = unheld-source (declare y) e

declared-steps : (sc : Scene) (p : ℕ) (y : Stream) → steps sc p (declare y) ≡ steps sc p y
unfolding steps source_of cell_at declare
declared-steps sc p y = refl

-- the column by what the rule reads
same-rule : (st : Settings) (p : ℕ) (c : Class) (o : Source) (demand : ℕ) (l m : List Step) (a a' n n' : ℕ) → l ≡ m → a ≡ a' → n ≡ n' →
    first (outcome_column st o) l (by_bandwidth st demand (in_force (port_at st p) a c - n))
    ≡ first (outcome_column st o) m (by_bandwidth st demand (in_force (port_at st p) a' c - n'))
same-rule st p c o demand l m a a' n n' e f g = rw (e, f, g)

-- A bridge that shows what the rules give still does when Lv! and Join! were given and unheld streams dropped.
module _ (b : Bridge) (k : Settled b) where
  abbrev left : Bridge
  left = declaring b

  -- a stream that is dropped had no column
  idle : (p : ℕ) → p < 8 → All (λ y. is_held y ≡ false → is_advertise (column_at p y) ≡ false) (map declare b.streams)
  unfolding declare column_at result_at ruled
  idle p h =
      all-mapped (SettledStream b) (λ y. is_held y ≡ false → is_advertise (column_at p y) ≡ false) declare one b.streams k.streams
    where
      one : (y : Stream) → SettledStream b y → is_held (declare y) ≡ false → is_advertise (column_at p (declare y)) ≡ false
      one y s e =
          ap is_advertise (s.shows p h).column
          ∙ advertised (scene_of b) p y (claim b.settings b.clock p y).demand (left_by (scene_of b) b.clock b.streams p (column_at p) y)
          ∙ rw (nowhere-stops (scene_of b) b.clock p y (declared-source y e))

  spent-left : (p : ℕ) → p < 8 → (c : Class) (test : Claim → Bool) →
      spent b.settings b.clock p c (column_at p) test left.streams ≡ spent b.settings b.clock p c (column_at p) test b.streams
  unfolding declaring
  spent-left p h c test =
      spent-dropped b.settings b.clock p c test (map declare b.streams) (idle p h) ∙ spent-declared b.settings b.clock p c test b.streams

  steps-left : (p : ℕ) (y : Stream) → steps (scene_of left) p (declare y) ≡ steps (scene_of b) p y
  unfolding declaring
  steps-left p y =
      steps-dropped b.settings b.owns (map declare b.streams) p (declare y)
      ∙ ap (λ (i : List Inbound). steps (scene b.settings b.owns i) p (declare y)) (declared-inbounds b.streams)
      ∙ declared-steps (scene_of b) p y

  ruled-left : (p : ℕ) → p < 8 → (y : Stream) →
      ruled (scene_of b) b.clock b.streams p (column_at p) y ≡ ruled (scene_of left) left.clock left.streams p (column_at p) (declare y)
  unfolding ruled left_by limit_by declaring declare claim stream_class source_of cell_at result_at
  ruled-left p h y =
      let c = stream_class b.settings y in
      let d = claim b.settings b.clock p y in
      let ahead : Claim → Bool = λ e. ltb (key e) (key d) in
      let all : Claim → Bool = λ e. true in
      same-rule b.settings p c (source_of y) d.demand (steps (scene_of b) p y) (steps (scene_of left) p (declare y))
      (spent b.settings b.clock p class_a (column_at p) all b.streams) (spent b.settings b.clock p class_a (column_at p) all left.streams)
      (spent b.settings b.clock p c (column_at p) ahead b.streams) (spent b.settings b.clock p c (column_at p) ahead left.streams)
      (sym (steps-left p y)) (sym (spent-left p h class_a all)) (sym (spent-left p h c ahead))

  settled_at : (p : ℕ) → p < 8 → (y : Stream) → SettledAt b y p → SettledAt left (declare y) p
  unfolding declaring declare result_at column_at latency_out stream_class source_of cell_at
  settled_at p h y s = record { column = s.column ∙ ruled-left p h y; latency = s.latency; entry = s.entry; declares = s.declares }

  settled-stream : (y : Stream) → SettledStream b y → SettledStream left (declare y)
  unfolding declare source_of
  settled-stream y s = record { values = s.values; places = s.places; shows = λ p h. settled_at p h y (s.shows p h) }

  total_left : (p : ℕ) (c : Class) → total_at left p c ≡ total_at b p c
  unfolding total_at declaring
  total_left p no_class = refl
  total_left p class_a = refl
  total_left p class_b = refl

  limits-left : (p : ℕ) → p < 8 → (c : Class) → total_at left p c ≤ in_force (port_at b.settings p) (total_at left p class_a) c
  limits-left p h c = rw (total_left p c, total_left p class_a) (k.limits p h c)

  together-left : (p : ℕ) → p < 8 → total_at left p class_a + total_at left p class_b ≤ both_limits (port_at b.settings p)
  together-left p h = rw (total_left p class_a, total_left p class_b) (k.together p h)

  pub declared-settled : Settled left
  unfolding declaring
  declared-settled = record {
    streams =
        all-dropped (SettledStream left) (SettledStream left) (λ y h s. s) (map declare b.streams)
        (all-mapped (SettledStream b) (SettledStream left) declare settled-stream b.streams k.streams);
    places = k.places;
    totals = λ p h c. total_left p c ∙ k.totals p h c ∙ sym (spent-left p h c (λ e. true));
    limits = limits-left;
    together = together-left;
  }

-- Every stream that was decided and is held is left, with its results.

declared-there : (y : Stream) (t : List Stream) → Memᴰ y t → Memᴰ (declare y) (map declare t)
declared-there y [] m = absurd (Memᴰ.not-nil m)
declared-there y (x ∷ t) m = go (Memᴰ.cases_cons m) (declared-there y t)
  where
    go : (y ≡ x) ⊎ Memᴰ y t → (Memᴰ y t → Memᴰ (declare y) (map declare t)) → Memᴰ (declare y) (declare x ∷ map declare t)
    go (inl e) ih = Memᴰ.head (ap declare e)
    go (inr k) ih = Memᴰ.tail (ih k)

pub settled-there : (now : ℕ) (b : Bridge) (y : Stream) → Memᴰ y (deciding now b).streams → is_held (declare y) ≡ true → Memᴰ (declare y) (settle now b).streams
unfolding settle declaring
settled-there now b y m e = held-left (declare y) (map declare (deciding now b).streams) (declared-there y (deciding now b).streams m) e

pub declared-result : (y : Stream) (p : ℕ) → result_at (declare y) p ≡ result_at y p
unfolding declare result_at
declared-result y p = refl

-- The bridge c is what an advance of b to the time now leaves.
pub record Advanced (now : ℕ) (b c : Bridge) : Type 0 where
  -- the bridge as decided; then Lv! and Join! are given, unheld streams dropped and LeaveAll timers looked at
  pub between : Bridge
  pub decides : Decides now b between
  pub left : c ≡ declaring between
  -- it shows what the rules of settling give
  pub settled : Settled c

pub advanced : (now : ℕ) (b : Bridge) → Rising (ids b.streams) → All Small (ids b.streams) → Advanced now b (settle now b)
unfolding settle
advanced now b r small = record {
  between = deciding now b;
  decides = decides now b r small;
  left = refl;
  settled = declared-settled (deciding now b) (settled now b r small);
}
