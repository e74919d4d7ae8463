-- The rules of settling have exactly one solution: columns that meet them on a port are those of advance, and a bridge that
-- is what an advance leaves by the rules is the one that advance leaves.
use mathlib.Core.Path.{◌≡◌, refl, sym, ◌∙◌, ap}
use mathlib.Core.List.{List, [], ◌∷◌, map}
use mathlib.Core.Bool.{Bool, true, false, cond, ◌&&◌}
use Prim.Native.Nat.{ℕ, ◌-◌, ◌<◌}
use native.Mathlib.Omega.{arith}
use lib.ListN.{get_or, length}
use lib.Seq.{ext_get_or}
use lib.Dec.{leb, eqb}
use borrow.Author.Tests.{eq-eqb, ne_eqb}
use Rattle.model.specs.Lists.{All, keep, tabulate}
use Rattle.model.specs.State.{Column, none, Declared, nothing, Result, Sender, Stream, Totals, Bridge, Class, class_a, class_b, same_class, in_force, port_at, cell_at, result_at, unsettled, no_totals}
use Rattle.model.specs.Registrations.{ids}
use Rattle.model.specs.Bandwidth.{Claim, key, above, remains, admitted}
use Rattle.model.specs.Settling.{Scene, decide_owns, remain, source_of, is_source, stream_class, registered, first, clear, outcome_column, steps, claim, claims, reserved_a, limit_on, left_for, by_bandwidth, column_of, latency_out, passed, merge_all, merged, decide_at, decide, total_on, totals_on, deciding, declaring, settle, is_advertise, scene_of, Inbound, inbounds_of}
use Rattle.model.proofs.Lists.{all_map, all_both, at_place}
use Rattle.model.proofs.Valid.{Rising}
use Rattle.model.proofs.Admission.{Obeys, Rule, unique, subtracted, total-is-sum, all_above, taken-same}
use Rattle.model.proofs.ColumnRule.{spent_in, limit_by, left_by, ruled, Small, claims-distinct, advertised, Agrees, spent-above, spent_all, column_at, total_at, SettledStream, Settled, Carried, Pairwise, Decides, Shown, carried-column, carried-total, spent-same, total-ruled, tabulate-same, carried-inbound}
use Rattle.model.proofs.Dropping.{Advanced, advanced}
use Rattle.model.proofs.AdvanceKeepsForm.{same_class_lem, remain-all, remain-rising}

-- what holds of the claim of every stream that reaches step h holds of every claim
module _ (sc : Scene) (now p : ℕ) (c : Class) where
  claims-from : (P : Claim → Type 0) (s : List Stream) →
      All (λ x. clear (steps sc p x) ≡ true → same_class (stream_class sc.settings x) c ≡ true → P (claim sc.settings now p x)) s → All P (claims sc now p c s)
  unfolding claims
  claims-from P [] a = tt
  claims-from P (x ∷ s) a = go (clear (steps sc p x)) (same_class (stream_class sc.settings x) c) a.0 (claims-from P s a.1)
    where
      go : (t u : Bool) → (t ≡ true → u ≡ true → P (claim sc.settings now p x)) → All P (claims sc now p c s) → All P (keep (t && u) (claim sc.settings now p x) (claims sc now p c s))
      go true true h ih = (h refl refl, ih)
      go true false h ih = ih
      go false u h ih = ih

-- the column of the stream with a StreamID
module _ (col : Stream → Column) where
  column_by_id : List Stream → ℕ → Column
  column_by_id [] i = none
  column_by_id (x ∷ s) i = cond (eqb x.id i) (col x) (column_by_id s i)

  column-by-id : (s : List Stream) → Rising (ids s) → All (λ x. column_by_id s x.id ≡ col x) s
  unfolding column_by_id ids Rising
  column-by-id [] r = tt
  column-by-id (x ∷ s) r = (rw (eq-eqb x.id x.id refl), later s r.0 (column-by-id s r.1))
    where
      later : (l : List Stream) → All (λ j. x.id < j) (ids l) → All (λ y. column_by_id s y.id ≡ col y) l →
          All (λ y. column_by_id (x ∷ s) y.id ≡ col y) l
      later [] a h = tt
      later (y ∷ l) a h = (rw (ne_eqb x.id y.id (λ e. omega (arith, a.0, e))) h.0, later l a.1 h.1)

module _ (sc : Scene) (now : ℕ) (s : List Stream) (p : ℕ) (r : Rising (ids s)) (small : All Small (ids s)) (col : Stream → Column) where
  -- the claims that columns admit
  ok : Claim → Bool
  ok d = is_advertise (column_by_id col s d.id)

  -- columns that meet the rule at a stream
  abbrev pub Meets : Stream → Type 0
  Meets x = col x ≡ ruled sc now s p col x

  module _ (meets : All Meets s) where
    abbrev Opened : Stream → Type 0
    Opened x = (col x ≡ ruled sc now s p col x) × (ok (claim sc.settings now p x) ≡ is_advertise (col x))

    known : All Opened s
    unfolding ok claim
    known =
        all_both Meets (λ x. ok (claim sc.settings now p x) ≡ is_advertise (col x)) s meets
        (all_map (λ x. column_by_id col s x.id ≡ col x) (λ x. ok (claim sc.settings now p x) ≡ is_advertise (col x))
        (λ x e. ap is_advertise e) s (column-by-id col s r))

    fits : (x : Stream) → Meets x → is_advertise (col x) ≡ (clear (steps sc p x) && leb (claim sc.settings now p x).demand (left_by sc now s p col x))
    unfolding ruled
    fits x m = ap is_advertise m ∙ advertised sc p x (claim sc.settings now p x).demand (left_by sc now s p col x)

    agree : (c : Class) → All (Agrees sc now p c col ok) s
    agree c = all_map Opened (Agrees sc now p c col ok) one s known
      where
        bool : (t u v w : Bool) → v ≡ (t && w) → (u && v) ≡ ((t && u) && v)
        bool true u v w e = refl
        bool false true v w e = e
        bool false false v w e = refl

        one : (x : Stream) → Opened x → Agrees sc now p c col ok x
        one x k = rw k.1 (bool (clear (steps sc p x)) (same_class (stream_class sc.settings x) c) (is_advertise (col x)) _ (fits x k.0))

    rule : (c : Class) → limit_by sc now s p col c ≡ limit_on sc now s p c → Rule (limit_on sc now s p c) (claims sc now p c s) ok
    unfolding Rule
    rule c same = claims-from sc now p c (Obeys (limit_on sc now s p c) (claims sc now p c s) ok) s (all_map Opened _ one s known)
      where
        one : (x : Stream) → Opened x → clear (steps sc p x) ≡ true → same_class (stream_class sc.settings x) c ≡ true →
            Obeys (limit_on sc now s p c) (claims sc now p c s) ok (claim sc.settings now p x)
        one x k t u =
            k.1 ∙ fits x k.0
            ∙ unfold left_by in (rw (t, same_class_lem (stream_class sc.settings x) c u, same, spent-above sc now p c col ok (key (claim sc.settings now p x)) s (agree c)))

    solved-rule : (c : Class) → limit_by sc now s p col c ≡ limit_on sc now s p c → All (λ d. ok d ≡ admitted (limit_on sc now s p c) (claims sc now p c s) d) (claims sc now p c s)
    solved-rule c same = unique (limit_on sc now s p c) (claims sc now p c s) (claims-distinct sc now p c s r small) ok (rule c same)

    -- class A's limit is its own, so what A reserves is settled first; that settles class B's limit
    same-reserved : spent_in sc.settings now p col s class_a ≡ reserved_a sc now s p
    same-reserved =
        let l = limit_on sc now s p class_a in
        let cs = claims sc now p class_a s in
        spent_all sc now p class_a col ok s (agree class_a)
        ∙ taken-same ok (admitted l cs) cs (solved-rule class_a (unfold limit_by limit_on in_force in refl))
        ∙ total-is-sum l cs (claims-distinct sc now p class_a s r small)
        ∙ (unfold reserved_a limit_on in_force in refl)

    same-limit : (c : Class) → limit_by sc now s p col c ≡ limit_on sc now s p c
    unfolding limit_by limit_on
    same-limit c = ap (λ (n : ℕ). in_force (port_at sc.settings p) n c) same-reserved

    -- Columns that meet the rule on p are those of advance.
    pub unique-columns : All (λ x. col x ≡ column_of sc now s p x) s
    unfolding ruled left_by column_of left_for remains
    unique-columns = all_map Meets (λ x. col x ≡ column_of sc now s p x) one s meets
      where
        one : (x : Stream) → Meets x → col x ≡ column_of sc now s p x
        one x m =
            let c = stream_class sc.settings x in
            let k = key (claim sc.settings now p x) in
            let l = limit_on sc now s p c in
            let cs = claims sc now p c s in
            m ∙ rw (same-limit c)
            (ap (λ (n : ℕ). first (outcome_column sc.settings (source_of x)) (steps sc p x) (by_bandwidth sc.settings (claim sc.settings now p x).demand (l - n)))
            (spent-above sc now p c col ok k s (agree c)
            ∙ taken-same ok (admitted l cs) (above k cs) (all_above _ k cs (solved-rule c (same-limit c)))
            ∙ subtracted l cs (claims-distinct sc now p c s r small) k))

-- Records with equal fields are equal.

stream-is : (x y : Stream) → x.id ≡ y.id → x.settled ≡ y.settled → x.cells ≡ y.cells → x.results ≡ y.results → x.sends ≡ y.sends → x ≡ y
stream-is x y i f c r s = rw (i, f, c, r, s)

result-is : (x y : Result) → x.column ≡ y.column → x.latency ≡ y.latency → x.entry ≡ y.entry → x.age ≡ y.age → x.declares ≡ y.declares → x ≡ y
result-is x y c l e a d = rw (c, l, e, a, d)

totals-is : (x y : Totals) → x.total_a ≡ y.total_a → x.total_b ≡ y.total_b → x ≡ y
totals-is x y a b = rw (a, b)

-- Lists, place by place.

all-places : {A : Type 0} (P : ℕ → A → Type 0) (l : List A) → ((p : ℕ) → p < 8 → All (P p) l) → All (λ x. (p : ℕ) → p < 8 → P p x) l
all-places P [] h = tt
all-places P (x ∷ l) h = (λ p b. (h p b).0, all-places P l (λ p b. (h p b).1))

module _ {A B : Type 0} (R : A → B → Type 0) (P : B → Type 0) (f : A → B) (same : (x : A) (y : B) → R x y → P y → y ≡ f x) where
  pairwise-is : (l : List A) (m : List B) → Pairwise R l m → All P m → m ≡ map f l
  pairwise-is [] [] w a = refl
  pairwise-is [] (y ∷ m) w a = absurd w
  pairwise-is (x ∷ l) [] w a = absurd w
  pairwise-is (x ∷ l) (y ∷ m) w a = rw (same x y w.0 a.0, pairwise-is l m w.1 a.1)

eight-places : {A : Type 0} (d : A) (l : List A) (f : ℕ → A) → length l ≡ 8 → ((p : ℕ) → p < 8 → get_or l p d ≡ f p) → l ≡ tabulate 8 0 f
eight-places d l f e h =
    ext_get_or d l (tabulate 8 0 f) (e ∙ (unfold tabulate in refl))
    (λ i b. h i (omega (arith, e)) ∙ sym (at_place f i d (omega (arith, e))))

carried-ids : (now : ℕ) (s t : List Stream) → Pairwise (Carried now) s t → ids t ≡ ids s
unfolding ids
carried-ids now [] [] w = refl
carried-ids now [] (y ∷ t) w = absurd w
carried-ids now (x ∷ s) [] w = absurd w
carried-ids now (x ∷ s) (y ∷ t) w = rw w.0.id (ap (λ (is : List ℕ). x.id ∷ is) (carried-ids now s t w.1))

-- What by the rules an advance leaves of the streams s are the columns, results and totals that it decides.

abbrev bridge : Scene → ℕ → List Totals → List Sender → List Stream → Bridge
bridge sc now ts ss t = record { settings = sc.settings; clock = now; totals = ts; owns = sc.owns; senders = ss; streams = t }

module _ (sc : Scene) (now : ℕ) (ts : List Totals) (ss : List Sender) (s t : List Stream) (r : Rising (ids s)) (small : All Small (ids s))
    (carried : Pairwise (Carried now) s t) (inbound : sc.inbound ≡ inbounds_of s) (settled : Settled (bridge sc now ts ss t)) where
  rises : Rising (ids t)
  rises = rw (carried-ids now s t carried) r

  fit : All Small (ids t)
  fit = rw (carried-ids now s t carried) small

  same-rule : (p : ℕ) (y : Stream) → ruled (scene_of (bridge sc now ts ss t)) now t p (column_at p) y ≡ ruled sc now t p (column_at p) y
  same-rule p y =
      ap (λ (l : List Inbound). ruled record { settings = sc.settings; owns = sc.owns; inbound = l } now t p (column_at p) y)
      (carried-inbound now s t carried ∙ sym inbound)

  module _ (p : ℕ) (here : p < 8) where
    shown : All (Shown sc p) t
    unfolding ruled
    shown = all_map (SettledStream (bridge sc now ts ss t)) (Shown sc p) one t settled.streams
      where
        one : (y : Stream) → SettledStream (bridge sc now ts ss t) y → Shown sc p y
        one y k = record {
          demand = (claim sc.settings now p y).demand;
          left = left_by sc now t p (column_at p) y;
          column = (k.shows p here).column ∙ same-rule p y;
          entry = (k.shows p here).entry;
        }

    solved : All (λ y. column_at p y ≡ column_of sc now t p y) t
    solved =
        unique-columns sc now t p rises fit (column_at p)
        (all_map (SettledStream (bridge sc now ts ss t)) (λ y. column_at p y ≡ ruled sc now t p (column_at p) y)
        (λ y k. (k.shows p here).column ∙ same-rule p y) t settled.streams)

    total-solved : (c : Class) → total_at (bridge sc now ts ss t) p c ≡ total_on sc now s p c
    total-solved c =
        settled.totals p here c
        ∙ spent-same sc now p (column_at p) (column_of sc now t p) c (λ e. true) t solved
        ∙ sym (total-ruled sc now t p rises fit c)
        ∙ carried-total sc now p here s t carried shown c

  -- a stream whose columns are those decided
  abbrev Decided : Stream → Type 0
  Decided y = (p : ℕ) → p < 8 → Shown sc p y × (column_at p y ≡ column_of sc now t p y)

  all-decided : All Decided t
  all-decided =
      all-places (λ p y. Shown sc p y × (column_at p y ≡ column_of sc now t p y)) t
      (λ p h. all_both (Shown sc p) (λ y. column_at p y ≡ column_of sc now t p y) t (shown p h) (solved p h))

  module _ (x y : Stream) (c : Carried now x y) (k : SettledStream (bridge sc now ts ss t) y) (known : Decided y) where
    same-cell : (p : ℕ) → cell_at y p ≡ cell_at x p
    unfolding cell_at
    same-cell p = rw c.cells

    same_source : source_of y ≡ source_of x
    unfolding source_of
    same_source = rw c.cells

    same-latency : (p : ℕ) → latency_out sc.settings p y ≡ latency_out sc.settings p x
    unfolding latency_out stream_class
    same-latency p = rw same_source

    same-column : (p : ℕ) → p < 8 → column_at p y ≡ column_of sc now s p x
    same-column p h = (known p h).1 ∙ carried-column sc now p h s t carried (shown p h) x y c (known p h).0

    module _ (p : ℕ) (h : p < 8) where
      same-entry : (result_at y p).entry ≡ (decide_at sc now s x p).entry
      unfolding decide_at
      same-entry = (k.shows p h).entry ∙ rw (same-column p h, same-cell p)

      same-declares : (result_at y p).declares ≡ (decide_at sc now s x p).declares
      unfolding decide_at merged
      same-declares =
          (k.shows p h).declares
          ∙ rw same_source
          (ap (λ (l : List Declared). cond (is_source (source_of x) p) (merge_all l) nothing)
          (tabulate-same (λ q. passed (column_at q y) (registered (cell_at y q))) (λ q. passed (column_of sc now s q x) (registered (cell_at x q))) 8 0
          (λ q l g. rw (same-column q g, same-cell q))))

      same-result : result_at y p ≡ decide_at sc now s x p
      unfolding decide_at column_at
      same-result =
          result-is (result_at y p) (decide_at sc now s x p) (same-column p h) ((k.shows p h).latency ∙ rw (same-column p h, same-latency p))
          same-entry (c.ages p h ∙ rw same-entry) same-declares

    same-stream : y ≡ decide sc now s x
    unfolding decide result_at
    same-stream =
        stream-is y (decide sc now s x) c.id (k.values ∙ rw same_source) c.cells
        (eight-places unsettled y.results (decide_at sc now s x) k.places same-result)
        c.sends

  streams-solved : t ≡ map (decide sc now s) s
  streams-solved =
      pairwise-is (Carried now) (λ y. SettledStream (bridge sc now ts ss t) y × Decided y) (decide sc now s)
      (λ x y c k. same-stream x y c k.0 k.1) s t carried
      (all_both (SettledStream (bridge sc now ts ss t)) Decided t settled.streams all-decided)

  totals-solved : ts ≡ tabulate 8 0 (totals_on sc now s)
  unfolding totals_on total_at
  totals-solved =
      eight-places no_totals ts (totals_on sc now s) settled.places
      (λ p h. totals-is (get_or ts p no_totals) (totals_on sc now s p) (total-solved p h class_a) (total-solved p h class_b))

-- A bridge that is what an advance decides by the rules is the one that advance decides,
pub one-decided : (now : ℕ) (b c : Bridge) → Rising (ids b.streams) → All Small (ids b.streams) → Decides now b c → c ≡ deciding now b
unfolding deciding
one-decided now b c r small decides =
    let st = b.settings in
    let s = remain st now b.streams in
    let sc : Scene = record { settings = st; owns = decide_owns st now b.owns; inbound = inbounds_of s } in
    let remaining : Rising (ids s) = remain-rising st now b.streams r in
    let few : All Small (ids s) = remain-all st now Small b.streams small in
    let settled : Settled (bridge sc now c.totals c.senders c.streams) =
    rw (decides.settings, decides.clock, decides.owns) at decides.decided in
    rw (
      decides.settings,
      decides.clock,
      decides.owns,
      totals-solved sc now c.totals c.senders s c.streams remaining few decides.streams refl settled,
      streams-solved sc now c.totals c.senders s c.streams remaining few decides.streams refl settled,
      decides.senders,
    )

-- and so one that is what an advance leaves by the rules is the one that advance leaves.
pub one-bridge : (now : ℕ) (b c : Bridge) → Rising (ids b.streams) → All Small (ids b.streams) → Advanced now b c → c ≡ settle now b
unfolding settle
one-bridge now b c r small advanced = advanced.left ∙ ap declaring (one-decided now b advanced.between r small advanced.decides)

-- The rules of settling have exactly one solution, and advance leaves it.
pub exactly-one : (now : ℕ) (b : Bridge) → Rising (ids b.streams) → All Small (ids b.streams) →
    Advanced now b (settle now b) × ((c : Bridge) → Advanced now b c → c ≡ settle now b)
exactly-one now b r small = (advanced now b r small, λ c a. one-bridge now b c r small a)
