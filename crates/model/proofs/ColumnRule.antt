-- What advance decides is what the rules of settling give, in their own terms: each column is the first step that applies,
-- with what is left computed from the columns of the more important streams; entries, latencies and Listeners follow from the
-- columns; each class total is the sum of what is reserved and at most its limit; and less important streams, or such as
-- reserve nothing, change none of it (01, "Settling").
use mathlib.Core.Path.{◌≡◌, refl, sym, ◌∙◌, ap}
use mathlib.Core.List.{List, [], ◌∷◌, ◌++◌, map}
use mathlib.Core.Bool.{Bool, true, false, cond, not, ◌&&◌, false≢true}
use Prim.Native.Nat.{ℕ, zero, suc, ◌+◌, ◌-◌, ◌^◌, ◌≤◌, ◌<◌}
use native.Mathlib.Omega.{arith}
use lib.ListN.{get_or, length}
use lib.Dec.{ltb, leb}
use Rattle.model.specs.Lists.{All, keep, tabulate}
use Rattle.model.specs.State.{Settings, is_port, TalkerType, talker_advertise, talker_failed, Column, advertise, failed, Entry, no_entry, filters, forwards, Declared, nothing, Result, Stream, Bridge, Class, no_class, class_a, class_b, same_class, supports, both_limits, in_force, port_at, cell_at, result_at, unsettled, Totals, no_totals}
use Rattle.model.specs.Registrations.{ids}
use Rattle.model.specs.Table.{at_most, any_held}
use Rattle.model.specs.Bandwidth.{Claim, key, above, sort, reserved, remains, admitted, total, taken}
use Rattle.model.specs.Settling.{Scene, scene_of, decide_owns, remain, Source, nowhere, from, source_of, is_source, fixed_of, talker_type_of, stream_class, registered, is_ready, is_advertise, Outcome, column_none, as_registered, own_failure, Step, first, clear, failed_column, outcome_column, steps, age_of, claim, claims, reserved_a, limit_on, left_for, by_bandwidth, column_of, latency_out, entry_of, age_kept, latency_kept, passed, merge_all, merged, decide_at, decide, total_on, totals_on, deciding, Inbound, inbounds_of, as_advertise, bandwidth_steps, outcome_of, step_a, steps_from, about}
use Rattle.model.proofs.Lists.{all_map, all_both, all-each, and_right, and-true, and-false}
use Rattle.model.proofs.StepNames.{every_step, every-all, not_admitted}
use Rattle.model.proofs.Valid.{Rising}
use Rattle.model.proofs.Admission.{Distinct, key-id, within, subtracted, total-is-sum, idle-above, idle-total}
pub use Rattle.model.proofs.Lists.{at_place}
pub use Rattle.model.proofs.AdvanceKeepsForm.{same_class_lem, remain-all, remain-rising}
use Rattle.model.proofs.AdvanceKeepsForm.{decided-ids, total_at_most}

-- The rule: what the columns of a port are, in terms of themselves.

-- whether a stream reserves on p in class c, where its column there is col: "Advertise streams of that class with Listener
-- Ready or Ready Failed on p"; "Only those reserve"
unfoldable pub reserves : Settings → ℕ → Class → Column → Stream → Bool
reserves st p c col x = (same_class (stream_class st x) c && is_advertise col) && is_ready (registered (cell_at x p))

-- the sum of the demands on p, in bits per second, of those streams that pass a test and reserve there in class c, where col
-- gives the column of each
unfoldable pub spent : Settings → ℕ → ℕ → Class → (Stream → Column) → (Claim → Bool) → List Stream → ℕ
spent st now p c col test [] = 0
spent st now p c col test (x ∷ s) =
    let d = claim st now p x in
    spent st now p c col test s + cond (test d && reserves st p c (col x) x) d.demand 0

-- all that is reserved on p in class c, where col gives the columns there
abbrev pub spent_in : Settings → ℕ → ℕ → (Stream → Column) → List Stream → Class → ℕ
spent_in st now p col s c = spent st now p c col (λ e. true) s

-- the limit in force on p: class B's is what class A leaves by these columns
unfoldable pub limit_by : Scene → ℕ → List Stream → ℕ → (Stream → Column) → Class → ℕ
limit_by sc now s p col c = in_force (port_at sc.settings p) (spent_in sc.settings now p col s class_a) c

-- "What is left is the limit less demands of more important Advertise streams of that class with Listener Ready or Ready Failed
-- on p"; the more important has the lower key
unfoldable pub left_by : Scene → ℕ → List Stream → ℕ → (Stream → Column) → Stream → ℕ
left_by sc now s p col x =
    let st = sc.settings in
    let c = stream_class st x in
    limit_by sc now s p col c - spent st now p c col (λ e. ltb (key e) (key (claim st now p x))) s

-- The column of x on p: the first of the steps a to i that applies, where col gives the columns on p
unfoldable pub ruled : Scene → ℕ → List Stream → ℕ → (Stream → Column) → Stream → Column
ruled sc now s p col x =
    let st = sc.settings in
    first (outcome_column st (source_of x)) (steps sc p x) (by_bandwidth st (claim st now p x).demand (left_by sc now s p col x))

-- The settled bridge: all that it shows is what the rules give, read off the bridge itself.

-- the column of a stream on p, as the bridge shows it
unfoldable pub column_at : ℕ → Stream → Column
column_at p x = (result_at x p).column

-- the total of a class on p, as the bridge shows it
unfoldable pub total_at : Bridge → ℕ → Class → ℕ
total_at b p no_class = 0
total_at b p class_a = (get_or b.totals p no_totals).total_a
total_at b p class_b = (get_or b.totals p no_totals).total_b

-- the stream x on the port at place p of the bridge b
pub record SettledAt (b : Bridge) (x : Stream) (p : ℕ) : Type 0 where
  -- "Its column on port p, first that applies", from the columns and ages that the bridge shows
  pub column : column_at p x ≡ ruled (scene_of b) b.clock b.streams p (column_at p) x
  -- "Latency out is latency in plus the class latency of p (0 without a class), at most 2^32 - 1"; with column none, 0
  pub latency : (result_at x p).latency ≡ latency_kept (column_at p x) (latency_out b.settings p x)
  -- Table 35-12: the entry for this column and the Listener registered on p
  pub entry : (result_at x p).entry ≡ entry_of (column_at p x) (registered (cell_at x p))
  -- "Merged on t": there the merge of what is passed on from every port, and none elsewhere
  pub declares : (result_at x p).declares
      ≡ cond (is_source (source_of x) p) (merge_all (tabulate 8 0 (λ q. passed (column_at q x) (registered (cell_at x q))))) nothing

pub record SettledStream (b : Bridge) (x : Stream) : Type 0 where
  -- the values registered on the Talker port, as they were taken then
  pub values : x.settled ≡ fixed_of (source_of x)
  -- there is room for eight ports; a place that is no port of this bridge has column none
  pub places : length x.results ≡ 8
  pub shows : (p : ℕ) → p < 8 → SettledAt b x p

pub record Settled (b : Bridge) : Type 0 where
  pub streams : All (SettledStream b) b.streams
  pub places : length b.totals ≡ 8
  -- "A port's class total is its reserved sum"
  pub totals : (p : ℕ) → p < 8 → (c : Class) → total_at b p c ≡ spent_in b.settings b.clock p (column_at p) b.streams c
  -- no class total is above its limit in force: "A's total stays within limit A,
  pub limits : (p : ℕ) → p < 8 → (c : Class) → total_at b p c ≤ in_force (port_at b.settings p) (total_at b p class_a) c
  -- and both totals together within the sum of limits"
  pub together : (p : ℕ) → p < 8 → total_at b p class_a + total_at b p class_b ≤ both_limits (port_at b.settings p)

-- what an advance to the time now carries over from a stream x to the stream y that it leaves
pub record Carried (now : ℕ) (x y : Stream) : Type 0 where
  pub id : y.id ≡ x.id
  pub cells : y.cells ≡ x.cells
  pub sends : y.sends ≡ x.sends
  -- "Age is counted from the whole second, clock / 100 rounded down, of the advance that first made an entry; it is forgotten
  -- when the entry goes"
  pub ages : (p : ℕ) → p < 8 → (result_at y p).age ≡ age_kept (result_at y p).entry (age_of now (result_at x p))

-- two lists, place by place
abbrev pub Pairwise : {A B : Type 0} → (A → B → Type 0) → List A → List B → Type 0
Pairwise R [] [] = Unit {0}
Pairwise R [] (y ∷ m) = ⊥
Pairwise R (x ∷ l) [] = ⊥
Pairwise R (x ∷ l) (y ∷ m) = R x y × Pairwise R l m

-- The bridge c is what an advance of b to the time now decides, before Lv! and Join!: "Advance sets the clock, removes every registration
-- leaving for at least the leave time .., then decides".
pub record Decides (now : ℕ) (b c : Bridge) : Type 0 where
  pub settings : c.settings ≡ b.settings
  pub clock : c.clock ≡ now
  pub owns : c.owns ≡ decide_owns b.settings now b.owns
  pub senders : c.senders ≡ b.senders
  pub streams : Pairwise (Carried now) (remain b.settings now b.streams) c.streams
  pub decided : Settled c

-- The first step that applies.

-- where none applies, what follows the steps decides
pub first-clear : (says : Outcome → Column) (l : List Step) (c : Column) → clear l ≡ true → first says l c ≡ c
unfolding first clear
first-clear says [] c h = refl
first-clear says (s ∷ l) c h = go s.test h (first-clear says l c)
  where
    go : (b : Bool) → (not b && clear l) ≡ true → (clear l ≡ true → first says l c ≡ c) → cond b (says (outcome_of s)) (first says l c) ≡ c
    go true h ih = absurd (false≢true h)
    go false h ih = ih h

-- where one applies, what follows does not matter
pub first-decided : (says : Outcome → Column) (l : List Step) (c d : Column) → clear l ≡ false → first says l c ≡ first says l d
unfolding first clear
first-decided says [] c d h = absurd (false≢true (sym h))
first-decided says (s ∷ l) c d h = go s.test h (first-decided says l c d)
  where
    go : (b : Bool) → (not b && clear l) ≡ false → (clear l ≡ false → first says l c ≡ first says l d)
        → cond b (says (outcome_of s)) (first says l c) ≡ cond b (says (outcome_of s)) (first says l d)
    go true h ih = refl
    go false h ih = ih h

-- no step before h gives Advertise
plain : (st : Settings) (s : Source) (o : Outcome) → not_admitted o ≡ true → is_advertise (outcome_column st s o) ≡ false
unfolding outcome_column is_advertise not_admitted
plain st s column_none n = refl
plain st s as_advertise n = absurd (false≢true n)
plain st s as_registered n = go (talker_type_of s)
  where
    go : (h : TalkerType) → is_advertise (failed_column h) ≡ false
    go h = unfold is_advertise failed_column in elim h as (λ k. is_advertise (failed_column k) ≡ false) [ talker_advertise ↦ refl | talker_failed b c ↦ refl ]
plain st s (own_failure code) n = refl

before-bandwidth : (sc : Scene) (p : ℕ) (x : Stream) → every_step (λ n. not_admitted (about n).outcome) (steps sc p x) ≡ true
unfolding steps
before-bandwidth sc p x = go (source_of x)
  where
    go : (o : Source)
        → every_step (λ n. not_admitted (about n).outcome)
        (record { name = step_a; test = not (is_port sc.settings p) } ∷ steps_from sc p (cell_at x p) x.id o)
        ≡ true
    go nowhere = unfold every_step not_admitted steps_from in refl
    go (from q) = unfold every_step not_admitted steps_from in refl

first-advertise : (says : Outcome → Column) → (l : List Step) → All (λ s. is_advertise (says (outcome_of s)) ≡ false) l → (c : Column) →
    is_advertise (first says l c) ≡ (clear l && is_advertise c)
unfolding first clear
first-advertise says [] a c = refl
first-advertise says (s ∷ l) a c = go s.test (first-advertise says l a.1 c)
  where
    go : (t : Bool) → is_advertise (first says l c) ≡ (clear l && is_advertise c)
        → is_advertise (cond t (says (outcome_of s)) (first says l c)) ≡ ((not t && clear l) && is_advertise c)
    go true h = a.0
    go false h = h

by-bandwidth : (st : Settings) (d l : ℕ) → is_advertise (by_bandwidth st d l) ≡ leb d l
unfolding by_bandwidth bandwidth_steps first outcome_column
by-bandwidth st d l = go (leb d l)
  where
    go : (t : Bool) → is_advertise (cond (not t) (failed st.bridge_id 1) advertise) ≡ t
    go true = unfold is_advertise in refl
    go false = unfold is_advertise in refl

-- a stream is Advertise where no step before bandwidth applies and its demand is not above what is left
pub advertised : (sc : Scene) (p : ℕ) (x : Stream) (d left : ℕ) →
    is_advertise (first (outcome_column sc.settings (source_of x)) (steps sc p x) (by_bandwidth sc.settings d left)) ≡ (clear (steps sc p x) && leb d left)
advertised sc p x d left =
    first-advertise (outcome_column sc.settings (source_of x)) (steps sc p x)
    (all_map _ _ (λ s. plain sc.settings (source_of x) (outcome_of s)) (steps sc p x) (every-all _ (steps sc p x) (before-bandwidth sc p x)))
    (by_bandwidth sc.settings d left)
    ∙ ap (λ (t : Bool). clear (steps sc p x) && t) (by-bandwidth sc.settings d left)

-- No two claims are equally important.

-- a StreamID has 64 bits
abbrev pub Small : ℕ → Type 0
Small i = i < 2 ^ 64

module _ (sc : Scene) (now : ℕ) where
  pub claims-all : (p : ℕ) (c : Class) (P : ℕ → Type 0) (s : List Stream) → All P (ids s) → All (λ d. P d.id) (claims sc now p c s)
  unfolding ids claims claim
  claims-all p c P [] a = tt
  claims-all p c P (x ∷ s) a = go (clear (steps sc p x) && same_class (stream_class sc.settings x) c) (claims-all p c P s a.1)
    where
      go : (t : Bool) → All (λ d. P d.id) (claims sc now p c s) → All (λ d. P d.id) (keep t (claim sc.settings now p x) (claims sc now p c s))
      go true ih = (a.0, ih)
      go false ih = ih

  pub claims-distinct : (p : ℕ) (c : Class) (s : List Stream) → Rising (ids s) → All Small (ids s) → Distinct (claims sc now p c s)
  unfolding ids claims Rising Distinct
  claims-distinct p c [] r a = tt
  claims-distinct p c (x ∷ s) r a =
      go (clear (steps sc p x) && same_class (stream_class sc.settings x) c) (claims-distinct p c s r.1 a.1)
    where
      other : All (λ d. key d ≡ key (claim sc.settings now p x) → ⊥) (claims sc now p c s)
      other =
          all_map (λ d. (x.id < d.id) × Small d.id) _
          (λ d h e. unfold claim in (omega (arith, key-id d (claim sc.settings now p x) h.1 a.0 e, h.0)))
          (claims sc now p c s)
          (claims-all p c (λ j. (x.id < j) × Small j) s (all_both _ _ (ids s) r.0 a.1))

      go : (t : Bool) → Distinct (claims sc now p c s) → Distinct (keep t (claim sc.settings now p x) (claims sc now p c s))
      go true ih = (other, ih)
      go false ih = ih

-- From streams to claims: what columns spend is what claims take, where the columns and the claims admitted agree.
module _ (sc : Scene) (now p : ℕ) (c : Class) (col : Stream → Column) (ok : Claim → Bool) where
  -- a stream of the class is Advertise where it reaches step h and its claim is admitted
  abbrev pub Agrees : Stream → Type 0
  Agrees x = (same_class (stream_class sc.settings x) c && is_advertise (col x)) ≡ ((clear (steps sc p x) && same_class (stream_class sc.settings x) c) && ok (claim sc.settings now p x))

  pub spent-above : (k : ℕ) (s : List Stream) → All Agrees s → spent sc.settings now p c col (λ e. ltb (key e) k) s ≡ taken ok (above k (claims sc now p c s))
  unfolding spent reserves claim claims above taken
  spent-above k [] a = refl
  spent-above k (x ∷ s) a = rw a.0 (go (clear (steps sc p x) && same_class (stream_class sc.settings x) c) (ltb (key d) k) refl (spent-above k s a.1))
    where
      d : Claim
      d = claim sc.settings now p x

      go : (t b : Bool) → ltb (key d) k ≡ b → spent sc.settings now p c col (λ e. ltb (key e) k) s ≡ taken ok (above k (claims sc now p c s)) →
          spent sc.settings now p c col (λ e. ltb (key e) k) s + cond (b && ((t && ok d) && d.ready)) d.demand 0
          ≡ taken ok (above k (keep t d (claims sc now p c s)))
      go true true e h = rw (e, h)
      go true false e h = rw e (omega arith)
      go false true e h = omega arith
      go false false e h = omega arith

  pub spent_all : (s : List Stream) → All Agrees s → spent sc.settings now p c col (λ e. true) s ≡ taken ok (claims sc now p c s)
  unfolding spent reserves claim claims taken
  spent_all [] a = refl
  spent_all (x ∷ s) a = rw a.0 (go (clear (steps sc p x) && same_class (stream_class sc.settings x) c) (spent_all s a.1))
    where
      d : Claim
      d = claim sc.settings now p x

      go : (t : Bool) → spent sc.settings now p c col (λ e. true) s ≡ taken ok (claims sc now p c s) →
          spent sc.settings now p c col (λ e. true) s + cond ((t && ok d) && d.ready) d.demand 0 ≡ taken ok (keep t d (claims sc now p c s))
      go true h = rw h
      go false h = omega arith

-- A's total is what class B's limit is less by
pub reserved-a : (sc : Scene) (now : ℕ) (s : List Stream) (p : ℕ) → reserved_a sc now s p ≡ total_on sc now s p class_a
unfolding reserved_a total_on limit_on in_force
reserved-a sc now s p = refl

module _ (sc : Scene) (now : ℕ) (s : List Stream) (p : ℕ) where
  pub column-agrees : (c : Class) (x : Stream) → Agrees sc now p c (column_of sc now s p) (admitted (limit_on sc now s p c) (claims sc now p c s)) x
  unfolding admitted left_for column_of
  column-agrees c x =
      rw (advertised sc p x (claim sc.settings now p x).demand (left_for sc now s p x)) (go (same_class (stream_class sc.settings x) c) refl)
    where
      go : (t : Bool) → same_class (stream_class sc.settings x) c ≡ t →
          (t && (clear (steps sc p x) && leb (claim sc.settings now p x).demand (left_for sc now s p x)))
          ≡ ((clear (steps sc p x) && t) && admitted (limit_on sc now s p c) (claims sc now p c s) (claim sc.settings now p x))
      go true e = rw (and-true (clear (steps sc p x)), ← same_class_lem (stream_class sc.settings x) c e)
      go false e = rw (and-false (clear (steps sc p x)))

  module _ (r : Rising (ids s)) (a : All Small (ids s)) where
    -- a port's class total is its reserved sum
    pub total-ruled : (c : Class) → total_on sc now s p c ≡ spent_in sc.settings now p (column_of sc now s p) s c
    unfolding total_on
    total-ruled c =
        sym (total-is-sum (limit_on sc now s p c) (claims sc now p c s) (claims-distinct sc now p c s r a))
        ∙ sym (spent_all sc now p c (column_of sc now s p) _ s (all-each _ (column-agrees c) s))

    limit-ruled : (c : Class) → limit_on sc now s p c ≡ limit_by sc now s p (column_of sc now s p) c
    unfolding limit_on limit_by
    limit-ruled c = ap (λ (n : ℕ). in_force (port_at sc.settings p) n c) (reserved-a sc now s p ∙ total-ruled class_a)

    -- the columns are those that the rule gives, in terms of the columns themselves
    pub columns-ruled : (x : Stream) → column_of sc now s p x ≡ ruled sc now s p (column_of sc now s p) x
    unfolding ruled left_by column_of left_for remains
    columns-ruled x =
        let c = stream_class sc.settings x in
        let k = key (claim sc.settings now p x) in
        rw (← limit-ruled c)
        (ap (λ (n : ℕ). first (outcome_column sc.settings (source_of x)) (steps sc p x) (by_bandwidth sc.settings (claim sc.settings now p x).demand (limit_on sc now s p c - n)))
        (sym (subtracted (limit_on sc now s p c) (claims sc now p c s) (claims-distinct sc now p c s r a) k)
        ∙ sym (spent-above sc now p c (column_of sc now s p) _ k s (all-each _ (column-agrees c) s))))

  -- no class total is above its limit in force
  pub total-within : (c : Class) → total_on sc now s p c ≤ limit_on sc now s p c
  unfolding total_on total
  total-within c = within (limit_on sc now s p c) (sort (claims sc now p c s))

  -- where the port does not support class A, its total is 0
  a-of-both : total_on sc now s p class_a ≤ both_limits (port_at sc.settings p)
  unfolding both_limits supports limit_on in_force at_most
  a-of-both = go (any_held s) (port_at sc.settings p).supports_a (total_at_most sc now p class_a s)
    where
      go : (some supported : Bool) → total_on sc now s p class_a ≤ cond (some && supported) (port_at sc.settings p).limit_a 0
          → total_on sc now s p class_a ≤ cond supported (port_at sc.settings p).limit_a 0 + (port_at sc.settings p).limit_b
      go true true h = omega arith
      go true false h = omega arith
      go false true h = omega arith
      go false false h = omega arith

  -- both totals are within the sum of the limits
  pub totals-together : total_on sc now s p class_a + total_on sc now s p class_b ≤ both_limits (port_at sc.settings p)
  totals-together =
      let b : total_on sc now s p class_b ≤ both_limits (port_at sc.settings p) - total_on sc now s p class_a =
      rw (← reserved-a sc now s p) (unfold limit_on in_force in (total-within class_b)) in
      omega (arith, a-of-both)

-- columns that agree on the streams spend the same
module _ (sc : Scene) (now p : ℕ) (col other : Stream → Column) where
  pub spent-same : (c : Class) (test : Claim → Bool) (s : List Stream) → All (λ x. col x ≡ other x) s → spent sc.settings now p c col test s ≡ spent sc.settings now p c other test s
  unfolding spent
  spent-same c test [] a = refl
  spent-same c test (x ∷ s) a = rw (a.0, spent-same c test s a.1)

  pub ruled-same : (s : List Stream) (x : Stream) → All (λ y. col y ≡ other y) s → ruled sc now s p col x ≡ ruled sc now s p other x
  unfolding ruled left_by limit_by
  ruled-same s x a =
      rw (spent-same class_a (λ e. true) s a, spent-same (stream_class sc.settings x) (λ e. ltb (key e) (key (claim sc.settings now p x))) s a)

-- streams with the same registrations go through the same steps; with the same age too, they have the same claim
module _ (sc : Scene) (now p : ℕ) (x y : Stream) (cells : x.cells ≡ y.cells) where
  same-steps : x.id ≡ y.id → steps sc p x ≡ steps sc p y
  unfolding steps cell_at source_of
  same-steps i = rw (i, cells)

  same_source : source_of x ≡ source_of y
  unfolding source_of
  same_source = rw cells

  same-stream-class : stream_class sc.settings x ≡ stream_class sc.settings y
  unfolding stream_class source_of
  same-stream-class = rw cells

  same-claim : x.id ≡ y.id → age_of now (result_at x p) ≡ age_of now (result_at y p) → claim sc.settings now p x ≡ claim sc.settings now p y
  unfolding claim cell_at source_of
  same-claim i age = rw (age, i, cells)

unfoldable has_entry : Entry → Bool
has_entry no_entry = false
has_entry filters = true
has_entry forwards = true

-- a stream whose column on p is decided by the steps, and whose entry by the column
pub record Shown (sc : Scene) (p : ℕ) (y : Stream) : Type 0 where
  pub demand : ℕ
  pub left : ℕ
  pub column : column_at p y ≡ first (outcome_column sc.settings (source_of y)) (steps sc p y) (by_bandwidth sc.settings demand left)
  pub entry : (result_at y p).entry ≡ entry_of (column_at p y) (registered (cell_at y p))

-- where such a stream reaches step h it has an entry and so keeps its age: its claim is the same before and after an advance
module _ (sc : Scene) (now p : ℕ) (here : p < 8) where
  entry-made : (demand left : ℕ) (d : Declared) → has_entry (entry_of (by_bandwidth sc.settings demand left) d) ≡ true
  unfolding by_bandwidth bandwidth_steps first outcome_column has_entry entry_of
  entry-made demand left d = go (not (leb demand left))
    where
      made : (r : Bool) → has_entry (cond r forwards filters) ≡ true
      made true = refl
      made false = refl

      go : (t : Bool) → has_entry (entry_of (cond t (failed sc.settings.bridge_id 1) advertise) d) ≡ true
      go true = refl
      go false = made (is_ready d)

  age-runs : (r : Result) (a : ℕ) → has_entry r.entry ≡ true → r.age ≡ age_kept r.entry a → age_of now r ≡ a
  unfolding age_of age_kept has_entry
  age-runs r a h e = go r.entry refl
    where
      go : (t : Entry) → r.entry ≡ t → age_of now r ≡ a
      go no_entry q = absurd (false≢true (rw q at h))
      go filters q = rw q (rw q at e)
      go forwards q = rw q (rw q at e)

  carried-claim : (x y : Stream) → Carried now x y → Shown sc p y → clear (steps sc p y) ≡ true → claim sc.settings now p y ≡ claim sc.settings now p x
  carried-claim x y carried shown free =
      same-claim sc now p y x carried.cells carried.id
      (age-runs (result_at y p) (age_of now (result_at x p)) made (carried.ages p here))
    where
      decided : column_at p y ≡ by_bandwidth sc.settings shown.demand shown.left
      decided = shown.column ∙ first-clear _ (steps sc p y) _ free

      made : has_entry (result_at y p).entry ≡ true
      made =
          ap has_entry (shown.entry ∙ ap (λ (z : Column). entry_of z (registered (cell_at y p))) decided)
          ∙ entry-made shown.demand shown.left (registered (cell_at y p))

  carried-claims : (c : Class) (s t : List Stream) → Pairwise (Carried now) s t → All (Shown sc p) t → claims sc now p c t ≡ claims sc now p c s
  unfolding claims
  carried-claims c [] [] w a = refl
  carried-claims c [] (y ∷ t) w a = absurd w
  carried-claims c (x ∷ s) [] w a = absurd w
  carried-claims c (x ∷ s) (y ∷ t) w a =
      rw (same-stream-class sc now p y x w.0.cells) (go (clear (steps sc p y)) refl (same_class (stream_class sc.settings x) c) (carried-claims c s t w.1 a.1))
    where
      go : (b : Bool) → clear (steps sc p y) ≡ b → (k : Bool) → claims sc now p c t ≡ claims sc now p c s →
          keep (clear (steps sc p y) && k) (claim sc.settings now p y) (claims sc now p c t) ≡ keep (clear (steps sc p x) && k) (claim sc.settings now p x) (claims sc now p c s)
      go true e k ih = rw (carried-claim x y w.0 a.0 e, same-steps sc now p y x w.0.cells w.0.id, ih)
      go false e k ih = rw (← same-steps sc now p y x w.0.cells w.0.id, e) ih

  module _ (s t : List Stream) (carried : Pairwise (Carried now) s t) (shown : All (Shown sc p) t) where
    carried-limit : (c : Class) → limit_on sc now t p c ≡ limit_on sc now s p c
    unfolding limit_on reserved_a
    carried-limit c = rw (carried-claims class_a s t carried shown)

    pub carried-total : (c : Class) → total_on sc now t p c ≡ total_on sc now s p c
    unfolding total_on
    carried-total c = rw (carried-limit c, carried-claims c s t carried shown)

    -- decided again from what the advance left, a column is the same
    pub carried-column : (x y : Stream) → Carried now x y → Shown sc p y → column_of sc now t p y ≡ column_of sc now s p x
    unfolding column_of left_for
    carried-column x y w z = go (clear (steps sc p y)) refl
      where
        go : (b : Bool) → clear (steps sc p y) ≡ b → column_of sc now t p y ≡ column_of sc now s p x
        go true e =
            let c = stream_class sc.settings x in
            rw (
              same-stream-class sc now p y x w.cells,
              carried-limit c,
              carried-claims c s t carried shown,
              carried-claim x y w z e,
              same-steps sc now p y x w.cells w.id,
              same_source sc now p y x w.cells,
            )
        go false e =
            first-decided _ (steps sc p y) _ (by_bandwidth sc.settings (claim sc.settings now p x).demand (left_for sc now s p x)) e
            ∙ rw (same-steps sc now p y x w.cells w.id, same_source sc now p y x w.cells)

-- streams that an advance carried over come in as they did
pub carried-inbound : (now : ℕ) (s t : List Stream) → Pairwise (Carried now) s t → inbounds_of t ≡ inbounds_of s
unfolding inbounds_of source_of
carried-inbound now [] [] w = refl
carried-inbound now [] (y ∷ t) w = absurd w
carried-inbound now (x ∷ s) [] w = absurd w
carried-inbound now (x ∷ s) (y ∷ t) w = rw (w.0.id, w.0.cells, carried-inbound now s t w.1)

pub tabulate-same : {A : Type 0} (f g : ℕ → A) (n p : ℕ) → ((q : ℕ) → p ≤ q → q < p + n → f q ≡ g q) → tabulate n p f ≡ tabulate n p g
unfolding tabulate
tabulate-same f g zero p h = refl
tabulate-same f g (suc n) p h = rw (h p (omega arith) (omega arith), tabulate-same f g n (suc p) (λ q a b. h q (omega arith) (omega arith)))

pub all-image : {A B : Type 0} (P : B → Type 0) (f : A → B) → ((x : A) → P (f x)) → (l : List A) → All P (map f l)
all-image P f h [] = tt
all-image P f h (x ∷ l) = (h x, all-image P f h l)

pairwise_image : {A B : Type 0} (R : A → B → Type 0) (f : A → B) → ((x : A) → R x (f x)) → (l : List A) → Pairwise R l (map f l)
pairwise_image R f h [] = tt
pairwise_image R f h (x ∷ l) = (h x, pairwise_image R f h l)

-- What is decided over the streams s is what the rules give over the streams that are left.
module _ (sc : Scene) (now : ℕ) (s : List Stream) where
  decided-at : (x : Stream) (p : ℕ) → p < 8 → result_at (decide sc now s x) p ≡ decide_at sc now s x p
  unfolding decide result_at
  decided-at x p h = at_place (decide_at sc now s x) p unsettled h

  decide-carries : (x : Stream) → Carried now x (decide sc now s x)
  unfolding decide decide_at
  decide-carries x = record { id = refl; cells = refl; sends = refl; ages = λ p h. rw (decided-at x p h) }

  decided-column : (x : Stream) (p : ℕ) → p < 8 → column_at p (decide sc now s x) ≡ column_of sc now s p x
  unfolding column_at decide_at
  decided-column x p h = ap (λ (r : Result). r.column) (decided-at x p h)

  decided-entry : (x : Stream) (p : ℕ) → p < 8 →
      (result_at (decide sc now s x) p).entry ≡ entry_of (column_at p (decide sc now s x)) (registered (cell_at (decide sc now s x) p))
  unfolding decide_at cell_at decide
  decided-entry x p h =
      ap (λ (r : Result). r.entry) (decided-at x p h)
      ∙ ap (λ (c : Column). entry_of c (registered (cell_at x p))) (sym (decided-column x p h))

  decide-shows : (p : ℕ) → p < 8 → (x : Stream) → Shown sc p (decide sc now s x)
  unfolding column_of cell_at steps source_of decide
  decide-shows p h x = record {
    demand = (claim sc.settings now p x).demand;
    left = left_for sc now s p x;
    column = decided-column x p h;
    entry = decided-entry x p h;
  }

  decided : List Stream
  decided = map (decide sc now s) s

  carries : Pairwise (Carried now) s decided
  unfolding decided
  carries = pairwise_image (Carried now) (decide sc now s) decide-carries s

  module _ (p : ℕ) (here : p < 8) where
    shows : All (Shown sc p) decided
    unfolding decided
    shows = all-image (Shown sc p) (decide sc now s) (decide-shows p here) s

    again : (x : Stream) → column_of sc now decided p (decide sc now s x) ≡ column_at p (decide sc now s x)
    again x =
        carried-column sc now p here s decided carries shows x (decide sc now s x) (decide-carries x) (decide-shows p here x)
        ∙ sym (decided-column x p here)

    all-again : All (λ y. column_of sc now decided p y ≡ column_at p y) decided
    unfolding decided
    all-again = all-image (λ y. column_of sc now decided p y ≡ column_at p y) (decide sc now s) again s

    module _ (r : Rising (ids s)) (a : All Small (ids s)) where
      decided-rising : Rising (ids decided)
      unfolding decided
      decided-rising = rw (decided-ids sc now s s) r

      decided-small : All Small (ids decided)
      unfolding decided
      decided-small = rw (decided-ids sc now s s) a

      decided-ruled : (x : Stream) → column_at p (decide sc now s x) ≡ ruled sc now decided p (column_at p) (decide sc now s x)
      decided-ruled x =
          sym (again x)
          ∙ columns-ruled sc now decided p decided-rising decided-small (decide sc now s x)
          ∙ ruled-same sc now p (column_of sc now decided p) (column_at p) decided (decide sc now s x) all-again

      decided-total : (c : Class) → total_on sc now s p c ≡ spent_in sc.settings now p (column_at p) decided c
      decided-total c =
          sym (carried-total sc now p here s decided carries shows c)
          ∙ total-ruled sc now decided p decided-rising decided-small c
          ∙ spent-same sc now p (column_of sc now decided p) (column_at p) c (λ e. true) decided all-again

    decided-latency : (x : Stream) →
        (result_at (decide sc now s x) p).latency ≡ latency_kept (column_at p (decide sc now s x)) (latency_out sc.settings p (decide sc now s x))
    unfolding decide_at latency_out stream_class source_of decide
    decided-latency x =
        ap (λ (r : Result). r.latency) (decided-at x p here)
        ∙ ap (λ (c : Column). latency_kept c (latency_out sc.settings p x)) (sym (decided-column x p here))

    decided-declares : (x : Stream) → (result_at (decide sc now s x) p).declares
        ≡ cond (is_source (source_of (decide sc now s x)) p)
        (merge_all (tabulate 8 0 (λ q. passed (column_at q (decide sc now s x)) (registered (cell_at (decide sc now s x) q))))) nothing
    unfolding decide_at merged source_of cell_at decide
    decided-declares x =
        ap (λ (r : Result). r.declares) (decided-at x p here)
        ∙ ap (λ (l : List Declared). cond (is_source (source_of x) p) (merge_all l) nothing)
        (tabulate-same (λ q. passed (column_of sc now s q x) (registered (cell_at x q)))
        (λ q. passed (column_at q (decide sc now s x)) (registered (cell_at x q))) 8 0
        (λ q l h. ap (λ (c : Column). passed c (registered (cell_at x q))) (sym (decided-column x q h))))

module _ (now : ℕ) (b : Bridge) where
  remaining : List Stream
  remaining = remain b.settings now b.streams

  abbrev scene_with : List Inbound → Scene
  scene_with l = record { settings = b.settings; owns = decide_owns b.settings now b.owns; inbound = l }

  abbrev there : Scene
  there = scene_with (inbounds_of remaining)

  settled-scene : scene_of (deciding now b) ≡ there
  unfolding deciding remaining decided
  settled-scene = ap scene_with (carried-inbound now remaining (decided there now remaining) (carries there now remaining))

  -- the totals that the settled bridge holds are those decided
  total_kept : (p : ℕ) → p < 8 → (c : Class) → total_at (deciding now b) p c ≡ total_on there now remaining p c
  unfolding deciding total_at totals_on limit_on in_force remaining
  total_kept p h no_class = omega (arith, total-within there now remaining p no_class)
  total_kept p h class_a = ap (λ (t : Totals). t.total_a) (at_place (totals_on there now remaining) p no_totals h)
  total_kept p h class_b = ap (λ (t : Totals). t.total_b) (at_place (totals_on there now remaining) p no_totals h)

  limits-kept : (p : ℕ) → p < 8 → (c : Class) → total_at (deciding now b) p c ≤ in_force (port_at b.settings p) (total_at (deciding now b) p class_a) c
  limits-kept p h c =
      rw (total_kept p h c, total_kept p h class_a, ← reserved-a there now remaining p)
      (unfold limit_on deciding in (total-within there now remaining p c))

  together-kept : (p : ℕ) → p < 8 → total_at (deciding now b) p class_a + total_at (deciding now b) p class_b ≤ both_limits (port_at b.settings p)
  together-kept p h = rw (total_kept p h class_a, total_kept p h class_b) (unfold deciding in (totals-together there now remaining p))

  module _ (r : Rising (ids b.streams)) (a : All Small (ids b.streams)) where
    risen : Rising (ids remaining)
    unfolding remaining
    risen = remain-rising b.settings now b.streams r

    small : All Small (ids remaining)
    unfolding remaining
    small = remain-all b.settings now Small b.streams a

    settled-stream : (x : Stream) → SettledStream (deciding now b) (decide there now remaining x)
    unfolding deciding remaining decided decide tabulate source_of
    settled-stream x = record {
      values = refl;
      places = refl;
      shows = λ p h. record {
        column =
            decided-ruled there now remaining p h risen small x
            ∙ ap (λ (sc : Scene). ruled sc now (decided there now remaining) p (column_at p) (decide there now remaining x)) (sym settled-scene);
        latency = decided-latency there now remaining p h x;
        entry = decided-entry there now remaining x p h;
        declares = decided-declares there now remaining p h x;
      };
    }

    -- All that it shows then is what the rules give,
    pub settled : Settled (deciding now b)
    unfolding deciding remaining decided tabulate
    settled = record {
      streams = all-image (SettledStream (deciding now b)) (decide there now remaining) settled-stream remaining;
      places = refl;
      totals = λ p h c. total_kept p h c ∙ decided-total there now remaining p h risen small c;
      limits = limits-kept;
      together = together-kept;
    }

    -- and so it is what an advance decides.
    pub decides : Decides now b (deciding now b)
    unfolding deciding remaining decided
    decides = record {
      settings = refl;
      clock = refl;
      owns = refl;
      senders = refl;
      streams = carries there now remaining;
      decided = settled;
    }

-- A stream that reserves nothing on p, because it is refused or has no ready Listener there, changes no column and no class
-- total on p: all is as if it were not held.
module _ (sc : Scene) (now p : ℕ) where
  pub claims-append : (c : Class) (s t : List Stream) → claims sc now p c (s ++ t) ≡ claims sc now p c s ++ claims sc now p c t
  unfolding claims
  claims-append c [] t = refl
  claims-append c (x ∷ s) t = go (clear (steps sc p x) && same_class (stream_class sc.settings x) c) (claims-append c s t)
    where
      go : (b : Bool) → claims sc now p c (s ++ t) ≡ claims sc now p c s ++ claims sc now p c t →
          keep b (claim sc.settings now p x) (claims sc now p c (s ++ t)) ≡ keep b (claim sc.settings now p x) (claims sc now p c s) ++ claims sc now p c t
      go true ih = ap (λ (l : List Claim). claim sc.settings now p x ∷ l) ih
      go false ih = ih

  module _ (s t : List Stream) (x : Stream) (r : Rising (ids (s ++ x ∷ t))) (a : All Small (ids (s ++ x ∷ t)))
      (idle : (is_advertise (column_of sc now (s ++ x ∷ t) p x) && is_ready (registered (cell_at x p))) ≡ false) where
    module _ (c : Class) where
      abbrev d : Claim
      d = claim sc.settings now p x

      abbrev earlier : List Claim
      earlier = claims sc now p c s

      abbrev later : List Claim
      later = claims sc now p c t

      abbrev all-claims : List Claim
      all-claims = claims sc now p c (s ++ x ∷ t)

      abbrev limit-in-force : ℕ
      limit-in-force = limit_on sc now (s ++ x ∷ t) p c

      takes-nothing : (clear (steps sc p x) && same_class (stream_class sc.settings x) c) ≡ true →
          (admitted limit-in-force all-claims d && d.ready) ≡ false
      unfolding claim
      takes-nothing e =
          let k : is_advertise (column_of sc now (s ++ x ∷ t) p x) ≡ admitted limit-in-force all-claims d =
          rw (e, and_right (clear (steps sc p x)) (same_class (stream_class sc.settings x) c) e) at (column-agrees sc now (s ++ x ∷ t) p c x) in
          rw (← k) idle

      dropped : (f : List Claim → ℕ) →
          (Distinct (earlier ++ d ∷ later) → (admitted limit-in-force (earlier ++ d ∷ later) d && d.ready) ≡ false → f (earlier ++ d ∷ later) ≡ f (earlier ++ later)) →
          f all-claims ≡ f (claims sc now p c (s ++ t))
      unfolding claims
      dropped f h = go (clear (steps sc p x) && same_class (stream_class sc.settings x) c) refl ∙ ap f (sym (claims-append c s t))
        where
          go : (b : Bool) → (clear (steps sc p x) && same_class (stream_class sc.settings x) c) ≡ b → f all-claims ≡ f (earlier ++ later)
          go true e =
              let split : all-claims ≡ earlier ++ d ∷ later = claims-append c s (x ∷ t) ∙ rw e in
              ap f split ∙ h (rw split at (claims-distinct sc now p c (s ++ x ∷ t) r a)) (rw split at (takes-nothing e))
          go false e = ap f (claims-append c s (x ∷ t) ∙ rw e)

    without-idle-claims : (c : Class) → total (limit-in-force c) (all-claims c) ≡ total (limit-in-force c) (claims sc now p c (s ++ t))
    without-idle-claims c = dropped c (total (limit-in-force c)) (idle-total (limit-in-force c) (earlier c) (later c) (d c))

    without-idle-limit : (c : Class) → limit-in-force c ≡ limit_on sc now (s ++ t) p c
    unfolding limit_on reserved_a in_force
    without-idle-limit c = ap (λ (n : ℕ). in_force (port_at sc.settings p) n c) (without-idle-claims class_a)

    pub without-idle-total : (c : Class) → total_on sc now (s ++ x ∷ t) p c ≡ total_on sc now (s ++ t) p c
    unfolding total_on
    without-idle-total c = rw (← without-idle-limit c) (without-idle-claims c)

    pub without-idle-column : (y : Stream) → column_of sc now (s ++ x ∷ t) p y ≡ column_of sc now (s ++ t) p y
    unfolding column_of left_for remains
    without-idle-column y =
        let c = stream_class sc.settings y in
        let k = key (claim sc.settings now p y) in
        rw (← without-idle-limit c) (ap (λ (n : ℕ). first (outcome_column sc.settings (source_of y)) (steps sc p y) (by_bandwidth sc.settings (claim sc.settings now p y).demand (limit-in-force c - n)))
        (dropped c (λ cs. reserved (limit-in-force c) (sort (above k cs)))
        (λ distinct idle. idle-above (limit-in-force c) (earlier c) (later c) (d c) distinct idle k)))
