-- What why lists (02, ix): "the listed demands are exactly those that were subtracted", of streams that are held, each once, the most
-- important first.
use mathlib.Core.Path.{◌≡◌, refl, sym, ap, ◌∙◌}
use mathlib.Core.Logic.Iff
use mathlib.Core.Logic.{◌↔◌, ◌⊎◌, inl, inr}
use mathlib.Core.List.Memᴰ
use mathlib.Core.List.{List, [], ◌∷◌, ◌++◌, Memᴰ}
use mathlib.Core.Bool.{Bool, true, false, cond, ◌&&◌, false≢true}
use Prim.Native.Nat.{ℕ, suc, ◌+◌, ◌-◌, ◌^◌, ◌≤◌, ◌<◌}
use native.Mathlib.Omega.{arith}
use lib.ListN.{length, length-append}
use lib.Dec.{ltb, leb}
use borrow.Author.Tests.{lt-ltb, ltb-true}
use Rattle.model.specs.Lists.{All, keep}
use Rattle.model.specs.State.{Column, none, advertise, failed, Stream, Bridge, unsettled, Class, same_class, cell_at, result_at}
use Rattle.model.specs.Registrations.{ids}
use Rattle.model.specs.Bandwidth.{Claim, more_important, key, above, insert, sort, share, reserved, remains, admitted}
use Rattle.model.specs.Settling.{Scene, age_of, stream_class, registered, is_ready, is_advertise, step_h, clear, steps, claim, claims, limit_on, left_for, column_of}
use Rattle.model.specs.Why.{step_on, reserving, listed, reason_on}
use Rattle.model.proofs.Lists.{all_append, all_keep, all_map, all_get_or, all_in, mem-keep, and_left, and_right, and_both}
use Rattle.model.proofs.Valid.{Rising, ValidResult, ValidStream, Valid}
use Rattle.model.proofs.AdvanceKeepsForm.{age-valid, unsettled-valid}
use Rattle.model.proofs.Admission.{Distinct, Falls, Two, lo, hi, two, Cut, cut, above_in, above-out, above-sort, all-sort, all_above, all-mem, mem-sort, falls-sort, within}
use Rattle.model.proofs.ColumnRule.{Small, claims-distinct, column-agrees}
use Rattle.model.proofs.Importance.{importance}
use Rattle.model.proofs.Why.{step-decides, told-h}

-- Which they are.

-- the claims that are more important than a key, in any order
pub mem-above : (k : ℕ) (c : Claim) (l : List Claim) → Memᴰ c (above k l) ↔ (Memᴰ c l × (key c < k))
unfolding above
mem-above k c [] = (λ m. absurd (Memᴰ.not-nil m), λ a. a.0)
mem-above k c (d ∷ l) = Iff.trans (mem-keep (ltb (key d) k) c d (above k l)) (go (mem-above k c l))
  where
    go : Memᴰ c (above k l) ↔ (Memᴰ c l × (key c < k))
        → (((ltb (key d) k ≡ true) × (c ≡ d)) ⊎ Memᴰ c (above k l)) ↔ (Memᴰ c (d ∷ l) × (key c < k))
    go ih = (there, λ a. back (Memᴰ.cases_cons a.0) a.1)
      where
        there : ((ltb (key d) k ≡ true) × (c ≡ d)) ⊎ Memᴰ c (above k l) → Memᴰ c (d ∷ l) × (key c < k)
        there (inl a) = (Memᴰ.head a.1, rw a.1 (ltb-true (key d) k a.0))
        there (inr m) = (Memᴰ.tail (ih.0 m).0, (ih.0 m).1)

        back : (c ≡ d) ⊎ Memᴰ c l → key c < k → ((ltb (key d) k ≡ true) × (c ≡ d)) ⊎ Memᴰ c (above k l)
        back (inl e) h = inl (lt-ltb (key d) k (rw e at h), e)
        back (inr m) h = inr (ih.1 (m, h))

mem-sorted : (c : Claim) (l : List Claim) → Memᴰ c (sort l) ↔ Memᴰ c l
mem-sorted c l = (λ m. all-mem (λ d. Memᴰ d l) m (all-sort (λ d. Memᴰ d l) l (all_in l)), mem-sort c l)

-- a claim reserves where it is ready and fits in what the more important of m leave
abbrev takes : ℕ → List Claim → Claim → Bool
takes limit m c = leb c.demand (limit - reserved limit (above (key c) m)) && c.ready

mem-reserving : (limit : ℕ) (c : Claim) (m l : List Claim) → Cut m l → Memᴰ c (reserving limit l) ↔ (Memᴰ c l × (takes limit m c ≡ true))
unfolding reserving Cut
mem-reserving limit c m [] h = (λ k. absurd (Memᴰ.not-nil k), λ a. a.0)
mem-reserving limit c m (d ∷ l) h = go (mem-reserving limit c m l h.1)
  where
    test : Bool
    test = leb d.demand (limit - reserved limit l) && d.ready

    its_own : c ≡ d → takes limit m c ≡ test
    its_own e = rw (e, h.0)

    go : Memᴰ c (reserving limit l) ↔ (Memᴰ c l × (takes limit m c ≡ true))
        → Memᴰ c (reserving limit l ++ keep test d []) ↔ (Memᴰ c (d ∷ l) × (takes limit m c ≡ true))
    go ih = (λ k. there (Memᴰ.append_cases (reserving limit l) k), λ a. back (Memᴰ.cases_cons a.0) a.1)
      where
        last : ((test ≡ true) × (c ≡ d)) ⊎ Memᴰ c [] → Memᴰ c (d ∷ l) × (takes limit m c ≡ true)
        last (inl a) = (Memᴰ.head a.1, its_own a.1 ∙ a.0)
        last (inr k) = absurd (Memᴰ.not-nil k)

        there : Memᴰ c (reserving limit l) ⊎ Memᴰ c (keep test d []) → Memᴰ c (d ∷ l) × (takes limit m c ≡ true)
        there (inl k) = (Memᴰ.tail (ih.0 k).0, (ih.0 k).1)
        there (inr k) = last ((mem-keep test c d []).0 k)

        back : (c ≡ d) ⊎ Memᴰ c l → takes limit m c ≡ true → Memᴰ c (reserving limit l ++ keep test d [])
        back (inl e) t = Memᴰ.append_right (reserving limit l) ((mem-keep test c d []).1 (inl (sym (its_own e) ∙ t, e)))
        back (inr k) t = Memᴰ.append_left (keep test d []) (ih.1 (k, t))

-- of the claims more important than a key those are listed that are admitted and ready
reserving-exactly : (limit : ℕ) (cs : List Claim) → Distinct cs → (k : ℕ) (c : Claim) →
    Memᴰ c (reserving limit (sort (above k cs))) ↔ ((Memᴰ c cs × (key c < k)) × ((admitted limit cs c && c.ready) ≡ true))
unfolding admitted remains
reserving-exactly limit cs n k c =
    rw (← above-sort k cs, ← above-sort (key c) cs)
    (Iff.trans (mem-reserving limit c (sort cs) (above k (sort cs)) (cut limit cs n k))
    (Iff.and (Iff.trans (mem-above k c (sort cs)) (Iff.and (mem-sorted c cs) Iff.rfl)) Iff.rfl))

-- the claims are those of the streams of the class that reach step h
module _ (sc : Scene) (now p : ℕ) (c : Class) where
  abbrev pub reaches : Stream → Bool
  reaches y = clear (steps sc p y) && same_class (stream_class sc.settings y) c

  abbrev pub Made : List Stream → Claim → Type 0
  Made s d = (y : Stream) × Memᴰ y s × (reaches y ≡ true) × (d ≡ claim sc.settings now p y)

  pub mem-claims : (d : Claim) (s : List Stream) → Memᴰ d (claims sc now p c s) ↔ Made s d
  unfolding claims
  mem-claims d [] = (λ m. absurd (Memᴰ.not-nil m), λ a. absurd (Memᴰ.not-nil a.1))
  mem-claims d (x ∷ s) = Iff.trans (mem-keep (reaches x) d (claim sc.settings now p x) (claims sc now p c s)) (go (mem-claims d s))
    where
      go : Memᴰ d (claims sc now p c s) ↔ Made s d
          → (((reaches x ≡ true) × (d ≡ claim sc.settings now p x)) ⊎ Memᴰ d (claims sc now p c s)) ↔ Made (x ∷ s) d
      go ih = (there, λ a. back a.0 (Memᴰ.cases_cons a.1) a.2 a.3)
        where
          there : ((reaches x ≡ true) × (d ≡ claim sc.settings now p x)) ⊎ Memᴰ d (claims sc now p c s) → Made (x ∷ s) d
          there (inl a) = (x, Memᴰ.head refl, a.0, a.1)
          there (inr m) = let w = ih.0 m in (w.0, Memᴰ.tail w.1, w.2, w.3)

          back : (y : Stream) → (y ≡ x) ⊎ Memᴰ y s → reaches y ≡ true → d ≡ claim sc.settings now p y
              → ((reaches x ≡ true) × (d ≡ claim sc.settings now p x)) ⊎ Memᴰ d (claims sc now p c s)
          back y (inl e) r q = inl (rw (← e) r, rw (← e) q)
          back y (inr m) r q = inr (ih.1 (y, m, r, q))

-- What was subtracted for the stream x on the port at place p: "demands of more important Advertise streams of that class with
-- Listener Ready or Ready Failed on p".
pub record Subtracted (sc : Scene) (now : ℕ) (s : List Stream) (p : ℕ) (x y : Stream) : Type 0 where
  pub important : more_important (claim sc.settings now p y) (claim sc.settings now p x) ≡ true
  pub class : same_class (stream_class sc.settings y) (stream_class sc.settings x) ≡ true
  pub column : column_of sc now s p y ≡ advertise
  pub listener : is_ready (registered (cell_at y p)) ≡ true

-- an age counts from a second of 32 bits
abbrev pub Young : ℕ → ℕ → Stream → Type 0
Young now p y = age_of now (result_at y p) < 2 ^ 32

is-advertise : (c : Column) → is_advertise c ≡ true → c ≡ advertise
unfolding is_advertise
is-advertise none e = absurd (false≢true e)
is-advertise advertise e = refl
is-advertise (failed b c) e = absurd (false≢true e)

-- no two streams have one StreamID
same-stream : (s : List Stream) → Rising (ids s) → (x y : Stream) → Memᴰ x s → Memᴰ y s → x.id ≡ y.id → x ≡ y
unfolding ids Rising
same-stream [] r x y m n e = absurd (Memᴰ.not-nil m)
same-stream (z ∷ s) r x y m n e = go (Memᴰ.cases_cons m) (Memᴰ.cases_cons n) (same-stream s r.1 x y)
  where
    later : (w : Stream) → Memᴰ w s → z.id < w.id
    later w k = all-mem (λ j. z.id < j) (Memᴰ.map (λ (v : Stream). v.id) k) r.0

    go : (x ≡ z) ⊎ Memᴰ x s → (y ≡ z) ⊎ Memᴰ y s → (Memᴰ x s → Memᴰ y s → x.id ≡ y.id → x ≡ y) → x ≡ y
    go (inl a) (inl b) ih = a ∙ sym b
    go (inl a) (inr b) ih = absurd (omega (arith, later y b, e, ap (λ (v : Stream). v.id) a))
    go (inr a) (inl b) ih = absurd (omega (arith, later x a, e, ap (λ (v : Stream). v.id) b))
    go (inr a) (inr b) ih = ih a b e

-- A stream x that is held, where StreamIDs have 64 bits and rise, and ages count from seconds of 32 bits.
module _ (sc : Scene) (now : ℕ) (s : List Stream) (p : ℕ) (x : Stream) (held : Memᴰ x s)
    (r : Rising (ids s)) (a : All Small (ids s)) (young : All (Young now p) s) where
  abbrev pub its : Stream → Claim
  its y = claim sc.settings now p y

  abbrev class-of : Class
  class-of = stream_class sc.settings x

  abbrev in-force : ℕ
  in-force = limit_on sc now s p class-of

  abbrev all-claims : List Claim
  all-claims = claims sc now p class-of s

  -- the more important has the lower key
  pub more-important : (y : Stream) → Memᴰ y s → more_important (its y) (its x) ≡ ltb (key (its y)) (key (its x))
  unfolding ids claim
  more-important y m =
      importance (its y) (its x) (all-mem (Young now p) m young) (all-mem (Young now p) held young)
      (all-mem Small (Memᴰ.map (λ (z : Stream). z.id) m) a) (all-mem Small (Memᴰ.map (λ (z : Stream). z.id) held) a)

  -- a claim that is admitted and ready is that of a stream whose demand was subtracted
  admitted-subtracted : (y : Stream) → Memᴰ y s → key (its y) < key (its x) → reaches sc now p class-of y ≡ true
      → (admitted in-force all-claims (its y) && (its y).ready) ≡ true → Subtracted sc now s p x y
  unfolding claim
  admitted-subtracted y m i h t =
      let ok = admitted in-force all-claims (its y) in
      let shown : (same_class (stream_class sc.settings y) class-of && is_advertise (column_of sc now s p y)) ≡ true =
      column-agrees sc now s p class-of y ∙ and_both (reaches sc now p class-of y) ok h (and_left ok _ t) in
      record {
        important = more-important y m ∙ lt-ltb (key (its y)) (key (its x)) i;
        class = and_left _ _ shown;
        column = is-advertise (column_of sc now s p y) (and_right (same_class (stream_class sc.settings y) class-of) _ shown);
        listener = and_right ok _ t;
      }

  -- nothing is made up: what is listed is the claim of such a stream
  pub listed-held : (d : Claim) → Memᴰ d (listed sc now s p x) → (y : Stream) × Memᴰ y s × (d ≡ its y) × Subtracted sc now s p x y
  unfolding listed
  listed-held d m =
      let w = (reserving-exactly in-force all-claims (claims-distinct sc now p class-of s r a) (key (its x)) d).0 m in
      let c = (mem-claims sc now p class-of d s).0 w.0.0 in
      (c.0, c.1, c.3, admitted-subtracted c.0 c.1 (rw c.3 at w.0.1) c.2 (rw c.3 at w.1))

  subtracted-listed : (y : Stream) → Memᴰ y s → Subtracted sc now s p x y → Memᴰ (its y) (listed sc now s p x)
  unfolding listed claim
  subtracted-listed y m w =
      let advertised : is_advertise (column_of sc now s p y) ≡ true = rw w.column (unfold is_advertise in refl) in
      let t : (reaches sc now p class-of y && admitted in-force all-claims (its y)) ≡ true =
      sym (column-agrees sc now s p class-of y) ∙ and_both _ _ w.class advertised in
      let lower : key (its y) < key (its x) = ltb-true _ _ (sym (more-important y m) ∙ w.important) in
      (reserving-exactly in-force all-claims (claims-distinct sc now p class-of s r a) (key (its x)) (its y)).1
      (((mem-claims sc now p class-of (its y) s).1 (y, m, and_left _ _ t, refl), lower), and_both _ _ (and_right (reaches sc now p class-of y) _ t) w.listener)

  -- The claim of a stream is listed exactly where its demand was subtracted.
  pub listed-exactly : (y : Stream) → Memᴰ y s → Memᴰ (its y) (listed sc now s p x) ↔ Subtracted sc now s p x y
  listed-exactly y m = (there, subtracted-listed y m)
    where
      there : Memᴰ (its y) (listed sc now s p x) → Subtracted sc now s p x y
      there k =
          let w = listed-held (its y) k in
          let e : y ≡ w.0 = same-stream s r y w.0 m w.1 (unfold claim in (ap (λ (d : Claim). d.id) w.2)) in
          rw e w.3

-- a valid bridge gives these ages, at any time that is not before its clock
pub later-young : (b : Bridge) → Valid b → (now : ℕ) → b.clock ≤ now → now < 2 ^ 32 → (p : ℕ) → All (Young now p) b.streams
unfolding result_at
later-young b v now later small p = all_map (ValidStream (length b.settings.ports) b.clock b.settings.leave_time) (Young now p) young b.streams v.streams
  where
    young : (y : Stream) → ValidStream (length b.settings.ports) b.clock b.settings.leave_time y → Young now p y
    young y w =
        let valid = all_get_or (ValidResult b.clock) y.results w.results unsettled (unsettled-valid b.clock) p in
        omega (arith, age-valid b.clock now (result_at y p) later valid, small)

pub ages-young : (b : Bridge) → Valid b → (p : ℕ) → All (Young b.clock p) b.streams
ages-young b v = later-young b v b.clock (omega arith) v.clock

-- What they sum up to.

unfoldable pub summed : List Claim → ℕ
summed [] = 0
summed (c ∷ l) = c.demand + summed l

summed-append : (l m : List Claim) → summed (l ++ m) ≡ summed l + summed m
unfolding summed
summed-append [] m = omega arith
summed-append (c ∷ l) m = omega (arith, summed-append l m)

pub reserving-sum : (limit : ℕ) (l : List Claim) → summed (reserving limit l) ≡ reserved limit l
unfolding reserving reserved share
reserving-sum limit [] = unfold summed in refl
reserving-sum limit (c ∷ l) =
    summed-append (reserving limit l) (keep (leb c.demand (limit - reserved limit l) && c.ready) c [])
    ∙ rw (reserving-sum limit l) (go (leb c.demand (limit - reserved limit l) && c.ready))
  where
    go : (b : Bool) → reserved limit l + summed (keep b c []) ≡ reserved limit l + cond b c.demand 0
    go true = unfold summed in (omega arith)
    go false = unfold summed in refl

-- "the shortfall": what the demand and the listed ones are above the limit, at least 1
module _ (sc : Scene) (now : ℕ) (s : List Stream) (p : ℕ) (x : Stream) where
  abbrev limit : ℕ
  limit = limit_on sc now s p (stream_class sc.settings x)

  abbrev demanded : ℕ
  demanded = (claim sc.settings now p x).demand

  left-listed : left_for sc now s p x ≡ limit - summed (listed sc now s p x)
  unfolding left_for remains listed
  left-listed = rw (reserving-sum limit (sort (above (key (claim sc.settings now p x)) (claims sc now p (stream_class sc.settings x) s))))

  listed-within : summed (listed sc now s p x) ≤ limit
  unfolding listed
  listed-within =
      let cs = sort (above (key (claim sc.settings now p x)) (claims sc now p (stream_class sc.settings x) s)) in
      rw (reserving-sum limit cs) (within limit cs)

  pub shortfall-is : step_on sc now s p x ≡ step_h
      → let r = reason_on sc now s p x in (r.shortfall + r.limit ≡ demanded + summed r.streams) × (1 ≤ r.shortfall)
  shortfall-is e =
      let h = ((step-decides sc now s p x).refused.0 e).1 in
      rw (told-h sc now s p x e) (omega (arith, h, left-listed, listed-within), omega (arith, h))

-- Each once, the most important first: their keys rise.

unfoldable pub Rises : List Claim → Type 0
Rises [] = Unit {0}
Rises (c ∷ l) = All (λ d. key c < key d) l × Rises l

rises-end : (l : List Claim) (c : Claim) (b : Bool) → Rises l → All (λ d. key d < key c) l → Rises (l ++ keep b c [])
unfolding Rises
rises-end [] c true r a = (tt, tt)
rises-end [] c false r a = tt
rises-end (d ∷ l) c b r a =
    (all_append (λ e. key d < key e) l (keep b c []) r.0 (all_keep (λ e. key d < key e) b c [] a.0 tt), rises-end l c b r.1 a.1)

all-reserving : (P : Claim → Type 0) (limit : ℕ) (l : List Claim) → All P l → All P (reserving limit l)
unfolding reserving
all-reserving P limit [] a = tt
all-reserving P limit (c ∷ l) a =
    all_append P (reserving limit l) _ (all-reserving P limit l a.1) (all_keep P (leb c.demand (limit - reserved limit l) && c.ready) c [] a.0 tt)

reserving-rises : (limit : ℕ) (l : List Claim) → Falls l → Rises (reserving limit l)
unfolding reserving Falls
reserving-rises limit [] f = unfold Rises in tt
reserving-rises limit (c ∷ l) f =
    rises-end (reserving limit l) c (leb c.demand (limit - reserved limit l) && c.ready) (reserving-rises limit l f.1) (all-reserving (λ d. key d < key c) limit l f.0)

falls-above : (k : ℕ) (l : List Claim) → Falls l → Falls (above k l)
unfolding Falls above
falls-above k [] f = tt
falls-above k (c ∷ l) f = go (ltb (key c) k) (falls-above k l f.1)
  where
    go : (b : Bool) → Falls (above k l) → Falls (keep b c (above k l))
    go true ih = (all_above (λ d. key d < key c) k l f.0, ih)
    go false ih = ih

pub listed-rises : (sc : Scene) (now : ℕ) (s : List Stream) (p : ℕ) (x : Stream) → Rising (ids s) → All Small (ids s) → Rises (listed sc now s p x)
unfolding listed
listed-rises sc now s p x r a =
    let c = stream_class sc.settings x in
    let cs = claims sc now p c s in
    let k = key (claim sc.settings now p x) in
    reserving-rises _ (sort (above k cs)) (rw (above-sort k cs) at (falls-above k (sort cs) (falls-sort cs (claims-distinct sc now p c s r a))))

-- How many there are.

length-insert : (c : Claim) (cs : List Claim) → length (insert c cs) ≡ suc (length cs)
unfolding insert
length-insert c [] = refl
length-insert c (d ∷ cs) = go (ltb (key d) (key c)) (length-insert c cs)
  where
    go : (b : Bool) → length (insert c cs) ≡ suc (length cs) → length (cond b (c ∷ d ∷ cs) (d ∷ insert c cs)) ≡ suc (suc (length cs))
    go true e = refl
    go false e = ap suc e

pub length-sort : (cs : List Claim) → length (sort cs) ≡ length cs
unfolding sort
length-sort [] = refl
length-sort (c ∷ cs) = length-insert c (sort cs) ∙ ap suc (length-sort cs)

pub length-reserving : (limit : ℕ) (cs : List Claim) → length (reserving limit cs) ≤ length cs
unfolding reserving
length-reserving limit [] = omega arith
length-reserving limit (c ∷ cs) =
    let e = length-append (reserving limit cs) (keep (leb c.demand (limit - reserved limit cs) && c.ready) c []) in
    omega (arith, e, length-reserving limit cs, one (leb c.demand (limit - reserved limit cs) && c.ready))
  where
    one : (b : Bool) → length (keep b c []) ≤ 1
    one true = omega arith
    one false = omega arith

above-few : (n : ℕ) (cs : List Claim) → length (above n cs) ≤ length cs
unfolding above
above-few n [] = omega arith
above-few n (d ∷ cs) = go (ltb (key d) n) (above-few n cs)
  where
    go : (b : Bool) → length (above n cs) ≤ length cs → length (keep b d (above n cs)) ≤ suc (length cs)
    go true h = omega arith
    go false h = omega arith

pub above-fewer : (n : ℕ) (c : Claim) (cs : List Claim) → Memᴰ c cs → n ≤ key c → length (above n cs) < length cs
above-fewer n c [] m h = elim m [ ]
above-fewer n c (d ∷ cs) (Memᴰ.head e) h =
    let q : n ≤ key d = rw e at h in
    rw (above-out n d cs q) (omega (arith, above-few n cs))
above-fewer n c (d ∷ cs) (Memᴰ.tail m) h = go (two (key d) n) (above-fewer n c cs m h)
  where
    go : Two (key d) n → length (above n cs) < length cs → length (above n (d ∷ cs)) < suc (length cs)
    go (lo g) ih = rw (above_in n d cs g) (omega arith)
    go (hi g) ih = rw (above-out n d cs g) (omega arith)

pub claims-few : (sc : Scene) (now p : ℕ) (c : Class) (s : List Stream) → length (claims sc now p c s) ≤ length s
unfolding claims
claims-few sc now p c [] = omega arith
claims-few sc now p c (x ∷ s) = go (clear (steps sc p x) && same_class (stream_class sc.settings x) c) (claims-few sc now p c s)
  where
    go : (b : Bool) → length (claims sc now p c s) ≤ length s → length (keep b (claim sc.settings now p x) (claims sc now p c s)) ≤ suc (length s)
    go true h = omega arith
    go false h = omega arith

claims-fewer : (sc : Scene) (now p : ℕ) (c : Class) (x : Stream) (s : List Stream) → Memᴰ x s → reaches sc now p c x ≡ false → length (claims sc now p c s) < length s
unfolding claims
claims-fewer sc now p c x [] m h = elim m [ ]
claims-fewer sc now p c x (y ∷ s) (Memᴰ.head e) h =
    let q : reaches sc now p c y ≡ false = rw e at h in
    rw q (omega (arith, claims-few sc now p c s))
claims-fewer sc now p c x (y ∷ s) (Memᴰ.tail m) h = go (reaches sc now p c y) (claims-fewer sc now p c x s m h)
  where
    go : (b : Bool) → length (claims sc now p c s) < length s → length (keep b (claim sc.settings now p y) (claims sc now p c s)) < suc (length s)
    go true ih = omega arith
    go false ih = omega arith

-- the stream itself is not among them, so that "63 x 16 octets" take them all
pub listed-few : (sc : Scene) (now : ℕ) (s : List Stream) (p : ℕ) (x : Stream) → Memᴰ x s → length (listed sc now s p x) < length s
unfolding listed
listed-few sc now s p x m =
    let c = stream_class sc.settings x in
    let k = key (claim sc.settings now p x) in
    omega (arith, length-reserving (limit_on sc now s p c) (sort (above k (claims sc now p c s))), length-sort (above k (claims sc now p c s)), go (reaches sc now p c x) refl)
  where
    go : (b : Bool) → reaches sc now p (stream_class sc.settings x) x ≡ b
        → length (above (key (claim sc.settings now p x)) (claims sc now p (stream_class sc.settings x) s)) < length s
    go true e =
        let c = stream_class sc.settings x in
        let cs = claims sc now p c s in
        omega (
          arith,
          above-fewer (key (claim sc.settings now p x)) (claim sc.settings now p x) cs ((mem-claims sc now p c (claim sc.settings now p x) s).1 (x, m, e, refl)) (omega arith),
          claims-few sc now p c s,
        )
    go false e =
        let c = stream_class sc.settings x in
        omega (arith, above-few (key (claim sc.settings now p x)) (claims sc now p c s), claims-fewer sc now p c x s m e)
