-- What an unimportant stream can't touch (02, xii), stream by stream: two bridges "that agree .. on all streams of that class which are more
-- important there, with the same column steps before bandwidth, the same demands, the same ranks, the same age starts and the same
-- Listeners", have the same claims above the stream's own, as `Alike` asks.
use mathlib.Core.Path.{◌≡◌, refl, sym, ◌∙◌, ap}
use mathlib.Core.Logic.{◌⊎◌, inl, inr}
use mathlib.Core.List.Memᴰ
use mathlib.Core.List.{List, [], ◌∷◌, Memᴰ}
use mathlib.Core.Bool.{Bool, true, false, ◌&&◌}
use Prim.Native.Nat.{ℕ, ◌^◌, ◌≤◌, ◌<◌}
use native.Mathlib.Omega.{arith}
use lib.Dec.{ltb}
use borrow.Author.Tests.{lt-ltb, ltb-true}
use Rattle.model.specs.Lists.{All, keep}
use Rattle.model.specs.State.{Settings, Stream, Bridge, Class, same_class, result_at}
use Rattle.model.specs.Registrations.{ids}
use Rattle.model.specs.Bandwidth.{Claim, more_important, key, above}
use Rattle.model.specs.Settling.{Scene, expire, remain, stream_class, clear, steps, claim, claims}
use Rattle.model.proofs.Lists.{and_left, and_right, and_both}
use Rattle.model.proofs.Valid.{Rising, Valid}
use Rattle.model.proofs.AdvanceKeepsForm.{remain-all, remain-rising}
use Rattle.model.proofs.Admission.{all_above, all-mem}
use Rattle.model.proofs.ColumnRule.{Small, claims-all}
use Rattle.model.proofs.Listed.{Young, mem-above, mem-claims, more-important, later-young}
use Rattle.model.proofs.Demand3.{ids-small}
use Rattle.model.proofs.Untouched.{remaining, scene_at}

-- The stream y is one "of that class which are more important there" than x.
pub record Ahead (sc : Scene) (now p : ℕ) (x y : Stream) : Type 0 where
  pub class : same_class (stream_class sc.settings y) (stream_class sc.settings x) ≡ true
  pub important : more_important (claim sc.settings now p y) (claim sc.settings now p x) ≡ true

-- A stream of one bridge stands on the port as that of the other with its StreamID: whether a step before bandwidth decides it, what it
-- demands, its rank, its age start, and whether its Listener is ready.
pub record SameStanding (sc sc' : Scene) (now p : ℕ) (y y' : Stream) : Type 0 where
  pub id : y.id ≡ y'.id
  pub undecided : clear (steps sc p y) ≡ clear (steps sc' p y')
  pub demand : (claim sc.settings now p y).demand ≡ (claim sc'.settings now p y').demand
  pub rank : (claim sc.settings now p y).rank ≡ (claim sc'.settings now p y').rank
  pub age : (claim sc.settings now p y).age ≡ (claim sc'.settings now p y').age
  pub listener : (claim sc.settings now p y).ready ≡ (claim sc'.settings now p y').ready

-- Each stream of s that is ahead of x has one of s' that is ahead of x' and stands as it does.
abbrev pub Covers : Scene → Scene → ℕ → ℕ → List Stream → List Stream → Stream → Stream → Type 0
Covers sc sc' now p s s' x x' =
    (y : Stream) → Memᴰ y s → Ahead sc now p x y → (y' : Stream) × Memᴰ y' s' × Ahead sc' now p x' y' × SameStanding sc sc' now p y y'

-- Claims that rise by StreamID are one list where they are the same claims.

abbrev ById : List Claim → Type 0
ById [] = Unit {0}
ById (c ∷ l) = All (λ d. c.id < d.id) l × ById l

abbrev Within : List Claim → List Claim → Type 0
Within l m = (d : Claim) → Memᴰ d l → Memᴰ d m

-- what is behind the first is behind it in the other list too
within-behind : (c : Claim) (l m : List Claim) → ById (c ∷ l) → Within (c ∷ l) (c ∷ m) → Within l m
within-behind c l m r h d k = go (Memᴰ.cases_cons (h d (Memᴰ.tail k)))
  where
    go : (d ≡ c) ⊎ Memᴰ d m → Memᴰ d m
    go (inl e) = absurd (omega (arith, all-mem (λ f. c.id < f.id) k r.0, ap (λ (f : Claim). f.id) e))
    go (inr n) = n

same-claims : (l m : List Claim) → ById l → ById m → Within l m → Within m l → l ≡ m
same-claims [] [] r q h g = refl
same-claims [] (d ∷ m) r q h g = absurd (Memᴰ.not-nil (g d (Memᴰ.head refl)))
same-claims (c ∷ l) [] r q h g = absurd (Memᴰ.not-nil (h c (Memᴰ.head refl)))
same-claims (c ∷ l) (d ∷ m) r q h g =
    let e = heads (Memᴰ.cases_cons (h c (Memᴰ.head refl))) (Memᴰ.cases_cons (g d (Memᴰ.head refl))) in
    rest e (same-claims l m r.1 q.1)
  where
    heads : (c ≡ d) ⊎ Memᴰ c m → (d ≡ c) ⊎ Memᴰ d l → d ≡ c
    heads (inl e) n = sym e
    heads (inr k) (inl e) = e
    heads (inr k) (inr n) = absurd (omega (arith, all-mem (λ f. d.id < f.id) k q.0, all-mem (λ f. c.id < f.id) n r.0))

    rest : d ≡ c → (Within l m → Within m l → l ≡ m) → c ∷ l ≡ d ∷ m
    rest e ih = rw e (ap (λ (n : List Claim). c ∷ n) (ih (within-behind c l m r (rw e at h)) (within-behind c m l (rw e at q) (rw e at g))))

module _ (sc : Scene) (now p : ℕ) (c : Class) where
  claims-by-id : (s : List Stream) → Rising (ids s) → ById (claims sc now p c s)
  unfolding claims claim ids Rising
  claims-by-id [] r = tt
  claims-by-id (x ∷ s) r = go (clear (steps sc p x) && same_class (stream_class sc.settings x) c) (claims-by-id s r.1)
    where
      go : (t : Bool) → ById (claims sc now p c s) → ById (keep t (claim sc.settings now p x) (claims sc now p c s))
      go true ih = (claims-all sc now p c (λ j. x.id < j) s r.0, ih)
      go false ih = ih

above-by-id : (k : ℕ) (l : List Claim) → ById l → ById (above k l)
unfolding above
above-by-id k [] r = tt
above-by-id k (c ∷ l) r = go (ltb (key c) k) (above-by-id k l r.1)
  where
    go : (t : Bool) → ById (above k l) → ById (keep t c (above k l))
    go true ih = (all_above (λ d. c.id < d.id) k l r.0, ih)
    go false ih = ih

claim-is : (c d : Claim) → c.id ≡ d.id → c.rank ≡ d.rank → c.age ≡ d.age → c.demand ≡ d.demand → c.ready ≡ d.ready → c ≡ d
claim-is c d i r a e l = rw (i, r, a, e, l)

same-claim : (sc sc' : Scene) (now p : ℕ) (y y' : Stream) → SameStanding sc sc' now p y y' → claim sc.settings now p y ≡ claim sc'.settings now p y'
unfolding claim
same-claim sc sc' now p y y' s = claim-is (claim sc.settings now p y) (claim sc'.settings now p y') s.id s.rank s.age s.demand s.listener

-- Streams with StreamIDs of 64 bits that rise, and ages from seconds of 32 bits.
pub record Orderly (now p : ℕ) (s : List Stream) : Type 0 where
  pub rising : Rising (ids s)
  pub small : All Small (ids s)
  pub young : All (Young now p) s

-- the claims above that of the stream x
abbrev its-above : Scene → ℕ → ℕ → List Stream → Stream → List Claim
its-above sc now p s x = above (key (claim sc.settings now p x)) (claims sc now p (stream_class sc.settings x) s)

module _ (now p : ℕ) (s s' : List Stream) (o : Orderly now p s) (o' : Orderly now p s') where
  covered : (sc sc' : Scene) (x x' : Stream) → Memᴰ x s → Memᴰ x' s' → Covers sc sc' now p s s' x x' → Within (its-above sc now p s x) (its-above sc' now p s' x')
  covered sc sc' x x' m m' covers d k =
      let a = (mem-above (key (claim sc.settings now p x)) d (claims sc now p (stream_class sc.settings x) s)).0 k in
      let w = (mem-claims sc now p (stream_class sc.settings x) d s).0 a.0 in
      let y = w.0 in
      let less : key (claim sc.settings now p y) < key (claim sc.settings now p x) = rw w.3 at a.1 in
      let ahead : Ahead sc now p x y = record { class = and_right (clear (steps sc p y)) _ w.2; important = more-important sc now s p x m o.rising o.small o.young y w.1 ∙ lt-ltb _ _ less } in
      let v = covers y w.1 ahead in
      let y' = v.0 in
      let same = v.3 in
      let its : d ≡ claim sc'.settings now p y' = w.3 ∙ same-claim sc sc' now p y y' same in
      let reached : (clear (steps sc' p y') && same_class (stream_class sc'.settings y') (stream_class sc'.settings x')) ≡ true =
      and_both _ _ (sym same.undecided ∙ and_left (clear (steps sc p y)) _ w.2) v.2.class in
      (mem-above (key (claim sc'.settings now p x')) d (claims sc' now p (stream_class sc'.settings x') s')).1 (
        (mem-claims sc' now p (stream_class sc'.settings x') d s').1 (y', v.1, reached, its),
        rw its (ltb-true _ _ (sym (more-important sc' now s' p x' m' o'.rising o'.small o'.young y' v.1) ∙ v.2.important)),
      )

remain-young : (st : Settings) (now p : ℕ) (s : List Stream) → All (Young now p) s → All (Young now p) (remain st now s)
unfolding remain expire result_at
remain-young st now p [] a = tt
remain-young st now p (x ∷ s) a = (a.0, remain-young st now p s a.1)

-- What an advance leaves of a valid bridge is such.
module _ (now p : ℕ) (small : now < 2 ^ 32) (b : Bridge) (v : Valid b) (later : b.clock ≤ now) where
  orderly : Orderly now p (remaining now b)
  orderly = record {
    rising = remain-rising b.settings now b.streams v.ascending;
    small = remain-all b.settings now Small b.streams (ids-small _ _ _ b.streams v.streams);
    young = remain-young b.settings now p b.streams (later-young b v now later small p);
  }

-- `Alike`'s premise on the more important streams, from what the two bridges agree on stream by stream.
pub important-alike : (now p : ℕ) (b b' : Bridge) (x x' : Stream) → now < 2 ^ 32 → Valid b → Valid b' → b.clock ≤ now → b'.clock ≤ now →
    Memᴰ x (remaining now b) → Memᴰ x' (remaining now b') →
    Covers (scene_at now b) (scene_at now b') now p (remaining now b) (remaining now b') x x' →
    Covers (scene_at now b') (scene_at now b) now p (remaining now b') (remaining now b) x' x →
    above (key (claim b.settings now p x)) (claims (scene_at now b) now p (stream_class b.settings x) (remaining now b))
    ≡ above (key (claim b'.settings now p x')) (claims (scene_at now b') now p (stream_class b'.settings x') (remaining now b'))
important-alike now p b b' x x' small v v' later later' m m' covers covers' =
    let o = orderly now p small b v later in
    let o' = orderly now p small b' v' later' in
    same-claims _ _ (above-by-id _ _ (claims-by-id (scene_at now b) now p _ _ o.rising))
    (above-by-id _ _ (claims-by-id (scene_at now b') now p _ _ o'.rising))
    (covered now p _ _ o o' (scene_at now b) (scene_at now b') x x' m m' covers)
    (covered now p _ _ o' o (scene_at now b') (scene_at now b) x' x m' m covers')
