-- What codes 5 and 15 ask, in the request's words (02, x): the tests of their steps hold exactly where the facts do.
use mathlib.Core.Path.{◌≡◌, refl, sym, ◌∙◌}
use mathlib.Core.Logic.{◌↔◌}
use mathlib.Core.List.{List, [], ◌∷◌, Memᴰ}
use mathlib.Core.Bool.{Bool, true, false, not, ◌&&◌, ◌||◌, false≢true}
use Prim.Native.Nat.{ℕ, ◌≤◌, ◌<◌}
use lib.Dec.{eqb, ltb}
use borrow.Author.Tests.{eqb-true, eqb-false, eq-eqb, ne_eqb, ltb-true, ltb-false, le-ltb}
use Rattle.model.specs.Lists.{count_to}
use Rattle.model.specs.State.{Stream, fresh}
use Rattle.model.specs.Settling.{Origin, Source, nowhere, from, source_of, Inbound, inbounds_of, is_inbound, inbound_below, may_bring, is_kept_out, same_address, same_address_at, shares}
use Rattle.model.proofs.Lists.{and_left, and_right, mem-at}
use Rattle.model.proofs.ComingIn.{at_talker, sharing, kept_out, one_address_at, shares-more}
use Rattle.model.proofs.FanIn.{shares-with}

-- "destination and VLAN at its t equal those of .. at that one's t"
pub record SameAddress (x y : Stream) : Type 0 where
  pub origin : Origin
  pub other : Origin
  pub comes : source_of x ≡ from origin
  pub other-comes : source_of y ≡ from other
  pub destination : origin.registration.fixed.destination ≡ other.registration.fixed.destination
  pub vlan : origin.registration.fixed.vlan ≡ other.registration.fixed.vlan

pub same-address-exactly : (x y : Stream) → (one_address_at (source_of x) (source_of y) ≡ true) ↔ SameAddress x y
unfolding at_talker same_address_at same_address
same-address-exactly x y = (go (source_of x) (source_of y) refl refl, back)
  where
    go : (o q : Source) → source_of x ≡ o → source_of y ≡ q → one_address_at o q ≡ true → SameAddress x y
    go o nowhere e f h = absurd (false≢true h)
    go nowhere (from q) e f h = absurd (false≢true h)
    go (from o) (from q) e f h = record {
      origin = o;
      other = q;
      comes = e;
      other-comes = f;
      destination = eqb-true _ _ (and_left _ _ h);
      vlan = eqb-true _ _ (and_right (eqb o.registration.fixed.destination q.registration.fixed.destination) _ h);
    }

    back : SameAddress x y → one_address_at (source_of x) (source_of y) ≡ true
    back a = rw (a.comes, a.other-comes, eq-eqb _ _ a.destination, eq-eqb _ _ a.vlan)

-- "a stream whose destination and VLAN at its t equal those of a lower StreamID at that one's t"
pub record SharedAddress (s : List Stream) (x : Stream) : Type 0 where
  pub lower : Stream
  pub held : Memᴰ lower s
  pub below : lower.id < x.id
  pub same : SameAddress lower x

shared-by : (s : List Stream) (i : Inbound) → shares (inbounds_of s) i ≡ true →
    (y : Stream) × Memᴰ y s × (y.id < i.id) × (at_talker (λ o. same_address_at o i.origin) (source_of y) ≡ true)
shared-by [] i h = absurd (false≢true (unfold inbounds_of shares in h))
shared-by (y ∷ s) i h = go (ltb y.id i.id) (address y) refl refl (sym (shares-more y s i) ∙ h) (shared-by s i)
  where
    address : Stream → Bool
    address z = at_talker (λ o. same_address_at o i.origin) (source_of z)

    behind : (z : Stream) × Memᴰ z s × (z.id < i.id) × (address z ≡ true) → (z : Stream) × Memᴰ z (y ∷ s) × (z.id < i.id) × (address z ≡ true)
    behind w = (w.0, Memᴰ.tail w.1, w.2, w.3)

    go : (l a : Bool) → ltb y.id i.id ≡ l → address y ≡ a → ((l && a) || shares (inbounds_of s) i) ≡ true
        → (shares (inbounds_of s) i ≡ true → (z : Stream) × Memᴰ z s × (z.id < i.id) × (address z ≡ true))
        → (z : Stream) × Memᴰ z (y ∷ s) × (z.id < i.id) × (address z ≡ true)
    go true true e f h ih = (y, Memᴰ.head refl, ltb-true y.id i.id e, f)
    go true false e f h ih = behind (ih h)
    go false a e f h ih = behind (ih h)

pub shares-exactly : (s : List Stream) (x : Stream) → (sharing (inbounds_of s) x.id (source_of x) ≡ true) ↔ SharedAddress s x
shares-exactly s x = (there (source_of x) refl, back)
  where
    there : (t : Source) → source_of x ≡ t → sharing (inbounds_of s) x.id t ≡ true → SharedAddress s x
    there nowhere e h = absurd (false≢true (unfold at_talker in h))
    there (from o) e h =
        let w = shared-by s record { id = x.id; origin = o } (unfold at_talker in h) in
        record { lower = w.0; held = w.1; below = w.2; same = (same-address-exactly w.0 x).0 (rw e (unfold at_talker in w.3)) }

    back : SharedAddress s x → sharing (inbounds_of s) x.id (source_of x) ≡ true
    back a =
        let k = mem-at a.lower (fresh 0) s a.held in
        shares-with s k.0 x.id (source_of x) k.1 (rw k.2 a.below) (rw k.2 ((same-address-exactly a.lower x).1 a.same))

-- "A port may bring streams in if the number of ports with an inbound Talker among those numbered below it is less than the limit"; "0
-- means no limit": the stream's Talker port may not.
pub record KeptOut (limit : ℕ) (s : List Stream) (x : Stream) : Type 0 where
  pub origin : Origin
  pub comes : source_of x ≡ from origin
  pub limited : limit ≡ 0 → ⊥
  pub reached : limit ≤ count_to (is_inbound (inbounds_of s)) origin.port

pub kept-out-exactly : (limit : ℕ) (s : List Stream) (x : Stream) → (kept_out limit (inbounds_of s) (source_of x) ≡ true) ↔ KeptOut limit s x
unfolding at_talker is_kept_out may_bring inbound_below
kept-out-exactly limit s x = (there (source_of x) refl, back)
  where
    below : Origin → ℕ
    below o = count_to (is_inbound (inbounds_of s)) o.port

    stopped : (o : Origin) → source_of x ≡ from o → (z l : Bool) → eqb limit 0 ≡ z → ltb (below o) limit ≡ l → not (z || l) ≡ true → KeptOut limit s x
    stopped o e true l a b h = absurd (false≢true h)
    stopped o e false true a b h = absurd (false≢true h)
    stopped o e false false a b h = record { origin = o; comes = e; limited = eqb-false limit 0 a; reached = ltb-false (below o) limit b }

    there : (o : Source) → source_of x ≡ o → kept_out limit (inbounds_of s) o ≡ true → KeptOut limit s x
    there nowhere e h = absurd (false≢true h)
    there (from o) e h = stopped o e (eqb limit 0) (ltb (below o) limit) refl refl h

    back : KeptOut limit s x → kept_out limit (inbounds_of s) (source_of x) ≡ true
    back k = rw (k.comes, ne_eqb limit 0 k.limited, le-ltb _ limit k.reached)
