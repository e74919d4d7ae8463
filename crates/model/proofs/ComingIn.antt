-- What comes in (02, x), said of any stream: what is asked of a Talker port does not hold without a Talker.
use mathlib.Core.Path.{◌≡◌, refl}
use mathlib.Core.List.{List, ◌∷◌}
use mathlib.Core.Bool.{Bool, false, ◌&&◌, ◌||◌}
use Prim.Native.Nat.{ℕ}
use lib.Dec.{ltb}
use Rattle.model.specs.State.{Stream}
use Rattle.model.specs.Settling.{Origin, Source, nowhere, from, source_of, is_source, Inbound, add_inbound, inbounds_of, is_inbound, is_kept_out, same_address_at, shares}
use Rattle.model.proofs.Lists.{and-false}

unfoldable pub at_talker : (Origin → Bool) → Source → Bool
at_talker test nowhere = false
at_talker test (from o) = test o

-- a lower StreamID than n has the address; the Talker port may not bring streams in; the addresses are one
abbrev pub sharing : List Inbound → ℕ → Source → Bool
sharing l n t = at_talker (λ o. shares l record { id = n; origin = o }) t

abbrev pub kept_out : ℕ → List Inbound → Source → Bool
kept_out limit l t = at_talker (is_kept_out limit l) t

abbrev pub one_address_at : Source → Source → Bool
one_address_at s t = at_talker (λ q. at_talker (λ o. same_address_at o q) s) t

-- One stream before others.
module _ (x : Stream) (s : List Stream) where
  pub inbound-more : (p : ℕ) → is_inbound (inbounds_of (x ∷ s)) p ≡ (is_source (source_of x) p || is_inbound (inbounds_of s) p)
  unfolding inbounds_of
  inbound-more p = go (source_of x)
    where
      go : (o : Source) → is_inbound (add_inbound x.id o (inbounds_of s)) p ≡ (is_source o p || is_inbound (inbounds_of s) p)
      go nowhere = unfold add_inbound is_source in refl
      go (from o) = unfold add_inbound is_source is_inbound in refl

  pub shares-more : (i : Inbound) → shares (inbounds_of (x ∷ s)) i
      ≡ ((ltb x.id i.id && at_talker (λ o. same_address_at o i.origin) (source_of x)) || shares (inbounds_of s) i)
  unfolding inbounds_of
  shares-more i = go (source_of x)
    where
      go : (o : Source) → shares (add_inbound x.id o (inbounds_of s)) i
          ≡ ((ltb x.id i.id && at_talker (λ o. same_address_at o i.origin) o) || shares (inbounds_of s) i)
      go nowhere = unfold add_inbound at_talker in (rw (and-false (ltb x.id i.id)))
      go (from o) = unfold add_inbound at_talker shares in refl
