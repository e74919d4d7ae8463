-- What a newcomer can't touch (02, xii), for a broadcaster: a stream of rank 1 that joins changes nothing of any stream of rank 0, on any
-- port, where it has an address of its own, comes in over a port that brings streams in already (or no limit is set), and is not of
-- class A where the other is of class B, which has only what A leaves. When it joins does not matter.
use mathlib.Core.Path.{◌≡◌, refl, sym, ◌∙◌, ap}
use mathlib.Core.List.{List, [], ◌∷◌, ◌++◌}
use mathlib.Core.Bool.{Bool, true, false, ◌&&◌, ◌||◌}
use mathlib.Core.Logic.{◌⊎◌, inl, inr}
use Prim.Native.Nat.{ℕ, zero, suc, ◌^◌, ◌<◌}
use native.Mathlib.Omega.{arith}
use lib.Dec.{ltb, eqb}
use borrow.Author.Tests.{eq-eqb, le-ltb}
use Rattle.model.specs.Lists.{All, keep, count_to}
use Rattle.model.specs.State.{Settings, Own, Cell, Stream, Bridge, Class, class_a, class_b, same_class, in_force, port_at, cell_at, result_at}
use Rattle.model.specs.Bandwidth.{Claim, key, above, total}
use Rattle.model.specs.Settling.{Scene, Inbound, inbounds_of, is_inbound, inbound_below, may_bring, is_kept_out, same_address_at, shares, Source, nowhere, from, source_of, is_source, fixed_of, stream_class, clear, steps_from, steps, age_of, claim, claims, limit_on, total_on, decide_at}
use Rattle.model.specs.Table.{column_code}
use Rattle.model.proofs.Lists.{and-false}
use Rattle.model.proofs.Admission.{by_rank_lem}
use Rattle.model.proofs.ColumnRule.{Small, claims-append}
use Rattle.model.proofs.Borrowing.{unclaimed}
use Rattle.model.proofs.ComingIn.{at_talker, sharing, kept_out, one_address_at, inbound-more, shares-more}
use Rattle.model.proofs.Untouched.{remaining, scene_at, Alike, untouched}

-- The bridge b' has a stream z of rank 1 more than b, beside the streams l before it and r behind it.
pub record Joins (now : ℕ) (b b' : Bridge) (l r : List Stream) (z : Stream) : Type 0 where
  pub settings : b.settings ≡ b'.settings
  pub owns : b.owns ≡ b'.owns
  pub before : remaining now b ≡ l ++ r
  pub after : remaining now b' ≡ l ++ z ∷ r
  pub rank : (fixed_of (source_of z)).rank ≡ 1
  -- an address of its own
  pub address : All (λ y. one_address_at (source_of z) (source_of y) ≡ false) (l ++ r)
  -- no limit of inbound ports, or a Talker port that is one of them already
  pub inbound : (b'.settings.fan_in ≡ 0) ⊎ ((q : ℕ) → is_source (source_of z) q ≡ true → is_inbound (inbounds_of (l ++ r)) q ≡ true)

-- One stream more.

module _ (l r : List Stream) (z : Stream) where
  origin-past : (i : Inbound) → at_talker (λ o. same_address_at o i.origin) (source_of z) ≡ false → shares (inbounds_of (l ++ z ∷ r)) i ≡ shares (inbounds_of (l ++ r)) i
  origin-past i e = go l
    where
      go : (m : List Stream) → shares (inbounds_of (m ++ z ∷ r)) i ≡ shares (inbounds_of (m ++ r)) i
      go [] = shares-more z r i ∙ rw (e, and-false (ltb z.id i.id))
      go (y ∷ m) = shares-more y (m ++ z ∷ r) i ∙ rw (go m) (sym (shares-more y (m ++ r) i))

  shares-past : (n : ℕ) (t : Source) → one_address_at (source_of z) t ≡ false → sharing (inbounds_of (l ++ z ∷ r)) n t ≡ sharing (inbounds_of (l ++ r)) n t
  unfolding at_talker
  shares-past n nowhere e = refl
  shares-past n (from q) e = origin-past record { id = n; origin = q } e

  inbound-or : (q : ℕ) (m : List Stream) → is_inbound (inbounds_of (m ++ z ∷ r)) q ≡ (is_source (source_of z) q || is_inbound (inbounds_of (m ++ r)) q)
  inbound-or q [] = inbound-more z r q
  inbound-or q (y ∷ m) =
      inbound-more y (m ++ z ∷ r) q
      ∙ rw (inbound-or q m, inbound-more y (m ++ r) q) (go (is_source (source_of y) q) (is_source (source_of z) q) (is_inbound (inbounds_of (m ++ r)) q))
    where
      go : (a b c : Bool) → (a || (b || c)) ≡ (b || (a || c))
      go true true c = refl
      go true false c = refl
      go false true c = refl
      go false false c = refl

  count_same : (f g : ℕ → Bool) → ((q : ℕ) → f q ≡ g q) → (n : ℕ) → count_to f n ≡ count_to g n
  unfolding count_to
  count_same f g h zero = refl
  count_same f g h (suc n) = rw (count_same f g h n, h n)

  module _ (limit : ℕ) (h : (limit ≡ 0) ⊎ ((q : ℕ) → is_source (source_of z) q ≡ true → is_inbound (inbounds_of (l ++ r)) q ≡ true)) where
    bring-past : (q : ℕ) → may_bring limit (inbounds_of (l ++ z ∷ r)) q ≡ may_bring limit (inbounds_of (l ++ r)) q
    unfolding may_bring inbound_below
    bring-past q = go h
      where
        same : ((j : ℕ) → is_source (source_of z) j ≡ true → is_inbound (inbounds_of (l ++ r)) j ≡ true) → (j : ℕ)
            → is_inbound (inbounds_of (l ++ z ∷ r)) j ≡ is_inbound (inbounds_of (l ++ r)) j
        same k j = inbound-or j l ∙ pick (is_source (source_of z) j) refl
          where
            pick : (t : Bool) → is_source (source_of z) j ≡ t → (t || is_inbound (inbounds_of (l ++ r)) j) ≡ is_inbound (inbounds_of (l ++ r)) j
            pick true e = sym (k j e)
            pick false e = refl

        go : (limit ≡ 0) ⊎ ((j : ℕ) → is_source (source_of z) j ≡ true → is_inbound (inbounds_of (l ++ r)) j ≡ true)
            → (eqb limit 0 || ltb (count_to (is_inbound (inbounds_of (l ++ z ∷ r))) q) limit) ≡ (eqb limit 0 || ltb (count_to (is_inbound (inbounds_of (l ++ r))) q) limit)
        go (inl e) = rw (eq-eqb limit 0 e)
        go (inr k) = rw (count_same (is_inbound (inbounds_of (l ++ z ∷ r))) (is_inbound (inbounds_of (l ++ r))) (same k) q)

    kept-past : (o : Source) → kept_out limit (inbounds_of (l ++ z ∷ r)) o ≡ kept_out limit (inbounds_of (l ++ r)) o
    unfolding at_talker is_kept_out
    kept-past nowhere = refl
    kept-past (from o) = rw (bring-past o.port)

  module _ (st : Settings) (o : List Own) (now p : ℕ)
      (h : (st.fan_in ≡ 0) ⊎ ((q : ℕ) → is_source (source_of z) q ≡ true → is_inbound (inbounds_of (l ++ r)) q ≡ true)) where
    abbrev old : Scene
    old = record { settings = st; owns = o; inbound = inbounds_of (l ++ r) }

    abbrev new : Scene
    new = record { settings = st; owns = o; inbound = inbounds_of (l ++ z ∷ r) }

    from_past : (here : Cell) (n : ℕ) (t : Source) → sharing new.inbound n t ≡ sharing old.inbound n t
        → kept_out st.fan_in new.inbound t ≡ kept_out st.fan_in old.inbound t → steps_from new p here n t ≡ steps_from old p here n t
    unfolding steps_from at_talker
    from_past here n nowhere e f = refl
    from_past here n (from q) e f = rw (e, f)

    steps-past : (y : Stream) → one_address_at (source_of z) (source_of y) ≡ false → steps new p y ≡ steps old p y
    unfolding steps
    steps-past y e = rw (from_past (cell_at y p) y.id (source_of y) (shares-past y.id (source_of y) e) (kept-past st.fan_in h (source_of y)))

    claims-past : (c : Class) (m : List Stream) → All (λ y. one_address_at (source_of z) (source_of y) ≡ false) m → claims new now p c m ≡ claims old now p c m
    unfolding claims
    claims-past c [] a = refl
    claims-past c (y ∷ m) a = rw (steps-past y a.0, claims-past c m a.1)

    module _ (address : All (λ y. one_address_at (source_of z) (source_of y) ≡ false) (l ++ r)) where
      -- the newcomer's claim is not above that of a more important stream
      above-past : (k : ℕ) → k < key (claim st now p z) → (c : Class) → above k (claims new now p c (l ++ z ∷ r)) ≡ above k (claims old now p c (l ++ r))
      unfolding above claims
      above-past k less c =
          ap (above k) (claims-append new now p c l (z ∷ r)) ∙ between (claims new now p c l) ∙ ap (above k) (sym (claims-append new now p c l r) ∙ claims-past c (l ++ r) address)
        where
          last : above k (claims new now p c (z ∷ r)) ≡ above k (claims new now p c r)
          last = go (clear (steps new p z) && same_class (stream_class st z) c)
            where
              go : (t : Bool) → above k (keep t (claim st now p z) (claims new now p c r)) ≡ above k (claims new now p c r)
              go true = rw (le-ltb (key (claim st now p z)) k (omega arith))
              go false = refl

          between : (m : List Claim) → above k (m ++ claims new now p c (z ∷ r)) ≡ above k (m ++ claims new now p c r)
          between [] = last
          between (d ∷ m) = ap (keep (ltb (key d) k) d) (between m)

      -- a newcomer of another class leaves class A's total
      total-past : same_class (stream_class st z) class_a ≡ false → total_on new now (l ++ z ∷ r) p class_a ≡ total_on old now (l ++ r) p class_a
      unfolding total_on limit_on in_force
      total-past e =
          ap (total (port_at st p).limit_a)
          (claims-append new now p class_a l (z ∷ r)
          ∙ ap (λ (m : List Claim). claims new now p class_a l ++ m) (unclaimed new now p class_a z r e)
          ∙ sym (claims-append new now p class_a l r) ∙ claims-past class_a (l ++ r) address)

-- Nothing of a stream x of rank 0 changes, on any port.
module _ (now : ℕ) (b b' : Bridge) (l r : List Stream) (z : Stream) (n : Joins now b b' l r z) (p : ℕ) (x : Stream) (small : Small x.id)
    (age : age_of now (result_at x p) < 2 ^ 32) (rank : (fixed_of (source_of x)).rank ≡ 0) (address : one_address_at (source_of z) (source_of x) ≡ false)
    (class : stream_class b'.settings x ≡ class_b → same_class (stream_class b'.settings z) class_a ≡ false) where
  less : key (claim b'.settings now p x) < key (claim b'.settings now p z)
  unfolding claim
  less = by_rank_lem (claim b'.settings now p x) (claim b'.settings now p z) age small (omega (arith, rank, n.rank))

  newcomer-alike : Alike now b b' p x x
  newcomer-alike = record {
    settings = n.settings;
    registrations = refl;
    important = rw (n.before, n.after, n.settings, n.owns) (sym (above-past l r z b'.settings _ now p n.inbound n.address _ less _));
    borrowed = rw (n.before, n.after, n.settings, n.owns) (λ e. sym (total-past l r z b'.settings _ now p n.inbound n.address (class e)));
    address = rw (n.before, n.after) (sym (shares-past l r z x.id (source_of x) address));
    edge = rw (n.settings, n.owns);
    inbound = rw (n.before, n.after, n.settings) (sym (kept-past l r z b'.settings.fan_in n.inbound (source_of x)));
    wanted = rw (n.settings, n.owns) (λ e. refl);
  }

  pub newcomer :
      let o = decide_at (scene_at now b) now (remaining now b) x p in
      let w = decide_at (scene_at now b') now (remaining now b') x p in
      (o.column ≡ w.column) × (column_code o.column ≡ column_code w.column) × (o.entry ≡ w.entry)
  newcomer = untouched now b b' p x x newcomer-alike
