-- The boundary flags (35.2.1.4 h) and code 8: a settled flag is set exactly where one of h)'s three conditions holds; an own failure
-- has code 8 exactly where no earlier step applies and the flag is set; where every port hears the bridge's own values alone, no
-- flag of a class that it supports is set.
use mathlib.Core.Path.{◌≡◌, refl, sym, ◌∙◌}
use mathlib.Core.List.{List, [], ◌∷◌}
use mathlib.Core.Bool.{Bool, true, false, cond, not, ◌&&◌, ◌||◌, true≢false, false≢true}
use Prim.Native.Nat.{ℕ, zero, suc, ◌+◌, ◌<◌}
use native.Mathlib.Omega.{arith}
use lib.ListN.{length, get_or}
use lib.Dec.{eqb}
use borrow.Author.Tests.{eqb-false, ne_eqb, lt-ltb}
use Rattle.model.specs.State.{Port, Settings, Cell, Domain, no_domain, domain, Own, no_own, failed, Stream, Bridge, no_port, port_at, is_port, cell_at, own_at, Class, no_class, class_a, class_b, class_of, is_no_class, supports, class_priority}
use Rattle.model.specs.Settling.{Source, nowhere, from, source_of, fixed_of, talker_type_of, stream_class, is_domain, any_domain, other_priority, domains_of, any_supports, is_edge, flag_of, decide_own, decide_owns, boundary, Scene, clear, is_talker_failed, steps_from, steps, column_of, settle, deciding, declaring}
use Rattle.model.specs.Table.{column_code}
use Rattle.model.proofs.OwnCodes.{gives, earlier, asked, never, once, steps_of, own-decided, own-only, no-talker}
use Rattle.model.proofs.Lists.{at_place}
use Rattle.model.proofs.ColumnRule.{at_place}

-- h), condition by condition; a port declares the classes that it supports.
pub data Outside (st : Settings) (p : ℕ) (c : Class) (ds : List Domain) : Type 0 where
  -- "1) The port is declaring an MSRP Domain attribute for that SR class, and the port has no MSRP Domain attribute registrations for
  -- that SR class"
  none-registered : supports (port_at st p) c ≡ true → ((q : ℕ) → is_domain (get_or (domains_of c ds) q no_domain) ≡ false) → Outside st p c ds
  -- "2) .. and the port has at least one MSRP Domain attribute registration for that SR class with a different priority"
  other-registered : supports (port_at st p) c ≡ true → (q : ℕ) → (q ≡ class_priority st c → ⊥)
      → is_domain (get_or (domains_of c ds) q no_domain) ≡ true → Outside st p c ds
  -- "3) One or more ports which support that SR class are declaring MSRP Domain attributes for that SR class, and this port does not
  -- support that SR class"
  declared-elsewhere : supports (port_at st p) c ≡ false → (r : ℕ) → r < length st.ports → supports (port_at st r) c ≡ true → Outside st p c ds

-- What the tests over a class's values and over the ports say.

none_is : (ds : List Domain) → any_domain ds ≡ false → (q : ℕ) → is_domain (get_or ds q no_domain) ≡ false
unfolding any_domain is_domain
none_is [] e q = refl
none_is (no_domain ∷ ds) e zero = refl
none_is (no_domain ∷ ds) e (suc q) = none_is ds e q
none_is (domain v l ∷ ds) e q = absurd (true≢false e)

is_none : (ds : List Domain) → ((q : ℕ) → is_domain (get_or ds q no_domain) ≡ false) → any_domain ds ≡ false
unfolding any_domain
is_none [] h = refl
is_none (d ∷ ds) h = rw (h 0) (is_none ds (λ q. h (suc q)))

-- a value of another priority, at place q of those from priority n on
pub record Other (own n : ℕ) (ds : List Domain) : Type 0 where
  pub place : ℕ
  pub other : n + place ≡ own → ⊥
  pub held : is_domain (get_or ds place no_domain) ≡ true

-- the next ones, from one on
further : (own n : ℕ) (d : Domain) (ds : List Domain) → Other own (suc n) ds → Other own n (d ∷ ds)
further own n d ds o = record { place = suc o.place; other = λ f. o.other (omega (arith, f)); held = o.held }

other-is : (own n : ℕ) (ds : List Domain) → other_priority own n ds ≡ true → Other own n ds
unfolding other_priority
other-is own n [] e = absurd (false≢true e)
other-is own n (d ∷ ds) e = go (is_domain d) (eqb n own) refl refl e (other-is own (suc n) ds)
  where
    go : (a b : Bool) → is_domain d ≡ a → eqb n own ≡ b → ((a && not b) || other_priority own (suc n) ds) ≡ true
        → (other_priority own (suc n) ds ≡ true → Other own (suc n) ds) → Other own n (d ∷ ds)
    go true false f g h ih = record { place = 0; other = λ i. eqb-false n own g (omega (arith, i)); held = f }
    go true true f g h ih = further own n d ds (ih h)
    go false b f g h ih = further own n d ds (ih h)

is-other : (own n : ℕ) (ds : List Domain) (q : ℕ) → (n + q ≡ own → ⊥) → is_domain (get_or ds q no_domain) ≡ true → other_priority own n ds ≡ true
unfolding other_priority is_domain
is-other own n [] q o h = absurd (false≢true h)
is-other own n (d ∷ ds) zero o h = rw (h, ne_eqb n own (λ e. o (omega (arith, e))))
is-other own n (d ∷ ds) (suc q) o h = go (is_domain d && not (eqb n own)) (is-other own (suc n) ds q (λ e. o (omega (arith, e))) h)
  where
    go : (t : Bool) → other_priority own (suc n) ds ≡ true → (t || other_priority own (suc n) ds) ≡ true
    go true e = refl
    go false e = e

-- a port that supports a class
pub record Supporting (c : Class) (qs : List Port) : Type 0 where
  pub place : ℕ
  pub within : place < length qs
  pub does : supports (get_or qs place no_port) c ≡ true

some-supports : (c : Class) (qs : List Port) → any_supports c qs ≡ true → Supporting c qs
unfolding any_supports
some-supports c [] e = absurd (false≢true e)
some-supports c (q ∷ qs) e = go (supports q c) refl e (some-supports c qs)
  where
    go : (t : Bool) → supports q c ≡ t → (t || any_supports c qs) ≡ true → (any_supports c qs ≡ true → Supporting c qs) → Supporting c (q ∷ qs)
    go true f h ih = record { place = 0; within = omega arith; does = f }
    go false f h ih = let s = ih h in record { place = suc s.place; within = omega (arith, s.within); does = s.does }

supports-some : (c : Class) (qs : List Port) (r : ℕ) → r < length qs → supports (get_or qs r no_port) c ≡ true → any_supports c qs ≡ true
unfolding any_supports
supports-some c [] r l h = absurd (omega arith)
supports-some c (q ∷ qs) zero l h = rw h
supports-some c (q ∷ qs) (suc r) l h = go (supports q c) (supports-some c qs r (omega arith) h)
  where
    go : (t : Bool) → any_supports c qs ≡ true → (t || any_supports c qs) ≡ true
    go true e = refl
    go false e = e

-- The test is h).

module _ (st : Settings) (p : ℕ) (c : Class) (ds : List Domain) where
  abbrev own : List Domain
  own = domains_of c ds

  pub edge-outside : is_edge st p c ds ≡ true → Outside st p c ds
  unfolding is_edge
  edge-outside e = go (supports (port_at st p) c) refl e
    where
      heard : supports (port_at st p) c ≡ true → (t : Bool) → any_domain own ≡ t → (not t || other_priority (class_priority st c) 0 own) ≡ true → Outside st p c ds
      heard s false a h = none-registered s (none_is own a)
      heard s true a h =
          let o = other-is (class_priority st c) 0 own h in
          other-registered s o.place (λ e. o.other (omega (arith, e))) o.held

      go : (t : Bool) → supports (port_at st p) c ≡ t
          → cond t (not (any_domain own) || other_priority (class_priority st c) 0 own) (any_supports c st.ports) ≡ true → Outside st p c ds
      go true s h = heard s (any_domain own) refl h
      go false s h =
          let r = some-supports c st.ports h in
          declared-elsewhere s r.place r.within (unfold port_at in r.does)

  pub outside-edge : Outside st p c ds → is_edge st p c ds ≡ true
  unfolding is_edge port_at
  outside-edge (none-registered s h) = rw (s, is_none own h)
  outside-edge (other-registered s q o h) = rw (s, is-other (class_priority st c) 0 own q (λ e. o (omega (arith, e))) h) (go (not (any_domain own)))
    where
      go : (t : Bool) → (t || true) ≡ true
      go true = refl
      go false = refl
  outside-edge (declared-elsewhere s r l h) = rw s (supports-some c st.ports r l h)

  -- "only Domain values of the bridge's own priority, and some"
  pub matching : supports (port_at st p) c ≡ true → is_domain (get_or own (class_priority st c) no_domain) ≡ true
      → ((q : ℕ) → is_domain (get_or own q no_domain) ≡ true → q ≡ class_priority st c) → is_edge st p c ds ≡ false
  matching s some alone = go (is_edge st p c ds) refl
    where
      not-outside : Outside st p c ds → ⊥
      not-outside (none-registered t h) = true≢false (sym some ∙ h (class_priority st c))
      not-outside (other-registered t q o h) = o (alone q h)
      not-outside (declared-elsewhere t r l h) = true≢false (sym s ∙ t)

      go : (t : Bool) → is_edge st p c ds ≡ t → is_edge st p c ds ≡ false
      go true e = absurd (not-outside (edge-outside e))
      go false e = e

-- A settled bridge: the flag of a port and a class, by the Domain values that are registered on it then.

module _ (now : ℕ) (b : Bridge) (p : ℕ) (port : p < length b.settings.ports) (eight : p < 8) where
  abbrev left : Own
  left = own_at (settle now b).owns p

  decided : left ≡ decide_own b.settings now b.owns p
  unfolding settle declaring deciding decide_owns
  decided = at_place (decide_own b.settings now b.owns) p no_own eight

  settled-flag : (c : Class) → is_no_class c ≡ false → boundary left c ≡ is_edge b.settings p c left.domains
  unfolding boundary is_no_class
  settled-flag no_class n = absurd (true≢false n)
  settled-flag class_a n = rw decided (unfold decide_own flag_of is_port in rw (lt-ltb p (length b.settings.ports) port))
  settled-flag class_b n = rw decided (unfold decide_own flag_of is_port in rw (lt-ltb p (length b.settings.ports) port))

  -- The flag is set exactly where one of h)'s conditions holds.
  pub flag-exactly : (c : Class) → is_no_class c ≡ false
      → (boundary left c ≡ true → Outside b.settings p c left.domains) × (Outside b.settings p c left.domains → boundary left c ≡ true)
  flag-exactly c n = (
    λ e. edge-outside b.settings p c left.domains (sym (settled-flag c n) ∙ e),
    λ o. settled-flag c n ∙ outside-edge b.settings p c left.domains o,
  )

  -- Where the port hears only the bridge's own value of a class that it supports, its flag is clear.
  pub no_flag : (c : Class) → is_no_class c ≡ false → supports (port_at b.settings p) c ≡ true
      → is_domain (get_or (domains_of c left.domains) (class_priority b.settings c) no_domain) ≡ true
      → ((q : ℕ) → is_domain (get_or (domains_of c left.domains) q no_domain) ≡ true → q ≡ class_priority b.settings c) → boundary left c ≡ false
  no_flag c n s some alone = settled-flag c n ∙ matching b.settings p c left.domains s some alone

-- Code 8: what step j tests is the flag.

module _ (sc : Scene) (p : ℕ) (here : Cell) (n : ℕ) where
  eight-asked : (o : Source) → clear (earlier 8 (steps_of sc p here n o)) ≡ true
      → asked 8 (steps_of sc p here n o) ≡ boundary (own_at sc.owns p) (class_of sc.settings (fixed_of o).priority)
  unfolding steps_from clear earlier asked gives fixed_of
  eight-asked nowhere free = absurd (no-talker sc p here n 8 free)
  eight-asked (from o) free = refl

  eight-once : (o : Source) → once 8 (steps_of sc p here n o) ≡ true
  unfolding steps_from once never gives
  eight-once nowhere = refl
  eight-once (from o) = refl

module _ (sc : Scene) (now : ℕ) (s : List Stream) (p : ℕ) (x : Stream) where
  abbrev flag : Bool
  flag = boundary (own_at sc.owns p) (stream_class sc.settings x)

  -- where no step before j applies and the flag is set, the column is Failed with this Bridge ID and code 8
  pub eight-decided : clear (earlier 8 (steps sc p x)) ≡ true → flag ≡ true → column_of sc now s p x ≡ failed sc.settings.bridge_id 8
  unfolding steps stream_class
  eight-decided free set = own-decided sc now s p x 8 free (eight-asked sc p (cell_at x p) x.id (source_of x) free ∙ set)

  -- and code 8 of a stream that is not registered as Failed says so
  pub eight-only : is_talker_failed (talker_type_of (source_of x)) ≡ false → column_code (column_of sc now s p x) ≡ 8
      → (clear (earlier 8 (steps sc p x)) ≡ true) × (flag ≡ true)
  unfolding steps stream_class
  eight-only whole e =
      let o = own-only sc now s p x 8 (omega arith) (eight-once sc p (cell_at x p) x.id (source_of x)) whole e in
      (o.0, sym (eight-asked sc p (cell_at x p) x.id (source_of x) o.0) ∙ o.1)
