-- Shared addresses: destination and VLAN as one number, and the search among the streams before one, which are those with a lower
-- StreamID.
use mathlib.Core.Path.{◌≡◌, refl, sym, ap, ◌∙◌}
use mathlib.Core.List.{List, [], ◌∷◌}
use mathlib.Core.Bool.{Bool, true, false, not, ◌&&◌, ◌||◌}
use Prim.Native.Nat.{ℕ, zero, suc, ◌+◌, ◌-◌, ◌*◌, ◌^◌, ◌≤◌, ◌<◌}
use native.Mathlib.Omega.{arith}
use native.Mathlib.Numerals.{add-one}
use lib.ListN.{length, get_or}
use lib.Dec.{eqb}
use borrow.Author.Tests.{eq-eqb, ne_eqb, eqb-true, eqb-false, lt-ltb, le-ltb}
use Rattle.octets.specs.Be.{be_at}
use Rattle.octets.specs.Fields.{fields}
use Rattle.octets.proofs.Fields.{fields-of-packed}
use Rattle.model.specs.Layout.{fixed_widths}
use Rattle.model.specs.Lists.{All}
use Rattle.model.specs.State.{Fixed, Stream, Bridge, fresh}
use Rattle.model.specs.Registrations.{ids}
use Rattle.model.specs.WrittenFrames.{fixed_numbers}
use Rattle.model.specs.Settling.{Scene, scene_of, Origin, Source, nowhere, from, source_of, fixed_of, Inbound, inbounds_of, same_address, same_address_at, shares, is_kept_out, may_bring}
use Rattle.model.specs.Table.{decode}
use Rattle.model.specs.Laid.{Ascending}
use Rattle.model.proofs.ComingIn.{at_talker, shares-more}
use Rattle.model.proofs.Fits.{fit-fixed, laid-fits}
use Rattle.table.specs.Updates.{stream_at}
use Rattle.table.specs.Places.{Stands}
use Rattle.table.specs.Reads.{fixed_octets}
use Rattle.table.proofs.ByPlace.{stream-fits}
use Rattle.streams.specs.Answers.{source_port}
use Rattle.std.specs.Prelude.{Some, None, is_some}
use Rattle.streams.proofs.Fixed.{settled-values}
use Rattle.fanin.specs.Failures.{address_of, has_address, any_from, shares_with, is_taken, failure_from, common_failure}
use Rattle.fanin.specs.declared.CommonFailure.TheVariants.{SharedAddress, FanIn}
use Rattle.fanin.specs.Places.{SettledTo}

-- The octets of an address.

joined-read : (s : List ℕ) → be_at 8 s 0 ≡ be_at 6 s 0 * 2 ^ 16 + be_at 2 s 6
unfolding be_at
joined-read s = omega arith

module _ {t : List ℕ} {k : ℕ} (w : Stands t k) where
  abbrev x : Stream
  x = stream_at k (decode t)

  pub address_read : (s : List ℕ) (f : Fixed) → s ≡ fixed_octets f → f ≡ fixed_of (source_of x) → be_at 8 s 0 ≡ address_of (fixed_of (source_of x))
  unfolding address_of fixed_octets fixed_numbers fields
  address_read s f e q =
      let o = fixed_of (source_of x) in
      let r = fields-of-packed fixed_widths (fixed_numbers o) (settled-values x (stream-fits w)).numbers in
      let d : be_at 6 (fixed_octets o) 0 ≡ o.destination = ap (λ (vs : List ℕ). get_or vs 0 0) r in
      let v : be_at 2 (fixed_octets o) 6 ≡ o.vlan = ap (λ (vs : List ℕ). get_or vs 1 0) r in
      rw (e, q, joined-read (fixed_octets o), d, v)

  -- the VLAN has 16 bits
  pub vlan-fits : (fixed_of (source_of x)).vlan < 65536
  vlan-fits =
      let o = settled-values x (stream-fits w) in
      (fit-fixed (fixed_of (source_of x)) o.numbers o.rank).vlan

-- Whether a source has an address, by the tests of the code.
pub its_address : (wanted : ℕ) (s : Source) → address_of (fixed_of s) ≡ wanted → has_address wanted s ≡ is_some (source_port s)
unfolding has_address fixed_of source_port
its_address wanted nowhere e = refl
its_address wanted (from o) e = eq-eqb (address_of o.registration.fixed) wanted e

pub another_address : (wanted : ℕ) (s : Source) → (address_of (fixed_of s) ≡ wanted → ⊥) → has_address wanted s ≡ false
unfolding has_address fixed_of
another_address wanted nowhere n = refl
another_address wanted (from o) n = ne_eqb (address_of o.registration.fixed) wanted n

pub asked-with : (b : Bridge) (k j wanted : ℕ) (r : Bool) → wanted ≡ address_of (fixed_of (source_of (stream_at k b))) → r ≡ has_address wanted (source_of (stream_at j b))
    → r ≡ shares_with b k j
asked-with b k j wanted r e h = rw e at h

-- The search, which has come to place j: what is left of it gives the answer.

abbrev pub Searched : (ℕ → Bool) → ℕ → ℕ → Type 0
Searched f j k = (j ≤ k) × (any_from f j (k - j) ≡ any_from f 0 k)

module _ (f : ℕ → Bool) (k : ℕ) where
  pub search-begins : Searched f 0 k
  search-begins =
      let e : k - 0 ≡ k = omega arith in
      (omega arith, rw e)

  module _ (j : ℕ) (s : Searched f j k) where
    pub search-ends : k ≤ j → false ≡ any_from f 0 k
    unfolding any_from
    search-ends h =
        let e : k - j ≡ 0 = omega arith in
        rw e at s.1

    module _ (h : j < k) where
      left : k - j ≡ suc (k - (j + 1))
      left = omega arith

      pub search-finds : f j ≡ true → true ≡ any_from f 0 k
      unfolding any_from
      search-finds e = rw (left, e) at s.1

      pub search-goes-on : f j ≡ false → Searched f (j + 1) k
      unfolding any_from
      search-goes-on e = (omega arith, rw (left, e, ← add-one j) at s.1)

-- addresses as numbers
address_same : (f g : Fixed) → f.vlan < 65536 → g.vlan < 65536 → same_address f g ≡ eqb (address_of f) (address_of g)
unfolding same_address address_of
address_same f g v w = go (eqb f.destination g.destination) (eqb f.vlan g.vlan) refl refl
  where
    go : (a b : Bool) → eqb f.destination g.destination ≡ a → eqb f.vlan g.vlan ≡ b
        → (a && b) ≡ eqb (f.destination * 2 ^ 16 + f.vlan) (g.destination * 2 ^ 16 + g.vlan)
    go true true d e =
        let p = eqb-true f.destination g.destination d in
        let q = eqb-true f.vlan g.vlan e in
        sym (eq-eqb (f.destination * 2 ^ 16 + f.vlan) (g.destination * 2 ^ 16 + g.vlan) (rw (p, q)))
    go true false d e =
        let q = eqb-false f.vlan g.vlan e in
        let p = eqb-true f.destination g.destination d in
        sym (ne_eqb (f.destination * 2 ^ 16 + f.vlan) (g.destination * 2 ^ 16 + g.vlan) (λ n. q (omega (arith, n, p))))
    go false b d e =
        let p = eqb-false f.destination g.destination d in
        sym (ne_eqb (f.destination * 2 ^ 16 + f.vlan) (g.destination * 2 ^ 16 + g.vlan) (λ n. p (omega (arith, n, v, w))))

address-at : (s : Source) (o : Origin) → (fixed_of s).vlan < 65536 → o.registration.fixed.vlan < 65536
    → at_talker (λ q. same_address_at q o) s ≡ has_address (address_of o.registration.fixed) s
unfolding at_talker same_address_at has_address fixed_of
address-at nowhere o v w = refl
address-at (from q) o v w = address_same q.registration.fixed o.registration.fixed v w

-- streams with a higher StreamID, or the stream's own, are none that it shares with
none-higher : (s : List Stream) (i : Inbound) → All (λ j. i.id < j) (ids s) → shares (inbounds_of s) i ≡ false
unfolding ids
none-higher [] i a = unfold inbounds_of shares in refl
none-higher (y ∷ s) i a = shares-more y s i ∙ rw (le-ltb y.id i.id (omega (arith, a.0)), none-higher s i a.1)

-- those before it have a lower one
shares-before : (s : List Stream) (k : ℕ) (i : Inbound) (f : ℕ → Bool) (m : ℕ) → Ascending (ids s) → k < length s → (get_or s k (fresh 0)).id ≡ i.id
    → ((j : ℕ) → j < k → f (m + j) ≡ at_talker (λ q. same_address_at q i.origin) (source_of (get_or s j (fresh 0)))) → shares (inbounds_of s) i ≡ any_from f m k
unfolding ids any_from
shares-before [] k i f m a h e g = absurd (omega arith)
shares-before (y ∷ s) zero i f m a h e g =
    shares-more y s i ∙ rw (le-ltb y.id i.id (omega (arith, e))) (none-higher s i (rw e at a.0))
shares-before (y ∷ s) (suc k) i f m a h e g =
    let z : m + 0 ≡ m = omega arith in
    let here : f m ≡ at_talker (λ q. same_address_at q i.origin) (source_of y) = rw z at (g 0 (omega arith)) in
    let low : y.id < i.id = rw e at (all-at-id (λ j. y.id < j) s a.0 k (omega arith)) in
    shares-more y s i
    ∙ rw (lt-ltb y.id i.id low, here)
    (ap (λ (b : Bool). at_talker (λ q. same_address_at q i.origin) (source_of y) || b)
    (shares-before s k i f (suc m) a.1 (omega arith) e
    (λ j l. let n : suc m + j ≡ m + suc j = omega arith in rw n (g (suc j) (omega arith)))))
  where
    all-at-id : (P : ℕ → Type 0) (s : List Stream) → All P (ids s) → (k : ℕ) → k < length s → P (get_or s k (fresh 0)).id
    all-at-id P [] a k h = absurd (omega arith)
    all-at-id P (y ∷ s) a zero h = a.0
    all-at-id P (y ∷ s) a (suc k) h = all-at-id P s a.1 k (omega arith)

pub stands-before : {t : List ℕ} {k : ℕ} → Stands t k → (j : ℕ) → j < k → Stands t j
stands-before w j h = record { laid = w.laid; held = omega (arith, w.held) }

module _ {t : List ℕ} (k : ℕ) (w : Stands t k) (o : Origin) (e : source_of (stream_at k (decode t)) ≡ from o) where
  shares-found : shares (inbounds_of (decode t).streams) record { id = (stream_at k (decode t)).id; origin = o } ≡ is_taken (decode t) k
  unfolding fixed_of
  shares-found =
      let v : o.registration.fixed.vlan < 65536 = rw e at (vlan-fits w) in
      shares-before (decode t).streams k record { id = (stream_at k (decode t)).id; origin = o } _ 0 (laid-fits t w.laid).ascending w.held refl
      (λ j h. let n : 0 + j ≡ j = omega arith in
      rw (n, e) (sym (address-at (source_of (stream_at j (decode t))) o (vlan-fits (stands-before w j h)) v)))

-- where the settled values of the streams are their Talkers'
module _ {t : List ℕ} {n : ℕ} (w : SettledTo t n) (j : ℕ) (h : j < n) where
  pub settled-stands : Stands t j
  settled-stands = record { laid = w.laid; held = omega (arith, w.within) }

-- The own failure of stream k on every port, by the tests of the code.

-- a Talker port that is found is that of an origin
record At (s : Source) (p : ℕ) : Type 0 where
  origin : Origin
  is : s ≡ from origin
  port : p ≡ origin.port

found-at : (s : Source) (p : ℕ) → source_port s ≡ Some p → At s p
unfolding source_port
found-at nowhere p e = let z : ◌≡◌ {A = ℕ} 0 1 = cc in absurd (omega arith)
found-at (from o) p e = record { origin = o; is = refl; port = cc }

module _ (t : List ℕ) (k : ℕ) (w : Stands t k) where
  abbrev sc : Scene
  sc = scene_of (decode t)

  abbrev stream : Stream
  stream = stream_at k (decode t)

  nowhere-is : (s : Source) → source_port s ≡ None → s ≡ nowhere
  unfolding source_port
  nowhere-is nowhere e = refl
  nowhere-is (from o) e = let z : ◌≡◌ {A = ℕ} 0 1 = cc in absurd (omega arith)

  pub no-failure : source_port (source_of stream) ≡ None → None ≡ common_failure sc stream
  unfolding failure_from
  no-failure e = sym (rw (nowhere-is (source_of stream) e))

  module _ (p : ℕ) (e : source_port (source_of stream) ≡ Some p) (taken : Bool) (g : taken ≡ is_taken (decode t) k) where
    abbrev found : At (source_of stream) p
    found = found-at (source_of stream) p e

    shares-is : shares sc.inbound record { id = stream.id; origin = found.origin } ≡ taken
    shares-is = shares-found k w found.origin found.is ∙ sym g

    pub shared-failure : taken ≡ true → Some SharedAddress ≡ common_failure sc stream
    unfolding failure_from
    shared-failure h = sym (rw (found.is, shares-is, h))

    module _ (free : taken ≡ false) (may : Bool) (m : may ≡ may_bring (decode t).settings.fan_in (inbounds_of (decode t).streams) p) where
      kept-out-is : is_kept_out sc.settings.fan_in sc.inbound found.origin ≡ not may
      unfolding is_kept_out
      kept-out-is =
          ap (λ (q : ℕ). not (may_bring sc.settings.fan_in sc.inbound q)) (sym found.port) ∙ ap not (sym m)

      pub brings-in : may ≡ true → None ≡ common_failure sc stream
      unfolding failure_from
      brings-in h = sym (rw (found.is, shares-is, free, kept-out-is, h))

      pub kept_out_lem : may ≡ false → Some FanIn ≡ common_failure sc stream
      unfolding failure_from
      kept_out_lem h = sym (rw (found.is, shares-is, free, kept-out-is, h))
