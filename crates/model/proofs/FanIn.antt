-- Inbound ports and shared addresses (02, x): an own failure has code 5, or 15, exactly where no earlier step applies and its fact
-- holds; which ports are inbound depends on registrations alone; at most the limit many ports bring in streams that some port
-- advertises; of streams with one address at most one is advertised on a port.
use mathlib.Core.Path.{◌≡◌, refl, sym, ◌∙◌}
use mathlib.Core.List.{List, [], ◌∷◌}
use mathlib.Core.Bool.{Bool, true, false, not, ◌&&◌, true≢false, false≢true, or-true}
use Prim.Native.Nat.{ℕ, zero, suc, ◌+◌, ◌≤◌, ◌<◌}
use native.Mathlib.Omega.{arith}
use lib.ListN.{length, get_or}
use lib.Dec.{eqb, ltb, leb}
use borrow.Author.Tests.{eq-eqb, ne_eqb, eqb-true, eqb-false, lt-ltb, ltb-true, ltb-false}
use Rattle.model.specs.Lists.{bit, count_to}
use Rattle.model.specs.State.{Cell, failed, Stream, fresh, cell_at}
use Rattle.model.specs.Settling.{Source, nowhere, from, source_of, is_source, talker_type_of, is_talker_failed, Inbound, inbounds_of, is_inbound, inbound_below, may_bring, is_kept_out, same_address, same_address_at, shares, Scene, is_advertise, clear, steps_from, steps, claim, left_for, column_of}
use Rattle.model.specs.Table.{column_code}
use Rattle.model.proofs.Lists.{and_left}
use Rattle.model.proofs.ColumnRule.{Pairwise, advertised}
use Rattle.model.proofs.ComingIn.{at_talker, sharing, kept_out, one_address_at, inbound-more, shares-more}
use Rattle.model.proofs.OwnCodes.{gives, earlier, asked, never, once, steps_of, own-decided, own-only, not-asked}

-- Codes 5 and 15: what their steps test are the facts.

module _ (sc : Scene) (p : ℕ) (here : Cell) (n : ℕ) where
  five-asked : (o : Source) → asked 5 (steps_of sc p here n o) ≡ sharing sc.inbound n o
  unfolding steps_from asked gives at_talker
  five-asked nowhere = refl
  five-asked (from o) = refl

  five-once : (o : Source) → once 5 (steps_of sc p here n o) ≡ true
  unfolding steps_from once never gives
  five-once nowhere = refl
  five-once (from o) = refl

  fifteen-asked : (o : Source) → asked 15 (steps_of sc p here n o) ≡ kept_out sc.settings.fan_in sc.inbound o
  unfolding steps_from asked gives at_talker
  fifteen-asked nowhere = refl
  fifteen-asked (from o) = refl

  fifteen-once : (o : Source) → once 15 (steps_of sc p here n o) ≡ true
  unfolding steps_from once never gives
  fifteen-once nowhere = refl
  fifteen-once (from o) = refl

module _ (sc : Scene) (now : ℕ) (s : List Stream) (p : ℕ) (x : Stream) where
  abbrev shared : Bool
  shared = sharing sc.inbound x.id (source_of x)

  abbrev stopped : Bool
  stopped = kept_out sc.settings.fan_in sc.inbound (source_of x)

  -- where no step before that of 5 applies and the address is shared, the column is Failed with this Bridge ID and code 5
  pub five-decided : clear (earlier 5 (steps sc p x)) ≡ true → shared ≡ true → column_of sc now s p x ≡ failed sc.settings.bridge_id 5
  unfolding steps
  five-decided free set = own-decided sc now s p x 5 free (five-asked sc p (cell_at x p) x.id (source_of x) ∙ set)

  pub fifteen-decided : clear (earlier 15 (steps sc p x)) ≡ true → stopped ≡ true → column_of sc now s p x ≡ failed sc.settings.bridge_id 15
  unfolding steps
  fifteen-decided free set = own-decided sc now s p x 15 free (fifteen-asked sc p (cell_at x p) x.id (source_of x) ∙ set)

  -- and of a stream that is not registered as Failed they say so
  module _ (whole : is_talker_failed (talker_type_of (source_of x)) ≡ false) where
    pub five-only : column_code (column_of sc now s p x) ≡ 5 → (clear (earlier 5 (steps sc p x)) ≡ true) × (shared ≡ true)
    unfolding steps
    five-only e =
        let o = own-only sc now s p x 5 (omega arith) (five-once sc p (cell_at x p) x.id (source_of x)) whole e in
        (o.0, sym (five-asked sc p (cell_at x p) x.id (source_of x)) ∙ o.1)

    pub fifteen-only : column_code (column_of sc now s p x) ≡ 15 → (clear (earlier 15 (steps sc p x)) ≡ true) × (stopped ≡ true)
    unfolding steps
    fifteen-only e =
        let o = own-only sc now s p x 15 (omega arith) (fifteen-once sc p (cell_at x p) x.id (source_of x)) whole e in
        (o.0, sym (fifteen-asked sc p (cell_at x p) x.id (source_of x)) ∙ o.1)

  -- a stream that the port advertises neither shares its address nor is kept out
  pub free : is_advertise (column_of sc now s p x) ≡ true → (shared ≡ false) × (stopped ≡ false)
  unfolding column_of steps
  free a =
      let d = (claim sc.settings now p x).demand in
      let left = left_for sc now s p x in
      let none = and_left (clear (steps sc p x)) (leb d left) (sym (advertised sc p x d left) ∙ a) in (
        sym (five-asked sc p (cell_at x p) x.id (source_of x)) ∙ not-asked 5 (steps sc p x) none,
        sym (fifteen-asked sc p (cell_at x p) x.id (source_of x)) ∙ not-asked 15 (steps sc p x) none,
      )

-- Inbound ports.

-- streams with the same registrations have the same inbound ports, whatever was decided of them
pub inbound-by-registrations : (s t : List Stream) → Pairwise (λ x y. x.cells ≡ y.cells) s t → (p : ℕ) → is_inbound (inbounds_of s) p ≡ is_inbound (inbounds_of t) p
unfolding source_of
inbound-by-registrations [] [] w p = refl
inbound-by-registrations [] (y ∷ t) w p = absurd w
inbound-by-registrations (x ∷ s) [] w p = absurd w
inbound-by-registrations (x ∷ s) (y ∷ t) w p = inbound-more x s p ∙ rw (w.0, inbound-by-registrations s t w.1 p) (sym (inbound-more y t p))

inbound-held : (s : List Stream) (k : ℕ) → k < length s → (q : ℕ) → is_source (source_of (get_or s k (fresh 0))) q ≡ true → is_inbound (inbounds_of s) q ≡ true
inbound-held [] k h q e = absurd (omega arith)
inbound-held (x ∷ s) zero h q e = inbound-more x s q ∙ rw e
inbound-held (x ∷ s) (suc k) h q e = inbound-more x s q ∙ rw (inbound-held s k (omega arith) q e) (or-true (is_source (source_of x) q))

brings : (limit : ℕ) (l : List Inbound) (o : Source) (q : ℕ) → kept_out limit l o ≡ false → is_source o q ≡ true → may_bring limit l q ≡ true
unfolding at_talker is_kept_out is_source
brings limit l nowhere q f e = absurd (false≢true e)
brings limit l (from o) q f e = let same = eqb-true o.port q e in go (may_bring limit l q) (rw same at f)
  where
    go : (b : Bool) → not b ≡ false → b ≡ true
    go true h = refl
    go false h = absurd (true≢false h)

-- a set of ports that are inbound and may bring streams in
module _ (limit : ℕ) (l : List Inbound) (some : limit ≡ 0 → ⊥) (f : ℕ → Bool) (all : (q : ℕ) → f q ≡ true → (is_inbound l q ≡ true) × (may_bring limit l q ≡ true)) where
  few-below : (q : ℕ) → may_bring limit l q ≡ true → count_to (is_inbound l) q < limit
  unfolding may_bring inbound_below
  few-below q h = ltb-true (count_to (is_inbound l) q) limit (rw (ne_eqb limit 0 some) at h)

  few : (n : ℕ) → (count_to f n ≤ limit) × (count_to f n ≤ count_to (is_inbound l) n)
  unfolding count_to bit
  few zero = (omega arith, omega arith)
  few (suc n) = go (f n) refl (few n)
    where
      go : (b : Bool) → f n ≡ b → (count_to f n ≤ limit) × (count_to f n ≤ count_to (is_inbound l) n)
          → (count_to f n + bit b ≤ limit) × (count_to f n + bit b ≤ count_to (is_inbound l) n + bit (is_inbound l n))
      go true e ih =
          let (i, m) = all n e in
          let h = few-below n m in
          (omega (arith, ih.1, h), rw i (omega (arith, ih.1)))
      go false e ih = (omega (arith, ih.0), omega (arith, ih.1))

-- the port at place q is the Talker port of a stream that some port advertises
pub record BringsIn (sc : Scene) (now : ℕ) (s : List Stream) (q : ℕ) : Type 0 where
  pub place : ℕ
  pub held : place < length s
  pub source : is_source (source_of (get_or s place (fresh 0))) q ≡ true
  pub port : ℕ
  pub advertises : is_advertise (column_of sc now s port (get_or s place (fresh 0))) ≡ true

-- with a limit, any set of such ports has at most that many
pub few-bring-in : (sc : Scene) (now : ℕ) (s : List Stream) → sc.inbound ≡ inbounds_of s → (sc.settings.fan_in ≡ 0 → ⊥)
    → (f : ℕ → Bool) → ((q : ℕ) → f q ≡ true → BringsIn sc now s q) → (n : ℕ) → count_to f n ≤ sc.settings.fan_in
few-bring-in sc now s e some f all n = (few sc.settings.fan_in sc.inbound some f one n).0
  where
    one : (q : ℕ) → f q ≡ true → (is_inbound sc.inbound q ≡ true) × (may_bring sc.settings.fan_in sc.inbound q ≡ true)
    one q h =
        let b = all q h in
        let x = get_or s b.place (fresh 0) in (
          rw e (inbound-held s b.place b.held q b.source),
          brings sc.settings.fan_in sc.inbound (source_of x) q (free sc now s b.port x b.advertises).1 b.source,
        )

-- Shared addresses.

eqb-swapped : (a b : ℕ) → eqb a b ≡ eqb b a
eqb-swapped a b = go (eqb a b) refl
  where
    go : (t : Bool) → eqb a b ≡ t → t ≡ eqb b a
    go true e = sym (eq-eqb b a (sym (eqb-true a b e)))
    go false e = sym (ne_eqb b a (λ q. eqb-false a b e (sym q)))

address-swapped : (o q : Source) → one_address_at o q ≡ one_address_at q o
unfolding at_talker same_address_at same_address
address-swapped nowhere nowhere = refl
address-swapped nowhere (from q) = refl
address-swapped (from o) nowhere = refl
address-swapped (from o) (from q) =
    let f = o.registration.fixed in
    let g = q.registration.fixed in
    rw (eqb-swapped f.destination g.destination, eqb-swapped f.vlan g.vlan)

-- a stream shares its address where a held one with a lower StreamID has it
lower-shares : (s : List Stream) (k : ℕ) (i : Inbound) → k < length s → (get_or s k (fresh 0)).id < i.id
    → at_talker (λ o. same_address_at o i.origin) (source_of (get_or s k (fresh 0))) ≡ true → shares (inbounds_of s) i ≡ true
lower-shares [] k i h low same = absurd (omega arith)
lower-shares (x ∷ s) zero i h low same = shares-more x s i ∙ rw (lt-ltb x.id i.id low, same)
lower-shares (x ∷ s) (suc k) i h low same =
    shares-more x s i
    ∙ rw (lower-shares s k i (omega arith) low same) (or-true (ltb x.id i.id && at_talker (λ o. same_address_at o i.origin) (source_of x)))

pub shares-with : (s : List Stream) (k n : ℕ) (t : Source) → k < length s → (get_or s k (fresh 0)).id < n
    → one_address_at (source_of (get_or s k (fresh 0))) t ≡ true → sharing (inbounds_of s) n t ≡ true
unfolding at_talker
shares-with s k n nowhere h low same = same
shares-with s k n (from q) h low same = lower-shares s k record { id = n; origin = q } h low same

module _ (sc : Scene) (now : ℕ) (s : List Stream) (e : sc.inbound ≡ inbounds_of s) (p : ℕ) where
  not_lower : (j k : ℕ) → j < length s → is_advertise (column_of sc now s p (get_or s k (fresh 0))) ≡ true
      → one_address_at (source_of (get_or s j (fresh 0))) (source_of (get_or s k (fresh 0))) ≡ true
      → (get_or s j (fresh 0)).id < (get_or s k (fresh 0)).id → ⊥
  not_lower j k h a same low =
      let y = get_or s k (fresh 0) in
      let taken : sharing sc.inbound y.id (source_of y) ≡ true = rw e (shares-with s j y.id (source_of y) h low same) in
      true≢false (sym taken ∙ (free sc now s p y a).0)

  -- two held streams with one address that a port advertises are one
  pub one_address : (j k : ℕ) → j < length s → k < length s
      → is_advertise (column_of sc now s p (get_or s j (fresh 0))) ≡ true → is_advertise (column_of sc now s p (get_or s k (fresh 0))) ≡ true
      → one_address_at (source_of (get_or s j (fresh 0))) (source_of (get_or s k (fresh 0))) ≡ true → (get_or s j (fresh 0)).id ≡ (get_or s k (fresh 0)).id
  one_address j k h l a b same = go (ltb x.id y.id) refl (ltb y.id x.id) refl
    where
      x : Stream
      x = get_or s j (fresh 0)

      y : Stream
      y = get_or s k (fresh 0)

      go : (c : Bool) → ltb x.id y.id ≡ c → (d : Bool) → ltb y.id x.id ≡ d → x.id ≡ y.id
      go true f d g = absurd (not_lower j k h b same (ltb-true x.id y.id f))
      go false f true g = absurd (not_lower k j l a (address-swapped (source_of y) (source_of x) ∙ same) (ltb-true y.id x.id g))
      go false f false g = omega (arith, ltb-false x.id y.id f, ltb-false y.id x.id g)
