-- A loop that changes one address after another, and one that takes the vacant ones out.
use mathlib.Core.Path.{◌≡◌, refl, sym, ap, ◌∙◌}
use mathlib.Core.Bool.{Bool, true, false, cond, not, true≢false}
use mathlib.Core.List.{List, [], ◌∷◌, ◌++◌, map, append-nil, append_assoc}
use Prim.Native.Nat.{ℕ, suc, ◌+◌, ◌-◌, ◌^◌, ◌≤◌, ◌<◌}
use native.Mathlib.Omega.{arith}
use native.Mathlib.Numerals.{add-one}
use lib.ListN.{length, get_or, take, drop, length-append, length-drop}
use lib.Seq.{take-suc, drop-cons, take-length, drop-length, length-take-le, take_at, drop_at}
use lib.Dec.{leb}
use Rattle.model.specs.Layout.{address_in, address_size, most_addresses, address_index, own_size}
use Rattle.model.specs.Lists.{keep}
use Rattle.model.specs.State.{Settings, stays, since, Presence, vacant, present, Address, Own}
use Rattle.model.specs.Registrations.{change_addresses, quit_address}
use Rattle.model.specs.Settling.{expired, outlasts, remain_addresses}
use Rattle.model.specs.Table.{address_numbers, address_octets, to_address, own_octets, to_own}
use Rattle.model.specs.Laid.{FitOwn, LaidOwn}
use Rattle.table.proofs.EachStream.{firsts, firsts-length, firsts_at, firsts-all}
use Rattle.table.proofs.OwnParts.{laid-own-is, laid-own-fits, reads-own}
use Rattle.addresses.specs.Room.{vacant_at, taken_out, is_held, present_only, lapse_presence, lapse_address}
use Rattle.addresses.proofs.Records.{FitAddress, ReadsAddress, there, lent-address, left-address, registered-read}
use Rattle.addresses.proofs.Values.{quit-mac, quit-fits, lapse-mac, lapse-fits, vacant-number, present-number}
use Rattle.addresses.proofs.Keeps.{change-fits, firsts-fits, out-fits}

-- a change of no more than the presence, within its fields
pub record Changing (g : Address → Address) : Type 0 where
  pub mac : (a : Address) → (g a).mac ≡ a.mac
  pub fits : (a : Address) → FitAddress a → FitAddress (g a)

pub quitting : (clock : ℕ) → clock < 2 ^ 32 → Changing (quit_address clock)
quitting clock small = record { mac = quit-mac clock; fits = quit-fits clock small }

pub lapsing : (leave now : ℕ) → Changing (lapse_address leave now)
lapsing leave now = record { mac = lapse-mac leave now; fits = lapse-fits leave now }

-- the first k of so many are changed
pub record Turned (g : Address → Address) (s₀ s : List ℕ) (held k : ℕ) : Type 0 where
  pub within : k ≤ held
  pub few : held ≤ most_addresses
  pub count : held ≡ length (to_own s₀).addresses
  pub size : length s ≡ own_size
  pub is : s ≡ own_octets (change_addresses (firsts g k) (to_own s₀))

module _ (g : Address → Address) (c : Changing g) (s₀ : List ℕ) (l : LaidOwn s₀) where
  pub turned_none : (held : ℕ) → length s₀ ≡ own_size → held ≡ length (to_own s₀).addresses → held ≤ most_addresses → Turned g s₀ s₀ held 0
  unfolding change_addresses firsts
  turned_none held z e h = record { within = omega arith; few = h; count = e; size = z; is = laid-own-is s₀ l }

  pub turned-fits : (k : ℕ) → FitOwn (change_addresses (firsts g k) (to_own s₀))
  turned-fits k = let f = laid-own-fits s₀ l in change-fits (to_own s₀) f (firsts g k) (firsts-fits g c.mac c.fits (to_own s₀).addresses f.addresses k)

  module _ (s : List ℕ) (held k : ℕ) (t : Turned g s₀ s held k) (h : k < held) where
    pub so-many : k < length (change_addresses (firsts g k) (to_own s₀)).addresses
    unfolding change_addresses
    so-many = omega (arith, firsts-length g k (to_own s₀).addresses, t.count)

    pub turned-lent : ReadsAddress (take (address_in k + address_size - address_in k) (drop (address_in k) s)) (there (change_addresses (firsts g k) (to_own s₀)) (turned-fits k) k so-many)
    turned-lent = lent-address (change_addresses (firsts g k) (to_own s₀)) (turned-fits k) s t.is k so-many

    pub turned_more : (y z : List ℕ) → y ≡ address_octets (g (to_address (take (address_in k + address_size - address_in k) (drop (address_in k) s))))
        → z ≡ take (address_in k) s ++ (y ++ drop (address_in k + address_size - address_in k) (drop (address_in k) s)) → length z ≡ own_size → Turned g s₀ z held (k + 1)
    turned_more y z q e n = record {
      within = omega arith;
      few = t.few;
      count = t.count;
      size = n;
      is =
          e
          ∙ left-address (change_addresses (firsts g k) (to_own s₀)) (turned-fits k) s t.is k so-many g y q
          ∙ unfold change_addresses in rw (add-one k, ← firsts_at g k (to_own s₀).addresses) refl;
    }

  pub turned-all : (s : List ℕ) (held k : ℕ) → Turned g s₀ s held k → held ≤ k → s ≡ own_octets (change_addresses (map g) (to_own s₀))
  unfolding change_addresses
  turned-all s held k t h =
      let e : k ≡ length (to_own s₀).addresses = omega (arith, t.within, t.count) in
      t.is ∙ rw (e, firsts-all g (to_own s₀).addresses)

  pub mapped-fits : FitOwn (change_addresses (map g) (to_own s₀))
  unfolding change_addresses
  mapped-fits = rw (← firsts-all g (to_own s₀).addresses) (turned-fits (length (to_own s₀).addresses))

-- The vacant ones among the first k are still to be taken out.

unfoldable pub dropping : ℕ → List Address → List Address
dropping k l = present_only (take k l) ++ drop k l

present-append : (l r : List Address) → present_only (l ++ r) ≡ present_only l ++ present_only r
unfolding present_only
present-append [] r = refl
present-append (a ∷ l) r = go (is_held a.presence) (present-append l r)
  where
    go : (t : Bool) → present_only (l ++ r) ≡ present_only l ++ present_only r → keep t a (present_only (l ++ r)) ≡ keep t a (present_only l) ++ present_only r
    go true e = ap (λ (x : List Address). a ∷ x) e
    go false e = e

module _ (l : List Address) where
  dropping-all : (k : ℕ) → k ≡ length l → dropping k l ≡ present_only l
  unfolding dropping
  dropping-all k e = rw (e, take-length l, drop-length l) (append-nil (present_only l))

  dropping-none : dropping 0 l ≡ l
  unfolding dropping present_only
  dropping-none = refl

  module _ (k : ℕ) (h : k < length l) where
    next : take (suc k) l ≡ take k l ++ (get_or l k (vacant_at 0) ∷ [])
    next = take-suc l k (vacant_at 0) h

    one-present : (a : Address) → is_held a.presence ≡ true → present_only (a ∷ []) ≡ a ∷ []
    unfolding present_only
    one-present a e = rw e

    one-vacant : (a : Address) → is_held a.presence ≡ false → present_only (a ∷ []) ≡ []
    unfolding present_only
    one-vacant a e = rw e

    dropping-present : is_held (get_or l k (vacant_at 0)).presence ≡ true → dropping (suc k) l ≡ dropping k l
    unfolding dropping
    dropping-present e =
        rw (next, present-append (take k l) (get_or l k (vacant_at 0) ∷ []), one-present (get_or l k (vacant_at 0)) e)
        (append_assoc (present_only (take k l)) (get_or l k (vacant_at 0) ∷ []) (drop (suc k) l)
        ∙ ap (λ (x : List Address). present_only (take k l) ++ x) (sym (drop-cons l k (vacant_at 0) h)))

    dropping-vacant : is_held (get_or l k (vacant_at 0)).presence ≡ false → dropping (suc k) l ≡ dropping k (taken_out k l)
    unfolding dropping taken_out
    dropping-vacant e =
        let n : length (take k l) ≡ k = length-take-le k l (omega arith) in
        rw (
          next,
          present-append (take k l) (get_or l k (vacant_at 0) ∷ []),
          one-vacant (get_or l k (vacant_at 0)) e,
          append-nil (present_only (take k l)),
          take_at (take k l) (drop (suc k) l) k n,
          drop_at (take k l) (drop (suc k) l) k n,
        )

    out-fewer : suc (length (taken_out k l)) ≡ length l
    unfolding taken_out
    out-fewer = omega (arith, length-append (take k l) (drop (suc k) l), length-take-le k l (omega arith), length-drop (suc k) l)

twice : (o : Own) (k : ℕ) → dropping (suc k) o.addresses ≡ dropping k (taken_out k o.addresses)
    → change_addresses (dropping k) (change_addresses (taken_out k) o) ≡ change_addresses (dropping (suc k)) o
unfolding change_addresses
twice o k e = rw e

pub record Dropping (s₀ s : List ℕ) (k : ℕ) : Type 0 where
  pub within : k ≤ length (to_own s).addresses
  pub laid : LaidOwn s
  pub size : length s ≡ own_size
  pub few : length (to_own s).addresses ≤ most_addresses
  pub leads : change_addresses (dropping k) (to_own s) ≡ change_addresses present_only (to_own s₀)

module _ (s₀ : List ℕ) where
  pub dropping-start : LaidOwn s₀ → length s₀ ≡ own_size → (k : ℕ) → k ≡ length (to_own s₀).addresses → Dropping s₀ s₀ k
  dropping-start l z k e = record {
    within = omega arith;
    laid = l;
    size = z;
    few = (laid-own-fits s₀ l).addresses.at_most_64;
    leads = unfold change_addresses in rw (dropping-all (to_own s₀).addresses k e);
  }

  module _ (s : List ℕ) where
    pub dropping-end : Dropping s₀ s 0 → s ≡ own_octets (change_addresses present_only (to_own s₀))
    dropping-end d = laid-own-is s d.laid ∙ ap own_octets (unfold change_addresses in rw (dropping-none (to_own s).addresses) at d.leads)

    -- a turn at the place k, by the octet that says whether its address is registered
    module _ (i k : ℕ) (e : i ≡ suc k) (d : Dropping s₀ s i) where
      abbrev l : List Address
      l = (to_own s).addresses

      h : k < length (to_own s).addresses
      h = omega (arith, d.within)

      f : FitOwn (to_own s)
      f = laid-own-fits s d.laid

      seen : get_or s (address_in k) 0 ≡ get_or (address_numbers (there (to_own s) f k h)) address_index.registered 0
      seen = registered-read (to_own s) f s (laid-own-is s d.laid) k h

      leads : change_addresses (dropping (suc k)) (to_own s) ≡ change_addresses present_only (to_own s₀)
      leads = rw e at d.leads

      pub dropping-keep : (get_or s (address_in k) 0 ≡ 0 → ⊥) → Dropping s₀ s k
      dropping-keep n = record {
        within = omega (arith, d.within);
        laid = d.laid;
        size = d.size;
        few = d.few;
        leads = unfold change_addresses in (rw (dropping-present l k h (present-number (there (to_own s) f k h) (λ z. n (seen ∙ z)))) at leads);
      }

      pub dropping-out : get_or s (address_in k) 0 ≡ 0 → (t : List ℕ) → t ≡ own_octets (change_addresses (taken_out k) (to_own s)) → Dropping s₀ t k
      dropping-out z t q =
          let fewer = out-fewer l k h in
          let r = reads-own (change_addresses (taken_out k) (to_own s)) (change-fits (to_own s) f (taken_out k) (out-fits k l f.addresses (omega (arith, fewer)))) t q in
          record {
            within = rw r.is (unfold change_addresses in omega (arith, fewer, d.within));
            laid = r.laid;
            size = r.size;
            few = rw r.is (unfold change_addresses in omega (arith, fewer, d.few));
            leads =
                ap (change_addresses (dropping k)) r.is
                ∙ twice (to_own s) k (dropping-vacant l k h (vacant-number (there (to_own s) f k h) (sym seen ∙ z)))
                ∙ leads;
          }

-- What expiry takes out.

module _ (st : Settings) (leave now : ℕ) (e : st.leave_time ≡ leave) where
  lapsed-held : (p : Presence) → is_held (lapse_presence leave now p) ≡ outlasts st now p
  unfolding is_held lapse_presence outlasts expired
  lapsed-held vacant = refl
  lapsed-held (present stays) = refl
  lapsed-held (present (since t)) = rw e (go (leb (t + leave) now))
    where
      go : (b : Bool) → is_held (cond b vacant (present (since t))) ≡ not b
      go true = refl
      go false = refl

  -- and is left as it was where it is registered still
  lapsed-same : (p : Presence) → is_held (lapse_presence leave now p) ≡ true → lapse_presence leave now p ≡ p
  unfolding is_held lapse_presence
  lapsed-same vacant h = refl
  lapsed-same (present stays) h = refl
  lapsed-same (present (since t)) h = go (leb (t + leave) now) h
    where
      go : (b : Bool) → is_held (cond b vacant (present (since t))) ≡ true → cond b vacant (present (since t)) ≡ present (since t)
      go true h = absurd (true≢false (sym h))
      go false h = refl

  pub remains : (l : List Address) → present_only (map (lapse_address leave now) l) ≡ remain_addresses st now l
  unfolding present_only remain_addresses lapse_address
  remains [] = refl
  remains (a ∷ l) = go (is_held (lapse_presence leave now a.presence)) refl (remains l)
    where
      go : (b : Bool) → is_held (lapse_presence leave now a.presence) ≡ b → present_only (map (lapse_address leave now) l) ≡ remain_addresses st now l
          → keep (is_held (lapse_presence leave now a.presence)) (lapse_address leave now a) (present_only (map (lapse_address leave now) l)) ≡ keep (outlasts st now a.presence) a (remain_addresses st now l)
      go true h r =
          rw (h, sym (lapsed-held a.presence) ∙ h, r)
          (ap (λ (p : Presence). record { mac = a.mac; presence = p } ∷ remain_addresses st now l) (lapsed-same a.presence h))
      go false h r = rw (h, sym (lapsed-held a.presence) ∙ h) r
