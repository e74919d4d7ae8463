-- What the code finds and leaves among the octets of what a port holds.
use mathlib.Core.Path.{◌≡◌, refl, sym, ap, ◌∙◌}
use mathlib.Core.List.{List, [], ◌∷◌, ◌++◌, map}
use mathlib.Core.Bool.{Bool, true, false, not, ◌&&◌}
use Prim.Native.Nat.{ℕ, zero, suc, ◌+◌, ◌-◌, ◌≤◌, ◌<◌}
use native.Mathlib.Nat.{add-zero}
use native.Mathlib.Numerals.{add-one}
use native.Mathlib.Omega.{arith}
use lib.ListN.{length, get_or, set, take, drop, length-drop, drop_of_length-le}
use lib.Seq.{drop-cons, get_or-take, get_or-drop, length-take-le}
use borrow.Author.Tests.{eq-eqb, eqb-true}
use lib.Dec.{eqb}
use Rattle.std.specs.List.{list_any, range_with_len}
use Rattle.std.proofs.lemmas.Bool.{false≢true}
use Rattle.octets.specs.Be.{be}
use Rattle.octets.specs.Parts.{part, patch}
use Rattle.octets.specs.Fields.{flat, packed, width}
use Rattle.octets.proofs.Parts.{lent-part}
use Rattle.octets.proofs.Frame.{get_or_part}
use Rattle.octets.proofs.Patches.{lent-patch, patch-front}
use Rattle.octets.proofs.Fields.{length-packed-any, patch-behind, put-field}
use Rattle.model.specs.Layout.{in_own, boundary_widths, slot_index, slot_in, slot_size, slots, slots_size}
use Rattle.model.specs.Lists.{bit}
use Rattle.model.specs.State.{Settings, Domain, no_domain, domain, Own}
use Rattle.model.specs.Registrations.{at, change_domains}
use Rattle.model.specs.Settling.{expire_domain, is_domain, any_domain, other_priority}
use Rattle.model.specs.Table.{domain_numbers, domain_octets, to_domain, own_octets, to_own}
use Rattle.model.specs.Laid.{FitOwn}
use Rattle.model.proofs.Addresses.{addresses_whole}
use Rattle.model.proofs.Owns.{number_held, slots_length}
use Rattle.table.specs.Reads.{ReadsDomain}
pub use Rattle.table.proofs.OwnParts.{laid-own-is, laid-own-fits}
use Rattle.table.proofs.OwnParts.{reads-domain, slot-part, slot-patch, slot-fits}
use Rattle.table.proofs.EachStream.{firsts, firsts-length, firsts_at, firsts-all, firsts-keep}
use Rattle.domains.specs.Classes.{ClassIn, class_from, flagged}
use Rattle.domains.proofs.Keeps.{FitDomain, expire-domain-fits}
use Rattle.domains.proofs.Values.{held-octet}

-- One Domain value lent to a call.
module _ (o : Own) (f : FitOwn o) (s : List ℕ) (e : s ≡ own_octets o) (i : ℕ) (h : i < slots) where
  abbrev value : Domain
  value = get_or o.domains i no_domain

  pub lent-slot : ReadsDomain (take (slot_in i + slot_size - slot_in i) (drop (slot_in i) s)) value
  lent-slot =
      rw (lent-part (slot_in i) slot_size s)
      (reads-domain value (slot-fits o f i h) (part (slot_in i) slot_size s) (ap (part (slot_in i) slot_size) e ∙ slot-part o f i h))

  pub left-slot : (u : Domain → Domain) (y : List ℕ) → y ≡ domain_octets (u (to_domain (take (slot_in i + slot_size - slot_in i) (drop (slot_in i) s))))
      → take (slot_in i) s ++ (y ++ drop (slot_in i + slot_size - slot_in i) (drop (slot_in i) s)) ≡ own_octets (change_domains (at i u) o)
  left-slot u y q =
      lent-patch (slot_in i) slot_size y s
      ∙ ap (λ (z : List ℕ). patch (slot_in i) slot_size z s) (q ∙ ap (λ (d : Domain). domain_octets (u d)) lent-slot.is)
      ∙ ap (patch (slot_in i) slot_size (domain_octets (u value))) e
      ∙ slot-patch o f i h u

-- Expiry, one value after another.

-- some settings of a leave time
abbrev pub leaving : ℕ → Settings
leaving leave = record { bridge_id = 0; priority_a = 0; priority_b = 0; leave_time = leave; pruning = false; vlan = 0; fan_in = 0; ports = [] }

module _ (st : Settings) (time : ℕ) where
  -- the first i expired
  abbrev pub lapsed_to : ℕ → Own → Own
  lapsed_to i = change_domains (firsts (expire_domain st time) i)

  module _ (o : Own) (f : FitOwn o) where
    pub lapsed-fits : (i : ℕ) → FitOwn (lapsed_to i o)
    unfolding change_domains
    lapsed-fits i = record {
      slotted = firsts-length (expire_domain st time) i o.domains ∙ f.slotted;
      domains = firsts-keep (expire_domain st time) FitDomain (expire-domain-fits st time) i o.domains f.domains;
      addresses = f.addresses;
    }

    pub lapsed-none : lapsed_to 0 o ≡ o
    unfolding change_domains firsts
    lapsed-none = refl

    pub lapsed-next : (i : ℕ) → change_domains (at i (expire_domain st time)) (lapsed_to i o) ≡ lapsed_to (i + 1) o
    unfolding change_domains
    lapsed-next i = rw (add-one i, firsts_at (expire_domain st time) i o.domains)

    pub lapsed-all : lapsed_to slots o ≡ change_domains (map (expire_domain st time)) o
    unfolding change_domains
    lapsed-all = rw (← f.slotted, firsts-all (expire_domain st time) o.domains)

    -- all of it fits
    pub expired-own-fits : FitOwn (change_domains (map (expire_domain st time)) o)
    expired-own-fits = rw lapsed-all at (lapsed-fits slots)

-- The values of a class.

module _ (s : List ℕ) (from : ℕ) (k : ClassIn s from) where
  abbrev ds : List Domain
  ds = (to_own s).domains

  abbrev those : List Domain
  those = class_from from ds

  fit : FitOwn (to_own s)
  fit = laid-own-fits s k.laid

  eight : length those ≡ 8
  unfolding class_from
  eight = length-take-le 8 (drop from ds) (omega (arith, length-drop from ds, fit.slotted, k.within))

  pub none_left : drop 8 those ≡ []
  none_left = drop_of_length-le those {i = 8} (omega (arith, eight))

  module _ (q : ℕ) (h : q < 8) where
    abbrev here : Domain
    here = get_or ds (from + q) no_domain

    one_left : drop q those ≡ here ∷ drop (q + 1) those
    one_left =
        drop-cons those q no_domain (omega (arith, eight))
        ∙ (unfold class_from in rw (add-one q, get_or-take 8 (drop from ds) q no_domain h, get_or-drop from ds q no_domain))

    octet : get_or s (slot_in (from + q)) 0 ≡ get_or (domain_numbers here) slot_index.registered 0
    octet =
        let j = from + q in
        let low : j < slots = omega (arith, k.within) in
        ap (λ (i : ℕ). get_or s i 0) (sym (add-zero (slot_in j)))
        ∙ sym (get_or_part (slot_in j) slot_size 0 s (omega arith))
        ∙ ap (λ (t : List ℕ). get_or (part (slot_in j) slot_size t) 0 0) (laid-own-is s k.laid)
        ∙ ap (λ (t : List ℕ). get_or t 0 0) (slot-part (to_own s) fit j low)
        ∙ held-octet here (slot-fits (to_own s) fit j low)

    module _ (a : ℕ) (e : a ≡ slot_in (from + q)) where
      held-here : (get_or s a 0 ≡ 0 → ⊥) → is_domain here ≡ true
      held-here n = go here refl
        where
          go : (d : Domain) → here ≡ d → is_domain d ≡ true
          go no_domain p = absurd (n (rw e (octet ∙ rw p (unfold domain_numbers in refl))))
          go (domain v l) p = unfold is_domain in refl

      free-here : get_or s a 0 ≡ 0 → is_domain here ≡ false
      free-here z = go here refl
        where
          go : (d : Domain) → here ≡ d → is_domain d ≡ false
          go no_domain p = unfold is_domain in refl
          go (domain v l) p =
              let one : get_or (domain_numbers here) slot_index.registered 0 ≡ 1 = rw p (unfold domain_numbers in refl) in
              absurd (omega (arith, one, octet, rw e at z))

-- The numbers of the slots of a class, tested one after another.
module _ (s : List ℕ) (from : ℕ) (k : ClassIn s from) where
  abbrev held-at : ℕ → Bool
  held-at q = not (eqb (get_or s (slot_in (from + q) + slot_index.registered) 0) 0)

  held-is : (q : ℕ) → q < 8 → held-at q ≡ is_domain (get_or (to_own s).domains (from + q) no_domain)
  held-is q h = go (eqb (get_or s (slot_in (from + q) + slot_index.registered) 0) 0) refl
    where
      go : (b : Bool) → eqb (get_or s (slot_in (from + q) + slot_index.registered) 0) 0 ≡ b → not b ≡ is_domain (get_or (to_own s).domains (from + q) no_domain)
      go true e = sym (free-here s from k q h (slot_in (from + q) + slot_index.registered) (add-zero _) (eqb-true _ _ e))
      go false e = sym (held-here s from k q h (slot_in (from + q) + slot_index.registered) (add-zero _) (λ z. false≢true (sym e ∙ eq-eqb _ _ z)))

  pub any-those : (n q : ℕ) → q + n ≡ 8 → list_any held-at (range_with_len q n) ≡ any_domain (drop q (class_from from (to_own s).domains))
  unfolding any_domain
  any-those zero q h = let e : q ≡ 8 = omega arith in sym (rw (e, none_left s from k))
  any-those (suc n) q h = rw (one_left s from k q (omega arith), held-is q (omega arith), any-those n (q + 1) (omega arith))

  pub others-those : (own n q : ℕ) → q + n ≡ 8
      → list_any (λ i. held-at i && not (eqb i own)) (range_with_len q n) ≡ other_priority own q (drop q (class_from from (to_own s).domains))
  unfolding other_priority
  others-those own zero q h = let e : q ≡ 8 = omega arith in sym (rw (e, none_left s from k))
  others-those own (suc n) q h = rw (one_left s from k q (omega arith), held-is q (omega arith), others-those own n (q + 1) (omega arith), add-one q)

-- The flags.

module _ (o : Own) (n : length o.domains ≡ slots) where
  -- what a port holds, with these numbers for its flags
  abbrev holding : List ℕ → List ℕ
  holding vs = flat domain_octets o.domains ++ (packed boundary_widths vs ++ (number_held o ++ addresses_whole o.addresses))

  -- one of the two put
  one-put : (vs : List ℕ) → length vs ≡ 2 → (i v : ℕ) → i < 2 → width (take i boundary_widths) ≡ i → get_or boundary_widths i 0 ≡ 1
      → patch (slots_size + i) 1 (be 1 v) (holding vs) ≡ holding (set vs i v)
  unfolding width
  one-put vs two i v h at one =
      let ds = flat domain_octets o.domains in
      let behind = number_held o ++ addresses_whole o.addresses in
      let room : i + 1 ≤ length (packed boundary_widths vs) = omega (arith, length-packed-any boundary_widths vs two) in
      patch-behind ds (packed boundary_widths vs ++ behind) (be 1 v) slots_size i 1 (slots_length o n)
      ∙ ap (λ (r : List ℕ). ds ++ r) (patch-front (packed boundary_widths vs) behind (be 1 v) i 1 room)
      ∙ ap (λ (r : List ℕ). ds ++ (r ++ behind)) (rw (at, one) at (put-field boundary_widths vs i v two))

  pub flags-put : (a b : Bool) → patch in_own.boundary_b 1 (be 1 (bit b)) (patch in_own.boundary_a 1 (be 1 (bit a)) (own_octets o)) ≡ own_octets (flagged a b o)
  unfolding own_octets width
  flags-put a b =
      ap (patch in_own.boundary_b 1 (be 1 (bit b))) (one-put (bit o.boundary_a ∷ bit o.boundary_b ∷ []) refl 0 (bit a) (omega arith) refl refl)
      ∙ one-put (bit a ∷ bit o.boundary_b ∷ []) refl 1 (bit b) (omega arith) refl refl
