-- What a port holds by itself: read, replaced, lent; its Domain value in a slot, and its flags.
use Prim.Native.Nat.{ℕ, ◌+◌, ◌-◌, ◌<◌, ◌≤◌}
use native.Mathlib.Omega.{arith}
use mathlib.Core.Path.{◌≡◌, refl, sym, ap, ◌∙◌, subst}
use mathlib.Core.List.{List, [], ◌++◌}
use lib.ListN.{length, get_or, set, take, drop, length-set}
use Rattle.octets.specs.Parts.{part, patch}
use Rattle.octets.specs.Fields.{Fit, flat}
use Rattle.octets.proofs.Parts.{lent-part}
use Rattle.octets.proofs.Frame.{part-part}
use Rattle.octets.proofs.Patches.{lent-patch, patch-within}
use Rattle.model.specs.Layout.{own_place, own_size, slot_in, slot_place, slot_size, slot_widths, slots}
use Rattle.model.specs.State.{Domain, no_domain, Own, no_own, own_at}
use Rattle.model.specs.Registrations.{at, change_domains, owning}
use Rattle.model.specs.Table.{domain_numbers, domain_octets, to_domain, own_octets, to_own, encode, decode}
use Rattle.model.specs.Laid.{FitOwn, FitBridge, Laid, LaidOwn}
use Rattle.model.proofs.Lists.{all-at, all_set, all_changed, length_at}
use Rattle.model.proofs.Owns.{domain-length, domains-sized, flags, number_held, fit-back, own-length, own-fit-back}
use Rattle.model.proofs.Addresses.{addresses_whole}
use Rattle.model.proofs.Fits.{laid-is, laid-fits}
use Rattle.table.specs.Updates.{with_own, with_slot}
use Rattle.table.specs.Places.{PortIn, SlotIn}
use Rattle.table.specs.Reads.{ReadsDomain, ReadsOwn}
use Rattle.table.proofs.Lens.{at_set, part-one, patch-one}
use Rattle.table.proofs.Header.{table-length, own-part, own-patch}
use Rattle.table.proofs.Fitting.{owning-fits}
use Rattle.table.proofs.ByPlace.{encoded-laid}

-- Octets that are laid out as what a port holds.
module _ (s : List ℕ) (l : LaidOwn s) where
  back : to_own s ≡ l.thing
  back = ap to_own l.is ∙ own-fit-back l.thing l.fits

  pub laid-own-is : s ≡ own_octets (to_own s)
  laid-own-is = l.is ∙ ap own_octets (sym back)

  pub laid-own-fits : FitOwn (to_own s)
  laid-own-fits = subst FitOwn (sym back) l.fits

pub reads-own : (o : Own) → FitOwn o → (s : List ℕ) → s ≡ own_octets o → ReadsOwn s o
reads-own o f s e = record {
  size = ap length e ∙ own-length o f.slotted f.addresses.at_most_64;
  laid = record { thing = o; fits = f; is = e };
  is = ap to_own e ∙ own-fit-back o f;
}

pub reads-domain : (d : Domain) → Fit slot_widths (domain_numbers d) → (s : List ℕ) → s ≡ domain_octets d → ReadsDomain s d
reads-domain d f s e = record {
  size = ap length e ∙ domain-length d;
  laid = record { thing = d; fits = f; is = e };
  is = ap to_domain e ∙ fit-back d f;
}

pub port-of-slot : {t : List ℕ} {p i : ℕ} → SlotIn t p i → PortIn t p
port-of-slot s = record { laid = s.laid; port = s.port }

-- what follows the Domain values: flags, number of addresses, addresses
abbrev behind_slots : Own → List ℕ
behind_slots o = flags o ++ (number_held o ++ addresses_whole o.addresses)

-- Among the octets that a port holds: the Domain value in slot i.
module _ (o : Own) (f : FitOwn o) (i : ℕ) (h : i < slots) where
  a-slot : i < length o.domains
  a-slot = omega (arith, f.slotted)

  pub slot-part : part (slot_in i) slot_size (own_octets o) ≡ domain_octets (get_or o.domains i no_domain)
  unfolding own_octets
  slot-part = part-one slot_size domain_octets 0 [] (behind_slots o) refl o.domains (domains-sized o.domains) i (slot_in i) a-slot (omega arith) no_domain

  pub slot-patch : (u : Domain → Domain) → patch (slot_in i) slot_size (domain_octets (u (get_or o.domains i no_domain))) (own_octets o) ≡ own_octets (change_domains (at i u) o)
  unfolding own_octets change_domains
  slot-patch u =
      patch-one slot_size domain_octets 0 [] (behind_slots o) refl o.domains (domains-sized o.domains) i (slot_in i) a-slot (omega arith)
      (u (get_or o.domains i no_domain))
      ∙ ap (λ (l : List Domain). flat domain_octets l ++ behind_slots o) (at_set i u o.domains no_domain a-slot)

  pub slot-fits : Fit slot_widths (domain_numbers (get_or o.domains i no_domain))
  slot-fits = all-at (λ d. Fit slot_widths (domain_numbers d)) o.domains f.domains i no_domain a-slot

  pub changed-own-fits : (u : Domain → Domain) → ((d : Domain) → Fit slot_widths (domain_numbers d) → Fit slot_widths (domain_numbers (u d)))
      → FitOwn (change_domains (at i u) o)
  unfolding change_domains
  changed-own-fits u keeps = record {
    slotted = length_at i u o.domains ∙ f.slotted;
    domains = all_changed (λ d. Fit slot_widths (domain_numbers d)) i u o.domains keeps f.domains;
    addresses = f.addresses;
  }

-- Among those of the table.
module _ {t : List ℕ} {p : ℕ} (s : PortIn t p) where
  b-fits : FitBridge (decode t)
  b-fits = laid-fits t s.laid

  an-own : p < length (decode t).owns
  an-own = omega (arith, b-fits.eight_owns, s.port)

  pub own-fits : FitOwn (own_at (decode t).owns p)
  own-fits = all-at FitOwn (decode t).owns b-fits.owns p no_own an-own

  own-octets-at : part (own_place p) own_size t ≡ own_octets (own_at (decode t).owns p)
  own-octets-at = ap (part (own_place p) own_size) (laid-is t s.laid) ∙ own-part (decode t) b-fits p s.port

  pub own-there : ReadsOwn (part (own_place p) own_size t) (own_at (decode t).owns p)
  own-there = reads-own (own_at (decode t).owns p) own-fits (part (own_place p) own_size t) own-octets-at

  module _ (o : Own) where
    pub own-replaced : patch (own_place p) own_size (own_octets o) t ≡ encode (with_own p o (decode t))
    own-replaced = ap (patch (own_place p) own_size (own_octets o)) (laid-is t s.laid) ∙ own-patch (decode t) b-fits p s.port o

    pub with-own-fits : FitOwn o → FitBridge (with_own p o (decode t))
    with-own-fits f =
        owning-fits (decode t) b-fits (set (decode t).owns p o) (length-set (decode t).owns p o ∙ b-fits.eight_owns)
        (all_set FitOwn (decode t).owns p o b-fits.owns f)

    pub own-replaced-laid : FitOwn o → (v : List ℕ) → v ≡ encode (with_own p o (decode t)) → Laid v
    own-replaced-laid f = encoded-laid (with_own p o (decode t)) (with-own-fits f)

  module _ (a : ℕ) (e : a ≡ own_place p) where
    pub lent-own-at : ReadsOwn (take (a + own_size - a) (drop a t)) (own_at (decode t).owns p)
    lent-own-at = rw (e, lent-part (own_place p) own_size t) own-there

    -- by a call that ensures `o.new ≡ own_octets (u (to_own o.old))`
    pub left-own-at : (u : Own → Own) (y : List ℕ) → y ≡ own_octets (u (to_own (take (a + own_size - a) (drop a t))))
        → take a t ++ (y ++ drop (a + own_size - a) (drop a t)) ≡ encode (with_own p (u (own_at (decode t).owns p)) (decode t))
    left-own-at u y q =
        lent-patch a own_size y t
        ∙ ap (λ (z : List ℕ). patch a own_size z t) (q ∙ ap (λ (o : Own). own_octets (u o)) lent-own-at.is)
        ∙ rw e (own-replaced (u (own_at (decode t).owns p)))

-- A Domain value of the port.
module _ {t : List ℕ} {p i : ℕ} (s : SlotIn t p i) where
  abbrev own : Own
  own = own_at (decode t).owns p

  own-fit : FitOwn own
  own-fit = own-fits (port-of-slot s)

  room : own_place p + own_size ≤ length (encode (decode t))
  room = omega (arith, table-length (decode t) (b-fits (port-of-slot s)), s.port)

  pub slot_at : ReadsDomain (part (slot_place p i) slot_size t) (get_or own.domains i no_domain)
  slot_at =
      reads-domain (get_or own.domains i no_domain) (slot-fits own own-fit i s.slot) (part (slot_place p i) slot_size t)
      (ap (part (slot_place p i) slot_size) (laid-is t s.laid)
      ∙ sym (part-part (own_place p) own_size (slot_in i) slot_size (encode (decode t)) room (omega (arith, s.slot)))
      ∙ ap (part (slot_in i) slot_size) (own-part (decode t) (b-fits (port-of-slot s)) p s.port)
      ∙ slot-part own own-fit i s.slot)

  module _ (u : Domain → Domain) where
    -- what is held by itself with the value changed
    with-slot-own : with_slot p i u (decode t) ≡ with_own p (change_domains (at i u) own) (decode t)
    with-slot-own = ap (owning (decode t)) (sym (at_set p (change_domains (at i u)) (decode t).owns no_own (an-own (port-of-slot s))))

    pub slot-replaced : patch (slot_place p i) slot_size (domain_octets (u (get_or own.domains i no_domain))) t ≡ encode (with_slot p i u (decode t))
    slot-replaced =
        let y = domain_octets (u (get_or own.domains i no_domain)) in
        let b = decode t in
        ap (patch (slot_place p i) slot_size y) (laid-is t s.laid)
        ∙ patch-within (own_place p) own_size (slot_in i) slot_size y (encode b) room (omega (arith, s.slot))
        ∙ ap (λ (r : List ℕ). patch (own_place p) own_size (patch (slot_in i) slot_size y r) (encode b)) (own-part b (b-fits (port-of-slot s)) p s.port)
        ∙ ap (λ (r : List ℕ). patch (own_place p) own_size r (encode b)) (slot-patch own own-fit i s.slot u)
        ∙ own-patch b (b-fits (port-of-slot s)) p s.port (change_domains (at i u) own)
        ∙ ap encode (sym with-slot-own)

    module _ (keeps : (d : Domain) → Fit slot_widths (domain_numbers d) → Fit slot_widths (domain_numbers (u d))) where
      pub with-slot-fits : FitBridge (with_slot p i u (decode t))
      with-slot-fits = rw with-slot-own (with-own-fits (port-of-slot s) (change_domains (at i u) own) (changed-own-fits own own-fit i s.slot u keeps))

      pub slot-replaced-laid : (v : List ℕ) → v ≡ encode (with_slot p i u (decode t)) → Laid v
      slot-replaced-laid = encoded-laid (with_slot p i u (decode t)) with-slot-fits

  module _ (a : ℕ) (e : a ≡ slot_place p i) where
    pub lent-slot-at : ReadsDomain (take (a + slot_size - a) (drop a t)) (get_or own.domains i no_domain)
    lent-slot-at = rw (e, lent-part (slot_place p i) slot_size t) slot_at

    -- by a call that ensures `d.new ≡ domain_octets (u (to_domain d.old))`
    pub left-slot-at : (u : Domain → Domain) (y : List ℕ) → y ≡ domain_octets (u (to_domain (take (a + slot_size - a) (drop a t))))
        → take a t ++ (y ++ drop (a + slot_size - a) (drop a t)) ≡ encode (with_slot p i u (decode t))
    left-slot-at u y q =
        lent-patch a slot_size y t
        ∙ ap (λ (z : List ℕ). patch a slot_size z t) (q ∙ ap (λ (d : Domain). domain_octets (u d)) lent-slot-at.is)
        ∙ rw e (slot-replaced u)
