-- The addresses among the octets that a port holds: how many, one of them read, replaced, or lent.
use mathlib.Core.Path.{◌≡◌, refl, sym, ap, ◌∙◌}
use mathlib.Core.List.{List, [], ◌∷◌, ◌++◌, append_assoc, append-nil}
use Prim.Native.Nat.{ℕ, ◌+◌, ◌-◌, ◌*◌, ◌≤◌, ◌<◌}
use native.Mathlib.Omega.{arith}
use lib.ListN.{length, get_or, take, drop, length-append, get_or-map}
use Rattle.octets.specs.Be.{be, be_at}
use Rattle.octets.specs.Parts.{part, patch, zeros}
use Rattle.octets.specs.Fields.{Fit, packed, flat, width}
use Rattle.octets.proofs.Parts.{lent-part}
use Rattle.octets.proofs.Frame.{be_at-part, get_or_part}
use Rattle.octets.proofs.Fields.{length-packed-any, get-field, get-octet}
use Rattle.octets.proofs.Patches.{lent-patch, patch-between}
use Rattle.model.specs.Layout.{address_in, address_size, address_widths, most_addresses, in_own, boundary_widths, address_count_widths, address_index, in_address}
use Rattle.model.specs.Lists.{bit}
use Rattle.model.specs.State.{Presence, vacant, present, Address, Own}
use Rattle.model.specs.Registrations.{at, change_addresses, macs}
use Rattle.model.specs.Table.{presence_numbers, address_numbers, address_octets, to_address, domain_octets, own_octets, addresses_held, to_own}
use Rattle.model.specs.Laid.{FitOwn, LaidAddress, LaidOwn}
use Rattle.model.proofs.Lists.{all-at, length_at}
use Rattle.model.proofs.Parts.{length-parts}
use Rattle.model.proofs.Addresses.{address-length, address-back, addresses-sized}
use Rattle.model.proofs.Owns.{slots_length}
use Rattle.table.specs.Reads.{Reads}
use Rattle.table.proofs.Lens.{part-one, patch-one}
use Rattle.table.proofs.StreamParts.{at_set}
use Rattle.table.proofs.OwnParts.{laid-own-fits}
use Rattle.addresses.specs.Room.{vacant_at}

abbrev pub FitAddress : Address → Type 0
FitAddress a = Fit address_widths (address_numbers a)

-- The number of addresses.

module _ (s : List ℕ) where
  pub held-octet : get_or s in_own.count 0 ≡ length (to_own s).addresses
  unfolding to_own addresses_held
  held-octet = sym (length-parts address_size to_address (get_or s in_own.count 0) _)

  pub held-few : LaidOwn s → get_or s in_own.count 0 ≤ most_addresses
  held-few l = omega (arith, held-octet, (laid-own-fits s l).addresses.at_most_64)

-- what stands before the records, of so many, and behind them
pub front : Own → ℕ → List ℕ
front o n =
    flat domain_octets o.domains
    ++ (packed boundary_widths (bit o.boundary_a ∷ bit o.boundary_b ∷ []) ++ packed address_count_widths (n ∷ []))

abbrev pub unused : ℕ → List ℕ
unused n = zeros ((most_addresses - n) * address_size)

pub own_split : (o : Own) (u : List Address → List Address)
    → own_octets (change_addresses u o) ≡ front o (length (u o.addresses)) ++ (flat address_octets (u o.addresses) ++ unused (length (u o.addresses)))
unfolding own_octets change_addresses front
own_split o u = simp append_assoc

pub own_same : (o : Own) → own_octets o ≡ own_octets (change_addresses (λ l. l) o)
unfolding change_addresses
own_same o = refl

-- what is done to the addresses, by another name
pub changed-same : (o : Own) (u v : List Address → List Address) → u o.addresses ≡ v o.addresses → own_octets (change_addresses u o) ≡ own_octets (change_addresses v o)
unfolding change_addresses
changed-same o u v e = rw e

-- one thing done after another
pub changed-twice : (o : Own) (u v w : List Address → List Address) → v (u o.addresses) ≡ w o.addresses
    → own_octets (change_addresses v (change_addresses u o)) ≡ own_octets (change_addresses w o)
unfolding change_addresses
changed-twice o u v w e = rw e

module _ (o : Own) (f : FitOwn o) where
  flags-length : length (packed boundary_widths (bit o.boundary_a ∷ bit o.boundary_b ∷ [])) ≡ 2
  unfolding width
  flags-length = length-packed-any boundary_widths _ refl

  held-length : (n : ℕ) → length (packed address_count_widths (n ∷ [])) ≡ 1
  unfolding width
  held-length n = length-packed-any address_count_widths (n ∷ []) refl

  pub front_length : (n : ℕ) → length (front o n) ≡ in_own.addresses
  unfolding front
  front_length n =
      let ds = flat domain_octets o.domains in
      let fs = packed boundary_widths (bit o.boundary_a ∷ bit o.boundary_b ∷ []) in
      let ns = packed address_count_widths (n ∷ []) in
      omega (arith, length-append ds (fs ++ ns), length-append fs ns, slots_length o f.slotted, flags-length, held-length n)

  -- another number stored
  pub held-put : (n m : ℕ) (r : List ℕ) → patch in_own.count 1 (be 1 m) (front o n ++ r) ≡ front o m ++ r
  unfolding front packed
  held-put n m r =
      let ds = flat domain_octets o.domains in
      let fs = packed boundary_widths (bit o.boundary_a ∷ bit o.boundary_b ∷ []) in
      let place : length (ds ++ fs) ≡ in_own.count = omega (arith, length-append ds fs, slots_length o f.slotted, flags-length) in
      ap (patch in_own.count 1 (be 1 m)) (simp append_assoc)
      ∙ patch-between (ds ++ fs) (be 1 n ++ []) r (be 1 m) in_own.count 1 place (held-length n)
      ∙ simp (append_assoc, append-nil)

  module _ (k : ℕ) (h : k < length o.addresses) where
    abbrev pub there : Address
    there = get_or o.addresses k (vacant_at 0)

    address-part : part (address_in k) address_size (own_octets o) ≡ address_octets there
    address-part =
        ap (part (address_in k) address_size) (own_same o ∙ own_split o (λ l. l))
        ∙ part-one address_size address_octets in_own.addresses (front o (length o.addresses)) (unused (length o.addresses)) (front_length (length o.addresses))
        o.addresses (addresses-sized o.addresses) k (address_in k) h refl (vacant_at 0)

    address-patch : (u : Address → Address) → patch (address_in k) address_size (address_octets (u there)) (own_octets o) ≡ own_octets (change_addresses (at k u) o)
    address-patch u =
        let n = length o.addresses in
        ap (patch (address_in k) address_size (address_octets (u there))) (own_same o ∙ own_split o (λ l. l))
        ∙ patch-one address_size address_octets in_own.addresses (front o n) (unused n) (front_length n) o.addresses (addresses-sized o.addresses) k (address_in k) h refl (u there)
        ∙ sym (own_split o (at k u) ∙ rw (length_at k u o.addresses, ← at_set k u o.addresses (vacant_at 0) h))

    address-fits : FitAddress there
    address-fits = all-at FitAddress o.addresses f.addresses.each k (vacant_at 0) h

-- One lent to a call.

abbrev pub ReadsAddress : List ℕ → Address → Type 0
ReadsAddress = Reads address_size (λ s _. LaidAddress s) to_address

module _ (o : Own) (f : FitOwn o) (s : List ℕ) (e : s ≡ own_octets o) (k : ℕ) (h : k < length o.addresses) where
  there-is : part (address_in k) address_size s ≡ address_octets (there o f k h)
  there-is = ap (part (address_in k) address_size) e ∙ address-part o f k h

  pub lent-address : ReadsAddress (take (address_in k + address_size - address_in k) (drop (address_in k) s)) (there o f k h)
  lent-address =
      let a = there o f k h in
      let q = lent-part (address_in k) address_size s ∙ there-is in
      record {
        size = ap length q ∙ address-length a;
        laid = record { thing = a; fits = address-fits o f k h; is = q };
        is = ap to_address q ∙ address-back a (address-fits o f k h);
      }

  pub left-address : (u : Address → Address) (y : List ℕ) → y ≡ address_octets (u (to_address (take (address_in k + address_size - address_in k) (drop (address_in k) s))))
      → take (address_in k) s ++ (y ++ drop (address_in k + address_size - address_in k) (drop (address_in k) s)) ≡ own_octets (change_addresses (at k u) o)
  left-address u y q =
      lent-patch (address_in k) address_size y s
      ∙ ap (λ (z : List ℕ). patch (address_in k) address_size z s) (q ∙ ap (λ (a : Address). address_octets (u a)) lent-address.is)
      ∙ ap (patch (address_in k) address_size (address_octets (u (there o f k h)))) e
      ∙ address-patch o f k h u

  -- its address, and the octet that says whether it is registered
  pub mac-read : be_at 6 s (address_in k + in_address.mac) ≡ get_or (macs o.addresses) k 0
  unfolding macs vacant_at address_octets address_numbers presence_numbers width
  mac-read =
      let a = there o f k h in
      sym (be_at-part 6 (address_in k) address_size in_address.mac s (omega arith))
      ∙ ap (λ (t : List ℕ). be_at 6 t in_address.mac) there-is
      ∙ get-field address_widths (address_numbers a) (address-fits o f k h) address_index.mac
      ∙ mac-number a
      ∙ sym (get_or-map (λ (x : Address). x.mac) o.addresses k (vacant_at 0))
    where
      mac-number : (a : Address) → get_or (address_numbers a) address_index.mac 0 ≡ a.mac
      mac-number a = go a.presence
        where
          go : (p : Presence) → get_or (presence_numbers p ++ (a.mac ∷ [])) address_index.mac 0 ≡ a.mac
          go vacant = refl
          go (present l) = refl

  pub registered-read : get_or s (address_in k) 0 ≡ get_or (address_numbers (there o f k h)) address_index.registered 0
  unfolding address_octets width
  registered-read =
      let a = there o f k h in
      ap (λ (i : ℕ). get_or s i 0) (omega arith)
      ∙ sym (get_or_part (address_in k) address_size 0 s (omega arith))
      ∙ ap (λ (t : List ℕ). get_or t 0 0) there-is
      ∙ get-octet address_widths (address_numbers a) (address-fits o f k h) address_index.registered refl
