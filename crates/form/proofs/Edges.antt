-- The rules of a Domain value, of an address, and of what a port holds, by the octets that the code tests.
use mathlib.Core.Path.{◌≡◌, ◌∙◌}
use mathlib.Core.List.{List}
use mathlib.Core.Bool.{Bool, false, not, ◌&&◌, ◌||◌, and_assoc, and-true}
use Prim.Native.Nat.{ℕ, ◌-◌, ◌*◌, ◌≤◌, ◌<◌}
use native.Mathlib.Omega.{arith}
use borrow.Author.Rules.{rules}
use lib.ListN.{length, get_or, take, drop, length-drop}
use lib.Seq.{take_all}
use lib.Dec.{leb, eqb}
use borrow.Author.Tests.{le-leb, lt-leb}
use Rattle.octets.specs.Be.{be_at}
use Rattle.octets.specs.Parts.{part}
use Rattle.octets.specs.Fields.{fields}
use Rattle.octets.proofs.Fields.{be_at-one}
use Rattle.model.specs.Layout.{in_address, address_size, address_widths, most_addresses, in_own, addresses_size, before, address_index, own_size, in_slot, slot_index, slot_size, slot_widths, slots}
use Rattle.model.specs.Lists.{all_true, all_zero, parts}
use Rattle.model.specs.Table.{leaving_rule, domain_rules, domain_formed, address_rules, address_formed, addresses_held, addresses_part, slots_part, rising, mac_of, own_rules, own_formed}
use Rattle.std.specs.List.{list_all}
use Rattle.form.proofs.Parts.{same, all-parts}
use Rattle.form.proofs.Tests.{or-implies}

module _ (clock leave : ℕ) (s : List ℕ) where
  pub slot-rules : (since vlan : ℕ) → since ≡ be_at 4 s (before slot_index.since slot_widths) → vlan ≡ be_at 2 s in_slot.vlan
      → (t : Bool) → t ≡ leaving_rule clock leave (get_or s in_slot.leaves 0) since
      → ((leb (get_or s 0 0) 1 && t) && (not (eqb (get_or s 0 0) 0) || ((eqb (get_or s in_slot.leaves 0) 0 && eqb since 0) && eqb vlan 0)))
      ≡ domain_formed clock leave s
  unfolding domain_formed domain_rules fields all_true all_zero
  slot-rules since vlan f g t e = rw (e, f, g, be_at-one s 0, be_at-one s in_slot.leaves, or-implies) simp (and_assoc, and-true)

  pub address-rules : (since : ℕ) → since ≡ be_at 4 s (before address_index.since address_widths)
      → (t : Bool) → t ≡ leaving_rule clock leave (get_or s in_address.leaves 0) since
      → (eqb (get_or s 0 0) 1 && t) ≡ address_formed clock leave s
  unfolding address_formed address_rules fields all_true
  address-rules since f t e = rw (e, f, be_at-one s 0, be_at-one s in_address.leaves, and-true)

  -- the addresses held, which were lent
  pub too-many-addresses : most_addresses < get_or s in_own.count 0 → false ≡ all_true (drop 3 (own_rules clock leave s))
  unfolding own_rules addresses_held all_true
  too-many-addresses h = rw (lt-leb (get_or s in_own.count 0) most_addresses h)

  pub held-tests : length s ≡ own_size → get_or s in_own.count 0 ≤ most_addresses → (l : List ℕ) → l ≡ take addresses_size (drop in_own.addresses s)
      → (each rise none : Bool) → each ≡ list_all (address_formed clock leave) (parts address_size same (get_or s in_own.count 0) l)
      → rise ≡ rising (parts address_size mac_of (get_or s in_own.count 0) l) → none ≡ all_zero (drop (get_or s in_own.count 0 * address_size) l)
      → (each && rise && none) ≡ all_true (drop 3 (own_rules clock leave s))
  unfolding own_rules addresses_held addresses_part all_true
  held-tests whole few l e each rise none f g h =
      let all : l ≡ drop in_own.addresses s = e ∙ take_all addresses_size (drop in_own.addresses s) (omega (arith, length-drop in_own.addresses s)) in
      rw (f ∙ all-parts address_size (address_formed clock leave) (get_or s in_own.count 0) l, g, h, le-leb (get_or s in_own.count 0) most_addresses few, all, and-true) simp and_assoc

  pub own-rules : (t u : Bool) → t ≡ list_all (domain_formed clock leave) (parts slot_size same slots (take (in_own.boundary_a - 0) (drop 0 s)))
      → u ≡ all_true (drop 3 (own_rules clock leave s))
      → (((t && leb (get_or s in_own.boundary_a 0) 1) && leb (get_or s in_own.boundary_b 0) 1) && u) ≡ own_formed clock leave s
  unfolding own_formed own_rules slots_part part all_true
  own-rules t u e f = rw (e ∙ all-parts slot_size (domain_formed clock leave) slots (take (in_own.boundary_a - 0) (drop 0 s)), f) simp and_assoc

-- what closes the tests of a Domain value and of an address
pub ruleset by_octets = (rules, slot-rules, address-rules)
