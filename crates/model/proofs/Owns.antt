-- What a port holds by itself, as octets and back: its Domain values, its flags and its addresses.
use mathlib.Core.Path.{◌≡◌, refl, sym, ◌∙◌, ap}
use mathlib.Core.List.{List, [], ◌∷◌, ◌++◌, append_assoc}
use mathlib.Core.Bool.{Bool, true, false, cond}
use Prim.Native.Nat.{ℕ, zero, suc, ◌+◌, ◌*◌, ◌-◌, ◌^◌, ◌≤◌, ◌<◌}
use native.Mathlib.Omega.{arith}
use lib.ListN.{length, get_or, drop, replicate, take-append-drop, length-append, length-drop, drop_of_length-le}
use lib.Seq.{drop_at, drop-drop}
use lib.Dec.{eqb}
use borrow.Author.Tests.{eq-eqb, le-leb, leb-true}
use Rattle.octets.specs.Fields.{fields, packed, Fit, width, flat}
use Rattle.octets.specs.Parts.{part, zeros}
use Rattle.octets.proofs.Parts.{length_part}
use Rattle.octets.proofs.Fields.{length-packed-any, fields-of-packed, fields-packed-behind, packed-fields, fields_fit, fit_at, fit-zeros, packed-zeros}
use Rattle.model.specs.Layout.{address_count_widths, address_size, addresses_size, boundary_widths, in_own, most_addresses, own_size, slot_index, slot_size, slot_widths, slots, slots_size}
use Rattle.model.specs.Lists.{All, all_true, bit, parts, Octets, all_zero}
use Rattle.model.specs.State.{Domain, no_domain, domain, Own, no_own}
use Rattle.model.specs.Registrations.{macs}
use Rattle.model.specs.Table.{to_leaving, leaving_rule, every_part, domain_numbers, domain_from, domain_octets, to_domain, domain_rules, domain_formed, address_formed, to_address, own_octets, slots_part, addresses_held, addresses_part, to_own, rising, mac_of, own_rules, own_formed}
use Rattle.model.specs.Laid.{FitOwn}
use Rattle.model.proofs.Lists.{all-each, all_map, all_replicate, implied, all_true_lem, true-all}
use Rattle.model.proofs.Valid.{ValidDomain, ValidOwn, Rising}
use Rattle.model.proofs.Parts.{◌also◌, Sized, octets-at, octets-append, octets-packed, octets-flat, octets-part, octets-drop, zero-at, zero-zeros, packed-whole, length-parts, length-flat-sized, flat-zeros, zeros-add, many_read, part-between}
use Rattle.model.proofs.Cells.{bit-back, bit-forth, bit-few, leaving-back, leaving-few, since-within, leaving-formed, left}
use Rattle.model.proofs.Coded.{Coded, many-keep, many-forth, many-valid}
use Rattle.model.proofs.SettingsOctets.{octet-field}
use Rattle.model.proofs.Addresses.{addresses_whole, whole-addresses-length, addresses-rest, addresses-back, addresses-octets, valid-addresses-fit, addresses-formed, addresses-rise, addresses-forth, addresses-valid}

-- A Domain value.

domain-size : (d : Domain) → length (domain_numbers d) ≡ length slot_widths
unfolding domain_numbers
domain-size no_domain = refl
domain-size (domain v l) = refl

pub domain-length : (d : Domain) → length (domain_octets d) ≡ slot_size
unfolding domain_octets width
domain-length d = length-packed-any slot_widths (domain_numbers d) (domain-size d)

pub domain-octets : (d : Domain) → Octets (domain_octets d)
unfolding domain_octets
domain-octets d = octets-packed slot_widths (domain_numbers d)

pub domains-sized : (ds : List Domain) → All (Sized slot_size domain_octets) ds
domains-sized = all-each (Sized slot_size domain_octets) domain-length

-- its numbers are read as it
pub domain-read : (d : Domain) → domain_from (domain_numbers d) ≡ d
unfolding domain_from domain_numbers
domain-read no_domain = refl
domain-read (domain v l) = rw (leaving-back l)

pub fit-back : (d : Domain) → Fit slot_widths (domain_numbers d) → to_domain (domain_octets d) ≡ d
unfolding to_domain domain_octets
fit-back d f = rw (fields-of-packed slot_widths (domain_numbers d) f) (domain-read d)

module _ (clock leave : ℕ) where
  pub domain-fit : clock < 2 ^ 32 → (d : Domain) → ValidDomain clock leave d → Fit slot_widths (domain_numbers d)
  unfolding Fit domain_numbers
  domain-fit h no_domain v = fit-zeros slot_widths
  domain-fit h (domain w l) v = omega arith also leaving-few l also since-within clock leave l v.1 h also v.0 also tt

  domain-rules : (d : Domain) → ValidDomain clock leave d → all_true (domain_rules clock leave (domain_numbers d)) ≡ true
  unfolding domain_rules domain_numbers leaving_rule all_zero
  domain-rules no_domain v = true-all (domain_rules clock leave (domain_numbers no_domain)) (refl also refl also refl also tt)
  domain-rules (domain w l) v =
      true-all (domain_rules clock leave (domain_numbers (domain w l))) (refl also leaving-formed clock leave l v.1 also refl also tt)

  module _ (small : clock < 2 ^ 32) (d : Domain) (v : ValidDomain clock leave d) where
    domain-back : to_domain (domain_octets d) ≡ d
    domain-back = fit-back d (domain-fit small d v)

    domain-formed : domain_formed clock leave (domain_octets d) ≡ true
    unfolding domain_formed domain_octets
    domain-formed = rw (fields-of-packed slot_widths (domain_numbers d) (domain-fit small d v)) (domain-rules d v)

  -- numbers that keep the rules: what they say is valid, and is written with the same numbers
  module _ (n k t v : ℕ) (h : all_true (domain_rules clock leave (n ∷ k ∷ t ∷ v ∷ [])) ≡ true) where
    rules : All (λ b. b ≡ true) (domain_rules clock leave (n ∷ k ∷ t ∷ v ∷ []))
    rules = all_true_lem (domain_rules clock leave (n ∷ k ∷ t ∷ v ∷ [])) h

    few : n ≤ 1
    unfolding domain_rules
    few = leb-true n 1 rules.0

    leaves : leaving_rule clock leave k t ≡ true
    unfolding domain_rules
    leaves = rules.1.0

    gone : n ≡ 0 → all_zero (k ∷ t ∷ v ∷ []) ≡ true
    unfolding domain_rules
    gone e = implied (eqb n 0) (all_zero (k ∷ t ∷ v ∷ [])) rules.1.1.0 (eq-eqb n 0 e)

    numbers-forth : domain_numbers (domain_from (n ∷ k ∷ t ∷ v ∷ [])) ≡ n ∷ k ∷ t ∷ v ∷ []
    unfolding domain_numbers domain_from
    numbers-forth = go n refl
      where
        go : (m : ℕ) → n ≡ m → domain_numbers (domain_from (n ∷ k ∷ t ∷ v ∷ [])) ≡ n ∷ k ∷ t ∷ v ∷ []
        go zero e =
            let z = zero-at (k ∷ t ∷ v ∷ []) (gone e) in
            rw (e, z 0, z 1, z 2)
        go (suc m) e =
            let one : n ≡ 1 = omega (arith, few) in
            let (whether, when) = (left clock leave k t leaves).forth in
            rw (one, whether, when)

    numbers-valid : v < 65536 → ValidDomain clock leave (domain_from (n ∷ k ∷ t ∷ v ∷ []))
    unfolding domain_from
    numbers-valid w = go (eqb n 0)
      where
        go : (b : Bool) → ValidDomain clock leave (cond b no_domain (domain v (to_leaving k t)))
        go true = tt
        go false = (w, (left clock leave k t leaves).valid)

  module _ (s : List ℕ) (l : length s ≡ slot_size) (o : Octets s) (h : domain_formed clock leave s ≡ true) where
    domain-forth : domain_octets (to_domain s) ≡ s
    unfolding domain_octets to_domain domain_formed fields
    domain-forth = rw (numbers-forth _ _ _ _ h) (packed-whole slot_widths s (l ∙ unfold width in refl) o)

    domain-valid : ValidDomain clock leave (to_domain s)
    unfolding to_domain domain_formed fields
    domain-valid = numbers-valid _ _ _ _ h (fit_at slot_widths (fields slot_widths 0 s) (fields_fit slot_widths 0 s (octets-at s o)) slot_index.vlan)

pub domain-zeros : domain_octets no_domain ≡ zeros slot_size
unfolding domain_octets domain_numbers width
domain-zeros = packed-zeros slot_widths

domains-coded : (clock leave : ℕ) → clock < 2 ^ 32 → Coded slot_size domain_octets to_domain (domain_formed clock leave) (ValidDomain clock leave) no_domain
domains-coded clock leave small = record {
  size = λ d v. domain-length d;
  back = domain-back clock leave small;
  keeps = domain-formed clock leave small;
  forth = domain-forth clock leave;
  valid = domain-valid clock leave;
  blank = domain-zeros;
  good = tt;
}

-- What a port holds.

abbrev pub flags : Own → List ℕ
flags o = packed boundary_widths (bit o.boundary_a ∷ bit o.boundary_b ∷ [])

abbrev pub number_held : Own → List ℕ
number_held o = packed address_count_widths (length o.addresses ∷ [])

flags-length : (o : Own) → length (flags o) ≡ 2
unfolding width
flags-length o = length-packed-any boundary_widths (bit o.boundary_a ∷ bit o.boundary_b ∷ []) refl

held-length : (o : Own) → length (number_held o) ≡ 1
unfolding width
held-length o = length-packed-any address_count_widths (length o.addresses ∷ []) refl

flags-fit : (o : Own) → Fit boundary_widths (bit o.boundary_a ∷ bit o.boundary_b ∷ [])
unfolding Fit
flags-fit o = omega (arith, bit-few o.boundary_a) also omega (arith, bit-few o.boundary_b) also tt

-- octets are their four parts
four-parts : (s : List ℕ) → s ≡ slots_part s ++ (part in_own.boundary_a 2 s ++ (part in_own.count 1 s ++ addresses_part s))
unfolding slots_part part addresses_part
four-parts s =
    rw (
      ← drop-drop 1 in_own.count s,
      take-append-drop 1 (drop in_own.count s),
      ← drop-drop 2 in_own.boundary_a s,
      take-append-drop 2 (drop in_own.boundary_a s),
    )
    (sym (take-append-drop slots_size s))

module _ (o : Own) (slotted : length o.domains ≡ slots) where
  pub slots_length : length (flat domain_octets o.domains) ≡ slots_size
  slots_length = omega (arith, length-flat-sized slot_size domain_octets o.domains (domains-sized o.domains), slotted)

  pub slots-of : slots_part (own_octets o) ≡ flat domain_octets o.domains
  unfolding slots_part own_octets
  slots-of =
      part-between [] (flat domain_octets o.domains) (flags o ++ (number_held o ++ addresses_whole o.addresses)) 0 slots_size refl slots_length

  flags-read : fields boundary_widths in_own.boundary_a (own_octets o) ≡ bit o.boundary_a ∷ bit o.boundary_b ∷ []
  unfolding own_octets
  flags-read =
      let ds = flat domain_octets o.domains in
      let rest = number_held o ++ addresses_whole o.addresses in
      ap (λ (k : ℕ). fields boundary_widths k (ds ++ (flags o ++ rest))) (sym slots_length)
      ∙ fields-packed-behind boundary_widths (bit o.boundary_a ∷ bit o.boundary_b ∷ []) ds rest (flags-fit o)

  pub flag-a : get_or (own_octets o) in_own.boundary_a 0 ≡ bit o.boundary_a
  unfolding fields
  flag-a = sym (octet-field (own_octets o) in_own.boundary_a) ∙ ap (λ (vs : List ℕ). get_or vs 0 0) flags-read

  pub flag-b : get_or (own_octets o) in_own.boundary_b 0 ≡ bit o.boundary_b
  unfolding fields
  flag-b = sym (octet-field (own_octets o) in_own.boundary_b) ∙ ap (λ (vs : List ℕ). get_or vs 1 0) flags-read

  -- up to the number of addresses, and behind it
  before-held : own_octets o ≡ (flat domain_octets o.domains ++ flags o) ++ (number_held o ++ addresses_whole o.addresses)
  unfolding own_octets
  before-held = sym (append_assoc (flat domain_octets o.domains) (flags o) (number_held o ++ addresses_whole o.addresses))

  before-held-length : length (flat domain_octets o.domains ++ flags o) ≡ in_own.count
  before-held-length = omega (arith, length-append (flat domain_octets o.domains) (flags o), slots_length, flags-length o)

  pub addresses-of : addresses_part (own_octets o) ≡ addresses_whole o.addresses
  unfolding addresses_part
  addresses-of =
      let p = flat domain_octets o.domains ++ flags o in
      ap (drop in_own.addresses) (before-held ∙ sym (append_assoc p (number_held o) (addresses_whole o.addresses)))
      ∙ drop_at (p ++ number_held o) (addresses_whole o.addresses) in_own.addresses (omega (arith, length-append p (number_held o), before-held-length, held-length o))

  module _ (few : length o.addresses ≤ most_addresses) where
    pub own-length : length (own_octets o) ≡ own_size
    own-length =
        let p = flat domain_octets o.domains ++ flags o in
        let w = addresses_whole o.addresses in
        ap length before-held
        ∙ omega (
          arith,
          length-append p (number_held o ++ w),
          length-append (number_held o) w,
          before-held-length,
          held-length o,
          whole-addresses-length o.addresses few,
        )

    pub held-read : addresses_held (own_octets o) ≡ length o.addresses
    unfolding addresses_held fields Fit
    held-read =
        let p = flat domain_octets o.domains ++ flags o in
        let w = addresses_whole o.addresses in
        sym (octet-field (own_octets o) in_own.count)
        ∙ ap (λ (vs : List ℕ). get_or vs 0 0)
        (ap (fields address_count_widths in_own.count) before-held
        ∙ ap (λ (k : ℕ). fields address_count_widths k (p ++ (number_held o ++ w))) (sym before-held-length)
        ∙ fields-packed-behind address_count_widths (length o.addresses ∷ []) p w (omega arith also tt))

-- what fits its fields is read back
pub own-fit-back : (o : Own) → FitOwn o → to_own (own_octets o) ≡ o
unfolding to_own
own-fit-back o f =
    let back =
    many_read slot_size domain_octets slots to_domain o.domains f.slotted (domains-sized o.domains)
    (all_map (λ d. Fit slot_widths (domain_numbers d)) (λ d. to_domain (domain_octets d) ≡ d) fit-back o.domains f.domains) in
    rw (
      slots-of o f.slotted,
      flag-a o f.slotted,
      flag-b o f.slotted,
      bit-back o.boundary_a,
      bit-back o.boundary_b,
      back,
      held-read o f.slotted f.addresses.at_most_64,
      addresses-of o f.slotted,
      addresses-back o.addresses f.addresses.each,
    )

pub valid-own-fits : (clock leave : ℕ) → clock < 2 ^ 32 → (o : Own) → ValidOwn clock leave o → FitOwn o
valid-own-fits clock leave small o v = record {
  slotted = v.slotted;
  domains = all_map (ValidDomain clock leave) (λ d. Fit slot_widths (domain_numbers d)) (domain-fit clock leave small) o.domains v.domains;
  addresses = valid-addresses-fit clock leave small o.addresses v.addresses;
}

pub own-octets : (o : Own) → Octets (own_octets o)
unfolding own_octets
own-octets o =
    let w = addresses_whole o.addresses in
    octets-append (flat domain_octets o.domains) (flags o ++ (number_held o ++ w)) (octets-flat domain_octets domain-octets o.domains)
    (octets-append (flags o) (number_held o ++ w) (octets-packed boundary_widths _)
    (octets-append (number_held o) w (octets-packed address_count_widths _) (addresses-octets o.addresses)))

module _ (clock leave : ℕ) (small : clock < 2 ^ 32) where
  module _ (o : Own) (v : ValidOwn clock leave o) where
    own_back : to_own (own_octets o) ≡ o
    own_back = own-fit-back o (valid-own-fits clock leave small o v)

    own-formed : own_formed clock leave (own_octets o) ≡ true
    unfolding own_formed own_rules
    own-formed =
        let few = v.addresses.at_most_64 in
        let l = o.addresses in
        true-all (own_rules clock leave (own_octets o))
        (rw (slots-of o v.slotted) (many-keep (domains-coded clock leave small) slots slots (omega arith) o.domains v.slotted v.domains)
        also rw (flag-a o v.slotted) (le-leb (bit o.boundary_a) 1 (bit-few o.boundary_a))
        also rw (flag-b o v.slotted) (le-leb (bit o.boundary_b) 1 (bit-few o.boundary_b))
        also rw (held-read o v.slotted few, addresses-of o v.slotted)
        (le-leb (length l) most_addresses few
        also addresses-formed clock leave small l v.addresses
        also addresses-rise clock leave small l v.addresses
        also rw (addresses-rest l few) (zero-zeros ((most_addresses - length l) * address_size))
        also tt))

  module _ (s : List ℕ) (l : length s ≡ own_size) (q : Octets s) (h : own_formed clock leave s ≡ true) where
    own-rules : All (λ b. b ≡ true) (own_rules clock leave s)
    unfolding own_formed
    own-rules = all_true_lem (own_rules clock leave s) h

    slots_kept : every_part slot_size (domain_formed clock leave) slots (slots_part s) ≡ true
    unfolding own_rules
    slots_kept = own-rules.0

    one-a : get_or s in_own.boundary_a 0 ≤ 1
    unfolding own_rules
    one-a = leb-true (get_or s in_own.boundary_a 0) 1 own-rules.1.0

    one_b : get_or s in_own.boundary_b 0 ≤ 1
    unfolding own_rules
    one_b = leb-true (get_or s in_own.boundary_b 0) 1 own-rules.1.1.0

    pub few-held : addresses_held s ≤ most_addresses
    unfolding own_rules
    few-held = leb-true (addresses_held s) most_addresses own-rules.1.1.1.0

    pub addresses-kept : every_part address_size (address_formed clock leave) (addresses_held s) (addresses_part s) ≡ true
    unfolding own_rules
    addresses-kept = own-rules.1.1.1.1.0

    pub macs-rise : rising (parts address_size mac_of (addresses_held s) (addresses_part s)) ≡ true
    unfolding own_rules
    macs-rise = own-rules.1.1.1.1.1.0

    pub addresses-zero : all_zero (drop (addresses_held s * address_size) (addresses_part s)) ≡ true
    unfolding own_rules
    addresses-zero = own-rules.1.1.1.1.1.1.0

    slots-room : length (slots_part s) ≡ slots_size
    unfolding slots_part
    slots-room = length_part 0 slots_size s (omega arith)

    slots-octets : Octets (slots_part s)
    unfolding slots_part
    slots-octets = octets-part 0 slots_size s q

    addresses-room : length (addresses_part s) ≡ addresses_size
    unfolding addresses_part
    addresses-room = length-drop in_own.addresses s ∙ omega arith

    addresses-there : Octets (addresses_part s)
    unfolding addresses_part
    addresses-there = octets-drop in_own.addresses s q

    none-behind : all_zero (drop slots_size (slots_part s)) ≡ true
    unfolding all_zero
    none-behind = rw (drop_of_length-le (slots_part s) {i = slots_size} (omega (arith, slots-room))) refl

    flags-forth : flags (to_own s) ≡ part in_own.boundary_a 2 s
    unfolding to_own fields width
    flags-forth =
        rw (bit-forth (get_or s in_own.boundary_a 0) one-a, bit-forth (get_or s in_own.boundary_b 0) one_b, ← octet-field s in_own.boundary_a, ← octet-field s in_own.boundary_b)
        (packed-fields boundary_widths in_own.boundary_a s (omega arith) (octets-at s q))

    held-forth : number_held (to_own s) ≡ part in_own.count 1 s
    unfolding to_own fields width addresses_held
    held-forth =
        rw (length-parts address_size to_address (get_or s in_own.count 0) (addresses_part s), ← octet-field s in_own.count)
        (packed-fields address_count_widths in_own.count s (omega arith) (octets-at s q))

    addresses-written : addresses_whole (to_own s).addresses ≡ addresses_part s
    unfolding to_own
    addresses-written = addresses-forth clock leave small (addresses_held s) (addresses_part s) few-held addresses-room addresses-there addresses-kept addresses-zero

    slots-written : flat domain_octets (to_own s).domains ≡ slots_part s
    unfolding to_own
    slots-written = many-forth (domains-coded clock leave small) slots slots (omega arith) (slots_part s) slots-room slots-octets slots_kept none-behind

    own-forth : own_octets (to_own s) ≡ s
    unfolding own_octets
    own-forth = rw (flags-forth, held-forth, addresses-written, slots-written) (sym (four-parts s))

    own-valid : ValidOwn clock leave (to_own s)
    unfolding to_own
    own-valid = record {
      slotted = length-parts slot_size to_domain slots (slots_part s);
      domains = many-valid (domains-coded clock leave small) slots slots (omega arith) (slots_part s) slots-room slots-octets slots_kept none-behind;
      addresses = addresses-valid clock leave small (addresses_held s) (addresses_part s) few-held addresses-room addresses-there addresses-kept addresses-zero macs-rise;
    }

pub own-zeros : own_octets no_own ≡ zeros own_size
unfolding own_octets no_own bit width flat
own-zeros =
    rw (
      flat-zeros slot_size domain_octets no_domain domain-zeros (replicate slots no_domain) (all_replicate (λ d. d ≡ no_domain) slots no_domain refl),
      packed-zeros boundary_widths,
      packed-zeros address_count_widths,
    )
    (rw (← zeros-add 1 addresses_size, ← zeros-add 2 (1 + addresses_size)) (sym (zeros-add slots_size (3 + addresses_size))))

pub no-own-valid : (clock leave : ℕ) → ValidOwn clock leave no_own
unfolding no_own macs Rising
no-own-valid clock leave = record {
  slotted = refl;
  domains = all_replicate (ValidDomain clock leave) slots no_domain tt;
  addresses = record { at_most_64 = omega arith; each = tt; ascending = tt };
}

pub owns-coded : (clock leave : ℕ) → clock < 2 ^ 32 → Coded own_size own_octets to_own (own_formed clock leave) (ValidOwn clock leave) no_own
owns-coded clock leave small = record {
  size = λ o v. own-length o v.slotted v.addresses.at_most_64;
  back = own_back clock leave small;
  keeps = own-formed clock leave small;
  forth = own-forth clock leave small;
  valid = own-valid clock leave small;
  blank = own-zeros;
  good = no-own-valid clock leave;
}
