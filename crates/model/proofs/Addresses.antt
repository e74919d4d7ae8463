-- The addresses of a port as octets and back: an address in its 12 octets, then all of them, ascending, with zeros behind.
use mathlib.Core.Path.{◌≡◌, refl, sym, ◌∙◌, ap}
use mathlib.Core.List.{List, [], ◌∷◌, ◌++◌}
use mathlib.Core.Bool.{true}
use Prim.Native.Nat.{ℕ, ◌*◌, ◌-◌, ◌^◌, ◌≤◌, ◌<◌}
use native.Mathlib.Omega.{arith}
use lib.ListN.{length, drop, take-append-drop, length-append}
use lib.Seq.{drop_at}
use borrow.Author.Tests.{eqb-true}
use Rattle.octets.specs.Fields.{fields, Fit, width, flat}
use Rattle.octets.specs.Parts.{zeros}
use Rattle.octets.proofs.Fields.{length-packed-any, fields-of-packed, fields_fit, fit_at}
use Rattle.model.specs.Layout.{address_size, address_widths, addresses_size, most_addresses, address_index}
use Rattle.model.specs.Lists.{All, all_true, parts, Octets, all_zero}
use Rattle.model.specs.State.{Presence, vacant, present, Address}
use Rattle.model.specs.Registrations.{macs}
use Rattle.model.specs.Table.{leaving_rule, every_part, presence_numbers, address_numbers, address_from, address_octets, to_address, address_rules, address_formed, rising, mac_of}
use Rattle.model.specs.Laid.{FitAddresses}
use Rattle.model.proofs.Lists.{all-each, all_map, all_true_lem, true-all}
use Rattle.model.proofs.Valid.{ValidPresence, ValidAddress, ValidAddresses}
use Rattle.model.proofs.Parts.{◌also◌, Sized, octets-at, octets-append, octets-packed, octets-flat, octets-zeros, packed-whole, padding, length-parts, length-zeros, length-flat-sized, parts-flat, parts-map, every-read, every-forth, every-flat, rising-rises, rises-rising, rising-ascends}
use Rattle.model.proofs.Cells.{leaving-back, leaving-few, since-within, leaving-formed, left}

-- An address.

address-size : (a : Address) → length (address_numbers a) ≡ length address_widths
unfolding address_numbers presence_numbers
address-size a = go a.presence
  where
    go : (p : Presence) → length (presence_numbers p ++ (a.mac ∷ [])) ≡ length address_widths
    go vacant = refl
    go (present l) = refl

pub address-length : (a : Address) → length (address_octets a) ≡ address_size
unfolding address_octets width
address-length a = length-packed-any address_widths (address_numbers a) (address-size a)

pub address-octets : (a : Address) → Octets (address_octets a)
unfolding address_octets
address-octets a = octets-packed address_widths (address_numbers a)

pub addresses-sized : (l : List Address) → All (Sized address_size address_octets) l
addresses-sized = all-each (Sized address_size address_octets) address-length

-- its numbers are read as it
pub address_read : (a : Address) → address_from (address_numbers a) ≡ a
unfolding address_from address_numbers presence_numbers
address_read a = go a.presence
  where
    go : (p : Presence) → address_from (presence_numbers p ++ (a.mac ∷ [])) ≡ record { mac = a.mac; presence = p }
    go vacant = refl
    go (present l) = rw (leaving-back l)

pub address-back : (a : Address) → Fit address_widths (address_numbers a) → to_address (address_octets a) ≡ a
unfolding to_address address_octets
address-back a f = rw (fields-of-packed address_widths (address_numbers a) f) (address_read a)

module _ (clock leave : ℕ) where
  pub address-fit : clock < 2 ^ 32 → (a : Address) → ValidAddress clock leave a → Fit address_widths (address_numbers a)
  unfolding Fit address_numbers presence_numbers
  address-fit h a v = go a.presence v.presence
    where
      go : (p : Presence) → ValidPresence clock leave p → Fit address_widths (presence_numbers p ++ (a.mac ∷ []))
      go vacant w = absurd w
      go (present l) w = omega arith also leaving-few l also since-within clock leave l w h also v.mac also tt

  address-rules : (a : Address) → ValidAddress clock leave a → all_true (address_rules clock leave (address_numbers a)) ≡ true
  unfolding address_rules address_numbers presence_numbers
  address-rules a v = go a.presence v.presence
    where
      go : (p : Presence) → ValidPresence clock leave p → all_true (address_rules clock leave (presence_numbers p ++ (a.mac ∷ []))) ≡ true
      go vacant w = absurd w
      go (present l) w = true-all (address_rules clock leave (presence_numbers (present l) ++ (a.mac ∷ []))) (refl also leaving-formed clock leave l w also tt)

  address-formed : clock < 2 ^ 32 → (a : Address) → ValidAddress clock leave a → address_formed clock leave (address_octets a) ≡ true
  unfolding address_formed address_octets
  address-formed h a v = rw (fields-of-packed address_widths (address_numbers a) (address-fit h a v)) (address-rules a v)

  -- numbers that keep the rules: what they say is valid, and is written with the same numbers
  module _ (n k t m : ℕ) (h : all_true (address_rules clock leave (n ∷ k ∷ t ∷ m ∷ [])) ≡ true) where
    rules : All (λ b. b ≡ true) (address_rules clock leave (n ∷ k ∷ t ∷ m ∷ []))
    rules = all_true_lem (address_rules clock leave (n ∷ k ∷ t ∷ m ∷ [])) h

    one : n ≡ 1
    unfolding address_rules
    one = eqb-true n 1 rules.0

    leaves : leaving_rule clock leave k t ≡ true
    unfolding address_rules
    leaves = rules.1.0

    numbers-forth : address_numbers (address_from (n ∷ k ∷ t ∷ m ∷ [])) ≡ n ∷ k ∷ t ∷ m ∷ []
    unfolding address_numbers address_from presence_numbers
    numbers-forth =
        let (whether, when) = (left clock leave k t leaves).forth in
        rw (one, whether, when)

    numbers-valid : m < 256 ^ 6 → ValidAddress clock leave (address_from (n ∷ k ∷ t ∷ m ∷ []))
    unfolding address_from
    numbers-valid w = rw one record { mac = w; presence = (left clock leave k t leaves).valid }

  module _ (s : List ℕ) (l : length s ≡ address_size) (o : Octets s) (h : address_formed clock leave s ≡ true) where
    address-forth : address_octets (to_address s) ≡ s
    unfolding address_octets to_address address_formed fields
    address-forth = rw (numbers-forth _ _ _ _ h) (packed-whole address_widths s (l ∙ unfold width in refl) o)

    address-valid : ValidAddress clock leave (to_address s)
    unfolding to_address address_formed fields
    address-valid = numbers-valid _ _ _ _ h (fit_at address_widths (fields address_widths 0 s) (fields_fit address_widths 0 s (octets-at s o)) address_index.mac)

-- All of a port.

abbrev pub addresses_whole : List Address → List ℕ
addresses_whole l = flat address_octets l ++ zeros ((most_addresses - length l) * address_size)

-- the addresses of records, as they are read
macs-read : (n : ℕ) (s : List ℕ) → parts address_size mac_of n s ≡ macs (parts address_size to_address n s)
unfolding mac_of macs to_address address_from fields
macs-read n s = parts-map address_size to_address (λ (a : Address). a.mac) n s

module _ (l : List Address) (few : length l ≤ most_addresses) where
  addresses-length : length (flat address_octets l) ≡ length l * address_size
  addresses-length = length-flat-sized address_size address_octets l (addresses-sized l)

  pub whole-addresses-length : length (addresses_whole l) ≡ addresses_size
  whole-addresses-length =
      length-append (flat address_octets l) (zeros ((most_addresses - length l) * address_size))
      ∙ omega (arith, addresses-length, length-zeros ((most_addresses - length l) * address_size))

  pub addresses-rest : drop (length l * address_size) (addresses_whole l) ≡ zeros ((most_addresses - length l) * address_size)
  addresses-rest = drop_at (flat address_octets l) (zeros ((most_addresses - length l) * address_size)) (length l * address_size) addresses-length

pub addresses-back : (l : List Address) → All (λ a. Fit address_widths (address_numbers a)) l → parts address_size to_address (length l) (addresses_whole l) ≡ l
addresses-back l f =
    parts-flat address_size address_octets to_address l (zeros ((most_addresses - length l) * address_size)) (addresses-sized l)
    (all_map (λ a. Fit address_widths (address_numbers a)) (λ a. to_address (address_octets a) ≡ a) address-back l f)

pub addresses-octets : (l : List Address) → Octets (addresses_whole l)
addresses-octets l =
    octets-append (flat address_octets l) (zeros ((most_addresses - length l) * address_size)) (octets-flat address_octets address-octets l)
    (octets-zeros ((most_addresses - length l) * address_size))

module _ (clock leave : ℕ) (small : clock < 2 ^ 32) where
  pub valid-addresses-fit : (l : List Address) → ValidAddresses clock leave l → FitAddresses l
  valid-addresses-fit l v = record {
    at_most_64 = v.at_most_64;
    each = all_map (ValidAddress clock leave) (λ a. Fit address_widths (address_numbers a)) (address-fit clock leave small) l v.each;
    ascending = rising-ascends (macs l) v.ascending;
  }

  module _ (l : List Address) (v : ValidAddresses clock leave l) where
    pub addresses-formed : every_part address_size (address_formed clock leave) (length l) (addresses_whole l) ≡ true
    addresses-formed =
        every-flat address_size address_octets (address_formed clock leave) l (zeros ((most_addresses - length l) * address_size)) (addresses-sized l)
        (all_map (ValidAddress clock leave) (λ a. address_formed clock leave (address_octets a) ≡ true) (address-formed clock leave small) l v.each)

    pub addresses-rise : rising (parts address_size mac_of (length l) (addresses_whole l)) ≡ true
    addresses-rise =
        ap rising (macs-read (length l) (addresses_whole l) ∙ ap macs (addresses-back l (valid-addresses-fit l v).each))
        ∙ rises-rising (macs l) v.ascending

  -- n of them in the octets of 64, that keep the rules
  module _ (n : ℕ) (s : List ℕ) (few : n ≤ most_addresses) (l : length s ≡ addresses_size) (o : Octets s)
      (r : every_part address_size (address_formed clock leave) n s ≡ true) (z : all_zero (drop (n * address_size) s) ≡ true) where
    abbrev those : List Address
    those = parts address_size to_address n s

    pub addresses-forth : addresses_whole those ≡ s
    addresses-forth =
        rw (
          length-parts address_size to_address n s,
          every-forth address_size (address_formed clock leave) to_address address_octets (address-forth clock leave) n s (omega arith) o r,
          ← padding address_size n most_addresses s few l z,
        )
        (take-append-drop (n * address_size) s)

    pub addresses-valid : rising (parts address_size mac_of n s) ≡ true → ValidAddresses clock leave those
    addresses-valid rise = record {
      at_most_64 = omega (arith, length-parts address_size to_address n s);
      each = every-read address_size (address_formed clock leave) to_address (ValidAddress clock leave) (address-valid clock leave) n s (omega arith) o r;
      ascending = rising-rises (macs those) (ap rising (sym (macs-read n s)) ∙ rise);
    }
