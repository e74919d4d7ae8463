-- A record put in or taken out: the octets that the code moves, clears and writes are those of the addresses then held.
use mathlib.Core.Path.{◌≡◌, sym, ap, ◌∙◌}
use mathlib.Core.List.{List, ◌∷◌, ◌++◌, append_assoc, append-nil}
use mathlib.Core.Bool.{true, false}
use Prim.Native.Nat.{ℕ, suc, ◌+◌, ◌-◌, ◌*◌, ◌≤◌, ◌<◌}
use native.Mathlib.Omega.{arith}
use lib.ListN.{length, get_or, take, drop, length-append, length-drop, take-append-drop}
use lib.Seq.{split_at, length-take-le}
use lib.Dec.{leb}
use borrow.Author.Tests.{le-leb, lt-leb}
use Rattle.octets.specs.Be.{be}
use Rattle.octets.specs.Parts.{part, patch, zeros}
use Rattle.octets.specs.Fields.{flat, packed}
use Rattle.octets.proofs.Be.{be-zero}
use Rattle.octets.proofs.Fields.{flat_append}
use Rattle.octets.proofs.Patches.{patch-between}
use Rattle.model.specs.Layout.{address_in, address_size, most_addresses, in_own, in_address}
use Rattle.model.specs.State.{Address, Own}
use Rattle.model.specs.Registrations.{change_addresses, macs}
use Rattle.model.specs.Table.{presence_numbers, address_numbers, address_octets, own_octets, to_own}
use Rattle.model.specs.Laid.{FitOwn, LaidOwn}
use Rattle.model.proofs.Parts.{length-zeros, zeros-add, length-flat-sized}
use Rattle.model.proofs.Addresses.{address-length, addresses-sized}
use Rattle.std.specs.Prelude.{Ok, Err}
use Rattle.table.specs.Find.{found_at}
use Rattle.table.proofs.Moving.{gap-made, gap-closed}
use Rattle.table.proofs.OwnParts.{laid-own-is, laid-own-fits}
use Rattle.addresses.specs.Room.{vacant_at, put_in, taken_out, with_room}
use Rattle.addresses.proofs.Records.{front, unused, own_split, own_same, changed-same, front_length, held-put}
use Rattle.addresses.proofs.Searching.{held_at, missing_at}

-- a vacant one is zeros and its address
vacant-octets : (m : ℕ) → address_octets (vacant_at m) ≡ zeros in_address.mac ++ be 6 m
unfolding address_octets address_numbers presence_numbers vacant_at packed
vacant-octets m = rw (be-zero 1, be-zero 4, append-nil (be 6 m))

flat-length : (l : List Address) → length (flat address_octets l) ≡ length l * address_size
flat-length l = length-flat-sized address_size address_octets l (addresses-sized l)

length-put : (m k : ℕ) (l : List Address) → k ≤ length l → length (put_in k m l) ≡ length l + 1
unfolding put_in
length-put m k l h = length-append (take k l) (vacant_at m ∷ drop k l) ∙ omega (arith, length-take-le k l h, length-drop k l)

module _ (o : Own) (f : FitOwn o) where
  abbrev l : List Address
  l = o.addresses

  abbrev n : ℕ
  n = length o.addresses

  -- what stands before the record at place k
  before : ℕ → List ℕ
  before k = front o n ++ flat address_octets (take k l)

  before-length : (k : ℕ) → k ≤ n → length (before k) ≡ address_in k
  unfolding before
  before-length k h =
      let c : length (take k l) ≡ k = length-take-le k l h in
      omega (arith, length-append (front o n) (flat address_octets (take k l)), flat-length (take k l), front_length o f n)

  -- it, with another number of records
  recounted : (k m : ℕ) (r : List ℕ) → patch in_own.count 1 (be 1 m) (before k ++ r) ≡ front o m ++ (flat address_octets (take k l) ++ r)
  unfolding before
  recounted k m r =
      ap (patch in_own.count 1 (be 1 m)) (append_assoc (front o n) (flat address_octets (take k l)) r)
      ∙ held-put o f n m (flat address_octets (take k l) ++ r)

  module _ (k mac : ℕ) (h : k ≤ n) (few : n < most_addresses) where
    higher : List ℕ
    higher = flat address_octets (drop k l)

    higher-length : length higher ≡ (n - k) * address_size
    unfolding higher
    higher-length = omega (arith, flat-length (drop k l), length-drop k l)

    rest : List ℕ
    rest = unused (n + 1)

    split : own_octets o ≡ before k ++ (higher ++ (zeros address_size ++ rest))
    unfolding before higher rest
    split =
        let e : (most_addresses - n) * address_size ≡ address_size + (most_addresses - (n + 1)) * address_size = omega arith in
        own_same o
        ∙ own_split o (λ l. l)
        ∙ ap (λ (s : List Address). front o n ++ (flat address_octets s ++ unused n)) (sym (take-append-drop k l))
        ∙ rw (flat_append address_octets (take k l) (drop k l), e, zeros-add address_size ((most_addresses - (n + 1)) * address_size)) (simp append_assoc)

    named : patch (address_in k + in_address.mac) 6 (be 6 mac) (before k ++ (zeros address_size ++ (higher ++ rest))) ≡ before k ++ (address_octets (vacant_at mac) ++ (higher ++ rest))
    named =
        let r = higher ++ rest in
        let place : length (before k ++ zeros in_address.mac) ≡ address_in k + in_address.mac =
        omega (arith, length-append (before k) (zeros in_address.mac), before-length k h, length-zeros in_address.mac) in
        let halves : zeros address_size ≡ zeros in_address.mac ++ zeros 6 = zeros-add in_address.mac 6 in
        ap (patch (address_in k + in_address.mac) 6 (be 6 mac)) (ap (λ (z : List ℕ). before k ++ (z ++ r)) halves ∙ simp append_assoc)
        ∙ patch-between (before k ++ zeros in_address.mac) (zeros 6) r (be 6 mac) (address_in k + in_address.mac) 6 place (length-zeros 6)
        ∙ rw (vacant-octets mac) (simp append_assoc)

    pub put-in : (s : List ℕ) → s ≡ own_octets o → (m : ℕ) → m ≡ n
        → patch in_own.count 1 (be 1 (m + 1)) (patch (address_in k + in_address.mac) 6 (be 6 mac)
        (patch (address_in k) address_size (zeros address_size) (patch (address_in k + address_size) ((m - k) * address_size) (part (address_in k) ((m - k) * address_size) s) s)))
        ≡ own_octets (change_addresses (put_in k mac) o)
    put-in s q m e =
        rw (e, q ∙ split)
        (rw (gap-made (before k) higher (zeros address_size) rest (address_in k) ((n - k) * address_size) address_size (before-length k h) higher-length (length-zeros address_size), named)
        (recounted k (n + 1) (address_octets (vacant_at mac) ++ (higher ++ rest))
        ∙ sym (own_split o (put_in k mac) ∙ rw (length-put mac k l h) (unfold put_in higher rest flat in rw (flat_append address_octets (take k l) (vacant_at mac ∷ drop k l)) (simp append_assoc)))))

  module _ (k : ℕ) (h : k < n) where
    behind : List ℕ
    behind = flat address_octets (drop (suc k) l)

    behind-length : length behind ≡ (n - 1 - k) * address_size
    unfolding behind
    behind-length = omega (arith, flat-length (drop (suc k) l), length-drop (suc k) l)

    apart : own_octets o ≡ before k ++ (address_octets (get_or l k (vacant_at 0)) ++ (behind ++ unused n))
    unfolding before behind flat
    apart =
        own_same o
        ∙ own_split o (λ l. l)
        ∙ ap (λ (s : List Address). front o n ++ (flat address_octets s ++ unused n)) (split_at l k (vacant_at 0) h)
        ∙ rw (flat_append address_octets (take k l) (get_or l k (vacant_at 0) ∷ drop (suc k) l)) (simp append_assoc)

    less : length (taken_out k l) ≡ n - 1
    unfolding taken_out
    less = length-append (take k l) (drop (suc k) l) ∙ omega (arith, length-take-le k l (omega arith), length-drop (suc k) l)

    closed : n ≤ most_addresses → front o (n - 1) ++ (flat address_octets (take k l) ++ (behind ++ (zeros address_size ++ unused n))) ≡ own_octets (change_addresses (taken_out k) o)
    closed few =
        let one_more : address_size + (most_addresses - n) * address_size ≡ (most_addresses - (n - 1)) * address_size = omega arith in
        let zs : zeros address_size ++ unused n ≡ unused (n - 1) = sym (zeros-add address_size ((most_addresses - n) * address_size)) ∙ ap zeros one_more in
        let both : flat address_octets (taken_out k l) ≡ flat address_octets (take k l) ++ behind = unfold taken_out behind in (flat_append address_octets (take k l) (drop (suc k) l)) in
        ap (λ (z : List ℕ). front o (n - 1) ++ (flat address_octets (take k l) ++ (behind ++ z))) zs
        ∙ ap (λ (z : List ℕ). front o (n - 1) ++ z) (sym (append_assoc (flat address_octets (take k l)) behind (unused (n - 1))))
        ∙ ap (λ (z : List ℕ). front o (n - 1) ++ (z ++ unused (n - 1))) (sym both)
        ∙ sym (own_split o (taken_out k) ∙ ap (λ (m : ℕ). front o m ++ (flat address_octets (taken_out k l) ++ unused m)) less)

    pub taken_out_lem : (s : List ℕ) → s ≡ own_octets o → (m : ℕ) → m ≡ n → n ≤ most_addresses
        → patch in_own.count 1 (be 1 (m - 1)) (patch (in_own.addresses + (m - 1) * address_size) address_size (zeros address_size)
        (patch (address_in k) ((m - 1 - k) * address_size) (part (address_in k + address_size) ((m - 1 - k) * address_size) s) s))
        ≡ own_octets (change_addresses (taken_out k) o)
    taken_out_lem s q m e few =
        let place : in_own.addresses + (n - 1) * address_size ≡ address_in k + (n - 1 - k) * address_size = omega arith in
        rw (e, q ∙ apart, place)
        (rw (gap-closed (before k) (address_octets (get_or l k (vacant_at 0))) behind (unused n) (address_in k) ((n - 1 - k) * address_size) address_size (before-length k (omega arith)) (address-length _) behind-length)
        (recounted k (n - 1) (behind ++ (zeros address_size ++ unused n)) ∙ closed few))

-- Room for an address: it has a record, gets one, or there are 64 others.

module _ (s : List ℕ) (d : LaidOwn s) (m k : ℕ) where
  abbrev those : List Address
  those = (to_own s).addresses

  pub enrolled-there : found_at m 0 (macs those) ≡ Ok k → (true ≡ leb (length (with_room m those)) most_addresses) × (s ≡ own_octets (change_addresses (with_room m) (to_own s)))
  enrolled-there e =
      let r = (held_at m k those e).room in (
        sym (le-leb (length (with_room m those)) most_addresses (rw r (laid-own-fits s d).addresses.at_most_64)),
        laid-own-is s d ∙ own_same (to_own s) ∙ changed-same (to_own s) (λ l. l) (with_room m) (sym r),
      )

  module _ (e : found_at m 0 (macs those) ≡ Err k) where
    one_more : length (with_room m those) ≡ length those + 1
    one_more = let r = missing_at m k those e in ap length r.room ∙ length-put m k those r.within

    pub enrolled-full : length those ≡ most_addresses → false ≡ leb (length (with_room m those)) most_addresses
    enrolled-full h = sym (lt-leb (length (with_room m those)) most_addresses (omega (arith, one_more)))

    pub enrolled-made : (u : List ℕ) → length those < most_addresses → u ≡ own_octets (change_addresses (put_in k m) (to_own s))
        → (true ≡ leb (length (with_room m those)) most_addresses) × (u ≡ own_octets (change_addresses (with_room m) (to_own s)))
    enrolled-made u h q = (
      sym (le-leb (length (with_room m those)) most_addresses (omega (arith, one_more))),
      q ∙ changed-same (to_own s) (put_in k m) (with_room m) (sym (missing_at m k those e).room),
    )
