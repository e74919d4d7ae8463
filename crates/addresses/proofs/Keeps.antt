-- What is done to the addresses of a port leaves octets that are laid out: at most 64, each within its fields, ascending.
use mathlib.Core.Path.{◌≡◌, refl, sym, ap, subst}
use mathlib.Core.List.{List, [], ◌∷◌}
use Prim.Native.Nat.{ℕ, zero, suc, ◌^◌, ◌≤◌, ◌<◌}
use native.Mathlib.Omega.{arith}
use lib.ListN.{length, take, drop}
use Rattle.model.specs.Layout.{most_addresses}
use Rattle.model.specs.Lists.{All}
use Rattle.model.specs.State.{Address, Own}
use Rattle.model.specs.Registrations.{change_addresses, joined_address, macs, with_joined}
use Rattle.model.specs.Laid.{Ascending, FitAddresses, FitOwn}
use Rattle.model.proofs.Lists.{all_map, all_take, all_drop, all_append}
use Rattle.model.proofs.AddressesKept.{held-macs}
use Rattle.model.proofs.Commute.{Tri, less, same, more, tri}
use Rattle.table.proofs.EachStream.{firsts, firsts-keep}
use Rattle.addresses.specs.Room.{vacant_at, with_room, taken_out}
use Rattle.addresses.proofs.Records.{FitAddress}
use Rattle.addresses.proofs.Values.{vacant-fits, joined-fits}
use Rattle.addresses.proofs.Searching.{room-before, room-here, room-past, join-before, join-here, join-past}

pub change-fits : (o : Own) → FitOwn o → (u : List Address → List Address) → FitAddresses (u o.addresses) → FitOwn (change_addresses u o)
unfolding change_addresses
change-fits o f u g = record { slotted = f.slotted; domains = f.domains; addresses = g }

-- the same addresses, with another presence
pub same-fits : (l r : List Address) → FitAddresses l → macs r ≡ macs l → All FitAddress r → FitAddresses r
same-fits l r f e a = record {
  at_most_64 = omega (arith, f.at_most_64, held-macs r, held-macs l, ap length e);
  each = a;
  ascending = subst Ascending (sym e) f.ascending;
}

module _ (g : Address → Address) (keeps : (a : Address) → (g a).mac ≡ a.mac) where
  macs-firsts : (k : ℕ) (l : List Address) → macs (firsts g k l) ≡ macs l
  unfolding macs firsts
  macs-firsts zero l = refl
  macs-firsts (suc k) [] = refl
  macs-firsts (suc k) (a ∷ l) = rw (keeps a) (ap (λ (x : List ℕ). a.mac ∷ x) (macs-firsts k l))

  pub firsts-fits : ((a : Address) → FitAddress a → FitAddress (g a)) → (l : List Address) → FitAddresses l → (k : ℕ) → FitAddresses (firsts g k l)
  firsts-fits fits l f k = same-fits l (firsts g k l) f (macs-firsts k l) (firsts-keep g FitAddress fits k l f.each)

-- One taken out.

all-out : (P : ℕ → Type 0) (k : ℕ) (l : List Address) → All P (macs l) → All P (macs (taken_out k l))
unfolding taken_out macs
all-out P zero [] h = tt
all-out P (suc k) [] h = tt
all-out P zero (a ∷ l) h = h.1
all-out P (suc k) (a ∷ l) h = (h.0, all-out P k l h.1)

ascends-out : (k : ℕ) (l : List Address) → Ascending (macs l) → Ascending (macs (taken_out k l))
unfolding taken_out macs
ascends-out zero [] h = tt
ascends-out (suc k) [] h = tt
ascends-out zero (a ∷ l) h = h.1
ascends-out (suc k) (a ∷ l) h = (all-out (λ j. a.mac < j) k l h.0, ascends-out k l h.1)

pub out-fits : (k : ℕ) (l : List Address) → FitAddresses l → length (taken_out k l) ≤ length l → FitAddresses (taken_out k l)
out-fits k l f h = record {
  at_most_64 = omega (arith, f.at_most_64);
  each = unfold taken_out in (all_append FitAddress (take k l) (drop (suc k) l) (all_take FitAddress k l f.each) (all_drop FitAddress (suc k) l f.each));
  ascending = ascends-out k l f.ascending;
}

-- One given room, or joined.

all_room : (P : ℕ → Type 0) (m : ℕ) (l : List Address) → P m → All P (macs l) → All P (macs (with_room m l))
unfolding macs
all_room P m [] p h = unfold with_room vacant_at in (p, tt)
all_room P m (a ∷ l) p h = go (tri m a.mac) (all_room P m l p h.1)
  where
    go : Tri m a.mac → All P (macs (with_room m l)) → All P (macs (with_room m (a ∷ l)))
    go (less q) r = rw (room-before m a l q) (unfold vacant_at in (p, h))
    go (same q) r = rw (room-here m a l q) h
    go (more q) r = rw (room-past m a l q) (h.0, r)

ascends-room : (m : ℕ) (l : List Address) → Ascending (macs l) → Ascending (macs (with_room m l))
unfolding macs
ascends-room m [] h = unfold with_room in (tt, tt)
ascends-room m (a ∷ l) h = go (tri m a.mac) (ascends-room m l h.1)
  where
    go : Tri m a.mac → Ascending (macs (with_room m l)) → Ascending (macs (with_room m (a ∷ l)))
    go (less q) r = rw (room-before m a l q) (unfold vacant_at in ((q, all_map (λ j. a.mac < j) (λ j. m < j) (λ j p. omega arith) (macs l) h.0), h))
    go (same q) r = rw (room-here m a l q) h
    go (more q) r = rw (room-past m a l q) (all_room (λ j. a.mac < j) m l q h.0, r)

fit-room : (m : ℕ) → m < 2 ^ 48 → (l : List Address) → All FitAddress l → All FitAddress (with_room m l)
fit-room m small [] h = unfold with_room in (vacant-fits m small, tt)
fit-room m small (a ∷ l) h = go (tri m a.mac) (fit-room m small l h.1)
  where
    go : Tri m a.mac → All FitAddress (with_room m l) → All FitAddress (with_room m (a ∷ l))
    go (less q) r = rw (room-before m a l q) (vacant-fits m small, h)
    go (same q) r = rw (room-here m a l q) h
    go (more q) r = rw (room-past m a l q) (h.0, r)

fit-joined : (m : ℕ) → m < 2 ^ 48 → (l : List Address) → All FitAddress l → All FitAddress (with_joined m l)
fit-joined m small [] h = unfold with_joined in (joined-fits m small, tt)
fit-joined m small (a ∷ l) h = go (tri m a.mac) (fit-joined m small l h.1)
  where
    go : Tri m a.mac → All FitAddress (with_joined m l) → All FitAddress (with_joined m (a ∷ l))
    go (less q) r = rw (join-before m a l q) (joined-fits m small, h)
    go (same q) r = rw (join-here m a l q) (joined-fits m small, h.1)
    go (more q) r = rw (join-past m a l q) (h.0, r)

-- both make room for it
pub joined-macs : (m : ℕ) (l : List Address) → macs (with_joined m l) ≡ macs (with_room m l)
unfolding macs
joined-macs m [] = unfold with_joined with_room joined_address vacant_at in refl
joined-macs m (a ∷ l) = go (tri m a.mac) (joined-macs m l)
  where
    go : Tri m a.mac → macs (with_joined m l) ≡ macs (with_room m l) → macs (with_joined m (a ∷ l)) ≡ macs (with_room m (a ∷ l))
    go (less q) r = rw (join-before m a l q, room-before m a l q) (unfold joined_address vacant_at in refl)
    go (same q) r = rw (join-here m a l q, room-here m a l q) (unfold joined_address in ap (λ (x : ℕ). x ∷ macs l) q)
    go (more q) r = rw (join-past m a l q, room-past m a l q) (ap (λ (x : List ℕ). a.mac ∷ x) r)

module _ (m : ℕ) (small : m < 2 ^ 48) (l : List Address) (f : FitAddresses l) (few : length (with_room m l) ≤ most_addresses) where
  pub room_fits : FitAddresses (with_room m l)
  room_fits = record { at_most_64 = few; each = fit-room m small l f.each; ascending = ascends-room m l f.ascending }

  pub join-fits : FitAddresses (with_joined m l)
  join-fits = same-fits (with_room m l) (with_joined m l) room_fits (joined-macs m l) (fit-joined m small l f.each)
