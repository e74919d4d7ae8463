-- Walks on what a port holds by itself, one after another; and a walk over one act. Assumes nothing.
use Prim.Native.Nat.{ℕ, ◌^◌, ◌≤◌, ◌<◌}
use mathlib.Core.Path.{◌≡◌, refl, sym, ap, subst, ◌∙◌}
use mathlib.Core.List.{List, [], ◌∷◌, ◌++◌, map}
use mathlib.Core.Bool.{Bool, true, false, cond, true≢false}
use native.Mathlib.Omega.{arith}
use lib.ListN.{length}
use lib.Dec.{leb, eqb}
use borrow.Author.Tests.{leb-true, leb-false}
use Rattle.model.specs.Layout.{most_addresses, own_size}
use Rattle.model.specs.Lists.{All}
use Rattle.model.specs.State.{Address, Own}
use Rattle.model.specs.Registrations.{AddressAct, leave_all_addresses, leave_address, join_address, quit_address, with_joined, with_left, does_address, does_addresses, change_addresses, macs, address_joins, together}
use Rattle.model.specs.Table.{own_octets, to_own}
use Rattle.model.specs.Laid.{FitAddresses, FitOwn, LaidOwn}
use Rattle.model.proofs.Owns.{own-fit-back, own-length}
use Rattle.model.proofs.AddressesKept.{acts-macs, held-macs}
use Rattle.model.proofs.AdvanceKeepsForm.{all-mapped}
use Rattle.table.proofs.OwnParts.{laid-own-is, laid-own-fits}
use Rattle.addresses.specs.Room.{with_room, present_only}
use Rattle.addresses.specs.Held.{HeldGiven}
use Rattle.addresses.proofs.Records.{FitAddress}
use Rattle.addresses.proofs.Values.{quit-fits}
use Rattle.addresses.proofs.Searching.{room-holds}
use Rattle.addresses.proofs.Keeps.{change-fits, same-fits, joined-macs, room_fits, join-fits}
use Rattle.mmrp.specs.Run.{room, effect, effects, held, having, Went, Walked}
use Rattle.mmrp.proofs.Room.{effects-append, effects-grow, effects-drop, joined-again}

-- The octets with other addresses.

pub laid-size : (s : List ℕ) → LaidOwn s → length s ≡ own_size
laid-size s l = ap length l.is ∙ own-length l.thing l.fits.slotted l.fits.addresses.at_most_64

module _ (s : List ℕ) (laid : LaidOwn s) where
  pub held_fits : FitAddresses (held s)
  unfolding held
  held_fits = (laid-own-fits s laid).addresses

  pub having-same : s ≡ having s (held s)
  unfolding having held change_addresses
  having-same = laid-own-is s laid

  module _ (l : List Address) (f : FitAddresses l) where
    having-fits : FitOwn (change_addresses (λ _. l) (to_own s))
    having-fits = change-fits (to_own s) (laid-own-fits s laid) (λ _. l) f

    having-own : to_own (having s l) ≡ change_addresses (λ _. l) (to_own s)
    unfolding having
    having-own = own-fit-back (change_addresses (λ _. l) (to_own s)) having-fits

    having-laid : LaidOwn (having s l)
    unfolding having
    having-laid = record { thing = change_addresses (λ _. l) (to_own s); fits = having-fits; is = refl }

    having-held : held (having s l) ≡ l
    unfolding held change_addresses
    having-held = ap (λ (o : Own). o.addresses) having-own

    having-again : (k : List Address) → having (having s l) k ≡ having s k
    unfolding having change_addresses
    having-again k = ap (λ (o : Own). own_octets (change_addresses (λ _. k) o)) having-own

-- what is done to them there is done to those
pub left-octets : (s : List ℕ) → LaidOwn s → (t : List ℕ) (l : List Address) → FitAddresses l → t ≡ having s l → (u : List Address → List Address)
    → own_octets (change_addresses u (to_own t)) ≡ having s (u l)
unfolding change_addresses having
left-octets s laid t l f e u = ap (λ (o : Own). own_octets (change_addresses u o)) (ap to_own e ∙ having-own s laid l f)

-- Walks.

module _ (m : Bool) (now : ℕ) (s : List ℕ) (laid : LaidOwn s) where
  went-laid : (es : List AddressAct) (u : List ℕ) → Went m now es s u → LaidOwn u
  went-laid es u w = subst LaidOwn (sym w.octets) (having-laid s laid _ w.fits)

  pub walked-laid : (es : List AddressAct) (r : Bool) (u : List ℕ) → Walked m now es s r u → LaidOwn u
  walked-laid es true u w = went-laid es u w
  walked-laid es false u w = subst LaidOwn (sym w.octets) (having-laid s laid w.left w.fits)

  -- nothing to do
  pub walked_none : Walked m now [] s true s
  unfolding effects
  walked_none = record { octets = having-same s laid; fits = held_fits s laid }

  -- where room is made nothing is registered
  nothing : (es : List AddressAct) (l : List Address) → m ≡ false → present_only (effects m now es l) ≡ present_only l
  nothing es l e = rw e (effects-drop now es l)

  module _ (es fs : List AddressAct) (t : List ℕ) where
    pub walked-stopped : Walked m now es s false t → Walked m now (es ++ fs) s false t
    walked-stopped w = record {
      left = w.left;
      octets = w.octets;
      fits = w.fits;
      many = rw (effects-append m now es fs (held s)) (omega (arith, w.many, effects-grow m now fs (effects m now es (held s))));
      restored = w.restored;
    }

    module _ (w : Went m now es s t) where
      pub went-held : held t ≡ effects m now es (held s)
      went-held = ap held w.octets ∙ having-held s laid _ w.fits

      pub went-having : (k : List Address) → having t k ≡ having s k
      went-having k = ap (λ (x : List ℕ). having x k) w.octets ∙ having-again s laid _ w.fits k

      both : effects m now fs (held t) ≡ effects m now (es ++ fs) (held s)
      both = ap (effects m now fs) went-held ∙ sym (effects-append m now es fs (held s))

      pub walked_on : (r : Bool) (u : List ℕ) → Walked m now fs t r u → Walked m now (es ++ fs) s r u
      walked_on true u x = record { octets = x.octets ∙ went-having _ ∙ ap (having s) both; fits = subst FitAddresses both x.fits }
      walked_on false u x = record {
        left = x.left;
        octets = x.octets ∙ went-having x.left;
        fits = x.fits;
        many = subst (λ (l : List Address). most_addresses < length l) both x.many;
        restored = λ e. x.restored e ∙ ap present_only went-held ∙ nothing es (held s) e;
      }

-- A loop over acts: the walk over es from the octets s has come to the octets u, with fs left.

pub record Going (m : Bool) (now : ℕ) (es : List AddressAct) (s : List ℕ) (fs : List AddressAct) (u : List ℕ) : Type 0 where
  pub laid : LaidOwn u
  pub leads : (r : Bool) (v : List ℕ) → Walked m now fs u r v → Walked m now es s r v

module _ (m : Bool) (now : ℕ) (es : List AddressAct) (s : List ℕ) where
  pub going_start : LaidOwn s → Going m now es s es s
  going_start l = record { laid = l; leads = λ r v w. w }

  module _ (fs : List AddressAct) (u : List ℕ) (g : Going m now es s fs u) where
    pub going_end : fs ≡ [] → Walked m now es s true u
    going_end e = g.leads true u (rw e (walked_none m now u g.laid))

    module _ (gs hs : List AddressAct) (v : List ℕ) (e : fs ≡ gs ++ hs) where
      pub going_on : Walked m now gs u true v → Going m now es s hs v
      going_on w = record {
        laid = walked-laid m now u g.laid gs true v w;
        leads = λ r x y. g.leads r x (rw e (walked_on m now u g.laid gs hs v w r x y));
      }

      pub going-stopped : Walked m now gs u false v → Walked m now es s false v
      going-stopped w = g.leads false v (rw e (walked-stopped m now u g.laid gs hs v w))

-- One act.

-- Lv and LeaveAll ask for no room
pub room-leave : (n : ℕ) (l : List Address) → room (leave_address n) l ≡ l
unfolding room
room-leave n l = refl

pub room-leave-all : (l : List Address) → room leave_all_addresses l ≡ l
unfolding room
room-leave-all l = refl

module _ (now : ℕ) (s : List ℕ) (laid : LaidOwn s) where
  -- one that needs no room
  pub leaving-room : (b : Bool) (a : AddressAct) → b ≡ false → room a (held s) ≡ held s → Walked b now (a ∷ []) s true s
  unfolding effects effect
  leaving-room true a e r = absurd (true≢false e)
  leaving-room false a e r = record { octets = having-same s laid ∙ ap (having s) (sym r); fits = rw r (held_fits s laid) }

  module _ (small : now < 2 ^ 32) where
    left-macs : (a : AddressAct) → address_joins (a ∷ []) ≡ [] → macs (does_address now a (held s)) ≡ macs (held s)
    unfolding together
    left-macs a e = unfold does_addresses in (acts-macs now (a ∷ []) (held s)) ∙ rw e

    quit-all : (l : List Address) → All FitAddress l → All FitAddress (map (quit_address now) l)
    quit-all l h = all-mapped FitAddress FitAddress (quit_address now) (quit-fits now small) l h

    quit-one : (n : ℕ) (l : List Address) → All FitAddress l → All FitAddress (with_left now n l)
    unfolding with_left
    quit-one n [] h = tt
    quit-one n (a ∷ l) h = go (eqb n a.mac) (quit-one n l h.1)
      where
        go : (t : Bool) → All FitAddress (with_left now n l) → All FitAddress (cond t (quit_address now a ∷ l) (a ∷ with_left now n l))
        go true r = (quit-fits now small a h.0, h.1)
        go false r = (h.0, r)

    pub all_left : (u : List ℕ) → u ≡ own_octets (change_addresses (map (quit_address now)) (to_own s)) → Walked true now (leave_all_addresses ∷ []) s true u
    unfolding effects effect does_address having held change_addresses
    all_left u e = record {
      octets = e;
      fits = same-fits (held s) (map (quit_address now) (held s)) (held_fits s laid) (left-macs leave_all_addresses (unfold address_joins in refl)) (quit-all (held s) (held_fits s laid).each);
    }

    pub one_left : (n : ℕ) (u : List ℕ) → u ≡ own_octets (change_addresses (with_left now n) (to_own s)) → Walked true now (leave_address n ∷ []) s true u
    unfolding effects effect does_address having held change_addresses
    one_left n u e = record {
      octets = e;
      fits = same-fits (held s) (with_left now n (held s)) (held_fits s laid) (left-macs (leave_address n) (unfold address_joins in refl)) (quit-one n (held s) (held_fits s laid).each);
    }

  -- a join: room is made, r tells whether there is any, in the octets t
  module _ (n : ℕ) (small : n < 2 ^ 48) (r : Bool) (t : List ℕ) (i : r ≡ leb (length (with_room n (to_own s).addresses)) most_addresses)
      (e : t ≡ cond r (own_octets (change_addresses (with_room n) (to_own s))) s) where
    join-length : (b : Bool) → length (effect b now (join_address n) (held s)) ≡ length (with_room n (held s))
    unfolding effect room does_address
    join-length true = held-macs (with_joined n (held s)) ∙ ap length (joined-macs n (held s)) ∙ sym (held-macs (with_room n (held s)))
    join-length false = refl

    pub join-stopped : (b : Bool) → r ≡ false → Walked b now (join_address n ∷ []) s false t
    unfolding effects held
    join-stopped b q = record {
      left = held s;
      octets = e ∙ rw q (having-same s laid);
      fits = held_fits s laid;
      many = omega (arith, join-length b, leb-false (length (with_room n (held s))) most_addresses (sym i ∙ q));
      restored = λ z. refl;
    }

    module _ (q : r ≡ true) where
      few : length (with_room n (held s)) ≤ most_addresses
      unfolding held
      few = leb-true (length (with_room n (held s))) most_addresses (sym i ∙ q)

      roomed : t ≡ having s (with_room n (held s))
      unfolding having held change_addresses
      roomed = e ∙ rw q

      room-fit : FitAddresses (with_room n (held s))
      room-fit = room_fits n small (held s) (held_fits s laid) few

      pub join-room : (b : Bool) → b ≡ false → Walked b now (join_address n ∷ []) s true t
      unfolding effects effect room
      join-room true z = absurd (true≢false z)
      join-room false z = record { octets = roomed; fits = room-fit }

      there : (to_own t).addresses ≡ with_room n (held s)
      unfolding held
      there = ap held roomed ∙ having-held s laid (with_room n (held s)) room-fit

      pub join-held : HeldGiven t n
      join-held = record {
        laid = subst LaidOwn (sym roomed) (having-laid s laid (with_room n (held s)) room-fit);
        size = laid-size t (subst LaidOwn (sym roomed) (having-laid s laid (with_room n (held s)) room-fit));
        holds = rw there (room-holds n (held s));
      }

      pub join-done : (b : Bool) → b ≡ true → (u : List ℕ) → u ≡ own_octets (change_addresses (with_joined n) (to_own t)) → Walked b now (join_address n ∷ []) s true u
      unfolding effects effect does_address having change_addresses
      join-done false z u d = absurd (true≢false (sym z))
      join-done true z u d = record {
        octets =
            d ∙ left-octets s laid t (with_room n (held s)) room-fit roomed (with_joined n) ∙ ap (having s) (joined-again n (held s));
        fits = join-fits n small (held s) (held_fits s laid) few;
      }
