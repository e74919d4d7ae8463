-- What receive_mmrp hands to the walk over an MMRP frame, and what it then answers.
use mathlib.Core.Path.{◌≡◌, refl, sym, ◌∙◌, ap}
use mathlib.Core.List.{List, [], ◌∷◌, ◌++◌}
use mathlib.Core.Bool.{Bool, true, false, cond}
use Prim.Native.Nat.{ℕ, ◌+◌, ◌-◌, ◌<◌}
use native.Mathlib.Omega.{arith}
use lib.ListN.{length, take, drop, take-append-drop}
use lib.Dec.{leb}
use borrow.Author.Tests.{leb-true, leb-false}
use Rattle.model.specs.Layout.{most_addresses, own_place, own_size}
use Rattle.model.specs.Lists.{All}
use Rattle.model.specs.State.{Presence, vacant, present, Address, Own, no_own, own_at}
use Rattle.model.specs.Registrations.{AddressAct, AddressReading, does_addresses, change_addresses, owning}
use Rattle.model.specs.AddressFrames.{address_walk}
use Rattle.model.specs.Table.{encode, decode, own_octets, to_own}
use Rattle.model.specs.Calls.{receive_mmrp_on}
use Rattle.model.proofs.Lists.{all-at}
use Rattle.model.proofs.Valid.{ValidPresence, ValidAddress, ValidOwn, Valid}
use Rattle.model.proofs.Tables.{valid-decode}
use Rattle.table.proofs.StreamParts.{at_set}
use Rattle.table.proofs.OwnParts.{lent-own-at, left-own-at}
use Rattle.mmrpdu.specs.Reader.{number_of}
use Rattle.mmrpdu.proofs.Applying.{accepted}
use Rattle.addresses.specs.Room.{is_held, present_only}
use Rattle.mmrp.specs.Run.{held}
use Rattle.mmrp.specs.Walked.{acts_of, taken, Receives}
use Rattle.mmrp.specs.Asks.{ReceiveGiven}
use Rattle.bridge.proofs.OnTables.{Passed, port-in}
use Rattle.bridge.proofs.OnAddresses.{addressed, mmrp-full, mmrp-taken}

-- no valid address is vacant
valid-held : (clock leave : ℕ) (p : Presence) → ValidPresence clock leave p → is_held p ≡ true
unfolding is_held
valid-held clock leave vacant v = absurd v
valid-held clock leave (present l) v = refl

all-present : (clock leave : ℕ) (l : List Address) → All (ValidAddress clock leave) l → present_only l ≡ l
unfolding present_only
all-present clock leave [] v = refl
all-present clock leave (a ∷ l) v = rw (valid-held clock leave a.presence v.0.presence) (ap (λ (m : List Address). a ∷ m) (all-present clock leave l v.1))

module _ (t : List ℕ) (p : ℕ) (pdu : List ℕ) (passed : Passed t p) (z : number_of (address_walk pdu) ≡ 0) (a : ℕ) (e : a ≡ own_place (p - 1)) where
  valid : Valid (decode t)
  valid = valid-decode t passed.octets passed.formed

  -- what the port holds, as it is lent
  abbrev lent : List ℕ
  lent = take (a + own_size - a) (drop a t)

  lent_is : to_own lent ≡ own_at (decode t).owns (p - 1)
  lent_is = (lent-own-at (port-in t p passed) a e).is

  abbrev addresses_here : List Address
  addresses_here = (own_at (decode t).owns (p - 1)).addresses

  held-is : held lent ≡ addresses_here
  unfolding held
  held-is = ap (λ (x : Own). x.addresses) lent_is

  there : p - 1 < length (decode t).owns
  there = omega (arith, (port-in t p passed).port, valid.eight_owns)

  own-valid : ValidOwn (decode t).clock (decode t).settings.leave_time (own_at (decode t).owns (p - 1))
  own-valid = all-at (ValidOwn (decode t).clock (decode t).settings.leave_time) (decode t).owns valid.owns (p - 1) no_own there

  pub given : ReceiveGiven lent pdu
  given = record {
    frame = record { laid = (lent-own-at (port-in t p passed) a e).laid; acts = (accepted pdu z).0; found = (accepted pdu z).1 };
    present =
        ap present_only held-is ∙ all-present (decode t).clock (decode t).settings.leave_time addresses_here own-valid.addresses.each ∙ sym held-is;
  }

  module _ (clock : ℕ) (c : clock ≡ (decode t).clock) (r : Bool) (y : List ℕ) (g : Receives clock pdu lent r y) where
    -- the table with what the port holds then
    abbrev left : List ℕ
    left = take a t ++ (y ++ drop (a + own_size - a) (drop a t))

    acts : List AddressAct
    acts = (accepted pdu z).0

    answer-is : r ≡ leb (length (does_addresses (decode t).clock acts addresses_here)) most_addresses
    unfolding acts_of acts
    answer-is =
        g.answer
        ∙ ap (λ (k : ℕ). leb (length (does_addresses k (acts_of (address_walk pdu)) (held lent))) most_addresses) c
        ∙ ap (λ (x : AddressReading). leb (length (does_addresses (decode t).clock (acts_of x) (held lent))) most_addresses) (accepted pdu z).1
        ∙ ap (λ (l : List Address). leb (length (does_addresses (decode t).clock acts l)) most_addresses) held-is

    octets-are : r ≡ true → y ≡ own_octets (change_addresses (does_addresses (decode t).clock acts) (to_own lent))
    unfolding acts_of acts taken
    octets-are q =
        g.octets
        ∙ ap (λ (b : Bool). cond b (taken clock pdu lent) lent) q
        ∙ ap (λ (k : ℕ). own_octets (change_addresses (does_addresses k (acts_of (address_walk pdu))) (to_own lent))) c
        ∙ ap (λ (x : AddressReading). own_octets (change_addresses (does_addresses (decode t).clock (acts_of x)) (to_own lent))) (accepted pdu z).1

    pub mmrp-done : r ≡ true → receive_mmrp_on t p pdu ≡ record { number = 0; table = left }
    unfolding acts
    mmrp-done q =
        let u : Own → Own = change_addresses (does_addresses (decode t).clock acts) in
        let same : left ≡ encode (addressed (decode t) p acts) =
        left-own-at (port-in t p passed) a e u y (octets-are q)
        ∙ ap (λ (l : List Own). encode (owning (decode t) l)) (at_set (p - 1) u (decode t).owns no_own there) in
        mmrp-taken t p pdu passed.formed passed.port acts (accepted pdu z).1 (leb-true _ most_addresses (sym answer-is ∙ q))
        ∙ ap (λ (x : List ℕ). record { number = 0; table = x }) (sym same)

    pub mmrp-no-room : r ≡ false → receive_mmrp_on t p pdu ≡ record { number = 14; table = left }
    unfolding acts
    mmrp-no-room q =
        let y-is : y ≡ lent = g.octets ∙ ap (λ (b : Bool). cond b (taken clock pdu lent) lent) q in
        let same : left ≡ t = rw (y-is, take-append-drop (a + own_size - a) (drop a t)) (take-append-drop a t) in
        mmrp-full t p pdu passed.formed passed.port acts (accepted pdu z).1 (leb-false _ most_addresses (sym answer-is ∙ q))
        ∙ ap (λ (x : List ℕ). record { number = 14; table = x }) (sym same)
