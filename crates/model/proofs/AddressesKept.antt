-- Addresses after an MMRP frame: those held before and those joined, each once, ascending; valid; so the bridge keeps the form rules.
-- 14 is given exactly where they are more than 64, and where there is room for all that frames ask for, to none of them.
use mathlib.Core.Path.{◌≡◌, refl, sym, ◌∙◌, ap}
use mathlib.Core.List.{List, [], ◌∷◌, map}
use mathlib.Core.Bool.{Bool, true, false, cond}
use Prim.Native.Nat.{ℕ, ◌-◌, ◌^◌, ◌≤◌, ◌<◌}
use native.Mathlib.Omega.{arith}
use lib.ListN.{length, length-map}
use lib.Dec.{ltb, leb, eqb}
use borrow.Author.Tests.{eqb-true, leb-true}
use Rattle.model.specs.Layout.{most_addresses}
use Rattle.model.specs.Lists.{All}
use Rattle.model.specs.State.{Presence, vacant, present, Address, Own, Bridge}
use Rattle.model.specs.Registrations.{AddressAct, leave_all_addresses, leave_address, join_address, AddressReading, refused_frame, address_acts, quit_presence, quit_address, joined_address, with_joined, with_left, does_address, does_addresses, change_addresses, owning, received_addresses, add, together, macs, address_joins}
use Rattle.model.specs.Frames.{wrong_port}
use Rattle.model.specs.AddressFrames.{address_reading}
use Rattle.model.specs.Calls.{receive_mmrp}
use Rattle.model.proofs.Lists.{length_at, all_changed, drop-changed}
use Rattle.model.proofs.Valid.{ValidPresence, ValidAddress, ValidOwn, Valid}
use Rattle.model.proofs.FoundAddresses.{FitsAddress, FitsAddresses, address-reading-fits}
use Rattle.model.proofs.AdvanceKeepsForm.{all-mapped}
use Rattle.model.proofs.ReceiveKeepsForm.{begun-leaving, right-port}
use Rattle.model.proofs.FrameOrder.{rising-together}
use Rattle.model.proofs.ReceivedAddresses.{has_room, with_room, address_effect, received_is}

-- Which addresses are held.

macs-joined : (m : ℕ) (l : List Address) → macs (with_joined m l) ≡ add m (macs l)
unfolding with_joined macs add joined_address
macs-joined m [] = refl
macs-joined m (a ∷ l) = go (ltb m a.mac) (eqb m a.mac) refl (macs-joined m l)
  where
    go : (s t : Bool) → eqb m a.mac ≡ t → macs (with_joined m l) ≡ add m (macs l)
        → macs (cond s (joined_address m ∷ a ∷ l) (cond t (joined_address m ∷ l) (a ∷ with_joined m l))) ≡ cond s (m ∷ a.mac ∷ macs l) (cond t (a.mac ∷ macs l) (a.mac ∷ add m (macs l)))
    go true t e ih = refl
    go false true e ih = ap (λ (n : ℕ). n ∷ macs l) (eqb-true m a.mac e)
    go false false e ih = ap (λ (r : List ℕ). a.mac ∷ r) ih

macs-left : (now m : ℕ) (l : List Address) → macs (with_left now m l) ≡ macs l
unfolding with_left macs quit_address
macs-left now m [] = refl
macs-left now m (a ∷ l) = go (eqb m a.mac) (macs-left now m l)
  where
    go : (t : Bool) → macs (with_left now m l) ≡ macs l → macs (cond t (quit_address now a ∷ l) (a ∷ with_left now m l)) ≡ a.mac ∷ macs l
    go true ih = refl
    go false ih = ap (λ (r : List ℕ). a.mac ∷ r) ih

macs-quit : (now : ℕ) (l : List Address) → macs (map (quit_address now) l) ≡ macs l
unfolding macs quit_address
macs-quit now [] = refl
macs-quit now (a ∷ l) = ap (λ (r : List ℕ). a.mac ∷ r) (macs-quit now l)

-- those held before, and those that the acts join
pub acts-macs : (now : ℕ) (es : List AddressAct) (l : List Address) → macs (does_addresses now es l) ≡ together (macs l) (address_joins es)
unfolding does_addresses does_address address_joins together
acts-macs now [] l = refl
acts-macs now (leave_all_addresses ∷ es) l = acts-macs now es _ ∙ ap (λ (r : List ℕ). together r (address_joins es)) (macs-quit now l)
acts-macs now (leave_address m ∷ es) l = acts-macs now es _ ∙ ap (λ (r : List ℕ). together r (address_joins es)) (macs-left now m l)
acts-macs now (join_address m ∷ es) l = acts-macs now es _ ∙ ap (λ (r : List ℕ). together r (address_joins es)) (macs-joined m l)

pub held-macs : (l : List Address) → length l ≡ length (macs l)
unfolding macs
held-macs l = sym (length-map l (λ (a : Address). a.mac))

pub acts-held : (now : ℕ) (es : List AddressAct) (l : List Address) → length (does_addresses now es l) ≡ length (together (macs l) (address_joins es))
acts-held now es l = held-macs (does_addresses now es l) ∙ ap length (acts-macs now es l)

-- They stay valid.

module _ (clock leave : ℕ) (leaves : 1 ≤ leave) where
  presence-quits : (p : Presence) → ValidPresence clock leave p → ValidPresence clock leave (quit_presence clock p)
  unfolding quit_presence
  presence-quits vacant v = v
  presence-quits (present l) v = begun-leaving clock leave clock (omega arith) (omega arith) l v

  address-quits : (a : Address) → ValidAddress clock leave a → ValidAddress clock leave (quit_address clock a)
  unfolding quit_address
  address-quits a v = record { mac = v.mac; presence = presence-quits a.presence v.presence }

  join-valid : (m : ℕ) → m < 256 ^ 6 → ValidAddress clock leave (joined_address m)
  unfolding joined_address
  join-valid m h = record { mac = h; presence = tt }

  joined-valid : (m : ℕ) → m < 256 ^ 6 → (l : List Address) → All (ValidAddress clock leave) l → All (ValidAddress clock leave) (with_joined m l)
  unfolding with_joined
  joined-valid m h [] v = (join-valid m h, tt)
  joined-valid m h (a ∷ l) v = go (ltb m a.mac) (eqb m a.mac) (joined-valid m h l v.1)
    where
      go : (s t : Bool) → All (ValidAddress clock leave) (with_joined m l)
          → All (ValidAddress clock leave) (cond s (joined_address m ∷ a ∷ l) (cond t (joined_address m ∷ l) (a ∷ with_joined m l)))
      go true t ih = (join-valid m h, v)
      go false true ih = (join-valid m h, v.1)
      go false false ih = (v.0, ih)

  left-valid : (m : ℕ) (l : List Address) → All (ValidAddress clock leave) l → All (ValidAddress clock leave) (with_left clock m l)
  unfolding with_left
  left-valid m [] v = tt
  left-valid m (a ∷ l) v = go (eqb m a.mac) (left-valid m l v.1)
    where
      go : (t : Bool) → All (ValidAddress clock leave) (with_left clock m l) → All (ValidAddress clock leave) (cond t (quit_address clock a ∷ l) (a ∷ with_left clock m l))
      go true ih = (address-quits a v.0, v.1)
      go false ih = (v.0, ih)

  act-valid : (a : AddressAct) → FitsAddress a → (l : List Address) → All (ValidAddress clock leave) l → All (ValidAddress clock leave) (does_address clock a l)
  unfolding does_address
  act-valid leave_all_addresses h l v = all-mapped (ValidAddress clock leave) (ValidAddress clock leave) (quit_address clock) address-quits l v
  act-valid (leave_address m) h l v = left-valid m l v
  act-valid (join_address m) h l v = joined-valid m (omega arith) l v

  acts-valid : (es : List AddressAct) → All FitsAddress es → (l : List Address) → All (ValidAddress clock leave) l → All (ValidAddress clock leave) (does_addresses clock es l)
  unfolding does_addresses
  acts-valid [] h l v = v
  acts-valid (a ∷ es) h l v = acts-valid es h.1 (does_address clock a l) (act-valid a h.0 l v)

  own-valid : (es : List AddressAct) → All FitsAddress es → (o : Own) → ValidOwn clock leave o → ValidOwn clock leave (with_room clock es o)
  unfolding with_room has_room
  own-valid es h o v = go (leb (length (does_addresses clock es o.addresses)) most_addresses) refl
    where
      go : (t : Bool) → leb (length (does_addresses clock es o.addresses)) most_addresses ≡ t
          → ValidOwn clock leave (cond t (change_addresses (does_addresses clock es) o) o)
      go true e = unfold change_addresses in (record {
        slotted = v.slotted;
        domains = v.domains;
        addresses = record {
          at_most_64 = leb-true (length (does_addresses clock es o.addresses)) most_addresses e;
          each = acts-valid es h o.addresses v.addresses.each;
          ascending = rw (acts-macs clock es o.addresses) (rising-together (address_joins es) (macs o.addresses) v.addresses.ascending);
        };
      })
      go false e = v

-- The bridge keeps the form rules.

effect-keeps : (b : Bridge) (p : ℕ) (x : AddressReading) → p - 1 < length b.settings.ports → FitsAddresses x → Valid b →
    Valid (owning b (address_effect b.clock (p - 1) x b.owns))
unfolding address_effect owning
effect-keeps b p (refused_frame n) here fits v = v
effect-keeps b p (address_acts es) here fits v =
    let u = with_room b.clock es in
    record {
      settings = v.settings;
      clock = v.clock;
      eight_totals = v.eight_totals;
      totals = v.totals;
      eight_owns = length_at (p - 1) u b.owns ∙ v.eight_owns;
      owns =
          all_changed (ValidOwn b.clock b.settings.leave_time) (p - 1) u b.owns
          (own-valid b.clock b.settings.leave_time v.settings.leaves es fits) v.owns;
      no-other-owns = rw (drop-changed (length b.settings.ports) (p - 1) u b.owns here) v.no-other-owns;
      eight_senders = v.eight_senders;
      senders = v.senders;
      no-other-senders = v.no-other-senders;
      at_most_64 = v.at_most_64;
      streams = v.streams;
      ascending = v.ascending;
    }

pub mmrp-keeps : (b : Bridge) (p : ℕ) (pdu : List ℕ) → Valid b → Valid (receive_mmrp b p pdu).bridge
unfolding receive_mmrp
mmrp-keeps b p pdu v = go (wrong_port b.settings p) refl
  where
    go : (t : Bool) → wrong_port b.settings p ≡ t → Valid (received_addresses b p (address_reading b.settings p pdu)).bridge
    go true e = unfold address_reading received_addresses in (rw e v)
    go false e =
        rw (received_is b p (address_reading b.settings p pdu))
        (effect-keeps b p (address_reading b.settings p pdu) (right-port b.settings p e) (address-reading-fits b.settings p pdu) v)
