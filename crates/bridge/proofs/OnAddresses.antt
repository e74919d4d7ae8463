-- Receive_mmrp on a table, way by way: what it answers, and what it leaves of it.
use mathlib.Core.Path.{◌≡◌, sym, ◌∙◌, ap}
use mathlib.Core.List.{List}
use mathlib.Core.Bool.{true, false}
use Prim.Native.Nat.{ℕ, ◌-◌, ◌≤◌, ◌<◌}
use lib.ListN.{length}
use borrow.Author.Tests.{le-leb, lt-leb, ne_eqb}
use Rattle.model.specs.Layout.{most_addresses}
use Rattle.model.specs.State.{Bridge, Own, no_own, own_at}
use Rattle.model.specs.Registrations.{AddressAct, AddressReading, refused_frame, address_acts, at, does_addresses, change_addresses, owning, received_addresses, together, macs, address_joins}
use Rattle.model.specs.Frames.{wrong_port}
use Rattle.model.specs.AddressFrames.{address_walk, address_reading}
use Rattle.model.specs.Table.{formed, encode, decode}
use Rattle.model.specs.Calls.{on_table, leaves, receive_mmrp, receive_mmrp_on}
use Rattle.model.proofs.Lists.{at_here}
use Rattle.model.proofs.AddressesKept.{acts-macs}
use Rattle.model.proofs.AddressRefusals.{held_on}
use Rattle.mmrpdu.specs.Reader.{number_of}
use Rattle.bridge.specs.Promises.{port_refusal}
use Rattle.bridge.proofs.OnTables.{port-refused}

-- the bridge b once the acts of an MMRP frame on port p are done
abbrev pub addressed : Bridge → ℕ → List AddressAct → Bridge
addressed b p es = owning b (at (p - 1) (change_addresses (does_addresses b.clock es)) b.owns)

-- what its port holds then
pub addressed-held : (b : Bridge) (p : ℕ) (es : List AddressAct) → p - 1 < length b.owns
    → held_on (addressed b p es) p ≡ together (held_on b p) (address_joins es)
unfolding owning
addressed-held b p es h =
    ap (λ (o : Own). macs o.addresses) (at_here (p - 1) (change_addresses (does_addresses b.clock es)) b.owns no_own h)
    ∙ (unfold change_addresses in (acts-macs b.clock es (own_at b.owns (p - 1)).addresses))

-- the number that the checked walk gives, where it is not 0
fault-of : (v : AddressReading) (n : ℕ) → n ≡ number_of v → (n ≡ 0 → ⊥) → v ≡ refused_frame n
unfolding number_of
fault-of (refused_frame k) n e z = ap refused_frame (sym e)
fault-of (address_acts es) n e z = absurd (z e)

-- A frame that is refused before its addresses are counted.
module _ (t : List ℕ) (p : ℕ) (pdu : List ℕ) where
  pub mmrp-refused : (n : ℕ) → n ≡ port_refusal t p → (n ≡ 0 → ⊥) → receive_mmrp_on t p pdu ≡ record { number = n; table = t }
  unfolding receive_mmrp_on receive_mmrp address_reading received_addresses
  mmrp-refused = port-refused t p (λ b. receive_mmrp b p pdu) (λ w. rw w)

  module _ (h : formed t ≡ true) (w : wrong_port (decode t).settings p ≡ false) where
    pub mmrp-faulty : (n : ℕ) → n ≡ number_of (address_walk pdu) → (n ≡ 0 → ⊥) → receive_mmrp_on t p pdu ≡ record { number = n; table = t }
    unfolding receive_mmrp_on on_table leaves receive_mmrp address_reading received_addresses
    mmrp-faulty n e z = rw (h, w, fault-of (address_walk pdu) n e z, ne_eqb n 0 z)

    -- its acts on the addresses held
    module _ (es : List AddressAct) (e : address_walk pdu ≡ address_acts es) where
      pub mmrp-full : most_addresses < length (does_addresses (decode t).clock es (own_at (decode t).owns (p - 1)).addresses) →
          receive_mmrp_on t p pdu ≡ record { number = 14; table = t }
      unfolding receive_mmrp_on on_table leaves receive_mmrp address_reading received_addresses
      mmrp-full l = rw (h, w, e, lt-leb _ _ l)

      pub mmrp-taken : length (does_addresses (decode t).clock es (own_at (decode t).owns (p - 1)).addresses) ≤ most_addresses →
          receive_mmrp_on t p pdu ≡ record { number = 0; table = encode (addressed (decode t) p es) }
      unfolding receive_mmrp_on on_table leaves receive_mmrp address_reading received_addresses
      mmrp-taken l = rw (h, w, e, le-leb _ _ l)
