-- Receive and advance on a table, way by way: what they answer, and what they leave of it.
use mathlib.Core.Path.{◌≡◌, refl, sym, ◌∙◌, ap}
use mathlib.Core.List.{List}
use mathlib.Core.Bool.{Bool, true, false}
use Prim.Native.Nat.{ℕ, ◌-◌, ◌≤◌, ◌<◌}
use native.Mathlib.Omega.{arith}
use lib.ListN.{length}
use borrow.Author.Tests.{lt-ltb, le-ltb, le-leb, lt-leb, eq-eqb, ne_eqb}
use Rattle.model.specs.Lists.{Octets}
use Rattle.model.specs.State.{Settings, Bridge}
use Rattle.model.specs.Registrations.{Answer, Act, apply_all, apply_owns, apply_senders, holding, owning, sending, received}
use Rattle.model.specs.Frames.{Vector, Walk, fault, found, walk, walked, frame_acts, wrong_port, reading}
use Rattle.model.specs.Settling.{settle, advance}
use Rattle.model.specs.Table.{formed, encode, decode}
use Rattle.model.specs.Numbers.{refusal_number}
use Rattle.model.specs.declared.refusal.Refusal.{Refusal}
use Rattle.model.specs.declared.refusal.Refusal.TheVariants as refusal
use Rattle.model.specs.Calls.{Call, on_table, leaves, receive, receive_on, advance_on}
use Rattle.model.proofs.Tables.{valid-decode}
use Rattle.model.proofs.Fits.{formed-laid}
use Rattle.model.proofs.ReceiveKeepsForm.{right-port}
use Rattle.table.specs.Places.{PortIn}
use Rattle.msrpdu.specs.Reader.{number_of}
use Rattle.bridge.specs.Promises.{port_refusal}

-- the bridge b once the acts of a frame on port p are done
abbrev pub acted : Bridge → ℕ → List Act → Bridge
acted b p es =
    sending (owning (holding b (apply_all b.clock (p - 1) es b.streams)) (apply_owns b.clock (p - 1) es b.owns))
    (apply_senders b.clock (p - 1) es b.senders)

-- a call's answer and the table it leaves, as a contract has them
pub answers : (number : ℕ) (table : List ℕ) (c : Call) → c ≡ record { number = number; table = table } →
    (number ≡ c.number) × (table ≡ c.table)
answers number table c e = (ap (λ (a : Call). a.number) (sym e), ap (λ (a : Call). a.table) (sym e))

pub not-formed : (t : List ℕ) (f : Bridge → Answer) → formed t ≡ false → on_table t f ≡ record { number = 12; table = t }
unfolding on_table
not-formed t f h = rw h

module _ (t : List ℕ) (now : ℕ) where
  pub advance-unformed : formed t ≡ false → advance_on t now ≡ record { number = 12; table = t }
  unfolding advance_on
  advance-unformed h = not-formed t (λ b. advance b now) h

  pub advance-early : formed t ≡ true → now < (decode t).clock → advance_on t now ≡ record { number = 9; table = t }
  unfolding advance_on on_table leaves advance
  advance-early h l = rw (h, lt-ltb now (decode t).clock l)

  pub advance-settles : formed t ≡ true → (decode t).clock ≤ now → advance_on t now ≡ record { number = 0; table = encode (settle now (decode t)) }
  unfolding advance_on on_table leaves advance
  advance-settles h l = rw (h, le-ltb now (decode t).clock l)

-- nothing is refused before the frame
pub record Passed (t : List ℕ) (p : ℕ) : Type 0 where
  pub octets : Octets t
  pub formed : formed t ≡ true
  pub port : wrong_port (decode t).settings p ≡ false

-- What comes before a frame, as each call with one tests it: n is its number.
module _ (t : List ℕ) (p : ℕ) where
  pub port-in : Passed t p → PortIn t (p - 1)
  port-in v =
      record { laid = formed-laid t v.octets v.formed; port = omega (arith, right-port (decode t).settings p v.port, (valid-decode t v.octets v.formed).settings.eight_ports) }

  -- by every call that refuses a wrong port with 1
  pub port-refused : (f : Bridge → Answer) → (wrong_port (decode t).settings p ≡ true → f (decode t) ≡ record { number = 1; bridge = decode t })
      → (n : ℕ) → n ≡ port_refusal t p → (n ≡ 0 → ⊥) → on_table t f ≡ record { number = n; table = t }
  unfolding port_refusal on_table leaves
  port-refused f wrong n e z = go (formed t) (wrong_port (decode t).settings p) refl refl
    where
      go : (h w : Bool) → formed t ≡ h → wrong_port (decode t).settings p ≡ w → on_table t f ≡ record { number = n; table = t }
      go true true h w = rw (h, wrong w, e) (rw (h, w))
      go true false h w = absurd (z (e ∙ rw (h, w)))
      go false w h v = rw (h, e) (rw h)

-- the number that the checked walk gives, where it is not 0
fault-of : (v : Walk) (n : ℕ) → n ≡ number_of v → (n ≡ 0 → ⊥) → v ≡ fault n
unfolding number_of
fault-of (fault k) n e z = ap fault (sym e)
fault-of (found vs) n e z = absurd (z e)

-- A frame that is refused before its streams are counted.
module _ (t : List ℕ) (p : ℕ) (pdu : List ℕ) where
  pub receive-refused : (n : ℕ) → n ≡ port_refusal t p → (n ≡ 0 → ⊥) → receive_on t p pdu ≡ record { number = n; table = t }
  unfolding receive_on receive reading received
  receive-refused = port-refused t p (λ b. receive b p pdu) (λ w. rw w)

  module _ (h : formed t ≡ true) where
    pub receive-wrong-port : wrong_port (decode t).settings p ≡ true → receive_on t p pdu ≡ record { number = 1; table = t }
    unfolding receive_on on_table leaves receive reading received
    receive-wrong-port w = rw (h, w)

    module _ (w : wrong_port (decode t).settings p ≡ false) where
      pub receive-faulty : (n : ℕ) → n ≡ number_of (walk pdu) → (n ≡ 0 → ⊥) → receive_on t p pdu ≡ record { number = n; table = t }
      unfolding receive_on on_table leaves receive reading received walked
      receive-faulty n e z = rw (h, w, fault-of (walk pdu) n e z, ne_eqb n 0 z)

      -- its acts on the streams held
      module _ (vs : List Vector) (e : walk pdu ≡ found vs) where
        pub receive-full : 64 < length (apply_all (decode t).clock (p - 1) (frame_acts vs) (decode t).streams) →
            receive_on t p pdu ≡ record { number = 8; table = t }
        unfolding receive_on on_table leaves receive reading received walked
        receive-full l = rw (h, w, e, lt-leb _ _ l)

        pub receive-taken : length (apply_all (decode t).clock (p - 1) (frame_acts vs) (decode t).streams) ≤ 64 →
            receive_on t p pdu
            ≡ record { number = 0; table = encode (acted (decode t) p (frame_acts vs)) }
        unfolding receive_on on_table leaves receive reading received walked
        receive-taken l = rw (h, w, e, le-leb _ _ l)

-- a port, as the call tests it
pub port-zero : (st : Settings) (p : ℕ) → p ≡ 0 → wrong_port st p ≡ true
unfolding wrong_port
port-zero st p e = rw (eq-eqb p 0 e)

pub port-above : (st : Settings) (p : ℕ) → length st.ports < p → wrong_port st p ≡ true
unfolding wrong_port
port-above st p l = rw (ne_eqb p 0 (omega arith), lt-ltb _ _ l)

pub port-right : (st : Settings) (p : ℕ) → (p ≡ 0 → ⊥) → p ≤ length st.ports → wrong_port st p ≡ false
unfolding wrong_port
port-right st p z l = rw (ne_eqb p 0 z, le-ltb _ _ l)

-- no refusal has the number of an accepted call
pub not-accepted : (r : Refusal) → refusal_number r ≡ 0 → ⊥
not-accepted refusal.Port e = absurd (omega arith)
not-accepted refusal.PduLength e = absurd (omega arith)
not-accepted refusal.PastEnd e = absurd (omega arith)
not-accepted refusal.AttributeType e = absurd (omega arith)
not-accepted refusal.AttributeLength e = absurd (omega arith)
not-accepted refusal.Event e = absurd (omega arith)
not-accepted refusal.Value e = absurd (omega arith)
not-accepted refusal.Streams e = absurd (omega arith)
not-accepted refusal.Time e = absurd (omega arith)
not-accepted refusal.Buffer e = absurd (omega arith)
not-accepted refusal.Settings e = absurd (omega arith)
not-accepted refusal.Table e = absurd (omega arith)
not-accepted refusal.Place e = absurd (omega arith)
not-accepted refusal.Addresses e = absurd (omega arith)
not-accepted refusal.Stream e = absurd (omega arith)
