-- Inbound ports and shared addresses, of the code: codes 5 and 15, and what they keep, in the table that an accepted advance left. The
-- premise is the contract of advance (specs/Promises).
use mathlib.Core.Path.{◌≡◌, refl, sym, ◌∙◌, ap}
use mathlib.Core.List.{List}
use mathlib.Core.Bool.{Bool, true}
use Prim.Native.Nat.{ℕ, ◌^◌, ◌≤◌, ◌<◌}
use lib.ListN.{length}
use Rattle.model.specs.Lists.{Octets, count_to}
use Rattle.model.specs.State.{stream_at}
use Rattle.model.specs.Settling.{source_of, is_source, is_advertise, scene_of}
use Rattle.model.specs.Table.{decode}
use Rattle.model.proofs.Inbounds.{SameAddress, same-address-exactly, SharedAddress, shares-exactly, KeptOut, kept-out-exactly}
use Rattle.model.proofs.FanIn.{five-decided, five-only, fifteen-decided, fifteen-only, BringsIn, few-bring-in, one_address}
use Rattle.bridge.specs.Promises.{Advances}
use Rattle.bridge.proofs.OwnCodes.{column_held, column_decided, GivenWhere, left-column, given-where}

-- the port at place q is the Talker port of a stream that the table u holds, and that some port advertises
pub record BringsInHeld (u : List ℕ) (q : ℕ) : Type 0 where
  pub place : ℕ
  pub held : place < length (decode u).streams
  pub source : is_source (source_of (stream_at place (decode u))) q ≡ true
  pub port : ℕ
  pub within : port < 8
  pub advertises : is_advertise (column_held u port place) ≡ true

module _ (t : List ℕ) (time n : ℕ) (u : List ℕ) (octets : Octets t) (small : time < 2 ^ 32) (call : Advances t time n u) (accepted : n ≡ 0) where
  module _ (p : ℕ) (here : p < 8) (k : ℕ) (held : k < length (decode u).streams) where
    -- Code 5 is given exactly where no earlier step applies and a lower StreamID has the stream's destination and VLAN.
    pub five-code : GivenWhere u p k 5 (SharedAddress (decode u).streams (stream_at k (decode u)))
    five-code =
        let b = decode u in
        let x = stream_at k b in
        let fact = shares-exactly b.streams x in
        given-where t time n u octets small call accepted p here k held 5 _
        (λ free a. five-decided (scene_of b) b.clock b.streams p x free (fact.1 a))
        (λ whole e. let w = five-only (scene_of b) b.clock b.streams p x whole e in (w.0, fact.0 w.1))

    -- Code 15, where 5 is one of the earlier steps, is given exactly where the stream's Talker port may not bring streams in.
    pub fifteen-code : GivenWhere u p k 15 (KeptOut (decode u).settings.fan_in (decode u).streams (stream_at k (decode u)))
    fifteen-code =
        let b = decode u in
        let x = stream_at k b in
        let fact = kept-out-exactly b.settings.fan_in b.streams x in
        given-where t time n u octets small call accepted p here k held 15 _
        (λ free a. fifteen-decided (scene_of b) b.clock b.streams p x free (fact.1 a))
        (λ whole e. let w = fifteen-only (scene_of b) b.clock b.streams p x whole e in (w.0, fact.0 w.1))

    advertised : is_advertise (column_held u p k) ≡ true → is_advertise (column_decided u p k) ≡ true
    advertised a = sym (ap is_advertise (left-column t time n u octets small call accepted p here k held)) ∙ a

  -- With a limit, any set of ports that bring in a stream which some port advertises has at most that many.
  pub few-bring-in-code : ((decode u).settings.fan_in ≡ 0 → ⊥) → (f : ℕ → Bool) → ((q : ℕ) → f q ≡ true → BringsInHeld u q) →
      (m : ℕ) → count_to f m ≤ (decode u).settings.fan_in
  few-bring-in-code some f all = let b = decode u in few-bring-in (scene_of b) b.clock b.streams refl some f (λ q h. brings q (all q h))
    where
      brings : (q : ℕ) → BringsInHeld u q → BringsIn (scene_of (decode u)) (decode u).clock (decode u).streams q
      brings q w = record {
        place = w.place;
        held = w.held;
        source = w.source;
        port = w.port;
        advertises = advertised w.port w.within w.place w.held w.advertises;
      }

  -- Two streams with one destination and VLAN that a port advertises are one.
  pub one-address-code : (p : ℕ) → p < 8 → (j k : ℕ) → j < length (decode u).streams → k < length (decode u).streams →
      is_advertise (column_held u p j) ≡ true → is_advertise (column_held u p k) ≡ true →
      SameAddress (stream_at j (decode u)) (stream_at k (decode u)) → (stream_at j (decode u)).id ≡ (stream_at k (decode u)).id
  one-address-code p here j k h l a b same =
      one_address (scene_of (decode u)) (decode u).clock (decode u).streams refl p j k h l (advertised p here j h a) (advertised p here k l b)
      ((same-address-exactly (stream_at j (decode u)) (stream_at k (decode u))).1 same)
