-- Latency that grows, of the code: first latencies outlast every receive, and an advance leaves them or removes the registration; an
-- accepted advance gives code 7 while the latency is above the first. The premises are the contracts of receive and advance
-- (specs/Promises).
use mathlib.Core.Path.{◌≡◌}
use mathlib.Core.List.{List}
use Prim.Native.Nat.{ℕ, ◌-◌, ◌^◌, ◌<◌}
use native.Mathlib.Decide.{ℕ_discrete}
use lib.ListN.{length}
use Rattle.model.specs.Lists.{All, Octets}
use Rattle.model.specs.State.{stream_at}
use Rattle.model.specs.Registrations.{holding, owning, sending}
use Rattle.model.specs.Frames.{frame_acts}
use Rattle.model.specs.Settling.{source_of, latency_of, first_latency_of, scene_of}
use Rattle.model.specs.Table.{decode}
use Rattle.model.proofs.Growth.{seven-decided, seven-only, Fallen, fallen-back}
use Rattle.model.proofs.FirstKept.{AllFirstKept, kept_self, frame-first-stays, advance-first-stays}
use Rattle.bridge.specs.Promises.{Receives, Advances}
use Rattle.bridge.proofs.Demand1.{receive-answers}
use Rattle.bridge.proofs.Demand2.{receive-registers, advance-decides}
use Rattle.bridge.proofs.OwnCodes.{GivenWhere, given-where}

-- Every Talker registered before a receive, accepted or refused, is registered after it with the same first latency.
pub first-stays-code : (t : List ℕ) (p : ℕ) (pdu : List ℕ) (n : ℕ) (u : List ℕ) → Octets t → Octets pdu → Receives t p pdu n u →
    AllFirstKept (decode t).streams (decode u).streams
unfolding holding owning sending
first-stays-code t p pdu n u octets frame call = go (ℕ_discrete n 0)
  where
    go : Dec (n ≡ 0) → AllFirstKept (decode t).streams (decode u).streams
    go (yes z) =
        let r = receive-registers t p pdu n u octets frame call z in
        rw r.bridge (frame-first-stays (decode t).clock (p - 1) (frame_acts r.vectors) (decode t).streams)
    go (no refused) =
        let same : u ≡ t = (receive-answers t p pdu n u octets frame call).unaltered refused in
        rw same (kept_self (decode t).streams)

module _ (t : List ℕ) (time n : ℕ) (u : List ℕ) (octets : Octets t) (small : time < 2 ^ 32) (call : Advances t time n u) (accepted : n ≡ 0) where
  -- Every Talker registered after an accepted advance was registered before it with the same first latency.
  pub first-expires-code : AllFirstKept (decode u).streams (decode t).streams
  first-expires-code = rw (advance-decides t time n u octets small call accepted).bridge (advance-first-stays time (decode t))

  -- Code 7 is given exactly where no earlier step applies and the latency received at t is above the first.
  pub seven-code : (p : ℕ) → p < 8 → (k : ℕ) → k < length (decode u).streams →
      GivenWhere u p k 7 (first_latency_of (source_of (stream_at k (decode u))) < latency_of (source_of (stream_at k (decode u))))
  seven-code p here k held =
      let b = decode u in
      given-where t time n u octets small call accepted p here k held 7 _ (seven-decided (scene_of b) b.clock b.streams p (stream_at k b))
      (seven-only (scene_of b) b.clock b.streams p (stream_at k b))

  -- No Advertise whose latency is not above the first has code 7 on any port, whatever was declared before.
  pub fallen-back-code : All Fallen (decode u).streams
  fallen-back-code = rw (advance-decides t time n u octets small call accepted).bridge (fallen-back time (decode t))
