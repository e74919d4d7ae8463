-- Talker pruning, of the code: the premises are the contracts of receive_mmrp and advance (specs/Promises).
use mathlib.Core.Path.{◌≡◌, refl, sym, ◌∙◌, ap}
use mathlib.Core.Logic.{◌↔◌}
use mathlib.Core.List.{List}
use mathlib.Core.Bool.{true, false}
use Prim.Native.Nat.{ℕ, ◌^◌, ◌<◌}
use lib.ListN.{length}
use Rattle.model.specs.Lists.{Octets}
use Rattle.model.specs.State.{Bridge, none, own_at, stream_at, result_at}
use Rattle.model.specs.Settling.{Origin, holds_address, decide_at, deciding, declaring, settle}
use Rattle.model.specs.Table.{decode, formed}
use Rattle.model.specs.Calls.{Call, receive_mmrp, receive_mmrp_on}
use Rattle.model.proofs.Tables.{decode-encode, valid-decode, encode-decode}
use Rattle.model.proofs.Untouched.{remaining, scene_at}
use Rattle.model.proofs.Refusals.{advance-0}
use Rattle.model.proofs.AddressesKept.{mmrp-keeps}
use Rattle.model.proofs.FormKept.{mmrp-formed}
use Rattle.model.proofs.Demand3.{mmrp-call}
use Rattle.model.proofs.Pruning.{Reaches, pruned-exactly, pruning-off}
use Rattle.bridge.specs.Promises.{ReceivesMmrp, Advances}
use Rattle.bridge.proofs.Demand2.{advance-decides}
use Rattle.bridge.proofs.Untouched.{stream, left-result}

-- Of a stream that no step before pruning decides on a port, an accepted advance leaves column none there exactly where pruning is on
-- and the port then does not hold the stream's destination. The stream stands at place j of those left.
pub pruned-code : (t : List ℕ) (time n : ℕ) (u : List ℕ) → Octets t → time < 2 ^ 32 → Advances t time n u → n ≡ 0 →
    (p k j : ℕ) → p < 8 → k < length (remaining time (decode t)) → j < length (decode u).streams → (stream_at j (decode u)).id ≡ (stream t time k).id →
    (o : Origin) → Reaches (scene_at time (decode t)) p (stream t time k) o →
    ((result_at (stream_at j (decode u)) p).column ≡ none)
    ↔ (((decode t).settings.pruning ≡ true) × (holds_address o.registration.fixed.destination (own_at (decode u).owns p).addresses ≡ false))
pruned-code t time n u octets small call z p k j port h there same o r =
    let result = left-result t time n u octets small call z p k j port h there same in
    let owns : (decode u).owns ≡ (scene_at time (decode t)).owns =
    ap (λ (b : Bridge). b.owns) (advance-decides t time n u octets small call z).bridge ∙ unfold settle declaring deciding in refl in
    rw (result, owns) (unfold decide_at in (pruned-exactly (scene_at time (decode t)) time (remaining time (decode t)) p (stream t time k) o r))

-- what receive_mmrp leaves, accepted or not
mmrp-leaves : (t : List ℕ) (p : ℕ) (pdu : List ℕ) (n : ℕ) (u : List ℕ) → Octets t → formed t ≡ true → ReceivesMmrp t p pdu n u →
    decode u ≡ (receive_mmrp (decode t) p pdu).bridge
mmrp-leaves t p pdu n u octets form call =
    let v = valid-decode t octets form in
    ap decode
    (call.1
    ∙ ap (λ (s : List ℕ). (receive_mmrp_on s p pdu).table) (sym (encode-decode t octets form))
    ∙ ap (λ (c : Call). c.table) (mmrp-call (decode t) p pdu v))
    ∙ decode-encode (receive_mmrp (decode t) p pdu).bridge (mmrp-keeps (decode t) p pdu v)

-- With pruning off, an MMRP frame between changes no result: an accepted advance leaves the same streams, with the same results, and
-- the same totals, with the frame and without it.
pub pruning-off-code : (t : List ℕ) (p : ℕ) (pdu : List ℕ) (n : ℕ) (u : List ℕ) (time m m' : ℕ) (v v' : List ℕ) →
    Octets t → time < 2 ^ 32 → (decode t).settings.pruning ≡ false →
    ReceivesMmrp t p pdu n u → Advances t time m v → Advances u time m' v' → m ≡ 0 → m' ≡ 0 →
    ((decode v').streams ≡ (decode v).streams) × ((decode v').totals ≡ (decode v).totals)
pruning-off-code t p pdu n u time m m' v v' octets small off frame call call' z z' =
    let form : formed t ≡ true = ((advance-0 t time).0 (sym call.0 ∙ z)).0 in
    let octets' : Octets u = rw frame.1 (mmrp-formed t (octets, form) p pdu).0 in
    let e = (advance-decides t time m v octets small call z).bridge in
    let e' = (advance-decides u time m' v' octets' small call' z').bridge ∙ ap (settle time) (mmrp-leaves t p pdu n u octets form frame) in
    rw (e, e') (pruning-off (decode t) p pdu off time)
