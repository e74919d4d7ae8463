-- What an unimportant stream can't touch, of the code: two tables, each advanced to one time. The premises are the contract of advance
-- (specs/Promises), and that the tables agree on what is named of the stream and the port.
use mathlib.Core.Path.{◌≡◌, refl, sym, ◌∙◌, ap}
use mathlib.Core.List.{List, [], ◌∷◌, map}
use Prim.Native.Nat.{ℕ, zero, suc, ◌^◌, ◌<◌}
use native.Mathlib.Omega.{arith}
use lib.ListN.{length, get_or}
use Rattle.model.specs.Lists.{All, Octets}
use Rattle.model.specs.State.{Stream, Bridge, fresh, unsettled, stream_at, result_at}
use Rattle.model.specs.Registrations.{ids}
use Rattle.model.specs.Settling.{decide_at, decide, declare, deciding, declaring, settle}
use Rattle.model.specs.Table.{column_code, decode}
use Rattle.model.proofs.Lists.{all_map, all-at, at_place}
use Rattle.model.proofs.Valid.{Rising, Valid}
use Rattle.model.proofs.Tables.{valid-decode}
use Rattle.model.proofs.AdvanceKeepsForm.{all-mapped, all-dropped, remain-rising}
use Rattle.model.proofs.Untouched.{Alike, remaining, scene_at, untouched}
use Rattle.model.proofs.Refusals.{advance-0}
use Rattle.bridge.specs.Promises.{Advances}
use Rattle.bridge.proofs.Demand2.{advance-decides}

-- One stream of a list has a StreamID.

above : (n : ℕ) (s : List Stream) → All (λ j. n < j) (ids s) → All (λ x. n < x.id) s
unfolding ids
above n [] a = tt
above n (x ∷ s) a = (a.0, above n s a.1)

one-by-id : (s : List Stream) → Rising (ids s) → (k : ℕ) → k < length s → All (λ x. x.id ≡ (get_or s k (fresh 0)).id → x ≡ get_or s k (fresh 0)) s
unfolding Rising ids
one-by-id [] r k h = absurd (omega arith)
one-by-id (y ∷ s) r zero h = (λ e. refl, all_map (λ x. y.id < x.id) _ (λ x low e. absurd (omega (arith, low, e))) s (above y.id s r.0))
one-by-id (y ∷ s) r (suc k) h =
    let low : y.id < (get_or s k (fresh 0)).id = all-at (λ x. y.id < x.id) s (above y.id s r.0) k (fresh 0) (omega arith) in
    (λ e. absurd (omega (arith, low, e)), one-by-id s r.1 k (omega arith))

-- the stream at place k of those that an advance of the table t to that time decides
abbrev pub stream : List ℕ → ℕ → ℕ → Stream
stream t time k = get_or (remaining time (decode t)) k (fresh 0)

-- What a stream that is left shows is what was decided of the one with its StreamID.
module _ (now : ℕ) (b : Bridge) (r : Rising (ids b.streams)) (k : ℕ) (h : k < length (remaining now b)) (p : ℕ) (port : p < 8) where
  abbrev those : List Stream
  those = remaining now b

  abbrev chosen : Stream
  chosen = get_or (remaining now b) k (fresh 0)

  abbrev Shows : Stream → Type 0
  Shows y = y.id ≡ chosen.id → result_at y p ≡ decide_at (scene_at now b) now those chosen p

  shown : (x : Stream) → (x.id ≡ chosen.id → x ≡ chosen) → Shows (decide (scene_at now b) now those x)
  unfolding decide result_at
  shown x same e = at_place (decide_at (scene_at now b) now those x) p unsettled port ∙ ap (λ (y : Stream). decide_at (scene_at now b) now those y p) (same e)

  declared : (y : Stream) → Shows y → Shows (declare y)
  unfolding declare result_at
  declared y s = s

  pub all-show : All Shows (settle now b).streams
  unfolding settle declaring deciding
  all-show =
      all-dropped Shows Shows (λ y held s. s) (map declare (map (decide (scene_at now b) now those) those))
      (all-mapped Shows Shows declare declared (map (decide (scene_at now b) now those) those)
      (all-mapped (λ x. x.id ≡ chosen.id → x ≡ chosen) Shows (decide (scene_at now b) now those) shown those
      (one-by-id those (remain-rising b.settings now b.streams r) k h)))

-- the result on port p of the stream at place j of the table that an accepted advance leaves, where it is the one at place k of those decided
pub left-result : (t : List ℕ) (time n : ℕ) (u : List ℕ) → Octets t → time < 2 ^ 32 → Advances t time n u → n ≡ 0 →
    (p k j : ℕ) → p < 8 → k < length (remaining time (decode t)) → j < length (decode u).streams → (stream_at j (decode u)).id ≡ (stream t time k).id →
    result_at (stream_at j (decode u)) p ≡ decide_at (scene_at time (decode t)) time (remaining time (decode t)) (stream t time k) p
left-result t time n u octets small call z p k j port h there same =
    let form = ((advance-0 t time).0 (sym call.0 ∙ z)).0 in
    let b = decode t in
    let v : Valid b = valid-decode t octets form in
    let e : decode u ≡ settle time b = (advance-decides t time n u octets small call z).bridge in
    let within : j < length (settle time b).streams = rw e at there in
    let named : (stream_at j (settle time b)).id ≡ (stream t time k).id = rw e at same in
    rw e (all-at _ (settle time b).streams (all-show time b v.ascending k h p port) j (fresh 0) within named)

-- The streams at the places j and j' that the advances leave are those at the places k and k' of the streams that they decide.
pub untouched-code : (t t' : List ℕ) (time n n' : ℕ) (u u' : List ℕ) → Octets t → Octets t' → time < 2 ^ 32 →
    Advances t time n u → Advances t' time n' u' → n ≡ 0 → n' ≡ 0 →
    (p k k' j j' : ℕ) → p < 8 → k < length (remaining time (decode t)) → k' < length (remaining time (decode t')) →
    j < length (decode u).streams → j' < length (decode u').streams →
    (stream_at j (decode u)).id ≡ (stream t time k).id → (stream_at j' (decode u')).id ≡ (stream t' time k').id →
    Alike time (decode t) (decode t') p (stream t time k) (stream t' time k') →
    let r = result_at (stream_at j (decode u)) p in
    let r' = result_at (stream_at j' (decode u')) p in
    (r.column ≡ r'.column) × (column_code r.column ≡ column_code r'.column) × (r.entry ≡ r'.entry)
untouched-code t t' time n n' u u' o o' small call call' z z' p k k' j j' port h h' there there' same same' alike =
    rw (left-result t time n u o small call z p k j port h there same, left-result t' time n' u' o' small call' z' p k' j' port h' there' same')
    (untouched time (decode t) (decode t') p (stream t time k) (stream t' time k') alike)
