-- Why a stream was refused, of the code (02, ix): the premises are the contracts of why and advance (specs/Promises), and that why was
-- accepted. All is said of a table t, of the stream at place k of it and of the port at place p.
use mathlib.Core.Path.{◌≡◌, refl, sym, ◌∙◌, ap}
use mathlib.Core.Logic.Iff
use mathlib.Core.Logic.{◌↔◌}
use mathlib.Core.List.{List, Memᴰ}
use mathlib.Core.Bool.{true}
use Prim.Native.Nat.{ℕ, ◌+◌, ◌*◌, ◌-◌, ◌≤◌, ◌<◌}
use native.Mathlib.Omega.{arith}
use lib.ListN.{length, take, drop}
use lib.Seq.{length-take-le, length_front, take_at, drop_at}
use Rattle.model.specs.Lists.{Octets}
use Rattle.model.specs.State.{forwards, Stream, fresh, stream_at, result_at, same_class}
use Rattle.model.specs.Bandwidth.{Claim, more_important}
use Rattle.model.specs.Settling.{source_of, stream_class, StepName, step_h, claim, limit_on, settle}
use Rattle.model.specs.Why.{column_by, step_on, listed, plainly, scene_now, reason, listed_octets, list_size}
use Rattle.model.specs.Table.{decode, formed}
use Rattle.model.specs.Calls.{WhyCall, explained}
use Rattle.model.proofs.Lists.{all_in, all-at, mem-at}
use Rattle.model.proofs.Valid.{Valid}
use Rattle.model.proofs.Tables.{valid-decode}
use Rattle.model.proofs.ReceiveKeepsForm.{right-port}
use Rattle.model.proofs.Demand3.{ids-small}
use Rattle.model.proofs.Why.{Decided, step-decides, told-h, told-other, step-told}
use Rattle.model.proofs.Listed.{Subtracted, ages-young, listed-held, listed-exactly, Rises, listed-rises, listed-few, summed, shortfall-is}
use Rattle.model.proofs.HeldClock.{id-stays, advance-gives, advance-forwards}
use Rattle.model.proofs.Refusals.{advance-0}
use Rattle.model.proofs.WhyRefusals.{SoughtAt, seek-held, why-0, why-tells}
use Rattle.why.proofs.Walking.{length-listed}
use Rattle.bridge.specs.Promises.{Advances, Explains}
use Rattle.bridge.proofs.Demand2.{advance-decides}

module _ (t : List ℕ) (p k : ℕ) where
  abbrev pub stream_now : Stream
  stream_now = stream_at k (decode t)

  -- the stream as it stands at step h, from what is registered now, and the limit there
  abbrev pub claim_now : Claim
  claim_now = claim (decode t).settings (decode t).clock p stream_now

  abbrev pub limit_now : ℕ
  limit_now = limit_on (scene_now (decode t)) (decode t).clock (decode t).streams p (stream_class (decode t).settings stream_now)

  -- "the named step applies and no earlier one does"
  abbrev pub Applies : StepName → Type 0
  Applies n = Decided (scene_now (decode t)) (decode t).clock (decode t).streams p stream_now n

  -- "that would decide in an advance to the held clock": such an advance is accepted, leaves the stream at its place, and gives it just
  -- this step's column
  abbrev pub Gives : StepName → Type 0
  Gives n = (number : ℕ) (u : List ℕ) → Advances t (decode t).clock number u →
      (number ≡ 0)
      × ((stream_at k (decode u)).id ≡ stream_now.id)
      × ((result_at (stream_at k (decode u)) p).column ≡ column_by (decode t).settings (source_of stream_now) n)

  -- its demand was subtracted for the stream at another place
  abbrev pub SubtractedFor : ℕ → Type 0
  SubtractedFor asked = Subtracted (scene_now (decode t)) (decode t).clock (decode t).streams p (stream_at asked (decode t)) stream_now

-- For step h: the list in the buffer, the limit and the shortfall.
pub record Lists (t : List ℕ) (p k : ℕ) (buffer : List ℕ) (r : WhyCall) : Type 0 where
  pub streams : List Claim
  -- "8 octets StreamID, 8 demand; octets past the list stay"
  pub count : r.count ≡ length streams
  pub octets : take (r.count * 16) r.buffer ≡ listed_octets streams
  pub behind : drop (r.count * 16) r.buffer ≡ drop (r.count * 16) buffer
  pub same_length : length r.buffer ≡ length buffer
  -- "63 x 16 octets" take them all
  pub few : r.count ≤ 63
  -- "the listed demands are exactly those that were subtracted": the claim of a stream is listed exactly where it is more important, of
  -- the class, Advertise and with a Listener Ready or Ready Failed; and no other is listed
  pub exactly : (j : ℕ) → j < length (decode t).streams →
      Memᴰ (claim_now t p j) streams ↔ SubtractedFor t p j k
  pub no_other : (d : Claim) → Memᴰ d streams → (j : ℕ) × (j < length (decode t).streams) × (d ≡ claim_now t p j)
  -- these are the more important streams of the class that an advance to the held clock leaves forwarding there
  pub forwarding : (number : ℕ) (u : List ℕ) → Advances t (decode t).clock number u → (j : ℕ) → j < length (decode t).streams →
      Memᴰ (claim_now t p j) streams
      ↔ ((more_important (claim_now t p j) (claim_now t p k) ≡ true)
      × (same_class (stream_class (decode t).settings (stream_at j (decode t))) (stream_class (decode t).settings (stream_at k (decode t))) ≡ true)
      × ((result_at (stream_at j (decode u)) p).entry ≡ forwards))
  -- "in order of importance", each once
  pub order : Rises streams
  -- "the limit in force, and the shortfall in bits per second"
  pub limit : r.limit ≡ limit_now t p k
  pub shortfall : r.shortfall + r.limit ≡ (claim_now t p k).demand + summed streams
  pub lacking : 1 ≤ r.shortfall

-- What an accepted why of a StreamID on port p tells.
pub record Reasoned (t : List ℕ) (id p : ℕ) (buffer : List ℕ) (r : WhyCall) : Type 0 where
  -- the stream is held
  pub place : ℕ
  pub held : place < length (decode t).streams
  pub named : (stream_at place (decode t)).id ≡ id
  pub applies : Applies t (p - 1) place r.step
  pub gives : Gives t (p - 1) place r.step
  -- "For code 1", step h, the list; for any other nothing more
  pub lists : r.step ≡ step_h → Lists t (p - 1) place buffer r
  pub nothing-more : (r.step ≡ step_h → ⊥) → (r.count ≡ 0) × (r.limit ≡ 0) × (r.shortfall ≡ 0) × (r.buffer ≡ buffer)

-- An advance to the held clock is accepted, and leaves what it decides.
module _ (t : List ℕ) (octets : Octets t) (form : formed t ≡ true) where
  valid : Valid (decode t)
  valid = valid-decode t octets form

  module _ (n : ℕ) (u : List ℕ) (call : Advances t (decode t).clock n u) where
    accepted : n ≡ 0
    unfolding decode
    accepted = call.0 ∙ (advance-0 t (decode t).clock).1 (form, omega arith)

    leaves : decode u ≡ settle (decode t).clock (decode t)
    leaves = (advance-decides t (decode t).clock n u octets valid.clock call accepted).bridge

  module _ (p k : ℕ) (here : p < 8) (held : k < length (decode t).streams) where
    abbrev step : StepName
    step = step_on (scene_now (decode t)) (decode t).clock (decode t).streams p (stream_now t p k)

    gives : Gives t p k step
    unfolding reason
    gives n u call = (
      accepted n u call,
      rw (leaves n u call) (id-stays (decode t) valid k held),
      rw (leaves n u call, ← step-told (scene_now (decode t)) (decode t).clock (decode t).streams p (stream_now t p k)) (advance-gives (decode t) valid k held p here),
    )

    mem : (j : ℕ) → j < length (decode t).streams → Memᴰ (stream_at j (decode t)) (decode t).streams
    mem j h = all-at (λ y. Memᴰ y (decode t).streams) (decode t).streams (all_in (decode t).streams) j (fresh 0) h

    abbrev those : List Claim
    those = listed (scene_now (decode t)) (decode t).clock (decode t).streams p (stream_now t p k)

    exactly : (j : ℕ) → j < length (decode t).streams → Memᴰ (claim_now t p j) those ↔ SubtractedFor t p j k
    unfolding scene_now
    exactly j h =
        listed-exactly (scene_now (decode t)) (decode t).clock (decode t).streams p (stream_now t p k) (mem k held) valid.ascending
        (ids-small _ _ _ (decode t).streams valid.streams) (ages-young (decode t) valid p) (stream_at j (decode t)) (mem j h)

    no_other : (d : Claim) → Memᴰ d those → (j : ℕ) × (j < length (decode t).streams) × (d ≡ claim_now t p j)
    unfolding scene_now
    no_other d m =
        let w =
        listed-held (scene_now (decode t)) (decode t).clock (decode t).streams p (stream_now t p k) (mem k held) valid.ascending
        (ids-small _ _ _ (decode t).streams valid.streams) (ages-young (decode t) valid p) d m in
        let j = mem-at w.0 (fresh 0) (decode t).streams w.1 in
        (j.0, j.1, rw j.2 w.2)

    forwarding : (n : ℕ) (u : List ℕ) → Advances t (decode t).clock n u → (j : ℕ) → j < length (decode t).streams →
        SubtractedFor t p j k
        ↔ ((more_important (claim_now t p j) (claim_now t p k) ≡ true)
        × (same_class (stream_class (decode t).settings (stream_at j (decode t))) (stream_class (decode t).settings (stream_at k (decode t))) ≡ true)
        × ((result_at (stream_at j (decode u)) p).entry ≡ forwards))
    unfolding scene_now
    forwarding n u call j h = (
      λ w. (w.important, w.class, rw (leaves n u call) ((advance-forwards (decode t) valid j h p here).1 (w.column, w.listener))),
      λ a.
          let f = (advance-forwards (decode t) valid j h p here).0 (rw (leaves n u call) at a.2) in
          record { important = a.0; class = a.1; column = f.0; listener = f.1 },
    )

    lists : (buffer : List ℕ) → list_size ≤ length buffer → step ≡ step_h → Lists t p k buffer (explained buffer (reason (decode t) p (stream_now t p k)))
    unfolding reason explained scene_now
    lists buffer room e =
        let size : length (listed_octets those) ≡ length those * 16 = length-listed those in
        let few : length those ≤ 63 = omega (arith, listed-few (scene_now (decode t)) (decode t).clock (decode t).streams p (stream_now t p k) (mem k held), valid.at_most_64) in
        let short = shortfall-is (scene_now (decode t)) (decode t).clock (decode t).streams p (stream_now t p k) e in
        let told = told-h (scene_now (decode t)) (decode t).clock (decode t).streams p (stream_now t p k) e in
        rw told
        record {
          streams = those;
          count = refl;
          octets = take_at (listed_octets those) (drop (length (listed_octets those)) buffer) (length those * 16) size;
          behind = drop_at (listed_octets those) (drop (length (listed_octets those)) buffer) (length those * 16) size ∙ ap (λ (n : ℕ). drop n buffer) size;
          same_length =
              length_front buffer (listed_octets those) (length (listed_octets those))
              (sym (length-take-le (length (listed_octets those)) buffer (omega (arith, size, few, room))));
          few = few;
          exactly = exactly;
          no_other = no_other;
          forwarding = λ n u call j h. Iff.trans (exactly j h) (forwarding n u call j h);
          order = listed-rises (scene_now (decode t)) (decode t).clock (decode t).streams p (stream_now t p k) valid.ascending (ids-small _ _ _ (decode t).streams valid.streams);
          limit = refl;
          shortfall = rw told at short.0;
          lacking = rw told at short.1;
        }

-- Its reason is the true one.
pub why-reasons : (t : List ℕ) (id p : ℕ) (buffer : List ℕ) (r : WhyCall) → Octets t → Explains t id p buffer r → r.number ≡ 0 → Reasoned t id p buffer r
unfolding reason explained plainly listed_octets
why-reasons t id p buffer r octets call z =
    let h = (why-0 t id p buffer).0 (rw call at z) in
    let form = h.0.0 in
    let w : SoughtAt id (decode t).streams h.1.0 = seek-held id (decode t).streams h.1.0 h.1.1 in
    let k = w.place in
    let here : p - 1 < 8 = omega (arith, right-port (decode t).settings p h.0.1, (valid t octets form).settings.eight_ports) in
    let told : r ≡ explained buffer (reason (decode t) (p - 1) (stream_now t (p - 1) k)) = rw w.there (call ∙ why-tells t id p buffer h.0 h.1.0 h.1.1 h.1.2) in
    let same : r.step ≡ step t octets form (p - 1) k here w.within =
    ap (λ (a : WhyCall). a.step) told ∙ step-told (scene_now (decode t)) (decode t).clock (decode t).streams (p - 1) (stream_now t (p - 1) k) in
    record {
      place = k;
      held = w.within;
      named = rw w.there w.named;
      applies = rw same (step-decides (scene_now (decode t)) (decode t).clock (decode t).streams (p - 1) (stream_now t (p - 1) k));
      gives = rw same (gives t octets form (p - 1) k here w.within);
      lists = λ e. rw told (lists t octets form (p - 1) k here w.within buffer h.1.2 (sym same ∙ e));
      nothing-more = λ n. rw (told, told-other (scene_now (decode t)) (decode t).clock (decode t).streams (p - 1) (stream_now t (p - 1) k) (λ q. n (same ∙ q))) (refl, refl, refl, refl);
    }
