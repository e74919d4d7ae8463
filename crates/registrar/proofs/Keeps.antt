-- An act whose values are within their fields leaves what fits its fields.
use Prim.Native.Nat.{ℕ, ◌^◌, ◌≤◌, ◌<◌}
use mathlib.Core.Path.{◌≡◌, refl, sym, ◌∙◌}
use mathlib.Core.List.{List, [], ◌∷◌}
use mathlib.Core.Bool.{Bool, true, false, cond, true≢false}
use lib.ListN.{length}
use lib.Dec.{ltb, eqb}
use Rattle.model.specs.Lists.{All}
use Rattle.model.specs.State.{Cell, Stream, Bridge, fresh}
use Rattle.model.specs.Registrations.{Act, leave_all, leave, talk, listen, hear_all, hear, of_domain, at, change, begun, touch, reach, apply, apply_own, moves_sender, does, moves, holding, owning, ids, joins}
use Rattle.model.specs.Laid.{FitCell, FitOwn, FitSender, FitStream, FitBridge}
use Rattle.model.proofs.Lists.{length_at, all_changed}
use Rattle.model.proofs.Commute.{Change, acted}
use Rattle.model.proofs.FoundVectors.{Fits}
use Rattle.model.proofs.FrameOrder.{rising-together}
use Rattle.model.proofs.Parts.{rising-ascends, ascending-rises}
use Rattle.model.proofs.AdvanceKeepsForm.{all-mapped}
use Rattle.table.proofs.Fitting.{changed-fits, changed-sends-fit, fresh-fits, holding-fits, owning-fits, sending-fits}
use Rattle.registrar.specs.Run.{registered_of, keeping, room, effect, after}
use Rattle.registrar.proofs.Room.{effect-ids}
use Rattle.registrar.proofs.DomainActs.{owns-fit, owns-length}
use Rattle.registrar.proofs.Heard.{sends-fit, sender-fits}

-- The streams after an act.

-- a join makes a stream, so what it makes has to fit
touched-fits : (b : Bool) (i : ℕ) (u : Change) → ((x : Stream) → FitStream x → FitStream (u x)) →
    (b ≡ true → FitStream (u (fresh i))) → (s : List Stream) → All FitStream s → All FitStream (touch b i u s)
unfolding touch
touched-fits b i u k f [] a = begun-fits b f
  where
    begun-fits : (b : Bool) → (b ≡ true → FitStream (u (fresh i))) → All FitStream (begun b i u [])
    begun-fits true f = unfold begun in (f refl, tt)
    begun-fits false f = unfold begun in tt
touched-fits b i u k f (x ∷ s) a = go (ltb i x.id) (eqb i x.id) b f (touched-fits b i u k f s a.1)
  where
    go : (t e b : Bool) → (b ≡ true → FitStream (u (fresh i))) → All FitStream (touch b i u s) →
        All FitStream (cond t (begun b i u (x ∷ s)) (cond e (u x ∷ s) (x ∷ touch b i u s)))
    go true e true f h = unfold begun in (f refl, a)
    go true e false f h = unfold begun in a
    go false true b f h = (k x a.0, a.1)
    go false false b f h = (a.0, h)

-- one stream
acted-fits : (now p : ℕ) (a : Act) → ((c : Cell) → FitCell c → FitCell (does now a c)) → (x : Stream) → FitStream x → FitStream (acted now p a x)
unfolding change
acted-fits now p a d x w = changed-sends-fit p (moves a) (sends-fit a) (change (at p (does now a)) (λ m. m) x) (changed-fits p (does now a) d x w)

module _ (now p : ℕ) (s : List Stream) (fit : All FitStream s) where
  joined-fits : (i : ℕ) → i < 2 ^ 64 → (u : Change) → ((x : Stream) → FitStream x → FitStream (u x)) → All FitStream (touch true i u s)
  joined-fits i h u k = touched-fits true i u k (λ e. k (fresh i) (fresh-fits i h)) s fit

  held_fits : (i : ℕ) (u : Change) → ((x : Stream) → FitStream x → FitStream (u x)) → All FitStream (touch false i u s)
  held_fits i u k = touched-fits false i u k (λ e. absurd (true≢false (sym e))) s fit

  applied-fits : (a : Act) → Fits a → ((c : Cell) → FitCell c → FitCell (does now a c)) → All FitStream (apply now p a s)
  unfolding apply reach
  applied-fits (leave_all k) f d = all-mapped FitStream FitStream _ (acted-fits now p (leave_all k) d) s fit
  applied-fits (leave k i) f d = held_fits i _ (acted-fits now p (leave k i) d)
  applied-fits (talk i g v) f d = joined-fits i f.0 _ (acted-fits now p (talk i g v) d)
  applied-fits (listen i r) f d = joined-fits i f _ (acted-fits now p (listen i r) d)
  applied-fits (hear_all k) f d = all-mapped FitStream FitStream _ (acted-fits now p (hear_all k) d) s fit
  applied-fits (hear k i h) f d = held_fits i _ (acted-fits now p (hear k i h) d)
  applied-fits (of_domain e) f d = fit

  -- a stream that room is made for is as it was
  room_fits : (a : Act) → Fits a → All FitStream (room a s)
  unfolding room
  room_fits (leave_all k) f = fit
  room_fits (leave k i) f = fit
  room_fits (talk i g v) f = joined-fits i f.0 (λ x. x) (λ x w. w)
  room_fits (listen i r) f = joined-fits i f (λ x. x) (λ x w. w)
  room_fits (hear_all k) f = fit
  room_fits (hear k i h) f = fit
  room_fits (of_domain e) f = fit

  effect-streams-fit : (m : Bool) (a : Act) → Fits a → ((c : Cell) → FitCell c → FitCell (does now a c)) → All FitStream (effect m now p a s)
  unfolding effect
  effect-streams-fit true a f d = applied-fits a f d
  effect-streams-fit false a f d = room_fits a f

-- one of two things
either : {A : Type 0} (P : A → Type 0) (m : Bool) (x y : A) → P x → P y → P (cond m x y)
either P true x y h k = h
either P false x y h k = k

-- what eight ports hold or send by themselves
abbrev Eight : {A : Type 0} → (A → Type 0) → List A → Type 0
Eight P l = (length l ≡ 8) × All P l

module _ (p : ℕ) (a : Act) (b : Bridge) (w : FitBridge b) (f : Fits a) where
  owns-after : (m : Bool) → Eight FitOwn (cond m (apply_own b.clock p a b.owns) b.owns)
  owns-after m =
      either (Eight FitOwn) m (apply_own b.clock p a b.owns) b.owns
      (owns-length b.clock p a b.owns ∙ w.eight_owns, owns-fit b.clock w.clock p a f b.owns w.owns) (w.eight_owns, w.owns)

  senders-after : (m : Bool) → Eight FitSender (cond m (at p (moves_sender b.clock a) b.senders) b.senders)
  senders-after m =
      let u = moves_sender b.clock a in
      either (Eight FitSender) m (at p u b.senders) b.senders
      (length_at p u b.senders ∙ w.eight_senders, all_changed FitSender p u b.senders (sender-fits b.clock w.clock a) w.senders) (w.eight_senders, w.senders)

  pub effect-fits : (m : Bool) → ((c : Cell) → FitCell c → FitCell (does b.clock a c)) →
      length (effect m b.clock p a b.streams) ≤ 64 → FitBridge (keeping b (after m b.clock p a (registered_of b)))
  unfolding keeping after
  effect-fits m d h =
      let s = effect m b.clock p a b.streams in
      let o = cond m (apply_own b.clock p a b.owns) b.owns in
      let streams : FitBridge (holding b s) =
      holding-fits b w s h (effect-streams-fit b.clock p b.streams w.streams m a f d)
      (rw (effect-ids m b.clock p a b.streams)
      (rising-ascends _ (rising-together (joins (a ∷ [])) (ids b.streams) (ascending-rises _ w.ascending)))) in
      let owns : FitBridge (owning (holding b s) o) = owning-fits (holding b s) streams o (owns-after m).0 (owns-after m).1 in
      sending-fits (owning (holding b s) o) owns _ (senders-after m).0 (senders-after m).1
