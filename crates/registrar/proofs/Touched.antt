-- An act about one stream, done on its cell or on what is sent of it; and LeaveAll, done on every stream.
use Prim.Native.Nat.{ℕ, ◌≤◌, ◌<◌, ◌^◌}
use mathlib.Core.Path.{◌≡◌, refl, sym, ◌∙◌, ap}
use mathlib.Core.List.{List, [], ◌∷◌, map}
use mathlib.Core.Bool.{Bool, true, false}
use lib.ListN.{length, length-map}
use Rattle.model.specs.Machines.{Heard, heard_leave}
use Rattle.model.specs.State.{Stream, Bridge, stream_at}
use Rattle.model.specs.Registrations.{Kind, Act, leave_all, leave, hear_all, hear, quit, hears, does, moves, at, change, touch, reach, apply, hears_leave_all, moves_sender, holding, sending, ids, joins, together}
use Rattle.model.specs.Table.{encode, decode}
use Rattle.model.specs.Laid.{FitStream, FitBridge, Laid}
use Rattle.model.proofs.Commute.{Change, acted}
use Rattle.model.proofs.FoundVectors.{Fits}
use Rattle.model.proofs.FrameOrder.{held-ids}
use Rattle.model.proofs.Fits.{laid-is, laid-fits}
use Rattle.std.specs.Prelude.{Ok, Err}
use Rattle.table.specs.Find.{found_at}
use Rattle.table.specs.Updates.{with_stream, with_cell, with_sends, with_sender}
use Rattle.table.proofs.Places.{at_place, at_gap}
use Rattle.table.proofs.Fitting.{changed-fits, changed-sends-fit, map-fits}
use Rattle.table.proofs.ByPlace.{encoded-laid, encoded-read}
use Rattle.cells.proofs.Keeps.{quit-fits}
use Rattle.registrar.specs.Acts.{leave_heard}
use Rattle.registrar.specs.Run.{room, effect}
use Rattle.registrar.specs.Walked.{Walked}
use Rattle.registrar.proofs.Acted.{acted-cell, acted-sends}
use Rattle.registrar.proofs.Heard.{sends-fit}
use Rattle.registrar.proofs.Room.{effect-ids}
use Rattle.registrar.proofs.Walks.{OfStream, done, act-done, room-walked, all_done}

-- LeaveAll, to Registrars.

-- what it does to a stream
abbrev pub leaving : ℕ → ℕ → Kind → Stream → Stream
leaving p now k = change (at p (quit now k)) (λ m. m)

pub leaving-fits : (p now : ℕ) → now < 2 ^ 32 → (k : Kind) (x : Stream) → FitStream x → FitStream (leaving p now k x)
leaving-fits p now small k = changed-fits p (quit now k) (quit-fits now small k)

pub leaving-id : (p now : ℕ) (k : Kind) (x : Stream) → (leaving p now k x).id ≡ x.id
unfolding change
leaving-id p now k x = refl

left-all : (p now : ℕ) (k : Kind) (s : List Stream) → effect true now p (leave_all k) s ≡ map (leaving p now k) s
unfolding effect apply reach does moves
left-all p now k s = ap (λ (g : Change). map g s) (acted-cell now p (leave_all k) (λ y. refl))

pub all_left : (p : ℕ) (k : Kind) (t u : List ℕ) → Laid t → u ≡ encode (holding (decode t) (map (leaving p (decode t).clock k) (decode t).streams)) →
    Walked true p (leave_all k ∷ []) t true u
unfolding done
all_left p k t u l e =
    let s = (decode t).streams in
    let d = left-all p (decode t).clock k s in
    act-done true p (leave_all k) t tt u l tt (rw (d, length-map s (leaving p (decode t).clock k)) (laid-fits t l).at_most_64)
    (e ∙ ap (λ (r : List Stream). encode (holding (decode t) r)) (sym d))

-- LeaveAll, to Applicants and the LeaveAll machine.

pub heard-fits : (p : ℕ) (k : Kind) (x : Stream) → FitStream x → FitStream (leave_heard p k x)
unfolding moves
heard-fits p k = changed-sends-fit p (hears k heard_leave) (sends-fit (hear_all k))

pub heard-id : (p : ℕ) (k : Kind) (x : Stream) → (leave_heard p k x).id ≡ x.id
unfolding change
heard-id p k x = refl

heard_all : (p now : ℕ) (k : Kind) (s : List Stream) → effect true now p (hear_all k) s ≡ map (leave_heard p k) s
unfolding effect apply reach does moves
heard_all p now k s = ap (λ (g : Change). map g s) (acted-sends now p (hear_all k) (λ c. refl))

module _ (p : ℕ) (k : Kind) (t u : List ℕ) (l : Laid t) (e : u ≡ encode (holding (decode t) (map (leave_heard p k) (decode t).streams))) where
  abbrev heard_bridge : Bridge
  heard_bridge = holding (decode t) (map (leave_heard p k) (decode t).streams)

  bridge-fits : FitBridge heard_bridge
  bridge-fits = map-fits (decode t) (laid-fits t l) (leave_heard p k) (heard-fits p k) (heard-id p k)

  pub streams-heard : Laid u
  streams-heard = encoded-laid heard_bridge bridge-fits u e

  pub all-heard : (v : List ℕ) → v ≡ encode (with_sender p (hears_leave_all (decode u).clock (λ ds. ds)) (decode u)) → Walked true p (hear_all k ∷ []) t true v
  unfolding done moves_sender holding
  all-heard v q =
      let now = (decode t).clock in
      let s = (decode t).streams in
      let d = heard_all p now k s in
      let few : length (effect true now p (hear_all k) s) ≤ 64 = rw (d, length-map s (leave_heard p k)) (laid-fits t l).at_most_64 in
      all_done p k t l few v
      (q ∙ ap (λ (b : Bridge). encode (with_sender p (hears_leave_all b.clock (λ ds. ds)) b)) (encoded-read heard_bridge bridge-fits u e)
      ∙ ap (λ (r : List Stream). encode (sending (holding (decode t) r) (at p (hears_leave_all now (λ ds. ds)) (decode t).senders))) (sym d))

-- On a table: the stream found, changed.

pub stream-touched : (t : List ℕ) (i k : ℕ) → found_at i 0 (ids (decode t).streams) ≡ Ok k → (b : Bool) (g : Change)
    → encode (with_stream k (g (stream_at k (decode t))) (decode t)) ≡ encode (holding (decode t) (touch b i g (decode t).streams))
stream-touched t i k e b g =
    ap (λ (s : List Stream). encode (holding (decode t) s)) (sym ((at_place i k (decode t).streams e).touched b g))

-- An act about a stream where it is held, which makes none: Lv, and what is heard.

record Single (i : ℕ) (a : Act) : Type 0 where
  reaches : (u : Change) (s : List Stream) → reach a u s ≡ touch false i u s
  of-stream : OfStream a
  fits : Fits a
  joins-none : joins (a ∷ []) ≡ []
  room-none : (s : List Stream) → room a s ≡ s

leave-single : (k : Kind) (i : ℕ) → i < 2 ^ 64 → Single i (leave k i)
unfolding reach joins room
leave-single k i small = record { reaches = λ u s. refl; of-stream = tt; fits = small; joins-none = refl; room-none = λ s. refl }

hear-single : (k : Kind) (i : ℕ) (h : Heard) → i < 2 ^ 64 → Single i (hear k i h)
unfolding reach joins room
hear-single k i h small = record { reaches = λ u s. refl; of-stream = tt; fits = small; joins-none = refl; room-none = λ s. refl }

module _ (p : ℕ) (t : List ℕ) (l : Laid t) (i : ℕ) (a : Act) (w : Single i a) where
  abbrev now : ℕ
  now = (decode t).clock

  abbrev held : List Stream
  held = (decode t).streams

  as_many : length (done true p a t) ≤ 64
  unfolding done together
  as_many =
      let s = effect true now p a held in
      rw (held-ids s, effect-ids true now p a held, w.joins-none, ← held-ids held) (laid-fits t l).at_most_64

  one-unheld : (n : ℕ) → found_at i 0 (ids (decode t).streams) ≡ Err n → Walked true p (a ∷ []) t true t
  unfolding done effect apply holding
  one-unheld n e =
      act-done true p a t w.of-stream t l w.fits as_many
      (laid-is t l ∙ ap (λ (s : List Stream). encode (holding (decode t) s)) (sym (w.reaches _ held ∙ (at_gap i n held e).untouched _)))

  one-held : (n : ℕ) → found_at i 0 (ids (decode t).streams) ≡ Ok n → (g : Change) → acted (decode t).clock p a ≡ g → (u : List ℕ)
      → u ≡ encode (with_stream n (g (stream_at n (decode t))) (decode t)) → Walked true p (a ∷ []) t true u
  unfolding done effect apply
  one-held n e g c u q =
      act-done true p a t w.of-stream u l w.fits as_many
      (q ∙ stream-touched t i n e false g
      ∙ ap (λ (s : List Stream). encode (holding (decode t) s)) (sym (w.reaches (acted now p a) held ∙ ap (λ (h : Change). touch false i h held) c)))

  -- while room is made
  one-room : Walked false p (a ∷ []) t true t
  one-room = room-walked p a t l w.fits w.room-none

module _ (p : ℕ) (k : Kind) (t : List ℕ) (l : Laid t) (i : ℕ) (small : i < 2 ^ 64) where
  -- Lv

  pub left-unheld : (n : ℕ) → found_at i 0 (ids (decode t).streams) ≡ Err n → Walked true p (leave k i ∷ []) t true t
  left-unheld = one-unheld p t l i (leave k i) (leave-single k i small)

  pub left-held : (n now : ℕ) → found_at i 0 (ids (decode t).streams) ≡ Ok n → now ≡ (decode t).clock
      → (u : List ℕ) → u ≡ encode (with_cell n p (quit now k) (decode t)) → Walked true p (leave k i ∷ []) t true u
  unfolding does moves
  left-held n now e c u q =
      one-held p t l i (leave k i) (leave-single k i small) n e _ (acted-cell (decode t).clock p (leave k i) (λ y. refl)) u (rw c at q)

  pub left-room : Walked false p (leave k i ∷ []) t true t
  left-room = one-room p t l i (leave k i) (leave-single k i small)

  -- what is heard
  module _ (h : Heard) where
    pub heard-unheld : (n : ℕ) → found_at i 0 (ids (decode t).streams) ≡ Err n → Walked true p (hear k i h ∷ []) t true t
    heard-unheld = one-unheld p t l i (hear k i h) (hear-single k i h small)

    pub heard-held : (n : ℕ) → found_at i 0 (ids (decode t).streams) ≡ Ok n → (u : List ℕ) → u ≡ encode (with_sends n p (hears k h) (decode t))
        → Walked true p (hear k i h ∷ []) t true u
    unfolding does moves
    heard-held n e u q = one-held p t l i (hear k i h) (hear-single k i h small) n e _ (acted-sends (decode t).clock p (hear k i h) (λ c. refl)) u q

    pub heard-room : Walked false p (hear k i h ∷ []) t true t
    heard-room = one-room p t l i (hear k i h) (hear-single k i h small)
