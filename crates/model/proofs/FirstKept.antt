-- Latency that grows (02, v), of whole calls: a frame leaves every Talker's first latency, on every port; an advance leaves it too, or
-- removes the registration.
use mathlib.Core.Path.{◌≡◌, refl, ◌∙◌, ap}
use mathlib.Core.Logic.{◌⊎◌, inl, inr}
use mathlib.Core.List.Memᴰ
use mathlib.Core.List.{List, [], ◌∷◌, map, Memᴰ}
use mathlib.Core.Bool.{Bool, true, false, cond}
use Prim.Native.Nat.{ℕ, zero, suc}
use lib.ListN.{get_or}
use lib.Dec.{ltb, eqb}
use Rattle.model.specs.Lists.{keep}
use Rattle.model.specs.State.{Settings, Talker, no_talker, talker, Cell, empty, Stream, Bridge, cell_at}
use Rattle.model.specs.Registrations.{Act, leave_all, leave, talk, listen, hear_all, hear, of_domain, does, moves, at, change, begun, touch, reach, apply, apply_all}
use Rattle.model.specs.Settling.{expired, expire_talker, expire_cell, expire, is_held, drop_unheld, remain, Scene, decide_owns, inbounds_of, decide, declare, deciding, declaring, settle}
use Rattle.model.proofs.Growth.{First, first-stays}

-- A stream with the StreamID of x is held among s, and each Talker registered of x has its first latency there.
pub record FirstKept (s : List Stream) (x : Stream) : Type 0 where
  pub stream : Stream
  pub held : Memᴰ stream s
  pub id : stream.id ≡ x.id
  pub first : (q n : ℕ) → First n (cell_at x q).talks → First n (cell_at stream q).talks

-- Every stream of s is kept so among t.
abbrev pub AllFirstKept : List Stream → List Stream → Type 0
AllFirstKept s t = (x : Stream) → Memᴰ x s → FirstKept t x

pub kept_self : (s : List Stream) → AllFirstKept s s
kept_self s x m = record { stream = x; held = m; id = refl; first = λ q n h. h }

kept_on : (s t r : List Stream) → AllFirstKept s t → AllFirstKept t r → AllFirstKept s r
kept_on s t r f g x m =
    let a = f x m in
    let b = g a.stream a.held in
    record { stream = b.stream; held = b.held; id = b.id ∙ a.id; first = λ q n h. b.first q n (a.first q n h) }

-- one stream more in front
kept-behind : (y : Stream) (s : List Stream) (x : Stream) → FirstKept s x → FirstKept (y ∷ s) x
kept-behind y s x k = record { stream = k.stream; held = Memᴰ.tail k.held; id = k.id; first = k.first }

-- A frame.

module _ (now p : ℕ) (a : Act) where
  abbrev acts : Stream → Stream
  acts = change (at p (does now a)) (at p (moves a))

  cell-kept : (port : ℕ) (cs : List Cell) (q n : ℕ) → First n (get_or cs q empty).talks → First n (get_or (at port (does now a) cs) q empty).talks
  unfolding at
  cell-kept port [] q n h = h
  cell-kept zero (c ∷ cs) zero n h = first-stays n now a c h
  cell-kept zero (c ∷ cs) (suc q) n h = h
  cell-kept (suc port) (c ∷ cs) zero n h = h
  cell-kept (suc port) (c ∷ cs) (suc q) n h = cell-kept port cs q n h

  changed-kept : (x : Stream) (s : List Stream) → Memᴰ (acts x) s → FirstKept s x
  unfolding change cell_at
  changed-kept x s m = record { stream = acts x; held = m; id = refl; first = cell-kept p x.cells }

  each-kept : (s : List Stream) → AllFirstKept s (map acts s)
  each-kept s x m = changed-kept x (map acts s) (Memᴰ.map acts m)

  begun_kept : (join : Bool) (i : ℕ) (s : List Stream) → AllFirstKept s (begun join i acts s)
  unfolding begun
  begun_kept true i s x m = kept-behind _ s x (kept_self s x m)
  begun_kept false i s x m = kept_self s x m

  touch-kept : (join : Bool) (i : ℕ) (s : List Stream) → AllFirstKept s (touch join i acts s)
  unfolding touch
  touch-kept join i [] x m = absurd (Memᴰ.not-nil m)
  touch-kept join i (y ∷ s) x m = go (ltb i y.id) (eqb i y.id) (Memᴰ.cases_cons m) (touch-kept join i s x)
    where
      go : (l e : Bool) → (x ≡ y) ⊎ Memᴰ x s → (Memᴰ x s → FirstKept (touch join i acts s) x)
          → FirstKept (cond l (begun join i acts (y ∷ s)) (cond e (acts y ∷ s) (y ∷ touch join i acts s))) x
      go true e w ih = begun_kept join i (y ∷ s) x m
      go false true (inl q) ih = changed-kept x (acts y ∷ s) (Memᴰ.head (ap acts q))
      go false true (inr w) ih = kept-behind (acts y) s x (kept_self s x w)
      go false false (inl q) ih = kept_self (y ∷ touch join i acts s) x (Memᴰ.head q)
      go false false (inr w) ih = kept-behind y (touch join i acts s) x (ih w)

apply-kept : (now p : ℕ) (a : Act) (s : List Stream) → AllFirstKept s (apply now p a s)
unfolding apply reach
apply-kept now p (leave_all k) s = each-kept now p (leave_all k) s
apply-kept now p (leave k i) s = touch-kept now p (leave k i) false i s
apply-kept now p (talk i f v) s = touch-kept now p (talk i f v) true i s
apply-kept now p (listen i r) s = touch-kept now p (listen i r) true i s
apply-kept now p (hear_all k) s = each-kept now p (hear_all k) s
apply-kept now p (hear k i h) s = touch-kept now p (hear k i h) false i s
apply-kept now p (of_domain d) s = kept_self s

pub frame-first-stays : (now p : ℕ) (es : List Act) (s : List Stream) → AllFirstKept s (apply_all now p es s)
unfolding apply_all
frame-first-stays now p [] s = kept_self s
frame-first-stays now p (a ∷ es) s =
    kept_on s (apply now p a s) (apply_all now p es (apply now p a s)) (apply-kept now p a s) (frame-first-stays now p es (apply now p a s))

-- An advance: what it leaves registered had the same first latency before.

module _ (st : Settings) (now : ℕ) where
  talker-kept : (t : Talker) (n : ℕ) → First n (expire_talker st now t) → First n t
  unfolding expire_talker
  talker-kept no_talker n h = h
  talker-kept (talker r) n h = go (expired st now r.leaving) h
    where
      go : (b : Bool) → First n (cond b no_talker (talker r)) → First n (talker r)
      go true h = absurd h
      go false h = h

  cells-kept : (cs : List Cell) (q n : ℕ) → First n (get_or (map (expire_cell st now) cs) q empty).talks → First n (get_or cs q empty).talks
  unfolding expire_cell
  cells-kept [] q n h = h
  cells-kept (c ∷ cs) zero n h = talker-kept c.talks n h
  cells-kept (c ∷ cs) (suc q) n h = cells-kept cs q n h

-- each stream changed, so that its StreamID stays, and its Talkers' first latencies where they are still registered
module _ (f : Stream → Stream) (named : (y : Stream) → y.id ≡ (f y).id)
    (firsts : (y : Stream) (q n : ℕ) → First n (cell_at (f y) q).talks → First n (cell_at y q).talks) where
  map-kept : (t : List Stream) → AllFirstKept (map f t) t
  map-kept [] x m = absurd (Memᴰ.not-nil m)
  map-kept (y ∷ t) x m = go (Memᴰ.cases_cons m) (map-kept t x)
    where
      go : (x ≡ f y) ⊎ Memᴰ x (map f t) → (Memᴰ x (map f t) → FirstKept t x) → FirstKept (y ∷ t) x
      go (inl e) ih = rw e record { stream = y; held = Memᴰ.head refl; id = named y; first = firsts y }
      go (inr w) ih = kept-behind y t x (ih w)

drop-kept : (s : List Stream) → AllFirstKept (drop_unheld s) s
unfolding drop_unheld
drop-kept [] x m = absurd (Memᴰ.not-nil m)
drop-kept (y ∷ s) x m = go (is_held y) m (drop-kept s x)
  where
    front : (x ≡ y) ⊎ Memᴰ x (drop_unheld s) → (Memᴰ x (drop_unheld s) → FirstKept s x) → FirstKept (y ∷ s) x
    front (inl e) ih = kept_self (y ∷ s) x (Memᴰ.head e)
    front (inr w) ih = kept-behind y s x (ih w)

    go : (b : Bool) → Memᴰ x (keep b y (drop_unheld s)) → (Memᴰ x (drop_unheld s) → FirstKept s x) → FirstKept (y ∷ s) x
    go true m ih = front (Memᴰ.cases_cons m) ih
    go false m ih = kept-behind y s x (ih m)

remain-kept : (st : Settings) (now : ℕ) (s : List Stream) → AllFirstKept (remain st now s) s
unfolding remain expire cell_at
remain-kept st now s = map-kept (expire st now) (λ y. refl) (λ y. cells-kept st now y.cells) s

decided-kept : (sc : Scene) (now : ℕ) (s t : List Stream) → AllFirstKept (map (decide sc now s) t) t
unfolding decide cell_at
decided-kept sc now s t = map-kept (decide sc now s) (λ y. refl) (λ y q n h. h) t

declared-kept : (s : List Stream) → AllFirstKept (map declare s) s
unfolding declare cell_at
declared-kept s = map-kept declare (λ y. refl) (λ y q n h. h) s

pub advance-first-stays : (now : ℕ) (b : Bridge) → AllFirstKept (settle now b).streams b.streams
unfolding settle declaring deciding
advance-first-stays now b =
    let s = remain b.settings now b.streams in
    let sc : Scene = record { settings = b.settings; owns = decide_owns b.settings now b.owns; inbound = inbounds_of s } in
    let t = map (decide sc now s) s in
    kept_on (settle now b).streams (map declare t) b.streams (drop-kept (map declare t))
    (kept_on (map declare t) t b.streams (declared-kept t)
    (kept_on t s b.streams (decided-kept sc now s s) (remain-kept b.settings now b.streams)))
